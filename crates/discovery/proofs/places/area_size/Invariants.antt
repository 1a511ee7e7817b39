-- `area_size`: the stops that come of the named stops which are left, and those counted, are all.
use lib.ListN.{length}
use Rattle.repository.specs.NetOf.{net_of}
use Rattle.model.specs.Places.{stops_of_area}
use Rattle.discovery.specs.Served.{area_rest, Tally}
use Rattle.discovery.proofs.places.area_size.Given as goal

abbrev pub invariant-loop-s : goal.invariant-loop-s
invariant-loop-s l = Tally (length (stops_of_area (net_of l.tables) l.a)) l.k (area_rest (net_of l.tables) l.named l.s-index)
