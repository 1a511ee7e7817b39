-- `first_down`: two steps towards the first trip, none of them past the one that is looked for.
use Rattle.base.specs.Halving.{Bracket}
use Rattle.repository.specs.NetOf.{net_of}
use Rattle.discovery.specs.Trips.{not_before}
use Rattle.discovery.proofs.first_down.Given as goal

abbrev pub invariant-loop : goal.invariant-loop
invariant-loop l = Bracket (not_before (net_of l.tables) l.r l.p l.x) ((net_of l.tables).trips l.r) 0 l.hi
