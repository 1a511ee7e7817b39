-- `fits_trip`: the positions that are left decide; the first that the trip may leave from decides alone.
use Prim.Native.Nat.{◌-◌}
use Rattle.model.specs.Lists.{upto}
use Rattle.repository.specs.NetOf.{net_of}
use Rattle.handheld.specs.Any.{Sought}
use Rattle.handheld.specs.Fitting.{fits_from, fits_trip}
use Rattle.judge_rides.proofs.fits_trip.Given as goal

abbrev pub invariant-loop-b : goal.invariant-loop-b
invariant-loop-b l = Sought (fits_from (net_of l.tables) l.r l.v l.g) (fits_trip (net_of l.tables) l.r l.v l.g) (upto (l.b-end - l.b) l.b)
