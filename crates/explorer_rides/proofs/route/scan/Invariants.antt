-- `scan`: one position after the other.
use lib.ListN.{length}
use Rattle.model.specs.Rides.{course}
use Rattle.repository.specs.NetOf.{net_of}
use Rattle.explorer_rides.proofs.Scanning.{positions_left, Within}
use Rattle.explorer_rides.proofs.Scanning.{Along}
use Rattle.explorer_rides.proofs.route.scan.Given as goal

abbrev pub invariant-loop-p : goal.invariant-loop-p
invariant-loop-p l =
    Along l.tables l.round l.r (course l.round.direction (net_of l.tables) l.r l.start) l.initial.workspace l.workspace l.ride
    (positions_left l.round.direction (net_of l.tables) l.r l.p)
    × Within l.round.direction (net_of l.tables) l.r l.p

abbrev pub decreases-loop-p : goal.decreases-loop-p
decreases-loop-p l = length (positions_left l.round.direction (net_of l.tables) l.r l.p)
