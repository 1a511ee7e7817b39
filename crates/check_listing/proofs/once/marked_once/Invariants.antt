-- `marked_once`: the words up to i are distinct, and marked.
use mathlib.Core.Path.{◌≡◌}
use lib.ListN.{length}
use Rattle.check_listing.proofs.Marking.{Marking}
use Rattle.check_listing.proofs.once.marked_once.Given as goal

abbrev pub invariant-loop-i : goal.invariant-loop-i
invariant-loop-i l =
    Marking l.tables l.k l.fn.places.start l.fn.places.end l.initial.marks l.marks l.i × (length l.marks ≡ length l.initial.marks)
