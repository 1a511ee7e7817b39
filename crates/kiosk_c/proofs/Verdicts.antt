-- What `kiosk_judge` tells, case by case.
use Prim.Native.Nat.{ℕ, ◌≤◌, ◌<◌}
use mathlib.Core.Path.{◌≡◌}
use mathlib.Core.List.{List}
use lib.ListN.{length}
use borrow.Author.Tests.{le-leb, lt-leb}
use Rattle.model.specs.declared.Query.{Query}
use Rattle.repository.specs.Accepted.{Accepted}
use Rattle.repository.specs.Checked.{check_of}
use Rattle.repository.specs.NetOf.{net_of}
use Rattle.check_tables.proofs.Whole.{accepted_is}
use Rattle.handheld.specs.Judged.{Verdict, judged, verdict_number}
use Rattle.kiosk_c.specs.Face.{short_number}
use Rattle.kiosk_c.specs.Judging.{verdict_in, judge_number, judge_left}

module _ (w : List ℕ) (q : Query) (b told : List ℕ) where
  -- where there is no word for it
  module _ (h : length told < 1) where
    pub short_judged : {r : ℕ} → r ≡ short_number (check_of w) → r ≡ judge_number w q b told
    unfolding judge_number
    short_judged e = rw (lt-leb 1 (length told) h) e

    pub short_accepted : Accepted w → 6 ≡ judge_number w q b told
    unfolding judge_number short_number
    short_accepted ok = rw (lt-leb 1 (length told) h, (accepted_is w).1 ok)

    pub short_left : told ≡ judge_left w q b told
    unfolding judge_left
    short_left = rw (lt-leb 1 (length told) h)

  module _ (h : 1 ≤ length told) {p : Query} (a : p ≡ q) {v : Verdict} (e : v ≡ judged (check_of w) (net_of w) p b) where
    pub judged_number : {r : ℕ} → r ≡ verdict_number v → r ≡ judge_number w q b told
    unfolding judge_number
    judged_number f = rw (le-leb 1 (length told) h, ← a, ← e) f

    pub judged_left : {told' : List ℕ} → told' ≡ verdict_in v told → told' ≡ judge_left w q b told
    unfolding judge_left
    judged_left f = rw (le-leb 1 (length told) h, ← a, ← e) f
