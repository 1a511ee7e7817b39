-- Through the C face: what `kiosk_solve` writes on 0, `kiosk_judge` answers with 0 and tells as a yes, in both modes.
-- Assumes nothing.
use Prim.Native.Nat.{ℕ, ◌≤◌}
use mathlib.Core.Path.{◌≡◌, refl, ap, ◌∙◌}
use mathlib.Core.List.{List, ◌∷◌}
use native.Mathlib.Omega.{arith}
use lib.Dec.{leb}
use lib.ListN.{length, take, drop}
use borrow.Author.Tests.{le-leb}
use Rattle.base.proofs.Choice.{split}
use Rattle.model.specs.declared.Found.{Found}
use Rattle.model.specs.declared.Query.{Query}
use Rattle.model.specs.declared.TimeConstraint.{TimeConstraint}
use Rattle.model.specs.Answer.{may_walk, moment_of, refusal}
use Rattle.model.proofs.Asking.{passed}
use Rattle.repository.specs.Checked.{check_of}
use Rattle.repository.specs.NetOf.{net_of}
use Rattle.raptor.specs.Lent.{Lent}
use Rattle.raptor.proofs.Promises.{found_accepted}
use Rattle.handheld.specs.Right.{Ways}
use Rattle.handheld.specs.Judged.{judged, verdict_number}
use Rattle.kiosk_words.specs.Words.{place_of, time_of, walks_of, mode_of, query_of}
use Rattle.kiosk_c.specs.Face.{Faced}
use Rattle.kiosk_c.specs.Judging.{verdict_in, judge_number, judge_left}
use Rattle.kiosk_c.proofs.Found.{faced_found}
use Rattle.judge_promises.proofs.Promises.{any_mode, found_gets_yes}

-- a word for the mode that means something leaves the time that is asked as it is
time_alike : (when moment walks mode : ℕ) → 1 ≤ moment_of (time_of when moment walks mode) → time_of when moment walks 0 ≡ time_of when moment walks mode
unfolding time_of moment_of
time_alike when moment walks mode h =
    split (leb when 1)
    (λ a.
    split (leb walks 2)
    (λ b.
    split (leb mode 1)
    (λ c. rw (a, b, c))
    (λ c. let z : 1 ≤ 0 = rw (a, b, c) at h in absurd (omega arith)))
    (λ b. let z : 1 ≤ 0 = rw (a, b) at h in absurd (omega arith)))
    (λ a. let z : 1 ≤ 0 = rw a at h in absurd (omega arith))

-- the words of a query, without its mode
module _ (w : List ℕ) (from-kind from to-kind to when moment walks mode : ℕ) where
  abbrev asked : Query
  asked = query_of from-kind from to-kind to when moment walks mode

  judged_alike : refusal (net_of w) asked ≡ 0 → (b : List ℕ)
      → judged (check_of w) (net_of w) (query_of from-kind from to-kind to when moment walks 0) b ≡ judged (check_of w) (net_of w) asked b
  unfolding query_of
  judged_alike e b =
      let t = time_alike when moment walks mode (passed (net_of w) asked e).first in
      ap (λ (c : TimeConstraint). judged (check_of w) (net_of w) (record {
        from = place_of from-kind from;
        to = place_of to-kind to;
        time = c;
        walks = walks_of walks;
        mode = mode_of 0;
      }) b) t
      ∙ any_mode (net_of w) asked (mode_of 0) (check_of w) b

  -- the number 0, the length in the fifth word of the answer; then a word of any `told` is 1
  pub faced_gets_yes : (before : Lent) (a : List ℕ) {r : ℕ} {after : Lent} {a' : List ℕ}
      → Faced w (query_of from-kind from to-kind to when moment walks mode) before a r after a' → r ≡ 0
      → Ways (net_of w) (may_walk (walks_of walks)) (time_of when moment walks mode)
      → (found : Found) × (a' ≡ 0 ∷ found.time.0 ∷ found.stop ∷ found.round ∷ found.length ∷ drop 5 a)
      × ((told : List ℕ) → 1 ≤ length told
      → (judge_number w (query_of from-kind from to-kind to when moment walks 0) (take found.length after.journey) told ≡ 0)
      × (judge_left w (query_of from-kind from to-kind to when moment walks 0) (take found.length after.journey) told ≡ 1 ∷ drop 1 told))
  unfolding query_of judge_number judge_left verdict_number verdict_in
  faced_gets_yes before a {after = after} f e ways =
      let x = faced_found w asked before a f e in
      let yes = found_gets_yes w asked before x.1 refl ways in
      let p = found_accepted w asked before x.1 refl in
      let told_yes = judged_alike p.1 (take x.0.length after.journey) ∙ yes in
      (x.0, x.2, λ told h. (rw (le-leb 1 (length told) h, told_yes), rw (le-leb 1 (length told) h, told_yes)))
