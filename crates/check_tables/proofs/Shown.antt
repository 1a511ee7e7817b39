-- What the test for number 5 shows, and that tables without that number pass it.
use Prim.Native.Nat.{ℕ, ◌≤◌, ◌<◌}
use mathlib.Core.Path.{◌≡◌, refl, sym, ◌∙◌}
use mathlib.Core.Bool.{Bool, true, ◌||◌, or-true}
use mathlib.Core.Logic.{◌⊎◌, inl, inr}
use mathlib.Core.List.{List, [], ◌∷◌}
use native.Mathlib.Omega.{arith}
use lib.Dec.{leb, eqb}
use lib.ListN.{get_or}
use borrow.Author.Tests.{le-leb, leb-true, eq-eqb, eqb-true}
use Rattle.base.proofs.Choice.{split, and_left, and_right}
use Rattle.base.specs.All.{all}
use Rattle.base.proofs.All.{all_at}
use Rattle.shared.specs.Walk.{stretch, Stretch}
use Rattle.model.specs.Moments.{MAX}
use Rattle.model.specs.Limits.{LONGEST_SPAN}
use Rattle.repository.specs.Sections.{rows, TRANSFERS, WALKS, TRANSFER_WORDS, WALK_WORDS, transfer_stated}
use Rattle.repository.specs.Sections.{transfer_metres}
use Rattle.repository.specs.Checked.{measured}
use Rattle.repository.specs.Accepted.{Measured}
use Rattle.check_shape.proofs.Joined.{joined, joined_at}
use Rattle.repository.proofs.All.{all_so}
use Rattle.check_tables.specs.Distances.{transfer_fit, walk_fit}

-- one of two tests
module _ {A B : Type 0} {a b : Bool} where
  shown_either : (a ≡ true → A) → (b ≡ true → B) → a || b ≡ true → A ⊎ B
  shown_either f g e = split a (λ t. inl (f t)) (λ t. inr (g (rw t at e)))

  either_so : (A → a ≡ true) → (B → b ≡ true) → A ⊎ B → a || b ≡ true
  either_so f g (inl x) = rw (f x)
  either_so f g (inr y) = rw (g y, or-true a)

module _ (w : List ℕ) where
  abbrev measured_tests : List Bool
  measured_tests = all (transfer_fit w) 0 (rows w TRANSFERS TRANSFER_WORDS) ∷ all (walk_fit w) 0 (rows w WALKS WALK_WORDS) ∷ []

  measured_is : measured w ≡ joined true measured_tests
  unfolding measured transfer_fit walk_fit
  measured_is = refl

  measured_at : measured w ≡ true → (k : ℕ) → get_or measured_tests k true ≡ true
  measured_at e = joined_at true measured_tests (sym measured_is ∙ e)

  transfer_at : measured w ≡ true → (j : ℕ) → j < rows w TRANSFERS TRANSFER_WORDS → transfer_fit w j ≡ true
  transfer_at e j g = all_at (transfer_fit w) 0 (rows w TRANSFERS TRANSFER_WORDS) (measured_at e 0) j (omega arith) g

  pub measured_shown : measured w ≡ true → Measured w
  unfolding transfer_fit walk_fit
  measured_shown e = record {
    spans = spans;
    transfers = transfers;
    walks = λ j g. all_at (walk_fit w) 0 (rows w WALKS WALK_WORDS) (measured_at e 1) j (omega arith) g;
  }
    where
      spans : (j : ℕ) → j < rows w TRANSFERS TRANSFER_WORDS → (transfer_stated w j ≡ MAX) ⊎ (transfer_stated w j ≤ LONGEST_SPAN)
      spans j g =
          let span = transfer_stated w j in
          shown_either {a = eqb span MAX} {b = leb span LONGEST_SPAN} (eqb-true span MAX) (leb-true span LONGEST_SPAN)
          (and_left (eqb span MAX || leb span LONGEST_SPAN) (stretch (transfer_metres w j)) (transfer_at e j g))

      transfers : (j : ℕ) → j < rows w TRANSFERS TRANSFER_WORDS → Stretch (transfer_metres w j)
      transfers j g =
          let span = transfer_stated w j in
          and_right (eqb span MAX || leb span LONGEST_SPAN) (stretch (transfer_metres w j)) (transfer_at e j g)

  pub measured_so : Measured w → measured w ≡ true
  unfolding transfer_fit walk_fit
  measured_so h =
      rw (
        measured_is,
        all_so (transfer_fit w) 0 (rows w TRANSFERS TRANSFER_WORDS) fits,
        all_so (walk_fit w) 0 (rows w WALKS WALK_WORDS) (λ j _ g. h.walks j g),
      )
    where
      fits : (j : ℕ) → 0 ≤ j → j < rows w TRANSFERS TRANSFER_WORDS → transfer_fit w j ≡ true
      fits j _ g =
          let span = transfer_stated w j in
          let spans : eqb span MAX || leb span LONGEST_SPAN ≡ true =
          either_so (eq-eqb span MAX) (le-leb span LONGEST_SPAN) (h.spans j g) in
          rw (spans, h.transfers j g)
