-- The spans of footpaths, by what was read of their rows.
use Prim.Native.Nat.{ℕ}
use mathlib.Core.Path.{◌≡◌, ◌∙◌}
use mathlib.Core.List.{List}
use lib.Ieee.{Float}
use borrow.Author.Tests.{eq-eqb, ne_eqb}
use Rattle.shared.specs.Walk.{walking_span}
use Rattle.model.specs.Moments.{MAX}
use Rattle.model.specs.Spans.{transfer_span, walk_span}
use Rattle.repository.specs.Sections.{transfer_stated, transfer_metres, walk_metres}
use Rattle.repository.specs.NetOf.{transfer_row, walk_row}
use Rattle.repository.proofs.Spans.{transfer_span_lem, walk_span_lem}

module _ (w : List ℕ) (j : ℕ) {x : ℕ} where
  pub span_stated : x ≡ transfer_stated w j → (x ≡ MAX → ⊥) → x ≡ (transfer_row w j).span
  unfolding transfer_span
  span_stated e f = rw (transfer_span_lem, ← e, ne_eqb _ _ f)

  pub span_walked : {y : ℕ} {d : Float} → y ≡ transfer_stated w j → y ≡ MAX → d ≡ transfer_metres w j → x ≡ walking_span d
      → x ≡ (transfer_row w j).span
  unfolding transfer_span
  span_walked e f g h = h ∙ rw (transfer_span_lem, ← e, ← g, eq-eqb _ _ f)

  pub span_of_walk : {d : Float} → d ≡ walk_metres w j → x ≡ walking_span d → x ≡ (walk_row w j).span
  unfolding walk_span
  span_of_walk g h = h ∙ rw (walk_span_lem, ← g)
