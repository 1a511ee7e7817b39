-- The span of a footpath by what the readers read of its row.
use Prim.Native.Nat.{ℕ}
use mathlib.Core.Path.{◌≡◌, refl}
use mathlib.Core.List.{List}
use Rattle.model.specs.Spans.{transfer_span, walk_span}
use Rattle.repository.specs.Sections.{transfer_stated, transfer_metres, walk_metres}
use Rattle.repository.specs.NetOf.{transfer_row, walk_row}

pub transfer_span_lem : (w : List ℕ) (j : ℕ)
    → (transfer_row w j).span ≡ transfer_span (transfer_stated w j) (transfer_metres w j)
unfolding transfer_row
transfer_span_lem w j = refl

pub walk_span_lem : (w : List ℕ) (j : ℕ) → (walk_row w j).span ≡ walk_span (walk_metres w j)
unfolding walk_row
walk_span_lem w j = refl
