-- The footpaths of a stop, row by row: of transfers and of walks the same.
use Prim.Native.Nat.{ℕ, ◌≤◌, ◌<◌}
use mathlib.Core.Path.{◌≡◌, refl, sym, ap, ◌∙◌}
use mathlib.Core.List.{List}
use native.Mathlib.Omega.{arith}
use Rattle.model.specs.declared.Direction.{Direction}
use Rattle.model.specs.declared.LegType.{LegType}
use Rattle.model.specs.Tables.{Foot}
use Rattle.model.specs.Work.{Work}
use Rattle.repository.specs.NetOf.{transfer_row, walk_row}
use Rattle.repository.specs.Rows.{Listing, transfers, walks, first_row, past_row, OfStop, rest}
use Rattle.repository.proofs.Ranges.{of_stop, row_known, transfer_known, walk_known, transfer_short, walk_short}
use Rattle.explorer.specs.declared.Round.{Round}
use Rattle.explorer.specs.Turns.{in_turn, Turn}
use Rattle.explorer_footpaths.specs.Footing.{Leaving, foot_from}

-- ---- the loop over the rows, of which r says where each leads and how long it takes
pub path_start : (f : Foot → Work → Work) (r : ℕ → Foot) (a b : ℕ) (x : Work) {l : List Foot} → l ≡ rest r a b
    → Turn f (in_turn f l x) (rest r a b) x
path_start f r a b x e = record { rest = ap (λ (l : List Foot). in_turn f l x) (sym e) }

-- ---- a row of stop s, where it leads, and how long it takes
pub row_here : (l : Listing) {w : List ℕ} {stops routes : ℕ} {round : Round} {s x j b : ℕ} → Leaving w stops routes round s x → first_row l w s ≤ j → j < b
    → b ≡ past_row l w s
    → OfStop l w s j
row_here l h from g eb = of_stop l (omega (arith, h.stop, h.in_round.fixed.net_stops)) refl from eb g

module _ {w : List ℕ} {stops routes : ℕ} {round : Round} {s x j u : ℕ} (h : Leaving w stops routes round s x) where
  pub transfer_in : OfStop transfers w s j → u ≡ (transfer_row w j).to → u < stops
  transfer_in y e = omega (arith, transfer_known h.in_round.fixed.searchable y e, h.in_round.fixed.net_stops)

  pub transfer_most : OfStop transfers w s j → u ≡ (transfer_row w j).span → u ≤ 86_400
  transfer_most y e = transfer_short h.in_round.fixed.searchable (row_known transfers h.in_round.fixed.searchable.laid y) e

  pub walk_in : OfStop walks w s j → u ≡ (walk_row w j).to → u < stops
  walk_in y e =
      omega (arith, walk_known h.in_round.fixed.searchable (row_known walks h.in_round.fixed.searchable.laid y) e, h.in_round.fixed.net_stops)

  pub walk_most : OfStop walks w s j → u ≡ (walk_row w j).span → u ≤ 86_400
  walk_most y e = walk_short h.in_round.fixed.searchable (row_known walks h.in_round.fixed.searchable.laid y) e

-- a footpath by what was read of its row
pub row_path : (d : Direction) (stops k target : ℕ) (c : LegType) (s x : ℕ) (foot : Foot) (w : Work) {to span : ℕ} {u : Work}
    → u ≡ foot_from d stops k target c s x (record { to = to; span = span }) w → to ≡ foot.to → span ≡ foot.span
    → u ≡ foot_from d stops k target c s x foot w
row_path d stops k target c s x foot w eu et es = eu ∙ rw (et, es)
