-- Searchable tables are within the limits that keep every value of a leg a u32.
use Prim.Native.Nat.{ℕ, ◌≤◌, ◌<◌}
use mathlib.Core.Path.{refl, ap}
use mathlib.Core.List.Memᴰ
use mathlib.Core.List.{List, Memᴰ}
use Rattle.model.specs.declared.LegType.{LegType}
use Rattle.model.specs.declared.LegType.TheVariants.{Transit, Transfer, Walk}
use Rattle.model.specs.Tables.{Foot}
use Rattle.model.specs.Journey.{listed_under}
use Rattle.model.specs.Sound.{Narrow}
use Rattle.model.specs.Limits.{LONGEST_SPAN}
use Rattle.repository.specs.NetOf.{transfer_row, walk_row, net_of}
use Rattle.repository.specs.Accepted.{Accepted}
use Rattle.repository.specs.Readable.{Searchable}
use Rattle.repository.specs.Rows.{transfers, walks}
use Rattle.repository.proofs.Lists.{transfers_are, walks_are, rest_said}
use Rattle.repository.proofs.Ranges.{stops_few, of_stop, row_known, transfer_short, walk_short}
use Rattle.repository.proofs.Trips.{trip_few}
use Rattle.repository.proofs.Asked.{accepted_searchable}

module _ {w : List ℕ} (h : Searchable w) where
  spans : (c : LegType) (s : ℕ) (f : Foot) → s < (net_of w).stops → Memᴰ f (listed_under (net_of w) c s) → f.span ≤ LONGEST_SPAN
  spans (Transit v) s f i m = absurd (Memᴰ.not-nil m)
  spans Transfer s f i m =
      let y = rest_said (transfer_row w) _ _ (rw (transfers_are w s refl refl) at m) in
      transfer_short h (row_known transfers h.laid (of_stop transfers i refl y.from refl y.past)) (ap (λ (g : Foot). g.span) y.says)
  spans Walk s f i m =
      let y = rest_said (walk_row w) _ _ (rw (walks_are w s refl refl) at m) in
      walk_short h (row_known walks h.laid (of_stop walks i refl y.from refl y.past)) (ap (λ (g : Foot). g.span) y.says)

pub searchable_narrow : {w : List ℕ} → Searchable w → Narrow (net_of w)
searchable_narrow h = record { stops = stops_few h.laid; trips = λ r i l k. trip_few h l k; spans = spans h }

pub accepted_narrow : {w : List ℕ} → Accepted w → Narrow (net_of w)
accepted_narrow h = searchable_narrow (accepted_searchable h)
