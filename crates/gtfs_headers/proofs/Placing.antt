-- A header by the places of the columns that are read.
-- Assumes nothing.
use Prim.Native.Nat.{ℕ}
use mathlib.Core.Path.{◌≡◌, refl, ap, ◌∙◌}
use Rattle.std.specs.Prelude.{Option, None, Some}
use mathlib.Core.List.{List}
use native.Mathlib.Omega.{arith}
use lib.ListN.{length}
use Rattle.csv_text.specs.There.{if_there}
use Rattle.columns.specs.declared.Picked.{Picked}
use Rattle.columns.specs.Picks.{Five, five_of, five_in, picked_in, column_in}
use Rattle.feed.specs.Columns.{only_place, any_place, times_columns, transfer_columns}
use Rattle.feed.specs.Columns.{trip_id, arrival_time, departure_time, stop_id, stop_sequence, from_stop_id, to_stop_id, transfer_type, min_transfer_time}
use Rattle.gtfs_headers.specs.Headers.{times_placed, transfers_placed}

-- ---- the fields of a header
no_fields : {C : Type 0} (b : List ℕ) (p : Picked) (w : List ℕ) → picked_in b (Some p) ≡ five_in w None → C
unfolding picked_in five_in
no_fields b p w q = let z : ◌≡◌ {A = ℕ} 0 1 = cc in absurd (omega arith)

counted : Option Five → ℕ
counted None = 0
counted (Some x) = x.count

count_is : (b : List ℕ) (p : Picked) (w : List ℕ) (ts : List (List ℕ)) → picked_in b (Some p) ≡ five_in w (Some ts) → p.count ≡ length ts
unfolding picked_in five_in five_of counted
count_is b p w ts q = ap counted q

module _ (b : List ℕ) (w : List ℕ) where
  none_read : (o : Option (List (List ℕ))) → picked_in b None ≡ five_in w o → o ≡ None
  unfolding picked_in five_in
  none_read None q = refl
  none_read (Some ts) q = let y : ◌≡◌ {A = ℕ} 0 1 = cc in absurd (omega arith)

  -- a header whose fields are wrong has no columns
  pub header_wrong : {C : Type 0} (f : List (List ℕ) → Option C) (o : Option (List (List ℕ))) {h : Option C} → h ≡ None
      → picked_in b None ≡ five_in w o → h ≡ if_there o f
  unfolding if_there
  header_wrong f o n q = n ∙ rw (none_read o q)

  module _ (p : Picked) where
    pub times_are : (o : Option (List (List ℕ))) → picked_in b (Some p) ≡ five_in w o
        → times_placed p.count (only_place (column_in trip_id o)) (only_place (column_in arrival_time o)) (only_place (column_in departure_time o))
        (only_place (column_in stop_id o)) (only_place (column_in stop_sequence o)) ≡ if_there o times_columns
    unfolding times_placed times_columns column_in if_there
    times_are None q = no_fields b p w q
    times_are (Some ts) q = rw (count_is b p w ts q)

    pub transfers_are : (o : Option (List (List ℕ))) → picked_in b (Some p) ≡ five_in w o
        → transfers_placed p.count (only_place (column_in from_stop_id o)) (only_place (column_in to_stop_id o))
        (only_place (column_in transfer_type o)) (any_place p.count (column_in min_transfer_time o)) ≡ if_there o transfer_columns
    unfolding transfers_placed transfer_columns column_in if_there
    transfers_are None q = no_fields b p w q
    transfers_are (Some ts) q = rw (count_is b p w ts q)
