-- A row of stop_times.txt: its values are those of the five texts that are picked.
-- Assumes nothing.
use Prim.Native.Nat.{ℕ}
use mathlib.Core.Path.{◌≡◌, refl, sym, ap, ◌∙◌}
use Rattle.std.specs.Prelude.{Option, None, Some}
use mathlib.Core.List.{List, [], ◌∷◌}
use Rattle.csv_text.specs.There.{if_there}
use Rattle.csv_text.specs.Fields.{fields}
use Rattle.columns.specs.declared.Picked.{Picked}
use Rattle.columns.specs.Picks.{Five, five_of, five_in, picked_in}
use Rattle.feed.specs.declared.TimesColumns.{TimesColumns}
use Rattle.feed.specs.Times.{time_values, time_line}
use Rattle.gtfs_lines.specs.Values.{formed, time_in}
use Rattle.gtfs_lines.proofs.Forms.{formed_then}

times_wanted : TimesColumns → List ℕ
times_wanted c = c.trip ∷ c.stop ∷ c.arrival ∷ c.departure ∷ c.sequence ∷ []

by_five : (c : TimesColumns) (o : Option (List (List ℕ)))
    → if_there o (time_values c) ≡ if_there (five_in (times_wanted c) o) (formed time_in c.count)
unfolding times_wanted five_in five_of if_there formed time_in time_values
by_five c None = refl
by_five c (Some ts) = refl

pub time_is : (b : List ℕ) (c : TimesColumns) (l : List ℕ) (r : Option Picked)
    → picked_in b r
    ≡ if_there (five_in (c.trip ∷ c.stop ∷ c.arrival ∷ c.departure ∷ c.sequence ∷ []) (fields l)) (formed Some c.count)
    → time_line c l ≡ if_there (picked_in b r) time_in
unfolding time_line times_wanted
time_is b c l r q =
    by_five c (fields l) ∙ formed_then time_in c.count (five_in (times_wanted c) (fields l)) ∙ ap (λ (o : Option Five). if_there o time_in) (sym q)
