-- A line of a stop time that is written is read as the row's values.
-- Assumes nothing.
use Prim.Native.Nat.{ℕ}
use mathlib.Core.Path.{◌≡◌}
use mathlib.Core.Bool.{true}
use Rattle.std.specs.Prelude.{Some}
use mathlib.Core.List.{List, [], ◌∷◌, ◌++◌}
use Rattle.base.specs.Each.{Each, nil, cons}
use Rattle.csv_text.specs.There.{if_there}
use Rattle.csv_text.specs.Lines.{lines}
use Rattle.numbers.specs.Decimal.{digits}
use Rattle.numbers.specs.Clock.{clock, clock_text}
use Rattle.numbers.proofs.Written.{read_digits}
use Rattle.numbers.proofs.Shown.{clock_reads, clock_shown}
use Rattle.feed.specs.declared.TimesColumns.{TimesColumns}
use Rattle.feed.specs.Feed.{TimeRow}
use Rattle.feed.specs.Times.{TimeLine, time_values, time_line}
use Rattle.feed.specs.Writing.{time_text}
use Rattle.feed.specs.Orderly.{is_moment}
use Rattle.feed.proofs.Lined.{Inner}
use Rattle.feed.proofs.Fielded.{behind_commas, lines_with, fields_with}
use Rattle.feed.proofs.Numbered.{Counted}
use Rattle.feed.proofs.Figures.{shown_inner, digits_inner, id_digits}
use Rattle.feed.proofs.Faultless.{moment_low, moment_high}

abbrev pub times_places : TimesColumns
times_places = record { count = 5; trip = 0; arrival = 1; departure = 2; stop = 3; sequence = 4 }

-- the texts behind the first
abbrev time_texts : TimeRow → ℕ → List (List ℕ)
time_texts r p = clock_text r.arrival ∷ clock_text r.departure ∷ digits r.stop ∷ digits p ∷ []

unfoldable pub time_fields : TimeRow → ℕ → List ℕ
time_fields r p = digits r.trip ++ behind_commas (time_texts r p)

abbrev pub time_value : TimeRow → ℕ → TimeLine
time_value r p = record { trip = digits r.trip; stop = digits r.stop; arrival = r.arrival; departure = r.departure; sequence = p }

reads_moment : (m : ℕ) → is_moment m ≡ true → clock (clock_text m) ≡ Some m
reads_moment m e = clock_reads m (moment_low m e) (moment_high m e)

moment_inner : (m : ℕ) → is_moment m ≡ true → Each Inner (clock_text m)
moment_inner m e = shown_inner (clock_shown m (moment_high m e))

module _ (r : TimeRow) (p : ℕ) (a : is_moment r.arrival ≡ true) (d : is_moment r.departure ≡ true) where
  texts_inner : Each (Each Inner) (time_texts r p)
  texts_inner =
      cons (moment_inner r.arrival a)
      (cons (moment_inner r.departure d) (cons (digits_inner r.stop) (cons (digits_inner p) nil)))

  pub time_first : (b : List ℕ) → lines (time_text r p ++ b) ≡ time_fields r p ∷ lines b
  unfolding time_text time_fields
  time_first b = lines_with b (digits_inner r.trip) texts_inner

  pub time_read : Counted p → time_line times_places (time_fields r p) ≡ Some (time_value r p)
  unfolding time_line time_fields if_there time_values
  time_read c =
      rw (
        fields_with (digits_inner r.trip) texts_inner,
        id_digits r.trip,
        id_digits r.stop,
        reads_moment r.arrival a,
        reads_moment r.departure d,
        read_digits p c,
      )
