-- Rows as words, four words a row: trip, stop, arrival, departure; or from, to, type, span.
use Rattle.std.specs.Prelude.{ℕ, List, [], ◌∷◌, ◌++◌}
use Rattle.feed.specs.Feed.{TimeRow, TransferRow}

-- each whole four words, as an entry
unfoldable pub fours_in : {A : Type 0} → (ℕ → ℕ → ℕ → ℕ → A) → List ℕ → List A
fours_in f [] = []
fours_in f (a ∷ []) = []
fours_in f (a ∷ b ∷ []) = []
fours_in f (a ∷ b ∷ c ∷ []) = []
fours_in f (a ∷ b ∷ c ∷ d ∷ w) = f a b c d ∷ fours_in f w

-- the words of every entry, one after the other
unfoldable pub flat_by : {A : Type 0} → (A → List ℕ) → List A → List ℕ
flat_by g [] = []
flat_by g (x ∷ xs) = g x ++ flat_by g xs

-- ---- stop times
unfoldable pub time_with : ℕ → ℕ → ℕ → ℕ → TimeRow
time_with a b c d = record { trip = a; stop = b; arrival = c; departure = d }

unfoldable pub time_words : TimeRow → List ℕ
time_words r = r.trip ∷ r.stop ∷ r.arrival ∷ r.departure ∷ []

unfoldable pub time_rows_in : List ℕ → List TimeRow
time_rows_in w = fours_in time_with w

unfoldable pub flat_times : List TimeRow → List ℕ
flat_times rs = flat_by time_words rs

-- ---- transfers
unfoldable pub transfer_with : ℕ → ℕ → ℕ → ℕ → TransferRow
transfer_with a b c d = record { from = a; to = b; kind = c; span = d }

unfoldable pub transfer_words : TransferRow → List ℕ
transfer_words r = r.from ∷ r.to ∷ r.kind ∷ r.span ∷ []

unfoldable pub transfer_rows_in : List ℕ → List TransferRow
transfer_rows_in w = fours_in transfer_with w

unfoldable pub flat_transfers : List TransferRow → List ℕ
flat_transfers rs = flat_by transfer_words rs
