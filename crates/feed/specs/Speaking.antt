-- What rows say: each is that of its line, its ids by their numbers.
use Rattle.std.specs.Prelude.{ℕ, ◌<◌, ◌≡◌, List, [], ◌∷◌, ◌++◌, length, get_or}
use Rattle.std.specs.Prelude.{Some}
use Rattle.feed.specs.declared.TimesColumns.{TimesColumns}
use Rattle.feed.specs.declared.TransferColumns.{TransferColumns}
use Rattle.feed.specs.Feed.{TimeRow, TransferRow, Feed}
use Rattle.feed.specs.Times.{TimeLine, time_line}
use Rattle.feed.specs.Transfers.{TransferLine, transfer_line}
use Rattle.feed.specs.Heads.{TimesHead, TransfersHead}

-- the name of the number i is t
pub record NameOf (names : List (List ℕ)) (i : ℕ) (t : List ℕ) : Type 0 where
  pub known : i < length names
  pub is : get_or names i [] ≡ t

-- ---- stop_times.txt
pub record SaysTime (f : Feed) (x : TimeLine) (r : TimeRow) : Type 0 where
  pub trip : NameOf f.trips r.trip x.trip
  pub stop : NameOf f.stops r.stop x.stop
  pub arrival : r.arrival ≡ x.arrival
  pub departure : r.departure ≡ x.departure

pub data TimesSay (c : TimesColumns) (f : Feed) : List (List ℕ) → List TimeRow → Type 0 where
  no_time : TimesSay c f [] []
  one_time : {l : List ℕ} {ls : List (List ℕ)} {x : TimeLine} {r : TimeRow} {rs : List TimeRow} → time_line c l ≡ Some x → SaysTime f x r
      → TimesSay c f ls rs → TimesSay c f (l ∷ ls) (r ∷ rs)

-- the rows are those of the file's first lines, one for one
pub data SaysTimes (f : Feed) : List (List ℕ) → Type 0 where
  no_header_times : {ls : List (List ℕ)} → f.times ≡ [] → SaysTimes f ls
  header_times : {h : List ℕ} (ls rest : List (List ℕ)) {c : TimesColumns} → TimesHead h c → TimesSay c f ls f.times
      → SaysTimes f (h ∷ (ls ++ rest))

-- ---- transfers.txt
pub record SaysTransfer (f : Feed) (x : TransferLine) (r : TransferRow) : Type 0 where
  pub from : NameOf f.stops r.from x.from
  pub to : NameOf f.stops r.to x.to
  pub kind : r.kind ≡ x.kind
  pub span : r.span ≡ x.span

pub data TransfersSay (c : TransferColumns) (f : Feed) : List (List ℕ) → List TransferRow → Type 0 where
  no_transfer : TransfersSay c f [] []
  one_transfer : {l : List ℕ} {ls : List (List ℕ)} {x : TransferLine} {r : TransferRow} {rs : List TransferRow} → transfer_line c l ≡ Some x
      → SaysTransfer f x r → TransfersSay c f ls rs → TransfersSay c f (l ∷ ls) (r ∷ rs)

pub data SaysTransfers (f : Feed) : List (List ℕ) → Type 0 where
  no_header_transfers : {ls : List (List ℕ)} → f.transfers ≡ [] → SaysTransfers f ls
  header_transfers : {h : List ℕ} (ls rest : List (List ℕ)) {c : TransferColumns} → TransfersHead h c → TransfersSay c f ls f.transfers
      → SaysTransfers f (h ∷ (ls ++ rest))
