-- transfers.txt: "A missing time, in a type 2 row too, makes a bad line. Only transfer_type 2 gives a stated span."
use Rattle.std.specs.Prelude.{ℕ, suc, cond, ◌&&◌, List, [], ◌∷◌, ◌++◌, ltb, leb, eqb, length, get_or}
use Rattle.std.specs.Prelude.{Option, None, Some}
use Rattle.csv_text.specs.There.{if_there}
use Rattle.csv_text.specs.Fields.{fields}
use Rattle.numbers.specs.Decimal.{decimal}
use Rattle.feed.specs.declared.Room.{Room}
use Rattle.feed.specs.declared.TransferColumns.{TransferColumns}
use Rattle.feed.specs.Columns.{transfer_columns}
use Rattle.feed.specs.Feed.{Feed, named, number_of, done, bad_transfers, full, Got}
use Rattle.feed.specs.Times.{is_id}

pub record TransferLine : Type 0 where
  pub from : List ℕ
  pub to : List ℕ
  pub kind : ℕ
  pub span : ℕ

-- a span that is not stated
abbrev pub UNSTATED : ℕ
UNSTATED = 4_294_967_295

-- GTFS's types are 0 to 5, and an empty one is 0
unfoldable pub kind_of : List ℕ → Option ℕ
kind_of [] = Some 0
kind_of (x ∷ t) = if_there (decimal (x ∷ t)) (λ k. cond (leb k 5) (Some k) None)

-- a stated span is below MAX, which stands for an unstated one; of another type than 2 the field is not looked at
unfoldable pub span_of : ℕ → List ℕ → Option ℕ
span_of k t = cond (eqb k 2) (if_there (decimal t) (λ x. cond (ltb x UNSTATED) (Some x) None)) (Some UNSTATED)

unfoldable pub transfer_values : TransferColumns → List (List ℕ) → Option TransferLine
transfer_values c ts =
    cond (eqb (length ts) c.count && is_id (get_or ts c.from []) && is_id (get_or ts c.to []))
    (if_there (kind_of (get_or ts c.kind [])) (λ k.
    if_there (span_of k (get_or ts c.span [])) (λ x.
    Some (record { from = get_or ts c.from []; to = get_or ts c.to []; kind = k; span = x }))))
    None

unfoldable pub transfer_line : TransferColumns → List ℕ → Option TransferLine
transfer_line c l = if_there (fields l) (transfer_values c)

-- none where a table is full. The first stop is numbered before the second, whatever the order of the columns: so is it written.
unfoldable pub take_transfer : Room → TransferLine → Feed → Option Feed
take_transfer room l f =
    let near = named f.stops l.from in
    cond (leb (length (named near l.to)) room.stops && ltb (length f.transfers) room.transfers)
    (Some
    (record {
      stops = named near l.to;
      trips = f.trips;
      times = f.times;
      transfers = f.transfers
          ++ (record { from = number_of f.stops l.from; to = number_of near l.to; kind = l.kind; span = l.span } ∷ []);
    }))
    None

unfoldable pub transfers_from : TransferColumns → Room → ℕ → List (List ℕ) → Feed → Got
transfers_from c room k [] f = record { feed = f; end = done }
transfers_from c room k (l ∷ ls) f =
    elim (transfer_line c l) [
      | None ↦ record { feed = f; end = bad_transfers k }
      | Some x ↦
          elim (take_transfer room x f) [
            | None ↦ record { feed = f; end = full }
            | Some g ↦ transfers_from c room (suc k) ls g
          ]
    ]

unfoldable pub transfers_under : Room → Option TransferColumns → List (List ℕ) → Feed → Got
transfers_under room None ls f = record { feed = f; end = bad_transfers 1 }
transfers_under room (Some c) ls f = transfers_from c room 2 ls f

unfoldable pub read_transfers : Room → List (List ℕ) → Feed → Got
read_transfers room [] f = record { feed = f; end = bad_transfers 1 }
read_transfers room (h ∷ ls) f = transfers_under room (if_there (fields h) transfer_columns) ls f
