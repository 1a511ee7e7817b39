-- The transfers that are written are read as the rows.
-- Assumes nothing.
use Prim.Native.Nat.{ℕ, suc, ◌+◌, ◌≤◌, ◌<◌}
use mathlib.Core.Path.{◌≡◌, refl, sym, ap, ◌∙◌}
use mathlib.Core.Bool.{true, cond}
use Rattle.std.specs.Prelude.{None, Some}
use mathlib.Core.List.{List, [], ◌∷◌, ◌++◌, append-nil, append_assoc}
use native.Mathlib.Omega.{arith}
use lib.Dec.{ltb, leb, eqb}
use lib.ListN.{length, length-append}
use borrow.Author.Tests.{ltb-true, leb-true, eqb-true, le-leb, lt-ltb}
use Rattle.base.specs.Each.{Each, nil, cons}
use Rattle.base.proofs.Choice.{split, and_left, and_right}
use Rattle.csv_text.specs.There.{if_there}
use Rattle.csv_text.specs.Lines.{lines}
use Rattle.csv_text.proofs.Stepping.{lines_none}
use Rattle.numbers.specs.Decimal.{decimal, digits}
use Rattle.numbers.proofs.Written.{digits_some, read_digits}
use Rattle.feed.specs.declared.Room.{Room}
use Rattle.feed.specs.declared.TransferColumns.{TransferColumns}
use Rattle.feed.specs.Feed.{TransferRow, Feed}
use Rattle.feed.specs.Transfers.{TransferLine, UNSTATED, kind_of, span_of, transfer_values, transfer_line, take_transfer, transfers_from}
use Rattle.feed.specs.Writing.{span_text, transfer_text, transfers_text}
use Rattle.feed.specs.Orderly.{seen_after, fits_span, after_transfer, transfers_fault, after_transfers}
use Rattle.feed.specs.Promised.{Countable}
use Rattle.feed.proofs.Lined.{Inner}
use Rattle.feed.proofs.Fielded.{behind_commas, lines_with, fields_with}
use Rattle.feed.proofs.Numbered.{Counted, first_names, names_length, number_is, named_is}
use Rattle.feed.proofs.Faultless.{stop_known, stop_inside, seen_inside, TransferRight, transfer_right, transfers_first, transfers_rest}
use Rattle.feed.proofs.Figures.{digits_inner, id_digits}
use Rattle.feed.proofs.TimesBack.{read_to}

-- ---- a type and a span
module _ (k x : ℕ) (e : fits_span k x ≡ true) where
  kind_small : k ≤ 5
  unfolding fits_span
  kind_small =
      split (eqb k 2)
      (λ w. omega (arith, eqb-true k 2 w))
      (λ w. leb-true k 5 (and_left (leb k 5) (eqb x UNSTATED) (rw w at e)))

  span_read : span_of k (span_text k x) ≡ Some x
  unfolding fits_span span_of span_text if_there
  span_read =
      split (eqb k 2)
      (λ w.
      let l : ltb x UNSTATED ≡ true = rw w at e in
      rw (w, read_digits x (omega (arith, ltb-true x UNSTATED l)), l))
      (λ w.
      let q : x ≡ UNSTATED = eqb-true x UNSTATED (and_right (leb k 5) (eqb x UNSTATED) (rw w at e)) in
      rw w (ap Some (sym q)))

span_inner : (k x : ℕ) → Each Inner (span_text k x)
unfolding span_text
span_inner k x = split (eqb k 2) (λ w. rw w (digits_inner x)) (λ w. rw w nil)

kind_some : (t : List ℕ) → 0 < length t → kind_of t ≡ if_there (decimal t) (λ k. cond (leb k 5) (Some k) None)
unfolding kind_of
kind_some [] h = absurd (omega arith)
kind_some (x ∷ t) h = refl

kind_read : (k : ℕ) → k ≤ 5 → kind_of (digits k) ≡ Some k
unfolding if_there
kind_read k h = kind_some (digits k) (digits_some k) ∙ rw (read_digits k (omega arith), le-leb k 5 h)

-- ---- a line
abbrev pub transfer_places : TransferColumns
transfer_places = record { count = 4; from = 0; to = 1; kind = 2; span = 3 }

abbrev transfer_texts : TransferRow → List (List ℕ)
transfer_texts r = digits r.to ∷ digits r.kind ∷ span_text r.kind r.span ∷ []

transfer_fields : TransferRow → List ℕ
transfer_fields r = digits r.from ++ behind_commas (transfer_texts r)

abbrev transfer_value : TransferRow → TransferLine
transfer_value r = record { from = digits r.from; to = digits r.to; kind = r.kind; span = r.span }

texts_inner : (r : TransferRow) → Each (Each Inner) (transfer_texts r)
texts_inner r = cons (digits_inner r.to) (cons (digits_inner r.kind) (cons (span_inner r.kind r.span) nil))

transfer_first : (r : TransferRow) (b : List ℕ) → lines (transfer_text r ++ b) ≡ transfer_fields r ∷ lines b
unfolding transfer_text transfer_fields
transfer_first r b = lines_with b (digits_inner r.from) (texts_inner r)

transfer_read : (r : TransferRow) → fits_span r.kind r.span ≡ true
    → transfer_line transfer_places (transfer_fields r) ≡ Some (transfer_value r)
unfolding transfer_line transfer_fields if_there transfer_values
transfer_read r e =
    rw (
      fields_with (digits_inner r.from) (texts_inner r),
      id_digits r.from,
      id_digits r.to,
      kind_read r.kind (kind_small r.kind r.span e),
      span_read r.kind r.span e,
    )

-- ---- a row, behind those that were read; the stop times and the trips stay
unfoldable pub with_transfers : Feed → ℕ → List TransferRow → Feed
with_transfers f stops rows = record { stops = first_names stops; trips = f.trips; times = f.times; transfers = rows }

module _ (room : Room) (countable : Countable room) (f : Feed) where
  transfer_taken : (stops : ℕ) (rows : List TransferRow) (r : TransferRow) → TransferRight room stops r → stops ≤ room.stops
      → length rows < room.transfers
      → take_transfer room (transfer_value r) (with_transfers f stops rows) ≡ Some (with_transfers f (after_transfer stops r) (rows ++ (r ∷ [])))
  unfolding take_transfer with_transfers after_transfer
  transfer_taken stops rows r right inside few =
      let near = seen_after stops r.from in
      let a = stop_known room stops r.from right.from_fits in
      let b = stop_known room near r.to right.to_fits in
      let c = stop_inside room stops r.from right.from_fits in
      let d = stop_inside room near r.to right.to_fits in
      let i = seen_inside room stops r.from right.from_fits inside in
      let j = seen_inside room near r.to right.to_fits i in
      let n : Counted stops = omega (arith, countable.stops) in
      let m : Counted near = omega (arith, countable.stops) in
      let u : Counted r.from = omega (arith, countable.stops) in
      let v : Counted r.to = omega (arith, countable.stops) in
      rw (
        named_is stops r.from n u a,
        named_is near r.to m v b,
        number_is stops r.from n u a,
        number_is near r.to m v b,
        names_length (seen_after near r.to),
        le-leb (seen_after near r.to) room.stops j,
        lt-ltb (length rows) room.transfers few,
      )

from_some : (c : TransferColumns) (room : Room) (k : ℕ) (l : List ℕ) (ls : List (List ℕ)) (f : Feed) {x : TransferLine} {g : Feed}
    → transfer_line c l ≡ Some x → take_transfer room x f ≡ Some g → transfers_from c room k (l ∷ ls) f ≡ transfers_from c room (suc k) ls g
unfolding transfers_from
from_some c room k l ls f {x} {g} e q = rw (e, q, transfers_from)

module _ (room : Room) (countable : Countable room) (f : Feed) where
  pub transfers_back : (k : ℕ) (rs : List TransferRow) (stops : ℕ) (rows : List TransferRow) → transfers_fault room stops rs ≡ 0
      → stops ≤ room.stops → length rows + length rs ≤ room.transfers
      → transfers_from transfer_places room k (lines (transfers_text rs)) (with_transfers f stops rows)
      ≡ read_to (with_transfers f (after_transfers stops rs) (rows ++ rs))
  unfolding transfers_from transfers_text after_transfers after_transfer
  transfers_back k [] stops rows e inside few = rw (lines_none, append-nil rows)
  transfers_back k (r ∷ rs) stops rows e inside few =
      let right = transfer_right room stops r (transfers_first room stops r rs e) in
      let more = length-append rows (r ∷ []) in
      let near = seen_after stops r.from in
      rw (transfer_first r (transfers_text rs))
      (from_some transfer_places room k (transfer_fields r) (lines (transfers_text rs)) (with_transfers f stops rows)
      (transfer_read r right.span_fits)
      (transfer_taken room countable f stops rows r right inside (omega arith))
      ∙ transfers_back (suc k) rs (after_transfer stops r) (rows ++ (r ∷ [])) (transfers_rest room stops r rs e)
      (seen_inside room near r.to right.to_fits (seen_inside room stops r.from right.from_fits inside)) (omega arith)
      ∙ ap (λ (l : List TransferRow). read_to (with_transfers f (after_transfers (after_transfer stops r) rs) l)) (append_assoc rows (r ∷ []) rs))
