-- A line whose form is right: its texts and their values.
-- Assumes nothing.
use Prim.Native.Nat.{ℕ}
use mathlib.Core.Path.{◌≡◌, refl}
use mathlib.Core.Bool.{true, ◌&&◌}
use Rattle.std.specs.Prelude.{Some}
use mathlib.Core.List.{List, []}
use lib.Dec.{eqb}
use lib.ListN.{length, get_or}
use borrow.Author.Tests.{eqb-true}
use Rattle.base.proofs.Choice.{and_left, and_right}
use Rattle.csv_text.specs.Fields.{fields}
use Rattle.numbers.specs.Decimal.{decimal}
use Rattle.numbers.specs.Clock.{clock}
use Rattle.feed.specs.declared.TimesColumns.{TimesColumns}
use Rattle.feed.specs.declared.TransferColumns.{TransferColumns}
use Rattle.feed.specs.Times.{TimeLine, is_id, time_values, time_line}
use Rattle.feed.specs.Transfers.{TransferLine, kind_of, span_of, transfer_values, transfer_line}
use Rattle.feed.proofs.IfThere.{some_is, there, tested}

pub record TimeFields (c : TimesColumns) (l : List ℕ) (x : TimeLine) : Type 0 where
  pub texts : List (List ℕ)
  pub are : fields l ≡ Some texts
  pub count : length texts ≡ c.count
  pub trip_id : is_id x.trip ≡ true
  pub stop_id : is_id x.stop ≡ true
  pub trip : get_or texts c.trip [] ≡ x.trip
  pub stop : get_or texts c.stop [] ≡ x.stop
  pub arrival : clock (get_or texts c.arrival []) ≡ Some x.arrival
  pub departure : clock (get_or texts c.departure []) ≡ Some x.departure
  pub sequence : decimal (get_or texts c.sequence []) ≡ Some x.sequence

pub time_fields : (c : TimesColumns) (l : List ℕ) {x : TimeLine} → time_line c l ≡ Some x → TimeFields c l x
unfolding time_line time_values
time_fields c l {x} e =
    let ts = there (fields l) (time_values c) e in
    let t = ts.0 in
    let A = eqb (length t) c.count in
    let B = is_id (get_or t c.trip []) in
    let D = is_id (get_or t c.stop []) in
    let v = tested (A && B && D) _ ts.2 in
    let a = there (clock (get_or t c.arrival [])) _ v.1 in
    let d = there (clock (get_or t c.departure [])) _ a.2 in
    let q = there (decimal (get_or t c.sequence [])) _ d.2 in
    let y = some_is q.2 in
    rw (← y)
    (record {
      texts = t;
      are = ts.1;
      count = eqb-true (length t) c.count (and_left A B (and_left (A && B) D v.0));
      trip_id = and_right A B (and_left (A && B) D v.0);
      stop_id = and_right (A && B) D v.0;
      trip = refl;
      stop = refl;
      arrival = a.1;
      departure = d.1;
      sequence = q.1;
    })

pub record TransferFields (c : TransferColumns) (l : List ℕ) (x : TransferLine) : Type 0 where
  pub texts : List (List ℕ)
  pub are : fields l ≡ Some texts
  pub count : length texts ≡ c.count
  pub from_id : is_id x.from ≡ true
  pub to_id : is_id x.to ≡ true
  pub from : get_or texts c.from [] ≡ x.from
  pub to : get_or texts c.to [] ≡ x.to
  pub kind : kind_of (get_or texts c.kind []) ≡ Some x.kind
  pub span : span_of x.kind (get_or texts c.span []) ≡ Some x.span

pub transfer_fields : (c : TransferColumns) (l : List ℕ) {x : TransferLine} → transfer_line c l ≡ Some x → TransferFields c l x
unfolding transfer_line transfer_values
transfer_fields c l {x} e =
    let ts = there (fields l) (transfer_values c) e in
    let t = ts.0 in
    let A = eqb (length t) c.count in
    let B = is_id (get_or t c.from []) in
    let D = is_id (get_or t c.to []) in
    let v = tested (A && B && D) _ ts.2 in
    let k = there (kind_of (get_or t c.kind [])) _ v.1 in
    let s = there (span_of k.0 (get_or t c.span [])) _ k.2 in
    let y = some_is s.2 in
    rw (← y)
    (record {
      texts = t;
      are = ts.1;
      count = eqb-true (length t) c.count (and_left A B (and_left (A && B) D v.0));
      from_id = and_right A B (and_left (A && B) D v.0);
      to_id = and_right (A && B) D v.0;
      from = refl;
      to = refl;
      kind = k.1;
      span = s.1;
    })
