-- Each of the listed reasons refuses a line.
-- Assumes nothing.
use Prim.Native.Nat.{ℕ, suc, ◌-◌, ◌≤◌, ◌<◌}
use mathlib.Core.Path.{◌≡◌, refl, sym, ap, ◌∙◌}
use mathlib.Core.Bool.{true, false, cond, ◌&&◌, false≢true}
use Rattle.std.specs.Prelude.{Option, None, Some}
use mathlib.Core.List.{List, [], ◌∷◌, ◌++◌}
use native.Mathlib.Omega.{arith}
use lib.Dec.{ltb, leb}
use lib.ListN.{length, get_or, length-append, get_or-append}
use lib.Seq.{get_or-append_seam}
use borrow.Author.Tests.{ltb-true, ltb-false, leb-true, lt-ltb, le-ltb, lt-leb}
use Rattle.base.proofs.Choice.{split}
use Rattle.csv_text.specs.Fields.{fields}
use Rattle.columns.specs.Picks.{is_named}
use Rattle.numbers.specs.Decimal.{decimal}
use Rattle.feed.specs.declared.Room.{Room}
use Rattle.feed.specs.declared.TimesColumns.{TimesColumns}
use Rattle.feed.specs.declared.TransferColumns.{TransferColumns}
use Rattle.feed.specs.Feed.{Feed, named}
use Rattle.feed.specs.Times.{TimeLine, is_id, bad, out_of_room, entered, is_last, take_time}
use Rattle.feed.specs.Transfers.{TransferLine, UNSTATED, kind_of, span_of, transfer_line, take_transfer}
use Rattle.feed.specs.Held.{Once, Unnamed}
use Rattle.feed.specs.Refused.{BadTime, InOrder, goes_on, begins, NoTimeRoom, trips_full, stops_full, times_full}
use Rattle.feed.specs.Refused.{BadTransfer, NoTransferRoom, from_full, to_full, both_full, transfers_full}
use Rattle.feed.proofs.IfThere.{none_some, some_is, there, tested, either_there}
use Rattle.feed.proofs.Naming.{is_named_there, is_named_not, named_longer, new_longer, named_either}
use Rattle.feed.proofs.Valued.{TimeFields, TransferFields, transfer_fields}
use Rattle.feed.proofs.Reasons.{last_some, last_at, is_last_lem}

-- an id is not empty
id_some : {C : Type 0} {t u : List ℕ} → is_id t ≡ true → u ≡ t → u ≡ [] → C
unfolding is_id
id_some {C} {t} {u} e q n = let z : is_id [] ≡ true = rw (sym q ∙ n) at e in absurd (false≢true z)

-- a value is not there and there
both : {A C : Type 0} {o : Option A} {x : A} → o ≡ None → o ≡ Some x → C
both e h = none_some (sym e ∙ h)

-- ---- stop_times.txt
-- the last of them is not one before
not_last : (trips : List (List ℕ)) (t : List ℕ) {i : ℕ} → Once trips → suc i < length trips → get_or trips i [] ≡ t → is_last trips t ≡ false
not_last trips t {i} o h e =
    split (is_last trips t)
    (λ v.
    let a = last_some trips t v in
    let z : i ≡ length trips - 1 = o.once i (length trips - 1) (omega arith) (omega arith) (e ∙ sym (last_at trips t v)) in
    absurd (omega arith))
    (λ v. v)

new_not_last : (trips : List (List ℕ)) (t : List ℕ) → Unnamed trips t → is_last trips t ≡ false
new_not_last trips t u =
    split (is_last trips t)
    (λ v. let a = last_some trips t v in absurd (u.nowhere (length trips - 1) (omega arith) (last_at trips t v)))
    (λ v. v)

module _ (room : Room) (x : TimeLine) (f : Feed) (q : ℕ) where
  take_on : is_last f.trips x.trip ≡ true → ltb q x.sequence ≡ true → take_time room x f q ≡ entered room x f.trips f
  unfolding take_time
  take_on v w = rw (v, w)

  take_still : is_last f.trips x.trip ≡ true → ltb q x.sequence ≡ false → take_time room x f q ≡ bad
  unfolding take_time
  take_still v w = rw (v, w)

  take_new : is_last f.trips x.trip ≡ false → is_named x.trip f.trips ≡ false
      → take_time room x f q ≡ entered room x (f.trips ++ (x.trip ∷ [])) f
  unfolding take_time
  take_new v w = rw (v, w)

  take_back : is_last f.trips x.trip ≡ false → is_named x.trip f.trips ≡ true → take_time room x f q ≡ bad
  unfolding take_time
  take_back v w = rw (v, w)

module _ (c : TimesColumns) (room : Room) (f : Feed) (q : ℕ) (l : List ℕ) {x : TimeLine} (o : Once f.trips) (z : TimeFields c l x) where
  same_texts : {ts : List (List ℕ)} → fields l ≡ Some ts → ts ≡ z.texts
  same_texts s = some_is (sym s ∙ z.are)

  pub bad_refuses : BadTime c f q l → take_time room x f q ≡ bad
  bad_refuses (BadTime.wrong_fields n) = both n z.are
  bad_refuses (BadTime.other_count s n) = absurd (n (ap (λ (t : List (List ℕ)). length t) (same_texts s) ∙ z.count))
  bad_refuses (BadTime.no_trip s n) = id_some z.trip_id z.trip (rw (same_texts s) at n)
  bad_refuses (BadTime.no_stop s n) = id_some z.stop_id z.stop (rw (same_texts s) at n)
  bad_refuses (BadTime.no_arrival s n) = both (rw (same_texts s) at n) z.arrival
  bad_refuses (BadTime.no_departure s n) = both (rw (same_texts s) at n) z.departure
  bad_refuses (BadTime.no_sequence s n) = both (rw (same_texts s) at n) z.sequence
  bad_refuses (BadTime.not_rising {ts} {n} {v} s k e d h) =
      let e₁ = rw (same_texts s) at e in
      let d₁ = rw (same_texts s) at d in
      let y : v ≡ x.sequence = some_is (sym d₁ ∙ z.sequence) in
      take_still room x f q (is_last_lem f.trips x.trip k (e₁ ∙ z.trip)) (le-ltb q x.sequence (omega arith))
  bad_refuses (BadTime.comes_back {ts} {i} s h e) =
      let e₁ = (rw (same_texts s) at e) ∙ z.trip in
      take_back room x f q (not_last f.trips x.trip o h e₁) (is_named_there f.trips x.trip (omega arith) e₁)

-- a table that has no room
module _ (room : Room) (x : TimeLine) (trips : List (List ℕ)) (f : Feed) where
  trips_refuse : room.trips < length trips → entered room x trips f ≡ out_of_room
  unfolding entered
  trips_refuse h = rw (lt-leb (length trips) room.trips h)

  stops_refuse : room.stops < length (named f.stops x.stop) → entered room x trips f ≡ out_of_room
  unfolding entered
  stops_refuse h =
      let z = lt-leb (length (named f.stops x.stop)) room.stops h in
      split (leb (length trips) room.trips) (λ v. rw (v, z)) (λ v. rw v)

  times_refuse : room.times ≤ length f.times → entered room x trips f ≡ out_of_room
  unfolding entered
  times_refuse h =
      let z = le-ltb (length f.times) room.times h in
      split (leb (length trips) room.trips && leb (length (named f.stops x.stop)) room.stops) (λ v. rw (v, z)) (λ v. rw v)

module _ (room : Room) (x : TimeLine) (f : Feed) (q : ℕ) where
  entered_refuses : (trips : List (List ℕ)) → (Unnamed f.trips x.trip → room.trips ≤ length f.trips → entered room x trips f ≡ out_of_room)
      → NoTimeRoom room f x → entered room x trips f ≡ out_of_room
  entered_refuses trips first (trips_full u h) = first u h
  entered_refuses trips first (stops_full u h) = stops_refuse room x trips f (let z = new_longer f.stops x.stop u in omega arith)
  entered_refuses trips first (times_full h) = times_refuse room x trips f h

  pub full_refuses : InOrder f q x → NoTimeRoom room f x → take_time room x f q ≡ out_of_room
  full_refuses (goes_on {n} k e h) r =
      take_on room x f q (is_last_lem f.trips x.trip k e) (lt-ltb q x.sequence h)
      ∙ entered_refuses f.trips (λ u w. absurd (u.nowhere n (omega arith) e)) r
  full_refuses (begins u) r =
      take_new room x f q (new_not_last f.trips x.trip u) (is_named_not f.trips x.trip u)
      ∙ entered_refuses (f.trips ++ (x.trip ∷ []))
      (λ v w. trips_refuse room x (f.trips ++ (x.trip ∷ [])) f (omega (arith, length-append f.trips (x.trip ∷ [])))) r

-- ---- transfers.txt
kind_some : {C : Type 0} (t : List ℕ) {k : ℕ} → kind_of t ≡ Some k → (t ≡ [] → C) → (decimal t ≡ Some k → k ≤ 5 → C) → C
unfolding kind_of
kind_some [] e f g = f refl
kind_some (y ∷ t) {k} e f g =
    let z = there (decimal (y ∷ t)) (λ k. cond (leb k 5) (Some k) None) e in
    let w = tested (leb z.0 5) (Some z.0) z.2 in
    let v = some_is w.1 in
    g (z.1 ∙ w.1) (let u = leb-true z.0 5 w.0 in omega arith)

-- no number stands in an empty text
empty_number : {C : Type 0} {t : List ℕ} {k : ℕ} → t ≡ [] → decimal t ≡ Some k → C
unfolding decimal
empty_number e h = none_some (rw e at h)

-- a type that is a number is that number
kind_number : (t : List ℕ) {j k : ℕ} → kind_of t ≡ Some k → decimal t ≡ Some j → (j ≡ k) × (k ≤ 5)
kind_number t e h = kind_some t e (λ n. empty_number n h) (λ d l. (some_is (sym h ∙ d), l))

span_two : (k : ℕ) (t : List ℕ) {y : ℕ} → 2 ≡ k → span_of k t ≡ Some y → (x : ℕ) × (decimal t ≡ Some x) × (x < UNSTATED)
unfolding span_of
span_two k t e h =
    let h₁ : span_of 2 t ≡ Some _ = rw (← e) at h in
    let z = there (decimal t) (λ x. cond (ltb x UNSTATED) (Some x) None) h₁ in
    (z.0, z.1, ltb-true z.0 UNSTATED (tested (ltb z.0 UNSTATED) (Some z.0) z.2).0)

module _ (c : TransferColumns) (l : List ℕ) {x : TransferLine} (z : TransferFields c l x) where
  same_fields : {ts : List (List ℕ)} → fields l ≡ Some ts → ts ≡ z.texts
  same_fields s = some_is (sym s ∙ z.are)

  kind : List ℕ
  kind = get_or z.texts c.kind []

  span : List ℕ
  span = get_or z.texts c.span []

  bad_absurd : {C : Type 0} → BadTransfer c l → C
  unfolding kind span
  bad_absurd (BadTransfer.wrong_fields n) = both n z.are
  bad_absurd (BadTransfer.other_count s n) = absurd (n (ap (λ (t : List (List ℕ)). length t) (same_fields s) ∙ z.count))
  bad_absurd (BadTransfer.no_from s n) = id_some z.from_id z.from (rw (same_fields s) at n)
  bad_absurd (BadTransfer.no_to s n) = id_some z.to_id z.to (rw (same_fields s) at n)
  bad_absurd (BadTransfer.no_type s w n) =
      kind_some kind z.kind
      (λ e. absurd (w (ap (λ (t : List (List ℕ)). get_or t c.kind []) (same_fields s) ∙ e)))
      (λ d h. both (rw (same_fields s) at n) d)
  bad_absurd (BadTransfer.other_type {ts} {k} s d h) =
      let y = kind_number kind z.kind (rw (same_fields s) at d) in absurd (omega (arith, y.0, y.1))
  bad_absurd (BadTransfer.no_span s d n) =
      let y = kind_number kind z.kind (rw (same_fields s) at d) in
      let w = span_two x.kind span y.0 z.span in
      both (rw (same_fields s) at n) w.1
  bad_absurd (BadTransfer.long_span {ts} {x = v} s d n h) =
      let y = kind_number kind z.kind (rw (same_fields s) at d) in
      let w = span_two x.kind span y.0 z.span in
      let n₁ = rw (same_fields s) at n in
      let u : v ≡ w.0 = some_is (sym n₁ ∙ w.1) in
      absurd (omega (arith, w.2))

pub bad_transfer_refused : (c : TransferColumns) (l : List ℕ) → BadTransfer c l → transfer_line c l ≡ None
bad_transfer_refused c l b = either_there (transfer_line c l) (λ e. e) (λ x e. bad_absurd c l (transfer_fields c l e) b)

-- a new name stays new behind another
new_behind : (names : List (List ℕ)) (t u : List ℕ) → Unnamed names u → (t ≡ u → ⊥) → Unnamed (names ++ (t ∷ [])) u
new_behind names t u n d = record {
  nowhere = λ i h e.
      split (ltb i (length names))
      (λ v. let g = ltb-true i (length names) v in n.nowhere i g (sym (get_or-append names (t ∷ []) [] i g) ∙ e))
      (λ v.
      let g : i ≡ length names = omega (arith, ltb-false i (length names) v, length-append names (t ∷ [])) in
      let w : get_or (names ++ (t ∷ [])) i [] ≡ t = rw g (get_or-append_seam names t [] []) in
      d (sym w ∙ e));
}

module _ (room : Room) (x : TransferLine) (f : Feed) where
  still_new : Unnamed f.stops x.to → (x.from ≡ x.to → ⊥) → Unnamed (named f.stops x.from) x.to
  still_new v n = named_either f.stops x.from (λ e. rw e v) (λ u e. rw e (new_behind f.stops x.from x.to v n))

  ends_refuse : room.stops < length (named (named f.stops x.from) x.to) → take_transfer room x f ≡ None
  unfolding take_transfer
  ends_refuse h = rw (lt-leb (length (named (named f.stops x.from) x.to)) room.stops h)

  pub full_transfer_refused : NoTransferRoom room f x → take_transfer room x f ≡ None
  unfolding take_transfer
  full_transfer_refused (from_full u h) =
      ends_refuse
      (let a = new_longer f.stops x.from u in let b = named_longer (named f.stops x.from) x.to in omega arith)
  full_transfer_refused (to_full u h) =
      named_either f.stops x.from
      (λ e. ends_refuse (let a = new_longer f.stops x.to u in rw e (omega arith)))
      (λ v e. ends_refuse (let a = new_longer f.stops x.from v in let b = named_longer (named f.stops x.from) x.to in omega arith))
  full_transfer_refused (both_full u v n h) =
      ends_refuse
      (let a = new_longer f.stops x.from u in
      let b = new_longer (named f.stops x.from) x.to (still_new v n) in
      omega arith)
  full_transfer_refused (transfers_full h) =
      let z = le-ltb (length f.transfers) room.transfers h in
      split (leb (length (named (named f.stops x.from) x.to)) room.stops) (λ w. rw (w, z)) (λ w. rw w)
