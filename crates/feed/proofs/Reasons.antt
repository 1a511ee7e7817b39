-- Why a line is refused: each refusal has one of the reasons that are listed.
-- Assumes nothing.
use Prim.Native.Nat.{ℕ, suc, ◌-◌, ◌≤◌, ◌<◌}
use mathlib.Core.Path.{◌≡◌, refl, sym, ap, ◌∙◌}
use mathlib.Core.Bool.{true, false, cond, ◌&&◌, true≢false, false≢true}
use Rattle.std.specs.Prelude.{None, Some}
use mathlib.Core.List.{List, [], ◌∷◌, ◌++◌, nil≢cons}
use native.Mathlib.Omega.{arith}
use lib.Dec.{ltb, leb, eqb}
use lib.ListN.{length, get_or, length-append, get_or-append}
use lib.Seq.{get_or-append_seam}
use borrow.Author.Tests.{ltb-true, ltb-false, leb-false, eqb-true, eqb-false, lt-ltb}
use Rattle.base.proofs.Choice.{split, and_left, and_right}
use Rattle.csv_text.specs.Texts.{same_text}
use Rattle.csv_text.specs.Fields.{fields}
use Rattle.numbers.specs.Decimal.{decimal}
use Rattle.numbers.specs.Clock.{clock}
use Rattle.csv_text.proofs.Texts.{same_text_lem}
use Rattle.csv_text.proofs.Texts.{same_refl}
use Rattle.feed.specs.declared.Room.{Room}
use Rattle.feed.specs.declared.TimesColumns.{TimesColumns}
use Rattle.feed.specs.declared.TransferColumns.{TransferColumns}
use Rattle.feed.specs.Feed.{Feed, named}
use Rattle.feed.specs.Times.{TimeLine, is_id, time_values, time_line, kept, bad, out_of_room, entered, is_last, take_time}
use Rattle.feed.specs.Transfers.{TransferLine, UNSTATED, kind_of, span_of, transfer_values, transfer_line, take_transfer}
use Rattle.feed.specs.Held.{Unnamed, InRoom}
use Rattle.feed.specs.Refused.{BadTime, InOrder, goes_on, begins, NoTimeRoom, trips_full, stops_full, times_full}
use Rattle.feed.specs.Refused.{BadTransfer, NoTransferRoom, from_full, to_full, both_full, transfers_full}
use Rattle.feed.proofs.IfThere.{none_some, some_is, there, not_there, tested}
use Rattle.feed.proofs.Naming.{named_either, is_named_new, is_named_at}
use Rattle.feed.proofs.Valued.{time_fields}
use Rattle.feed.proofs.Taking.{take_cases, with_time}

no_id : (t : List ℕ) → is_id t ≡ false → t ≡ []
unfolding is_id
no_id [] e = refl
no_id (x ∷ t) e = absurd (true≢false e)

-- ---- stop_times.txt: its form
module _ (c : TimesColumns) (f : Feed) (q : ℕ) (l : List ℕ) where
  module _ (ts : List (List ℕ)) (s : fields l ≡ Some ts) where
    values_bad : time_values c ts ≡ None → BadTime c f q l
    unfolding time_values
    values_bad e =
        let A = eqb (length ts) c.count in
        let B = is_id (get_or ts c.trip []) in
        let D = is_id (get_or ts c.stop []) in
        split A
        (λ u.
        split B
        (λ v.
        split D
        (λ w.
        not_there (clock (get_or ts c.arrival [])) _ (rw (u, v, w) at e)
        (λ n. BadTime.no_arrival s n)
        (λ a m g.
        not_there (clock (get_or ts c.departure [])) _ g
        (λ n. BadTime.no_departure s n)
        (λ d n h. not_there (decimal (get_or ts c.sequence [])) _ h (λ n. BadTime.no_sequence s n) (λ z o k. none_some (sym k)))))
        (λ w. BadTime.no_stop s (no_id (get_or ts c.stop []) w)))
        (λ v. BadTime.no_trip s (no_id (get_or ts c.trip []) v)))
        (λ u. BadTime.other_count s (eqb-false (length ts) c.count u))

  pub form_bad : time_line c l ≡ None → BadTime c f q l
  unfolding time_line
  form_bad e = not_there (fields l) (time_values c) e (λ n. BadTime.wrong_fields n) (λ ts s v. values_bad ts s v)

-- ---- its order
module _ (trips : List (List ℕ)) (t : List ℕ) where
  pub last_some : is_last trips t ≡ true → length trips ≡ suc (length trips - 1)
  unfolding is_last
  last_some e =
      let h = ltb-true 0 (length trips) (and_left (ltb 0 (length trips)) (same_text t (get_or trips (length trips - 1) [])) e) in
      omega arith

  pub last_at : is_last trips t ≡ true → get_or trips (length trips - 1) [] ≡ t
  unfolding is_last
  last_at e = sym (same_text_lem t (get_or trips (length trips - 1) []) (and_right (ltb 0 (length trips)) (same_text t (get_or trips (length trips - 1) [])) e))

  pub is_last_lem : {n : ℕ} → length trips ≡ suc n → get_or trips n [] ≡ t → is_last trips t ≡ true
  unfolding is_last
  is_last_lem {n} e h =
      let z : length trips - 1 ≡ n = omega arith in
      rw (lt-ltb 0 (length trips) (omega arith), z, h) (same_refl t)

module _ (room : Room) (x : TimeLine) (trips : List (List ℕ)) (f : Feed) {C : Type 0} where
  entered_not_bad : entered room x trips f ≡ bad → C
  unfolding entered
  entered_not_bad m =
      split (leb (length trips) room.trips && leb (length (named f.stops x.stop)) room.stops && ltb (length f.times) room.times)
      (λ v. let y : kept (with_time room x trips f) ≡ bad = rw v at m in let z : ◌≡◌ {A = ℕ} 0 1 = cc in absurd (omega arith))
      (λ v. let y : out_of_room ≡ bad = rw v at m in let z : ◌≡◌ {A = ℕ} 0 1 = cc in absurd (omega arith))

  entered_full : entered room x trips f ≡ out_of_room → (room.trips < length trips → C) → (room.stops < length (named f.stops x.stop) → C)
      → (room.times ≤ length f.times → C) → C
  unfolding entered
  entered_full m a b d =
      let A = leb (length trips) room.trips in
      let B = leb (length (named f.stops x.stop)) room.stops in
      let D = ltb (length f.times) room.times in
      split A
      (λ u.
      split B
      (λ v.
      split D
      (λ w. let y : kept (with_time room x trips f) ≡ out_of_room = rw (u, v, w) at m in let z : ◌≡◌ {A = ℕ} 0 1 = cc in absurd (omega arith))
      (λ w. d (ltb-false (length f.times) room.times w)))
      (λ v. b (leb-false (length (named f.stops x.stop)) room.stops v)))
      (λ u. a (leb-false (length trips) room.trips u))

module _ (c : TimesColumns) (room : Room) (f : Feed) (q : ℕ) (l : List ℕ) {x : TimeLine} (e : time_line c l ≡ Some x) where
  pub order_bad : take_time room x f q ≡ bad → BadTime c f q l
  order_bad k =
      let z = time_fields c l e in
      take_cases room x f q k
      (λ v w m. entered_not_bad room x f.trips f m)
      (λ v w m.
      BadTime.not_rising z.are (last_some f.trips x.trip v) (last_at f.trips x.trip v ∙ sym z.trip) z.sequence
      (ltb-false q x.sequence w))
      (λ v w m. entered_not_bad room x (f.trips ++ (x.trip ∷ [])) f m)
      (λ v w m.
      let at = is_named_at f.trips x.trip w in
      split (ltb (suc at.0) (length f.trips))
      (λ u. BadTime.comes_back z.are (ltb-true (suc at.0) (length f.trips) u) (at.2 ∙ sym z.trip))
      (λ u.
      let n : length f.trips ≡ suc at.0 = omega (arith, ltb-false (suc at.0) (length f.trips) u, at.1) in
      absurd (false≢true (sym v ∙ is_last_lem f.trips x.trip n at.2))))

-- ---- its room
module _ (room : Room) (f : Feed) (q : ℕ) (x : TimeLine) (r : InRoom room f) where
  stop_full : room.stops < length (named f.stops x.stop) → NoTimeRoom room f x
  stop_full h =
      named_either f.stops x.stop
      (λ e. let z : room.stops < length f.stops = rw e at h in absurd (omega (arith, r.stops)))
      (λ u e. stops_full u (let z = rw e at h in omega (arith, z, length-append f.stops (x.stop ∷ []))))

  pub room_order : take_time room x f q ≡ out_of_room → InOrder f q x
  room_order k =
      take_cases room x f q k
      (λ v w m. goes_on (last_some f.trips x.trip v) (last_at f.trips x.trip v) (ltb-true q x.sequence w))
      (λ v w m. let z : ◌≡◌ {A = ℕ} 0 1 = cc in absurd (omega arith))
      (λ v w m. begins (is_named_new f.trips x.trip w))
      (λ v w m. let z : ◌≡◌ {A = ℕ} 0 1 = cc in absurd (omega arith))

  pub room_full : take_time room x f q ≡ out_of_room → NoTimeRoom room f x
  room_full k =
      take_cases room x f q k
      (λ v w m. entered_full room x f.trips f m (λ h. absurd (omega (arith, r.trips))) stop_full times_full)
      (λ v w m. let z : ◌≡◌ {A = ℕ} 0 1 = cc in absurd (omega arith))
      (λ v w m.
      entered_full room x (f.trips ++ (x.trip ∷ [])) f m
      (λ h. trips_full (is_named_new f.trips x.trip w) (omega (arith, length-append f.trips (x.trip ∷ []))))
      stop_full times_full)
      (λ v w m. let z : ◌≡◌ {A = ℕ} 0 1 = cc in absurd (omega arith))

-- ---- transfers.txt: its form
kind_two : (t : List ℕ) → kind_of t ≡ Some 2 → decimal t ≡ Some 2
unfolding kind_of
kind_two [] e = let z = some_is e in absurd (omega arith)
kind_two (y ∷ t) e =
    let z = there (decimal (y ∷ t)) (λ k. cond (leb k 5) (Some k) None) e in
    let w = tested (leb z.0 5) (Some z.0) z.2 in
    z.1 ∙ w.1

module _ (c : TransferColumns) (l : List ℕ) where
  module _ (ts : List (List ℕ)) (s : fields l ≡ Some ts) where
    kind_bad : (t : List ℕ) → t ≡ get_or ts c.kind [] → kind_of t ≡ None → BadTransfer c l
    unfolding kind_of
    kind_bad [] q e = none_some (sym e)
    kind_bad (y ∷ t) q e =
        not_there (decimal (y ∷ t)) (λ k. cond (leb k 5) (Some k) None) e
        (λ n. BadTransfer.no_type s (λ z. nil≢cons (sym (q ∙ z))) (ap decimal (sym q) ∙ n))
        (λ k n h.
        split (leb k 5)
        (λ v. none_some (sym (rw v at h)))
        (λ v. BadTransfer.other_type s (ap decimal (sym q) ∙ n) (leb-false k 5 v)))

    span_bad : (k : ℕ) → kind_of (get_or ts c.kind []) ≡ Some k → span_of k (get_or ts c.span []) ≡ None → BadTransfer c l
    unfolding span_of
    span_bad k h e =
        split (eqb k 2)
        (λ v.
        let two : decimal (get_or ts c.kind []) ≡ Some 2 = kind_two (get_or ts c.kind []) (h ∙ ap Some (eqb-true k 2 v)) in
        not_there (decimal (get_or ts c.span [])) (λ x. cond (ltb x UNSTATED) (Some x) None) (rw v at e)
        (λ n. BadTransfer.no_span s two n)
        (λ x n g.
        split (ltb x UNSTATED)
        (λ w. none_some (sym (rw w at g)))
        (λ w. BadTransfer.long_span s two n (ltb-false x UNSTATED w))))
        (λ v. none_some (sym (rw v at e)))

    transfer_values_bad : transfer_values c ts ≡ None → BadTransfer c l
    unfolding transfer_values
    transfer_values_bad e =
        let A = eqb (length ts) c.count in
        let B = is_id (get_or ts c.from []) in
        let D = is_id (get_or ts c.to []) in
        split A
        (λ u.
        split B
        (λ v.
        split D
        (λ w.
        not_there (kind_of (get_or ts c.kind [])) _ (rw (u, v, w) at e)
        (λ n. kind_bad (get_or ts c.kind []) refl n)
        (λ k m g. not_there (span_of k (get_or ts c.span [])) _ g (λ n. span_bad k m n) (λ z o h. none_some (sym h))))
        (λ w. BadTransfer.no_to s (no_id (get_or ts c.to []) w)))
        (λ v. BadTransfer.no_from s (no_id (get_or ts c.from []) v)))
        (λ u. BadTransfer.other_count s (eqb-false (length ts) c.count u))

  pub transfer_form_bad : transfer_line c l ≡ None → BadTransfer c l
  unfolding transfer_line
  transfer_form_bad e = not_there (fields l) (transfer_values c) e (λ n. BadTransfer.wrong_fields n) (λ ts s v. transfer_values_bad ts s v)

-- ---- its room
-- a name that is new behind another is new before it, and is not the other
new_before : (names : List (List ℕ)) (t u : List ℕ) → Unnamed (names ++ (t ∷ [])) u → Unnamed names u
new_before names t u n = record {
  nowhere = λ i h e. n.nowhere i (omega (arith, length-append names (t ∷ []))) (get_or-append names (t ∷ []) [] i h ∙ e);
}

new_other : (names : List (List ℕ)) (t u : List ℕ) → Unnamed (names ++ (t ∷ [])) u → t ≡ u → ⊥
new_other names t u n e = n.nowhere (length names) (omega (arith, length-append names (t ∷ []))) (get_or-append_seam names t [] [] ∙ e)

module _ (room : Room) (f : Feed) (x : TransferLine) (r : InRoom room f) where
  ends_full : room.stops < length (named (named f.stops x.from) x.to) → NoTransferRoom room f x
  ends_full h =
      named_either f.stops x.from
      (λ e.
      let h₁ : room.stops < length (named f.stops x.to) = rw e at h in
      named_either f.stops x.to
      (λ g. let z : room.stops < length f.stops = rw g at h₁ in absurd (omega (arith, r.stops)))
      (λ u g. to_full u (let z = rw g at h₁ in omega (arith, z, length-append f.stops (x.to ∷ [])))))
      (λ u e.
      let more = f.stops ++ (x.from ∷ []) in
      let n = length-append f.stops (x.from ∷ []) in
      let h₁ : room.stops < length (named more x.to) = rw e at h in
      named_either more x.to
      (λ g. from_full u (let z = rw g at h₁ in omega (arith, z, n)))
      (λ v g.
      both_full u (new_before f.stops x.from x.to v) (new_other f.stops x.from x.to v)
      (let z = rw g at h₁ in omega (arith, z, n, length-append more (x.to ∷ [])))))

  pub transfer_room_full : take_transfer room x f ≡ None → NoTransferRoom room f x
  unfolding take_transfer
  transfer_room_full e =
      let A = leb (length (named (named f.stops x.from) x.to)) room.stops in
      let B = ltb (length f.transfers) room.transfers in
      split A
      (λ v.
      split B
      (λ w. none_some (sym (rw (v, w) at e)))
      (λ w. transfers_full (ltb-false (length f.transfers) room.transfers w)))
      (λ v. ends_full (leb-false (length (named (named f.stops x.from) x.to)) room.stops v))
