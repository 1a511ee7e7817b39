-- The three lengths, as words.
use Prim.Native.Nat.{ℕ, zero, suc, ◌≤◌, ◌<◌}
use mathlib.Core.Path.{◌≡◌, refl, sym, ap, ◌∙◌}
use mathlib.Core.List.{List, ◌∷◌}
use native.Mathlib.Omega.{arith}
use Rattle.std.specs.Prelude.{Result, Ok, Err}
use lib.ListN.{length, drop}
use borrow.Author.Tests.{eq-eqb, ne_eqb, le-leb, lt-leb}
use Rattle.model.specs.declared.Refusal.{Refusal}
use Rattle.model.specs.Refusal.{refusal_number, refusal_of}
use Rattle.model.proofs.Refusals.{number_range, number-refusal_of}
use Rattle.repository.specs.Checked.{check_of}
use Rattle.repository.specs.NetOf.{net_of}
use Rattle.repository.proofs.Ranges.{stops_few, routes_few}
use Rattle.check_tables.proofs.Whole.{accepted_is, check_most}
use Rattle.raptor.specs.declared.Lengths.{Lengths}
use Rattle.raptor.specs.Rooms.{lengths_of, room_by, room_of}
use Rattle.kiosk_c.specs.Face.{room_number, room_left}

module _ (w : List ℕ) {r : Result Lengths Refusal} (e : r ≡ room_of w) where
  module _ {l : Lengths} (f : r ≡ Ok l) where
    -- what `room` says of tables
    told : (check_of w ≡ 0) × (l ≡ lengths_of (net_of w).stops (net_of w).routes)
    unfolding room_of room_by
    told = go (check_of w) refl
      where
        go : (k : ℕ) → check_of w ≡ k → (check_of w ≡ 0) × (l ≡ lengths_of (net_of w).stops (net_of w).routes)
        go zero g = let z : Ok l ≡ room_by (net_of w) 0 = sym f ∙ e ∙ ap (room_by (net_of w)) g in (g, cc)
        go (suc k) g =
            let z : Ok l ≡ room_by (net_of w) (suc k) = sym f ∙ e ∙ ap (room_by (net_of w)) g in
            let y : ◌≡◌ {A = ℕ} 0 1 = cc in absurd (omega arith)

    few : (l.words < 4_294_967_296) × (l.marks < 4_294_967_296) × (l.places < 4_294_967_296)
    few =
        let h = (accepted_is w).0 told.0 in
        let s = stops_few h.laid in
        let m = routes_few h.laid in
        let words = ap (λ (x : Lengths). x.words) told.1 in
        let marks = ap (λ (x : Lengths). x.marks) told.1 in
        let places = ap (λ (x : Lengths). x.places) told.1 in
        (omega arith, omega arith, omega arith)

    pub words_few : l.words < 4_294_967_296
    words_few = few.0

    pub marks_few : l.marks < 4_294_967_296
    marks_few = few.1

    pub places_few : l.places < 4_294_967_296
    places_few = few.2

    module _ (room : List ℕ) where
      pub no_room : length room < 3 → 6 ≡ room_number w room
      unfolding room_number
      no_room h = rw (eq-eqb (check_of w) 0 told.0, lt-leb 3 (length room) h)

      pub no_room_left : length room < 3 → room ≡ room_left w room
      unfolding room_left
      no_room_left h = rw (← (no_room h))

      pub room_number_lem : 3 ≤ length room → 0 ≡ room_number w room
      unfolding room_number
      room_number_lem h = rw (eq-eqb (check_of w) 0 told.0, le-leb 3 (length room) h)

      pub room_left_lem : 3 ≤ length room → l.words ∷ l.marks ∷ l.places ∷ drop 3 room ≡ room_left w room
      unfolding room_left
      room_left_lem h = rw (← (room_number_lem h), told.1)

  module _ {x : Refusal} (f : r ≡ Err x) (room : List ℕ) where
    number : refusal_number x ≡ check_of w
    unfolding room_of room_by
    number = go (check_of w) refl
      where
        go : (k : ℕ) → check_of w ≡ k → refusal_number x ≡ check_of w
        go zero g =
            let z : Err x ≡ room_by (net_of w) 0 = sym f ∙ e ∙ ap (room_by (net_of w)) g in
            let y : ◌≡◌ {A = ℕ} 0 1 = cc in absurd (omega arith)
        go (suc k) g =
            let z : Err x ≡ room_by (net_of w) (suc k) = sym f ∙ e ∙ ap (room_by (net_of w)) g in
            let y : x ≡ refusal_of (suc k) = cc in
            ap refusal_number y ∙ number-refusal_of (suc k) (omega arith) (omega (arith, g, check_most w)) ∙ sym g

    some : check_of w ≡ 0 → ⊥
    some g = omega (arith, g, number, (number_range x).0)

    pub refused_number : {k : ℕ} → k ≡ refusal_number x → k ≡ room_number w room
    unfolding room_number
    refused_number h = rw (ne_eqb (check_of w) 0 some) (h ∙ number)

    pub refused_left : room ≡ room_left w room
    unfolding room_left
    refused_left = rw (ne_eqb (room_number w room) 0 (λ g. some (sym number ∙ refused_number refl ∙ g)))
