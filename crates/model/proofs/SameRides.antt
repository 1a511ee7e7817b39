-- The rides of a round, over two networks that are the same as far as they exist.
use Prim.Native.Nat.{ℕ, zero, suc, ◌-◌, ◌<◌}
use mathlib.Core.Path.{◌≡◌, refl, ap, ◌∙◌}
use Rattle.std.specs.Prelude.{Option, Some, None}
use mathlib.Core.List.{List}
use native.Mathlib.Omega.{arith}
use native.Mathlib.Decide.{dec_lt}
use lib.ListN.{get_or}
use Rattle.base.proofs.Choice.{cond_elim}
use Rattle.base.specs.Each.{Each, nil, cons}
use Rattle.model.specs.declared.Direction.{Direction}
use Rattle.model.specs.declared.Direction.TheVariants.{Departure, Arrival}
use Rattle.model.specs.Tables.{Net}
use Rattle.model.specs.Lists.{upto, downto, gather, set_in}
use Rattle.model.specs.Moments.{reading}
use Rattle.model.specs.State.{Times}
use Rattle.model.specs.Rides.{Aboard, reach, leave, first_trip, last_trip, catch, allows, boarded, board, alight, scan, course, rides}
use Rattle.model.proofs.Rides.{upto_below, Caught, Of, just, caught}
use Rattle.model.specs.Same.{Same}

-- a trip of route r, and a position at which it was boarded
record Seat (n : Net) (r v b : ℕ) : Type 0 where
  place : ℕ
  within : place < n.trips r
  trip : v ≡ n.trip_at r place
  inside : b < n.positions r

data Seated (n : Net) (r : ℕ) : Option Aboard → Type 0 where
  none_yet : Seated n r None
  seated : {v b : ℕ} → Seat n r v b → Seated n r (Some (record { trip = v; since = b }))

board_seated : (d : Direction) (n : Net) (prev : List ℕ) (r p : ℕ) (a : Option Aboard) → p < n.positions r → Seated n r a
    → Seated n r (board d n prev r p a)
unfolding board boarded
board_seated d n prev r p a hp z =
    let x = reading d (get_or prev (n.stop_at r p) 0) in
    cond_elim (Seated n r) (allows d n x p a) _ _ (λ e. go (catch d n r p x) (caught n r p x d)) (λ e. z)
  where
    go : (o : Option ℕ) → Of (Caught d n r p (reading d (get_or prev (n.stop_at r p) 0))) o → Seated n r (boarded p a o)
    go None l = z
    go (Some v) (just c) = seated (record { place = c.place; within = c.trips; trip = c.trip; inside = hp })

downto_below : (p b : ℕ) → p < b → Each (λ i. i < b) (downto p)
unfolding downto
downto_below zero b h = cons h nil
downto_below (suc p) b h = cons h (downto_below p b (omega arith))

-- the positions that a scan goes through are the route's
course_below : (d : Direction) (n : Net) (r mark : ℕ) → (d ≡ Arrival → mark < n.positions r)
    → Each (λ p. p < n.positions r) (course d n r mark)
unfolding course upto
course_below Departure n r mark h =
    elim (dec_lt mark (n.positions r)) [
      | yes l ↦ upto_below (n.positions r - mark) mark (n.positions r) (omega arith)
      | no l ↦ let z : n.positions r - mark ≡ 0 = omega arith in rw z nil
    ]
course_below Arrival n r mark h = downto_below mark (n.positions r) (h refl)

pub gather_same : {A : Type 0} {Q : ℕ → Type 0} (f g : ℕ → List A) {is : List ℕ} → Each Q is → ((i : ℕ) → Q i → f i ≡ g i)
    → gather f is ≡ gather g is
unfolding gather
gather_same f g nil h = refl
gather_same f g (cons {x = i} q qs) h = rw (h i q, gather_same f g qs h)

module _ {n m : Net} (e : Same n m) where
  -- the moments of a trip of route r
  module _ {r i v : ℕ} (hr : r < n.routes) (hi : i < n.trips r) (ev : v ≡ n.trip_at r i) where
    arrival_same : (p : ℕ) → p < n.positions r → n.arrival v p ≡ m.arrival v p
    arrival_same p hp = rw ev (e.arrival r i p hr hi hp)

    departure_same : (p : ℕ) → p < n.positions r → n.departure v p ≡ m.departure v p
    departure_same p hp = rw ev (e.departure r i p hr hi hp)

    reach_same : (d : Direction) (p : ℕ) → p < n.positions r → reach d n v p ≡ reach d m v p
    unfolding reach
    reach_same Departure p hp = arrival_same p hp
    reach_same Arrival p hp = departure_same p hp

    leave_same : (d : Direction) (p : ℕ) → p < n.positions r → leave d n v p ≡ leave d m v p
    unfolding leave
    leave_same Departure p hp = departure_same p hp
    leave_same Arrival p hp = arrival_same p hp

  module _ (r p x : ℕ) (hr : r < n.routes) (hp : p < n.positions r) where
    met : (i : ℕ) → i < n.trips r → n.arrival (n.trip_at r i) p ≡ m.arrival (m.trip_at r i) p
    met i h = e.arrival r i p hr h hp ∙ ap (λ (v : ℕ). m.arrival v p) (e.trip_at_lem r i hr h)

    first_same : {is : List ℕ} → Each (λ i. i < n.trips r) is → first_trip n r p x is ≡ first_trip m r p x is
    unfolding first_trip
    first_same nil = refl
    first_same (cons {x = i} h hs) = rw (met i h, e.trip_at_lem r i hr h, first_same hs)

    last_same : {is : List ℕ} (o : Option ℕ) → Each (λ i. i < n.trips r) is → last_trip n r p x is o ≡ last_trip m r p x is o
    unfolding last_trip
    last_same o nil = refl
    last_same o (cons {x = i} h hs) = rw (met i h, e.trip_at_lem r i hr h) (last_same _ hs)

    catch_same : (d : Direction) → catch d n r p x ≡ catch d m r p x
    unfolding catch
    catch_same Departure =
        first_same (upto_below (n.trips r) 0 (n.trips r) (omega arith))
        ∙ ap (λ (k : ℕ). first_trip m r p x (upto k 0)) (e.trips r hr)
    catch_same Arrival =
        last_same None (upto_below (n.trips r) 0 (n.trips r) (omega arith))
        ∙ ap (λ (k : ℕ). last_trip m r p x (upto k 0) None) (e.trips r hr)

    allows_same : (d : Direction) {a : Option Aboard} → Seated n r a → allows d n x p a ≡ allows d m x p a
    unfolding allows
    allows_same Departure none_yet = refl
    allows_same Departure (seated z) = rw (departure_same hr z.within z.trip p hp)
    allows_same Arrival none_yet = refl
    allows_same Arrival (seated z) = rw (arrival_same hr z.within z.trip p hp)

  module _ (d : Direction) (t : Times) (r : ℕ) (hr : r < n.routes) where
    board_same : (p : ℕ) → p < n.positions r → {a : Option Aboard} → Seated n r a
        → board d n t.prev r p a ≡ board d m t.prev r p a
    unfolding board
    board_same p hp {a} z =
        let x = reading d (get_or t.prev (m.stop_at r p) 0) in
        rw (e.stop_at_lem r p hr hp, allows_same r p x hr hp d z, catch_same r p x hr hp d)

    alight_same : (p : ℕ) → p < n.positions r → {a : Option Aboard} → Seated n r a → alight d n t r p a ≡ alight d m t r p a
    unfolding alight
    alight_same p hp none_yet = refl
    alight_same p hp (seated {v} {b} z) =
        rw (
          e.stop_at_lem r p hr hp,
          e.stop_at_lem r b hr z.inside,
          reach_same hr z.within z.trip d p hp,
          leave_same hr z.within z.trip d b z.inside,
        )

    scan_same : {ps : List ℕ} (a : Option Aboard) → Each (λ p. p < n.positions r) ps → Seated n r a
        → scan d n t r ps a ≡ scan d m t r ps a
    unfolding scan
    scan_same a nil z = refl
    scan_same a (cons {x = p} {xs = ps} hp hs) z =
        rw (alight_same p hp z, scan_same (board d n t.prev r p a) hs (board_seated d n t.prev r p a hp z), board_same p hp z)

    course_same : (mark : ℕ) → course d n r mark ≡ course d m r mark
    unfolding course
    course_same mark = go d
      where
        go : (c : Direction) → course c n r mark ≡ course c m r mark
        go Departure = rw (e.positions r hr)
        go Arrival = refl

    route_same : (mark : ℕ) → (d ≡ Arrival → mark < n.positions r)
        → scan d n t r (course d n r mark) None ≡ scan d m t r (course d m r mark) None
    route_same mark h =
        scan_same None (course_below d n r mark h) none_yet ∙ ap (λ (ps : List ℕ). scan d m t r ps None) (course_same mark)

  -- the rides of a round whose chosen routes exist
  pub rides_same : (d : Direction) (t : Times)
      → Each (λ r. (r < n.routes) × (d ≡ Arrival → get_or t.active r 0 < n.positions r)) (set_in 0 t.mask)
      → rides d n t ≡ rides d m t
  unfolding rides
  rides_same d t h =
      gather_same (λ r. scan d n t r (course d n r (get_or t.active r 0)) None) (λ r. scan d m t r (course d m r (get_or t.active r 0)) None) h
      (λ r z. route_same d t r z.0 (get_or t.active r 0) z.1)
