-- Boarding as the code does it, in both directions: what it read and tested, turned into a case of the model's `board`.
use Prim.Native.Nat.{ℕ, zero, suc, ◌<◌}
use mathlib.Core.Path.{◌≡◌, refl, sym, ap, ◌∙◌}
use mathlib.Core.Bool.{Bool, true, false, not, cond, true≢false}
use mathlib.Core.List.{List}
use native.Mathlib.Omega.{arith}
use lib.Dec.{leb, eqb}
use lib.ListN.{get_or}
use borrow.Author.Tests.{le-leb, eq-eqb, ne_eqb, eqb-true, eqb-false}
use Rattle.base.proofs.Choice.{split}
use Rattle.model.specs.declared.Direction.{Direction}
use Rattle.model.specs.declared.Direction.TheVariants.{Departure, Arrival}
use Rattle.model.specs.Moments.{MAX, or_max, reading}
use Rattle.std.specs.Prelude.{Option, Some, None}
use Rattle.model.specs.Rides.{Aboard, leave, catch, allows, boarded, board}
use Rattle.model.specs.Tables.{Net}
use Rattle.repository.specs.NetOf.{net_of}
use Rattle.discovery.specs.Trips.{trip_place}
use Rattle.allocator.specs.Layout.{view}
use Rattle.allocator.specs.Workspace.{state, prev}
use Rattle.allocator.specs.declared.Workspace.{Workspace}
use Rattle.explorer.specs.declared.Round.{Round}
use Rattle.explorer_rides.specs.declared.Call.{Call}
use Rattle.explorer_rides.specs.declared.Ride.{Ride}
use Rattle.explorer_rides.specs.Riding.{aboard, Seat, caught, OnRoute, board_at, leave_in}
use Rattle.explorer_rides.specs.declared.position.Seen.{Seen}
use Rattle.explorer_rides.specs.Looking.{meets, proposes_at, catches_at, look_at, rides_on}
use Rattle.explorer_rides.proofs.Seats.{seat_real, aboard_on, aboard_off}
use Rattle.explorer_rides.proofs.Catching.{board_absent}
use Rattle.explorer_rides.proofs.Times.{leave_is}

-- ---- a label
reading_is : (d : Direction) (x : ℕ) → (x ≡ 0 → ⊥) → reading d x ≡ x
unfolding reading or_max
reading_is Departure zero h = absurd (h refl)
reading_is Departure (suc x) h = refl
reading_is Arrival x h = refl

positive : (x : ℕ) → (x ≡ 0 → ⊥) → 0 < x
positive zero h = absurd (h refl)
positive (suc x) h = omega arith

module _ (d : Direction) (n : Net) (r p x : ℕ) (a : Option Aboard) (real : x ≡ 0 → ⊥) where
  stays : allows d n x p a ≡ false → a ≡ board_at d n r p x a
  unfolding board_at
  stays e = rw (reading_is d x real, e)

  goes : allows d n x p a ≡ true → boarded p a (catch d n r p x) ≡ board_at d n r p x a
  unfolding board_at
  goes e = rw (reading_is d x real, e)

-- ---- whether the label catches a trip
pub meets_departure : {d : Direction} (t x : ℕ) → d ≡ Departure → leb x t ≡ meets d t x
meets_departure t x e = rw e

pub meets_arrival : {d : Direction} (t x : ℕ) → d ≡ Arrival → leb t x ≡ meets d t x
meets_arrival t x e = rw e

module _ (d : Direction) (w : List ℕ) (here : Call) (a : Ride) where
  pub catches_absent : here.label.0 ≡ 0 → false ≡ catches_at d w here a
  unfolding catches_at
  catches_absent e = rw (eq-eqb here.label.0 0 e)

  catches_real : (here.label.0 ≡ 0 → ⊥) → catches_at d w here a ≡ allows d (net_of w) here.label.0 here.position (aboard a)
  unfolding catches_at
  catches_real e = rw (ne_eqb here.label.0 0 e)

  pub catches_on : {t : ℕ} {c : Bool} → OnRoute w here → Seat w here.route a → (here.label.0 ≡ 0 → ⊥)
      → t ≡ leave_in d w a.row here.position → c ≡ meets d t here.label.0 → c ≡ catches_at d w here a
  catches_on q s real et ec =
      ec
      ∙ rw (catches_real real, aboard_on a (seat_real q s))
      (go d (leave_is w a.trip here.position s.times d et))
    where
      go : (d : Direction) {t : ℕ} → t ≡ leave d (net_of w) a.trip here.position
          → meets d t here.label.0 ≡ allows d (net_of w) here.label.0 here.position (Some (record { trip = a.trip; since = a.since }))
      go Departure e = unfold allows leave in rw e
      go Arrival e = unfold allows leave in rw e

  pub catches_off : here.label.0 < 4_294_967_296 → a.place ≡ MAX → not (eqb here.label.0 0) ≡ catches_at d w here a
  unfolding catches_at allows
  catches_off l e = rw (aboard_off a e) (go (eqb here.label.0 0) d)
    where
      go : (b : Bool) (d : Direction) → not b ≡ cond b false (allows d (net_of w) here.label.0 here.position None)
      go true d = refl
      go false Departure = sym (le-leb here.label.0 MAX (omega arith))
      go false Arrival = refl

  module _ {c : Bool} (e : c ≡ catches_at d w here a) where
    pub catches_moment : c ≡ true → 0 < here.label.0
    catches_moment f =
        split (eqb here.label.0 0)
        (λ z. absurd (true≢false (sym f ∙ e ∙ sym (catches_absent (eqb-true here.label.0 0 z)))))
        (λ z. positive here.label.0 (eqb-false here.label.0 0 z))

    catches_allowed : c ≡ true → allows d (net_of w) here.label.0 here.position (aboard a) ≡ true
    catches_allowed f = sym (catches_real (λ z. let l = catches_moment f in omega (arith, z, l))) ∙ sym e ∙ f

    -- ---- the ride that goes on
    pub rides_on_stay : c ≡ false → a ≡ rides_on d w here a
    unfolding rides_on
    rides_on_stay f = rw (sym e ∙ f)

    pub rides_on_caught : {u : Ride} → c ≡ true
        → u ≡ caught w here.route here.position a (trip_place d (net_of w) here.route here.position here.label.0)
        → u ≡ rides_on d w here a
    unfolding rides_on
    rides_on_caught f g = g ∙ rw (sym e ∙ f)

    -- ---- that ride is the model's
    pub board_stay : OnRoute w here → c ≡ false
        → aboard a ≡ board_at d (net_of w) here.route here.position here.label.0 (aboard a)
    board_stay q f =
        split (eqb here.label.0 0)
        (λ z. board_absent d w here (aboard a) q (eqb-true here.label.0 0 z))
        (λ z.
        let real = eqb-false here.label.0 0 z in
        stays d (net_of w) here.route here.position here.label.0 (aboard a) real (sym (catches_real real) ∙ sym e ∙ f))

    pub board_on : {u : Option Aboard} → c ≡ true → u ≡ boarded here.position (aboard a) (catch d (net_of w) here.route here.position here.label.0)
        → u ≡ board_at d (net_of w) here.route here.position here.label.0 (aboard a)
    board_on f g =
        g
        ∙ goes d (net_of w) here.route here.position here.label.0 (aboard a)
        (λ z. let l = catches_moment f in omega (arith, z, l)) (catches_allowed f)

-- ---- both
module _ (d : Direction) (w : List ℕ) (target best : ℕ) (here : Call) (a : Ride) where
  pub look_on : {c b : Bool} → OnRoute w here → Seat w here.route a → c ≡ proposes_at d w target best here a → b ≡ catches_at d w here a
      → (k : Bool) → c ≡ k → record { proposes = k; catches = b } ≡ look_at d w target best here a
  unfolding look_at
  look_on q s e f k g = rw (ne_eqb a.place MAX (seat_real q s), ← e, g, f)

  pub look_off : {b : Bool} → a.place ≡ MAX → b ≡ catches_at d w here a → record { proposes = false; catches = b } ≡ look_at d w target best here a
  unfolding look_at
  look_off e f = rw (eq-eqb a.place MAX e, f)

  pub look_named : (e : Direction) {s : Seen} → d ≡ e → s ≡ look_at e w target best here a → s ≡ look_at d w target best here a
  look_named e f g = g ∙ rw f

  pub look_catches : {s : Seen} → s ≡ look_at d w target best here a → s.catches ≡ catches_at d w here a
  unfolding look_at
  look_catches e = ap (λ (y : Seen). y.catches) e

-- ---- the label that was read
pub board_is : (w : List ℕ) (round : Round) (here : Call) (space : Workspace) (a : Option Aboard) {e : Option Aboard} → OnRoute w here
    → here.label.0 ≡ get_or (prev space) here.stop 0
    → e ≡ board_at round.direction (net_of w) here.route here.position here.label.0 a
    → e ≡ board round.direction (net_of w) (state space).prev here.route here.position a
unfolding board board_at view
board_is w round here space a q ex f = f ∙ rw (ex, q.stop)
