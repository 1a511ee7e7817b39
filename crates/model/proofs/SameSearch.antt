-- A search reads of a network only what exists: over two networks that are the same as far as they exist every search, in every order,
-- goes through the same states and ends in the same one.
use Prim.Native.Nat.{ℕ, zero, suc, ◌<◌}
use mathlib.Core.Path.{◌≡◌, refl, sym, ap, ◌∙◌}
use mathlib.Core.Bool.{Bool, true, false}
use Rattle.std.specs.Prelude.{Option}
use mathlib.Core.List.{List, [], ◌∷◌, Memᴰ}
use native.Mathlib.Omega.{arith}
use native.Mathlib.Nat.{zero-add}
use lib.ListN.{length, replicate}
use Rattle.base.specs.Each.{Each, nil, cons}
use Rattle.model.specs.declared.Direction.{Direction}
use Rattle.model.specs.declared.Direction.TheVariants.{Departure, Arrival}
use Rattle.model.specs.declared.Leg.{Leg}
use Rattle.model.specs.declared.Mode.{Mode}
use Rattle.model.specs.declared.Mode.TheVariants.{Source, Rescan}
use Rattle.model.specs.Tables.{Net}
use Rattle.model.specs.Limits.{MOST_ROUNDS}
use Rattle.model.specs.Lists.{upto, set_in, any_of}
use Rattle.model.specs.State.{Task, Labels, Times, State}
use Rattle.model.specs.Choosing.{Chosen, first_position, fresh, refilled, choose1, choose_at, choose}
use Rattle.model.specs.Footpaths.{footpaths}
use Rattle.model.specs.Rides.{rides}
use Rattle.model.specs.Round.{Order, picks, opened, ride_half, foot_half, ridden, footed, aimed, round_times, ridden_parents, round_parents, round}
use Rattle.model.specs.Search.{starting, begun, ended, loop, search}
use Rattle.model.specs.Back.{trace, journey}
use Rattle.model.specs.Sound.{Sound}
use Rattle.model.proofs.Rides.{upto_below}
use Rattle.model.proofs.Choosing.{RouteMarks, picks_fit, picks_each, fresh_marks, set_in_each}
use Rattle.model.proofs.Orders.{Whole, ridden_whole, round_whole, begun_whole, loop_goes, loop_stops}
use Rattle.model.specs.Same.{Same}
use Rattle.model.proofs.SameRides.{gather_same, rides_same}

each_of : {A : Type 0} {Q : A → Type 0} (xs : List A) → ((x : A) → Memᴰ x xs → Q x) → Each Q xs
each_of [] h = nil
each_of (x ∷ xs) h = cons (h x (Memᴰ.head refl)) (each_of xs (λ y i. h y (Memᴰ.tail i)))

-- the stops that are marked exist
marked_in : (stops : ℕ) (bs : List Bool) → length bs ≡ stops → Each (λ s. s < stops) (set_in 0 bs)
marked_in stops bs z = set_in_each (λ s. s < stops) 0 bs (λ j h e. rw zero-add (omega arith))

module _ {n m : Net} (e : Same n m) (ok : Sound n) where
  -- choosing
  position_same : (r s : ℕ) → r < n.routes → {ps : List ℕ} → Each (λ p. p < n.positions r) ps → first_position n r s ps ≡ first_position m r s ps
  unfolding first_position
  position_same r s hr nil = refl
  position_same r s hr (cons {x = p} h hs) = rw (e.stop_at_lem r p hr h, position_same r s hr hs)

  at_same : (d : Direction) (s : ℕ) {rs : List ℕ} (c : Chosen) → Each (λ r. r < n.routes) rs → choose_at d n s rs c ≡ choose_at d m s rs c
  unfolding choose_at
  at_same d s c nil = refl
  at_same d s c (cons {x = r} {xs = rs} hr hs) =
      let same : first_position n r s (upto (n.positions r) 0) ≡ first_position m r s (upto (m.positions r) 0) =
      position_same r s hr (upto_below (n.positions r) 0 (n.positions r) (omega arith))
      ∙ ap (λ (k : ℕ). first_position m r s (upto k 0)) (e.positions r hr) in
      rw same (at_same d s (choose1 d r (first_position m r s (upto (m.positions r) 0)) c) hs)

  choose_same : (d : Direction) {ss : List ℕ} (c : Chosen) → Each (λ s. s < n.stops) ss → choose d n ss c ≡ choose d m ss c
  unfolding choose
  choose_same d c nil = refl
  choose_same d c (cons {x = s} {xs = ss} hs more) =
      choose_same d (choose_at d n s (n.routes_of s) c) more
      ∙ ap (choose d m ss) (at_same d s c (each_of (n.routes_of s) (λ r i. ok.routes_in s r hs i))
      ∙ ap (λ (rs : List ℕ). choose_at d m s rs c) (e.routes_of_lem s hs))

  fresh_same : (d : Direction) → fresh d n ≡ fresh d m
  unfolding fresh
  fresh_same Departure = rw e.routes
  fresh_same Arrival = rw e.routes

  refilled_same : (mode : Mode) (d : Direction) (active : List ℕ) → refilled mode d n active ≡ refilled mode d m active
  unfolding refilled
  refilled_same Source d active = refl
  refilled_same Rescan d active = fresh_same d

  module _ (q : Task) where
    picks_same : (t : Times) → length t.labels.mark ≡ n.stops → picks n q t ≡ picks m q t
    unfolding picks
    picks_same t z =
        choose_same q.direction _ (marked_in n.stops t.labels.mark z)
        ∙ ap (choose q.direction m (set_in 0 t.labels.mark))
        (λ i. record {
          active = refilled_same q.mode q.direction t.active i;
          mask = replicate (e.routes i) false;
        })

    opened_same : (t : Times) → length t.labels.mark ≡ n.stops → opened n q t ≡ opened m q t
    unfolding opened
    opened_same t z = λ i. record {
      prev = t.labels.curr;
      labels = record { curr = replicate (e.stops i) 0; best = t.labels.best; mark = replicate (e.stops i) false };
      held = t.held;
      held_mark = t.held_mark;
      active = (picks_same t z i).active;
      mask = (picks_same t z i).mask;
      target = t.target;
    }

    -- footpaths
    foot_same : (t : Times) → length t.labels.mark ≡ n.stops → foot_half n q t ≡ foot_half m q t
    unfolding foot_half footpaths
    foot_same t z = gather_same _ _ (marked_in n.stops t.labels.mark z) (λ s h. rw (e.transfers s h, e.walks s h))

    -- a round
    module _ (o : Order) (k : ℕ) (t : Times) (z : Whole n q t) (routed : RouteMarks q.direction n t.active) where
      ride_same : ride_half n q t ≡ ride_half m q t
      unfolding ride_half opened
      ride_same =
          rides_same e q.direction (opened n q t) (picks_each n q t routed) ∙ ap (rides q.direction m) (opened_same t z.marks)

      ridden_same : ridden n q o k t ≡ ridden m q o k t
      unfolding ridden
      ridden_same = rw (ride_same, opened_same t z.marks)

      footed_same : footed n q o k (ridden n q o k t) ≡ footed m q o k (ridden m q o k t)
      unfolding footed
      footed_same =
          let marks = (ridden_whole n q o k t z).marks in
          rw (foot_same (ridden n q o k t) marks, ridden_same)

      times_same : round_times n q o k t ≡ round_times m q o k t
      unfolding round_times aimed
      times_same = rw footed_same

      parents_same : (w : List (Option Leg)) → round_parents n q o k t w ≡ round_parents m q o k t w
      unfolding round_parents ridden_parents
      parents_same w =
          let marks = (ridden_whole n q o k t z).marks in
          rw (foot_same (ridden n q o k t) marks, ridden_same, ride_same, opened_same t z.marks, e.stops)

    round_same : (o : Order) (k : ℕ) (s : State) → Whole n q s.times → RouteMarks q.direction n s.times.active
        → round n q o k s ≡ round m q o k s
    unfolding round
    round_same o k s z routed = λ i. record {
      times = times_same o k s.times z routed i;
      parents = parents_same o k s.times z routed s.parents i;
    }

    round_routed : (o : Order) (k : ℕ) (s : State) → RouteMarks q.direction n s.times.active
        → RouteMarks q.direction n (round n q o k s).times.active
    unfolding round round_times aimed footed ridden opened
    round_routed o k s routed = (picks_fit n q s.times routed).marks

    -- the loop
    whole_round : (o : Order) (k : ℕ) (s : State) → Whole n q s.times → Whole n q (round n q o k s).times
    unfolding round
    whole_round o k s z = round_whole n q o k s.times z

    ended_same : (s : State) → ended n q s ≡ ended m q s
    unfolding ended
    ended_same s = rw e.stops

    loop_same : (o : Order) (left k : ℕ) (s : State) → Whole n q s.times → RouteMarks q.direction n s.times.active
        → loop n q o left k s ≡ loop m q o left k s
    unfolding loop
    loop_same o zero k s z routed = refl
    loop_same o (suc left) k s z routed =
        go (any_of s.times.labels.mark) refl
        (loop_same o left (suc k) (round n q o k s) (whole_round o k s z) (round_routed o k s routed))
      where
        go : (b : Bool) → any_of s.times.labels.mark ≡ b
            → loop n q o left (suc k) (round n q o k s) ≡ loop m q o left (suc k) (round n q o k s)
            → loop n q o (suc left) k s ≡ loop m q o (suc left) k s
        go true a ih =
            loop_goes n q o left k s a ∙ ih ∙ ap (loop m q o left (suc k)) (round_same o k s z routed) ∙ sym (loop_goes m q o left k s a)
        go false a ih = loop_stops n q o left k s a ∙ ended_same s ∙ sym (loop_stops m q o left k s a)

    starting_same : (ss : List ℕ) (l : Labels) → starting n q ss l ≡ starting m q ss l
    unfolding starting
    starting_same [] l = refl
    starting_same (s ∷ ss) l = starting_same ss _

    begun_same : begun n q ≡ begun m q
    unfolding begun
    begun_same = rw (starting_same q.starts _, fresh_same q.direction, e.stops, e.routes)

    begun_routed : RouteMarks q.direction n (begun n q).times.active
    unfolding begun
    begun_routed = fresh_marks n q.direction

    -- every search, in every order: the same labels, marks, route marks, target and parents
    pub search_same : (o : Order) → search n q o ≡ search m q o
    unfolding search
    search_same o = loop_same o MOST_ROUNDS 0 (begun n q) begun_whole' begun_routed ∙ ap (loop m q o MOST_ROUNDS 0) begun_same
      where
        begun_whole' : Whole n q (begun n q).times
        begun_whole' = begun_whole n q

    pub journey_same : (s : State) → journey n q s ≡ journey m q s
    unfolding journey trace
    journey_same s = rw e.stops
