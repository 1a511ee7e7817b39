-- The three demands, said of what `solve` answers and leaves: each theorem takes its contract, `Solved` of specs/Solved.antt, and
-- nothing else. w are the tables, q the query; `before` are the words, marks, places and journey buffer as they are lent, `after` as they
-- are left; r is the answer.
use Prim.Native.Nat.{ℕ, zero, suc, ◌≤◌, ◌<◌}
use mathlib.Core.Path.{◌≡◌, refl, sym, ap, ◌∙◌, subst}
use mathlib.Core.Bool.{Bool, true, false, cond, false≢true}
use mathlib.Core.Logic.{◌≢◌}
use mathlib.Core.List.{List, [], ◌∷◌, ◌++◌, Memᴰ}
use native.Mathlib.Omega.{arith}
use lib.Dec.{leb, ltb, eqb}
use lib.ListN.{length, take, drop}
use lib.Seq.{take_at, drop_at}
use borrow.Author.Tests.{eqb-true, eqb-false, leb-true, leb-false}
use Rattle.base.proofs.Choice.{cond_elim}
use Rattle.base.specs.Each.{Each}
use Rattle.shared.specs.declared.Time.{Time}
use Rattle.std.specs.Prelude.{Ok, Err}
use Rattle.model.specs.declared.Error.TheVariants.{Refused, NoRouteFound, FailedToBuildRoute, TooLong}
use Rattle.model.specs.declared.Found.{Found}
use Rattle.model.specs.declared.Direction.{Direction}
use Rattle.model.specs.declared.Leg.{Leg}
use Rattle.model.specs.declared.Query.{Query}
use Rattle.model.specs.declared.Refusal.{Refusal}
use Rattle.model.specs.declared.Target.{Target}
use Rattle.model.specs.declared.TimeConstraint.{TimeConstraint}
use Rattle.model.specs.declared.TimeConstraint.TheVariants.{Departure, Arrival}
use Rattle.model.specs.Limits.{MOST_ROUNDS}
use Rattle.model.specs.Tables.{Net}
use Rattle.model.specs.State.{Times}
use Rattle.model.specs.Work.{Work, work_of, SameTimes}
use Rattle.model.specs.Places.{place_stops}
use Rattle.model.specs.Refusal.{refusal_number}
use Rattle.model.specs.Answer.{Answer, may_walk, task_of, refusal, lowest, searched, legs_by, legs_of, reply_to, reply, unless, refused_by, answer, given, answer_of, ran}
use Rattle.model.specs.Left.{Workspace, workspace_of, written, journey_left}
use Rattle.model.specs.Bytes.{legs as read_as, write, read, size_of, Fits}
use Rattle.model.specs.Round.{Order, Fair, listed}
use Rattle.model.specs.Search.{search}
use Rattle.model.specs.Back.{trace, journey}
use Rattle.model.specs.Journey.{Departing, Arriving, BothWays, Dated}
use Rattle.model.specs.AskedFor.{AskedAt, AskedFor}
use Rattle.model.specs.Sound.{Asked}
use Rattle.model.proofs.Orders.{listed_fair, same_times}
use Rattle.model.proofs.Asking.{asked}
use Rattle.model.proofs.Refusals.{number_range, number-refusal_of}
use Rattle.model.proofs.Answers.{unrefused, never_11, lowest_most, answer_of_lem, asked_for}
use Rattle.model.proofs.Journeys.{chosen, in_rounds, bytes_at_most}
use Rattle.model.proofs.Dated.{journey_dated}
use Rattle.model.proofs.ReadBack.{size_is, read_write}
use Rattle.model.proofs.Fitting.{journey_fits}
use Rattle.repository.specs.Accepted.{Accepted}
use Rattle.repository.specs.NetOf.{net_of}
use Rattle.repository.specs.Checked.{check_of}
use Rattle.repository.proofs.Sound.{accepted_sound, accepted_sound_places}
use Rattle.repository.proofs.Narrow.{accepted_narrow}
use Rattle.check_tables.proofs.Whole.{accepted_is, check_most}
use Rattle.allocator.specs.Layout.{view}
use Rattle.path.specs.Once.{places_of, placed_back, times_put}
use Rattle.path.proofs.Order.{order_size}
use Rattle.path.proofs.Once.{placed_once, places_apart}
use Rattle.raptor.specs.Lent.{Lent}
use Rattle.raptor.specs.Solved.{sized, holds, Ended, Solved}

-- what an answer 0 says of the target and of the legs
record FoundBy (room : ℕ) (aimed : Target) (gs : List Leg) (f : Found) : Type 0 where
  time_is : f.time ≡ aimed.time
  stop_is : f.stop ≡ aimed.stop
  round_is : f.round ≡ aimed.round
  length_is : f.length ≡ size_of gs
  chosen : 0 < aimed.time.0
  fits : f.length ≤ room

-- and what 12 says
record LongBy (room : ℕ) (aimed : Target) (gs : List Leg) (z : ℕ) : Type 0 where
  length_is : z ≡ size_of gs
  chosen : 0 < aimed.time.0
  over : room < z

abbrev Tells : ℕ → Target → List Leg → Answer → Type 0
Tells room aimed gs (Ok f) = FoundBy room aimed gs f
Tells room aimed gs (Err (Refused x)) = ⊥
Tells room aimed gs (Err NoRouteFound) = aimed.time.0 ≡ 0
Tells room aimed gs (Err FailedToBuildRoute) = 0 < aimed.time.0
Tells room aimed gs (Err (TooLong z)) = LongBy room aimed gs z

reply_tells : (room : ℕ) (aimed : Target) (gs : List Leg) → Tells room aimed gs (reply room aimed gs)
unfolding reply reply_to
reply_tells room aimed gs =
    cond_elim (Tells room aimed gs) (eqb aimed.time.0 0) _ _ (λ e. eqb-true aimed.time.0 0 e)
    (λ e. let ne = eqb-false aimed.time.0 0 e in to gs (omega arith))
  where
    to : (hs : List Leg) → 0 < aimed.time.0 → Tells room aimed hs (reply_to room aimed hs)
    to [] h = h
    to (v ∷ vs) h =
        cond_elim (Tells room aimed (v ∷ vs)) (leb (size_of (v ∷ vs)) room) _ _
        (λ b. record {
          time_is = refl;
          stop_is = refl;
          round_is = refl;
          length_is = refl;
          chosen = h;
          fits = leb-true (size_of (v ∷ vs)) room b;
        })
        (λ b. record { length_is = refl; chosen = h; over = leb-false (size_of (v ∷ vs)) room b })

fault_none : (c : ℕ) (b : Bool) (n : Net) (q : Query) → lowest c b n q ≡ 0 → c ≡ 0
unfolding lowest
fault_none zero b n q e = refl
fault_none (suc c) b n q e = absurd (omega arith)

-- a search that has run is told by 0, 10, 11 or 12
reply_ran : (room : ℕ) (aimed : Target) (gs : List Leg) → ran (reply room aimed gs) ≡ true
unfolding reply reply_to
reply_ran room aimed gs = cond_elim (λ a. ran a ≡ true) (eqb aimed.time.0 0) _ _ (λ e. refl) (λ e. to gs)
  where
    to : (gs : List Leg) → ran (reply_to room aimed gs) ≡ true
    to [] = refl
    to (v ∷ vs) = cond_elim (λ a. ran a ≡ true) (leb (size_of (v ∷ vs)) room) _ _ (λ e. refl) (λ e. refl)

-- the length that is told, where the legs take no more than so many bytes
reply_length : (room most : ℕ) (aimed : Target) (gs : List Leg) → (0 < aimed.time.0 → size_of gs ≤ most) → (given (reply room aimed gs)).length ≤ most
unfolding reply reply_to given
reply_length room most aimed gs h =
    cond_elim (λ a. (given a).length ≤ most) (eqb aimed.time.0 0) _ _ (λ e. omega arith)
    (λ e. let ne = eqb-false aimed.time.0 0 e in to gs (h (omega arith)))
  where
    to : (gs : List Leg) → size_of gs ≤ most → (given (reply_to room aimed gs)).length ≤ most
    to [] l = omega arith
    to (v ∷ vs) l = cond_elim (λ a. (given a).length ≤ most) (leb (size_of (v ∷ vs)) room) _ _ (λ e. l) (λ e. l)

module _ (w : List ℕ) (q : Query) (before : Lent) {r : Answer} {after : Lent} (h : Solved w q before r after) where
  -- the number that refuses, 0 where none does
  abbrev number : ℕ
  number = lowest (check_of w) (sized (net_of w) before) (net_of w) q

  -- the target and the legs of the search that document 01 defines
  abbrev goal : Target
  goal = (searched (net_of w) q).times.target

  abbrev told : Answer
  told = reply (length before.journey) (searched (net_of w) q).times.target (legs_of (net_of w) q)

  answered : r ≡ unless refused_by told number
  unfolding answer
  answered = h.answers

  refused_as : (k : ℕ) → number ≡ suc k → r ≡ refused_by (suc k)
  unfolding unless
  refused_as k e = answered ∙ ap (unless refused_by told) e

  told_by : number ≡ 0 → r ≡ told
  unfolding unless
  told_by e = answered ∙ ap (unless refused_by told) e

  none_refused : ran r ≡ true → number ≡ 0
  none_refused b = go number refl
    where
      go : (k : ℕ) → number ≡ k → number ≡ 0
      go zero e = e
      go (suc k) e = absurd (false≢true (sym (ap ran (refused_as k e)) ∙ b))

  some_refused : ran r ≡ false → 0 < number
  some_refused b = go number refl
    where
      go : (k : ℕ) → number ≡ k → 0 < number
      go zero e = absurd (false≢true (sym b ∙ ap ran (told_by e) ∙ reply_ran (length before.journey) goal (legs_of (net_of w) q)))
      go (suc k) e = omega arith

  kept_journey : after.journey ≡ written r (legs_of (net_of w) q) before.journey
  unfolding journey_left
  kept_journey = h.journey ∙ ap (λ (a : Answer). written a (legs_of (net_of w) q) before.journey) (sym h.answers)

  -- ==== Demand 1
  -- "bad tables are refused by number before the search starts"
  pub tables_refused : (k : ℕ) → check_of w ≡ suc k → (r ≡ refused_by (suc k)) × ((given r).number ≡ suc k)
  unfolding lowest given
  tables_refused k e =
      let is = refused_as k (ap (λ (c : ℕ). lowest c (sized (net_of w) before) (net_of w) q) e) in
      (is, ap (λ (a : Answer). (given a).number) is ∙ number-refusal_of (suc k) (omega arith) (omega (arith, check_most w, e)))

  -- "The workspace is untouched on 1 to 9"
  pub refused_untouched : {x : Refusal} → r ≡ Err (Refused x) → (after.words ≡ before.words) × (after.marks ≡ before.marks) × (after.places ≡ before.places)
  refused_untouched e = h.workspace.untouched (some_refused (ap ran e))

  -- ".. as the search ends on 0 and 10 to 12"
  pub ran_ended : ran r ≡ true → Ended (net_of w) q after
  ran_ended b = h.workspace.ended (none_refused b)

  -- "a refusal leaves the journey buffer untouched": every number but 0
  pub refused_journey : (given r).number ≢ 0 → after.journey ≡ before.journey
  unfolding given written
  refused_journey ne = kept_journey ∙ go r ne
    where
      go : (a : Answer) → (given a).number ≢ 0 → written a (legs_of (net_of w) q) before.journey ≡ before.journey
      go (Ok f) ne = absurd (ne refl)
      go (Err x) ne = refl

  -- a refusal before the search has the lowest number that applies ..
  pub refused_is : {x : Refusal} → r ≡ Err (Refused x) → refusal_number x ≡ lowest (check_of w) (sized (net_of w) before) (net_of w) q
  unfolding given
  refused_is {x} e = go number refl
    where
      go : (k : ℕ) → number ≡ k → refusal_number x ≡ number
      go zero f = absurd (false≢true (sym (ap ran e) ∙ ap ran (told_by f) ∙ reply_ran (length before.journey) goal (legs_of (net_of w) q)))
      go (suc k) f =
          ap (λ (a : Answer). (given a).number) (sym e ∙ refused_as k f)
          ∙ number-refusal_of (suc k) (omega arith) (omega (arith, f, lowest_most (check_of w) (sized (net_of w) before) (net_of w) q (check_most w)))
          ∙ sym f

  -- .. from 1 to 9
  pub refused_range : {x : Refusal} → r ≡ Err (Refused x) → (0 < refusal_number x) × (refusal_number x ≤ 9)
  refused_range {x} e = number_range x

  -- "If an answer is an enum, a definition gives this paper's number and values": they are one answer, so every promise can be read with
  -- numbers. 0 is `Ok` with these values, 10 `NoRouteFound`, 12 `TooLong`, 1 to 9 `Refused`
  pub numbered : answer_of (given r) ≡ r
  numbered = answer_of_lem r

  pub number_0 : (given r).number ≡ 0
      → r ≡ Ok (record { time = record { 0 = (given r).time }; stop = (given r).stop; round = (given r).round; length = (given r).length })
  number_0 e = sym numbered ∙ rw e

  pub number_10 : (given r).number ≡ 10 → r ≡ Err NoRouteFound
  number_10 e = sym numbered ∙ rw e

  pub number_12 : (given r).number ≡ 12 → r ≡ Err (TooLong (given r).length)
  number_12 e = sym numbered ∙ rw e

  -- ==== what a search that has run rests on
  accepted : ran r ≡ true → Accepted w
  accepted b = (accepted_is w).0 (fault_none (check_of w) (sized (net_of w) before) (net_of w) q (none_refused b))

  unrefused_query : ran r ≡ true → refusal (net_of w) q ≡ 0
  unrefused_query b = unrefused (check_of w) (sized (net_of w) before) (net_of w) q (none_refused b)

  task_asked : ran r ≡ true → Asked (net_of w) (task_of (net_of w) q)
  task_asked b = asked (net_of w) (accepted_sound_places (accepted b)) q (unrefused_query b)

  -- "11 a chosen stop but no leg" is given for no input
  pub never_failed : r ≢ Err FailedToBuildRoute
  never_failed e =
      never_11 (net_of w) (accepted_sound (accepted (ap ran e))) (accepted_sound_places (accepted (ap ran e))) q (check_of w) (sized (net_of w) before) (length before.journey) (sym h.answers ∙ e)

  -- no journey takes more than 69,692 bytes: 4,096 legs of 17, and 4 more for each of 15 rides
  pub length_most : (given r).length ≤ 69_692
  unfolding given legs_of searched
  length_most = go number refl
    where
      few : number ≡ 0 → 0 < goal.time.0 → size_of (legs_of (net_of w) q) ≤ 69_692
      few e h =
          let b : ran r ≡ true = ap ran (told_by e) ∙ reply_ran (length before.journey) goal (legs_of (net_of w) q) in
          let ok = accepted_sound (accepted b) in
          let stops = (accepted_narrow (accepted b)).stops in
          omega (arith, bytes_at_most (net_of w) ok (task_of (net_of w) q) (task_asked b) listed listed_fair h)

      go : (k : ℕ) → number ≡ k → (given r).length ≤ 69_692
      go zero e = rw (told_by e) (reply_length (length before.journey) 69_692 goal (legs_of (net_of w) q) (few e))
      go (suc k) e = rw (refused_as k e) (omega arith)

  -- ==== Demand 2: "Journeys are written to bytes and read back unchanged"
  module _ {f : Found} (e : r ≡ Ok f) where
    is_found : FoundBy (length before.journey) goal (legs_of (net_of w) q) f
    is_found = subst (Tells (length before.journey) goal (legs_of (net_of w) q)) (sym (told_by (none_refused (ap ran e))) ∙ e) (reply_tells (length before.journey) goal (legs_of (net_of w) q))

    left : after.journey ≡ write (legs_of (net_of w) q) ++ drop (length (write (legs_of (net_of w) q))) before.journey
    unfolding written
    left = kept_journey ∙ ap (λ (a : Answer). written a (legs_of (net_of w) q) before.journey) e

    size : length (write (legs_of (net_of w) q)) ≡ f.length
    size = size_is (legs_of (net_of w) q) ∙ sym is_found.length_is

    -- nothing refused it, and a stop was chosen
    pub found_accepted : (check_of w ≡ 0) × (refusal (net_of w) q ≡ 0)
    found_accepted = (fault_none (check_of w) (sized (net_of w) before) (net_of w) q (none_refused (ap ran e)), unrefused_query (ap ran e))

    pub found_chosen : 0 < (searched (net_of w) q).times.target.time.0
    found_chosen = is_found.chosen

    -- the first bytes, as many as the length says, are the journey's ..
    pub journey_bytes : take f.length after.journey ≡ write (legs_of (net_of w) q)
    journey_bytes = ap (take f.length) left ∙ take_at (write (legs_of (net_of w) q)) _ f.length size

    -- "On 0 bytes past the journey stay unchanged."
    pub past_unchanged : drop f.length after.journey ≡ drop f.length before.journey
    past_unchanged = ap (drop f.length) left ∙ drop_at (write (legs_of (net_of w) q)) _ f.length size ∙ ap (λ (i : ℕ). drop i before.journey) size

    -- the direction of the search, and the legs as its way back finds them
    abbrev toward : Direction
    toward = (task_of (net_of w) q).direction

    abbrev way_back : List Leg
    way_back = trace (net_of w) (task_of (net_of w) q) (searched (net_of w) q)

    -- "put every leg at its final place" (document 02): the buffer is as it was lent, with each leg put once, as the way back finds it
    pub found_placed : after.journey ≡ placed_back toward way_back before.journey
    unfolding legs_of journey
    found_placed =
        let long : length (write (legs_of (net_of w) q)) ≡ size_of way_back = order_size toward way_back in
        left ∙ rw long (sym (placed_once toward way_back before.journey (omega (arith, long, size, is_found.fits))))

    -- "Write each leg once": every byte below the length that is told belongs to one leg and is put once, and no other byte is put
    pub found_once : (i : ℕ) → times_put (places_of toward 0 way_back) i ≡ cond (ltb i f.length) 1 0
    unfolding legs_of journey
    found_once i =
        let long : size_of way_back ≡ f.length = sym (order_size toward way_back) ∙ size in
        places_apart toward way_back i ∙ ap (λ (n : ℕ). cond (ltb i n) 1 0) long

    legs_fit : Each Fits (legs_of (net_of w) q)
    unfolding legs_of searched
    legs_fit =
        let b : ran r ≡ true = ap ran e in
        journey_fits (net_of w) (accepted_sound (accepted b)) (accepted_narrow (accepted b)) (task_of (net_of w) q) (task_asked b) listed listed_fair
        is_found.chosen

    -- .. and they are read as its legs
    pub reads_back : read (take f.length after.journey) ≡ read_as (legs_of (net_of w) q)
    reads_back = ap read journey_bytes ∙ read_write (legs_of (net_of w) q) legs_fit

    -- the chosen stop is a stop of the place that is searched for, and the round is one of the 15
    pub chosen_goal : Memᴰ f.stop (task_of (net_of w) q).goals
    unfolding searched
    chosen_goal =
        let b : ran r ≡ true = ap ran e in
        rw is_found.stop_is
        (chosen (net_of w) (accepted_sound (accepted b)) (task_of (net_of w) q) (task_asked b) listed listed_fair is_found.chosen)

    pub chosen_round : f.round < MOST_ROUNDS
    unfolding searched
    chosen_round =
        let b : ran r ≡ true = ap ran e in
        rw is_found.round_is
        (in_rounds (net_of w) (accepted_sound (accepted b)) (task_of (net_of w) q) (task_asked b) listed listed_fair is_found.chosen)

  -- ==== Demand 3, the order: "however the updates within each half-round are ordered, the search ends with the same times at all stops
  -- and the same chosen stop and round, or no route"
  module _ (b : ran r ≡ true) (o : Order) (fair : Fair o) where
    abbrev ordered : Times
    ordered = (search (net_of w) (task_of (net_of w) q) o).times

    same : (searched (net_of w) q).times ≡ (search (net_of w) (task_of (net_of w) q) o).times
    unfolding searched
    same = same_times (net_of w) (task_of (net_of w) q) listed o listed_fair fair

    stands : view (net_of w).stops (net_of w).routes after.words after.marks ≡ work_of (searched (net_of w) q)
    unfolding holds workspace_of
    stands = ap (λ (x : Workspace). x.work) (ran_ended b).ends

    pub any_order : SameTimes (view (net_of w).stops (net_of w).routes after.words after.marks) (search (net_of w) (task_of (net_of w) q) o).times
    any_order = record {
      prev = ap (λ (x : Work). x.prev) stands ∙ ap (λ (x : Times). x.prev) same;
      curr = ap (λ (x : Work). x.labels.curr) stands ∙ ap (λ (x : Times). x.labels.curr) same;
      best = ap (λ (x : Work). x.labels.best) stands ∙ ap (λ (x : Times). x.labels.best) same;
      mark = ap (λ (x : Work). x.labels.mark) stands ∙ ap (λ (x : Times). x.labels.mark) same;
      held = ap (λ (x : Work). x.held) stands ∙ ap (λ (x : Times). x.held) same;
      held_mark = ap (λ (x : Work). x.held_mark) stands ∙ ap (λ (x : Times). x.held_mark) same;
      active = ap (λ (x : Work). x.active) stands ∙ ap (λ (x : Times). x.active) same;
      mask = ap (λ (x : Work). x.mask) stands ∙ ap (λ (x : Times). x.mask) same;
    }

    -- the answer's time, stop and round are those of that order's target
    pub any_order_chosen : r ≡ reply (length before.journey) (search (net_of w) (task_of (net_of w) q) o).times.target (legs_of (net_of w) q)
    any_order_chosen =
        told_by (none_refused b) ∙ ap (λ (x : Times). reply (length before.journey) x.target (legs_of (net_of w) q)) same

  -- ==== Demand 3, the journey: "starts at an origin no sooner than asked, has one ride more than the round's number, rides listed trips,
  -- uses only allowed listed footpaths, leaves no stop before reaching it, and ends at the chosen stop at the reported time". `AskedFor` has
  -- these words for a departure query, and for an arrival query those of document 01

  -- where a stop was chosen, 0 or 12, and whatever the order of the updates
  module _ (b : ran r ≡ true) (c : 0 < goal.time.0) (o : Order) (fair : Fair o) where
    aims : (searched (net_of w) q).times.target ≡ (search (net_of w) (task_of (net_of w) q) o).times.target
    aims = ap (λ (x : Times). x.target) (same b o fair)

    traced : AskedFor (net_of w) q goal.stop goal.time.0 (suc goal.round) (legs_by (net_of w) q o)
    traced = rw aims (asked_for (net_of w) (accepted_sound (accepted b)) q (task_asked b) o fair (rw aims at c))

    dated : Each Dated (legs_by (net_of w) q o)
    dated =
        journey_dated (net_of w) (accepted_sound (accepted b)) (accepted_narrow (accepted b)) (task_of (net_of w) q) (task_asked b) o fair
        (rw aims at c)

  -- an answer 0
  module _ {f : Found} (e : r ≡ Ok f) where
    pub any_order_journey : (o : Order) → Fair o → AskedFor (net_of w) q f.stop f.time.0 (suc f.round) (legs_by (net_of w) q o)
    any_order_journey o fair =
        let x = is_found e in
        rw (x.stop_is, x.time_is, x.round_is) (traced (ap ran e) x.chosen o fair)

    -- no leg of it leaves or arrives at anything but a moment
    pub journey_moments : (o : Order) → Fair o → Each Dated (legs_by (net_of w) q o)
    journey_moments o fair = dated (ap ran e) (is_found e).chosen o fair

    -- the journey that is written is that of document 01's order
    abbrev by_kind : TimeConstraint → Type 0
    by_kind c =
        AskedAt c (net_of w) (may_walk q.walks) (place_stops (net_of w) q.from) (place_stops (net_of w) q.to) f.stop f.time.0 (suc f.round)
        (legs_of (net_of w) q)

    in_order : AskedFor (net_of w) q f.stop f.time.0 (suc f.round) (legs_of (net_of w) q)
    unfolding legs_of searched
    in_order = any_order_journey listed listed_fair

    pub departure_journey : {asked_at : Time} → q.time ≡ Departure asked_at
        → Departing (net_of w) (may_walk q.walks) (place_stops (net_of w) q.from) asked_at.0 f.stop f.time.0 (suc f.round) (legs_of (net_of w) q)
    departure_journey f = subst by_kind f in_order

    -- "For arrival queries .. the journey part (end at a destination no later than asked, first departure as reported) needs each footpath
    -- listed both ways, as one kind and with one span."
    pub arrival_journey : {asked_at : Time} → BothWays (net_of w) (may_walk q.walks) → q.time ≡ Arrival asked_at
        → Arriving (net_of w) (may_walk q.walks) (place_stops (net_of w) q.to) asked_at.0 f.stop f.time.0 (suc f.round) (legs_of (net_of w) q)
    arrival_journey both f = (subst by_kind f in_order) both

  -- an answer 12: the journey is one that the query asks for, from the stop that was chosen; only the buffer is too short for it
  module _ {z : ℕ} (e : r ≡ Err (TooLong z)) where
    is_long : LongBy (length before.journey) goal (legs_of (net_of w) q) z
    is_long = subst (Tells (length before.journey) goal (legs_of (net_of w) q)) (sym (told_by (none_refused (ap ran e))) ∙ e) (reply_tells (length before.journey) goal (legs_of (net_of w) q))

    -- "12 only the length needed"
    pub too_long_length : (z ≡ size_of (legs_of (net_of w) q)) × (length before.journey < z)
    too_long_length = (is_long.length_is, is_long.over)

    pub too_long_journey : (o : Order) → Fair o
        → AskedFor (net_of w) q goal.stop goal.time.0 (suc goal.round) (legs_by (net_of w) q o)
    too_long_journey o fair = traced (ap ran e) is_long.chosen o fair
