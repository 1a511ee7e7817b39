-- Two networks that are the same as far as they exist are answered alike: the same refusal, or the same time, stop, round, legs and length,
-- and the same workspace left.
use Prim.Native.Nat.{ℕ, zero, suc, ◌<◌}
use mathlib.Core.Path.{◌≡◌, refl, sym, ap, ◌∙◌}
use mathlib.Core.Bool.{Bool, true, false, ◌&&◌}
use Rattle.std.specs.Prelude.{Option, None, Some}
use mathlib.Core.List.{List, [], ◌∷◌, Memᴰ}
use native.Mathlib.Omega.{arith}
use lib.ListN.{length}
use borrow.Author.Tests.{ltb-true}
use Rattle.base.proofs.Choice.{split, and_left, and_right}
use Rattle.base.specs.Each.{Each, nil, cons}
use Rattle.model.specs.declared.Location.{Location}
use Rattle.model.specs.declared.Location.TheVariants.{Stop, Area}
use Rattle.model.specs.declared.Query.{Query}
use Rattle.model.specs.Tables.{Net}
use Rattle.model.specs.Lists.{gather}
use Rattle.model.specs.State.{Task}
use Rattle.model.specs.Places.{exists, stops_of_stop, served_of, stops_of_area, place_stops, barren}
use Rattle.model.specs.Answer.{task_of, refusal, lowest, searched, legs_of, reply, unless, refused_by, answer}
use Rattle.model.specs.Left.{placed, workspace_of, written, journey_left}
use Rattle.model.specs.Round.{listed}
use Rattle.model.specs.Search.{search}
use Rattle.model.specs.Back.{journey}
use Rattle.model.specs.Sound.{Sound, SoundPlaces}
use Rattle.model.proofs.Answers.{unrefused}
use Rattle.model.specs.Same.{Same, SamePlaces}
use Rattle.model.proofs.SameRides.{gather_same}
use Rattle.model.proofs.SameSearch.{search_same, journey_same}

each_in : {Q : ℕ → Type 0} (xs : List ℕ) → ((x : ℕ) → Memᴰ x xs → Q x) → Each Q xs
each_in [] h = nil
each_in (x ∷ xs) h = cons (h x (Memᴰ.head refl)) (each_in xs (λ y i. h y (Memᴰ.tail i)))

-- a refusal leaves the buffer as it was
left_as_found : (n : Net) (q : Query) (fault : ℕ) (sized : Bool) (buffer : List ℕ) (k : ℕ) → lowest fault sized n q ≡ suc k
    → journey_left fault sized n q buffer ≡ buffer
unfolding journey_left answer unless written
left_as_found n q fault sized buffer k g = rw (g, unless, written)

module _ {n m : Net} (e : Same n m) (f : SamePlaces n m) (ok : Sound n) (places : SoundPlaces n) where
  exists_same : (l : Location) → exists n l ≡ exists m l
  unfolding exists
  exists_same (Stop s) = rw e.stops
  exists_same (Area a) = rw f.areas

  served_same : {ss : List ℕ} → Each (λ s. s < n.stops) ss → served_of n ss ≡ served_of m ss
  unfolding served_of
  served_same nil = refl
  served_same (cons {x = s} h hs) = rw (f.served s h, served_same hs)

  area_same : (a : ℕ) → a < n.areas → stops_of_area n a ≡ stops_of_area m a
  unfolding stops_of_area
  area_same a h =
      gather_same (λ s. served_of n (n.children s)) (λ s. served_of m (m.children s))
      (each_in {Q = λ s. s < n.stops} (n.area_stops a) (λ s i. places.areas_in a s h i))
      (λ s l. served_same (each_in (n.children s) (λ c i. places.children_in s c l i)) ∙ ap (served_of m) (f.children s l))
      ∙ ap (gather (λ s. served_of m (m.children s))) (f.area_stops_lem a h)

  stop_same : (s : ℕ) → s < n.stops → (o : Option ℕ) → n.station s ≡ o → stops_of_stop n s o ≡ stops_of_stop m s o
  unfolding stops_of_stop
  stop_same s h None g = rw (f.children s h)
  stop_same s h (Some p) g = f.children p (places.station_in s p h g)

  place_same : (l : Location) → exists n l ≡ true → place_stops n l ≡ place_stops m l
  unfolding place_stops exists
  place_same (Stop s) g =
      let h = ltb-true s n.stops g in
      stop_same s h (n.station s) refl ∙ ap (stops_of_stop m s) (f.station s h)
  place_same (Area a) g = area_same a (ltb-true a n.areas g)

  barren_same : (l : Location) → exists n l ≡ true → barren n l ≡ barren m l
  unfolding barren exists
  barren_same (Stop s) g = refl
  barren_same (Area a) g = rw (area_same a (ltb-true a n.areas g))

  placed_same : (l : Location) → exists n l ≡ true → placed n l ≡ placed m l
  unfolding placed exists
  placed_same (Stop s) g = rw e.stops
  placed_same (Area a) g = rw (area_same a (ltb-true a n.areas g), e.stops)

  module _ (q : Query) where
    refusal_same : refusal n q ≡ refusal m q
    unfolding refusal
    refusal_same =
        split (exists n q.from && exists n q.to)
        (λ g.
        let a = and_left (exists n q.from) (exists n q.to) g in
        let b = and_right (exists n q.from) (exists n q.to) g in
        rw (barren_same q.from a, barren_same q.to b, exists_same q.from, exists_same q.to))
        (λ g.
        let h : exists m q.from && exists m q.to ≡ false = rw (exists_same q.from, exists_same q.to) at g in rw (g, h))

    lowest_same : (fault : ℕ) (sized : Bool) → lowest fault sized n q ≡ lowest fault sized m q
    unfolding lowest
    lowest_same zero sized = rw refusal_same
    lowest_same (suc fault) sized = refl

    module _ (there : exists n q.from && exists n q.to ≡ true) where
      task_same : task_of n q ≡ task_of m q
      unfolding task_of
      task_same =
          let a = and_left (exists n q.from) (exists n q.to) there in
          let b = and_right (exists n q.from) (exists n q.to) there in
          rw (place_same q.from a, place_same q.to b)

      pub searched_same : searched n q ≡ searched m q
      unfolding searched
      searched_same = search_same e ok (task_of n q) listed ∙ ap (λ (x : Task). search m x listed) task_same

      pub legs_same : legs_of n q ≡ legs_of m q
      unfolding legs_of
      legs_same =
          journey_same e ok (task_of n q) (searched n q) ∙ ap (λ (x : Task). journey m x (searched n q)) task_same
          ∙ ap (journey m (task_of m q)) searched_same

      pub workspace_same : workspace_of n q (searched n q) ≡ workspace_of m q (searched m q)
      unfolding workspace_of
      workspace_same =
          let a = and_left (exists n q.from) (exists n q.to) there in
          let b = and_right (exists n q.from) (exists n q.to) there in
          rw (searched_same, placed_same q.from a, placed_same q.to b)

    -- the answer, for every fault of the tables, every workspace and every buffer
    there_is : refusal n q ≡ 0 → exists n q.from && exists n q.to ≡ true
    unfolding refusal
    there_is g =
        split (exists n q.from && exists n q.to) (λ h. h)
        (λ h. let z : ◌≡◌ {A = ℕ} 7 0 = rw h at g in absurd (omega arith))

    pub answer_same : (fault : ℕ) (sized : Bool) (room : ℕ) → answer fault sized n q room ≡ answer fault sized m q room
    unfolding answer unless
    answer_same fault sized room = go (lowest fault sized n q) refl
      where
        refused : (k : ℕ) → lowest fault sized n q ≡ suc k
            → unless refused_by (reply room (searched n q).times.target (legs_of n q)) (lowest fault sized n q)
            ≡ unless refused_by (reply room (searched m q).times.target (legs_of m q)) (lowest fault sized m q)
        refused k g = let h : lowest fault sized m q ≡ suc k = sym (lowest_same fault sized) ∙ g in rw (g, h, unless)

        go : (k : ℕ) → lowest fault sized n q ≡ k
            → unless refused_by (reply room (searched n q).times.target (legs_of n q)) (lowest fault sized n q)
            ≡ unless refused_by (reply room (searched m q).times.target (legs_of m q)) (lowest fault sized m q)
        go zero g =
            let t = there_is (unrefused fault sized n q g) in
            rw (lowest_same fault sized, searched_same t, legs_same t)
        go (suc k) g = refused k g

    -- and what is left in the journey's buffer
    pub journey_left_same : (fault : ℕ) (sized : Bool) (buffer : List ℕ)
        → journey_left fault sized n q buffer ≡ journey_left fault sized m q buffer
    unfolding journey_left
    journey_left_same fault sized buffer = go (lowest fault sized n q) refl
      where
        given : lowest fault sized n q ≡ 0 → journey_left fault sized n q buffer ≡ journey_left fault sized m q buffer
        given g = rw (answer_same fault sized (length buffer), legs_same (there_is (unrefused fault sized n q g)))

        go : (k : ℕ) → lowest fault sized n q ≡ k → journey_left fault sized n q buffer ≡ journey_left fault sized m q buffer
        go zero g = given g
        go (suc k) g = left_as_found n q fault sized buffer k g ∙ sym (left_as_found m q fault sized buffer k (sym (lowest_same fault sized) ∙ g))
