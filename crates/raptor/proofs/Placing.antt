-- The places of a query that is not refused: they exist, their stops are known, and an area's stand where they were written.
use Prim.Native.Nat.{ℕ, zero, suc, ◌+◌, ◌-◌, ◌≤◌, ◌<◌}
use mathlib.Core.Path.{◌≡◌, refl, sym, ap, ◌∙◌}
use mathlib.Core.Bool.{Bool, true}
use mathlib.Core.List.{List, [], ◌∷◌, ◌++◌, append_assoc, Memᴰ}
use native.Mathlib.Omega.{arith}
use lib.ListN.{length, get_or, take, drop, replicate, length-append, length-replicate}
use lib.Seq.{take_at, drop_at, length-take-le}
use Rattle.model.specs.declared.Location.{Location}
use Rattle.model.specs.declared.Location.TheVariants.{Stop, Area}
use Rattle.model.specs.declared.Mode.{Mode}
use Rattle.model.specs.declared.Query.{Query}
use Rattle.model.specs.declared.TimeConstraint.{TimeConstraint}
use Rattle.model.specs.declared.TimeConstraint.TheVariants.{Departure, Arrival}
use Rattle.model.specs.Tables.{Net}
use Rattle.model.specs.Places.{exists, place_stops}
use Rattle.model.specs.Answer.{may_walk, moment_of, task_by, task_of, refusal}
use Rattle.model.specs.Left.{placed}
use Rattle.model.specs.Limits.{MOST_STOPS}
use Rattle.model.specs.Sound.{Asked}
use Rattle.model.proofs.Asking.{Passed, passed, asked}
use Rattle.repository.specs.Accepted.{Accepted}
use Rattle.repository.specs.NetOf.{net_of}
use Rattle.repository.proofs.Sound.{accepted_sound_places}
use Rattle.repository.proofs.Ranges.{stops_few}
use Rattle.repository.proofs.Areas.{area_fits}
use Rattle.raptor_query.specs.Areas.{area_part}
use Rattle.model.proofs.Asking.{area_there}
use Rattle.raptor_rounds.specs.declared.Ask.{Ask}
use Rattle.base.specs.Below.{Below}
use Rattle.raptor.proofs.Searched.{posed_accepted, posed_stops}
use Rattle.raptor.specs.Searching.{ask_of, Posed, Place, Written}

pub part_length : (stops i : ℕ) (l : List ℕ) → i ≤ stops → length l ≡ stops + stops → i ≡ length (take i l)
part_length stops i l h e = sym (length-take-le i l (omega arith))

-- ---- the stops of a place are known

at_place : (l : List ℕ) (i : ℕ) → i < length l → Memᴰ (get_or l i 0) l
at_place [] i h = absurd (omega arith)
at_place (x ∷ l) zero h = Memᴰ.head refl
at_place (x ∷ l) (suc i) h = Memᴰ.tail (at_place l i (omega arith))

all_below : {stops : ℕ} (l : List ℕ) → ((x : ℕ) → Memᴰ x l → x < stops) → Below stops l
all_below l h = record { below = λ i lt. h (get_or l i 0) (at_place l i lt) }

module _ (n : Net) (mode : Mode) (walks : Bool) (from to : List ℕ) where
  from_in : (c : TimeConstraint) → Asked n (task_by c mode walks from to) → (x : ℕ) → Memᴰ x from → x < n.stops
  unfolding task_by
  from_in (Departure t) a = a.starts_in
  from_in (Arrival t) a = a.goals_in

  to_in : (c : TimeConstraint) → Asked n (task_by c mode walks from to) → (x : ℕ) → Memᴰ x to → x < n.stops
  unfolding task_by
  to_in (Departure t) a = a.goals_in
  to_in (Arrival t) a = a.starts_in

-- ---- what is written of a place, and what stands there

placed_is : (n : Net) (l : Location) → placed n l ≡ area_part n l ++ replicate (n.stops - length (area_part n l)) 0
unfolding placed area_part
placed_is n (Stop s) = let e : n.stops ≡ n.stops - 0 = omega arith in ap (λ (k : ℕ). replicate k 0) e
placed_is n (Area a) = refl

fits : {w : List ℕ} → Accepted w → (l : Location) → exists (net_of w) l ≡ true → length (area_part (net_of w) l) ≤ (net_of w).stops
unfolding area_part
fits h (Stop s) e = omega arith
fits {w} h (Area a) e = area_fits h (area_there (net_of w) {l = Area a} refl e)

pub placed_long : {w : List ℕ} → Accepted w → (l : Location) → exists (net_of w) l ≡ true → length (placed (net_of w) l) ≡ (net_of w).stops
placed_long {w} h l e =
    let n = net_of w in
    let z = replicate {A = ℕ} (n.stops - length (area_part n l)) 0 in
    ap (λ (x : List ℕ). length x) (placed_is n l)
    ∙ omega (arith, fits h l e, length-append (area_part n l) z, length-replicate {A = ℕ} (n.stops - length (area_part n l)) 0)

module _ {w : List ℕ} {q : Query} {ask : Ask} (posed : Posed w q ask) where
  abbrev stops : ℕ
  stops = ask.stops

  z : refusal (net_of w) q ≡ 0
  z = posed.unrefused

  p : Passed (net_of w) q
  p = passed (net_of w) q z

  a : Asked (net_of w) (task_of (net_of w) q)
  a = asked (net_of w) (accepted_sound_places (posed_accepted posed)) q z

  pub from_there : exists (net_of w) q.from ≡ true
  from_there = p.from

  pub to_there : exists (net_of w) q.to ≡ true
  to_there = p.to

  pub asked_moment : 0 < ask.moment.0
  unfolding ask_of
  asked_moment = let h = p.first in let e : ask.moment.0 ≡ moment_of q.time = ap (λ (v : Ask). v.moment.0) posed.asks in omega arith

  pub stops_most : ask.stops ≤ MOST_STOPS
  stops_most = let e = posed_stops posed in let h = stops_few (posed_accepted posed).laid in omega arith

  from_below : Below stops (place_stops (net_of w) q.from)
  unfolding task_of
  from_below =
      rw (posed_stops posed)
      (all_below (place_stops (net_of w) q.from) (from_in (net_of w) q.mode (may_walk q.walks) _ _ q.time a))

  to_below : Below stops (place_stops (net_of w) q.to)
  unfolding task_of
  to_below =
      rw (posed_stops posed)
      (all_below (place_stops (net_of w) q.to) (to_in (net_of w) q.mode (may_walk q.walks) _ _ q.time a))

  -- how many stops each half holds, and how many places there are
  pub from_fits : {i : ℕ} → i ≡ length (area_part (net_of w) q.from) → i ≤ ask.stops
  from_fits e = let u = fits (posed_accepted posed) q.from from_there in let f = posed_stops posed in omega arith

  pub to_fits : {k : ℕ} → k ≡ length (area_part (net_of w) q.to) → k ≤ ask.stops
  to_fits e = let u = fits (posed_accepted posed) q.to to_there in let f = posed_stops posed in omega arith

  module _ {places : List ℕ} {i k : ℕ} (x : Written (net_of w) q places i k) where
    pub place_from : Place (net_of w) ask.stops q.from (take i places)
    place_from = record {
      there = from_there;
      below = from_below;
      stands =
          rw (x.places, placed_is (net_of w) q.from)
          (ap (take i)
          (append_assoc (area_part (net_of w) q.from) (replicate ((net_of w).stops - length (area_part (net_of w) q.from)) 0)
          (placed (net_of w) q.to))
          ∙ take_at (area_part (net_of w) q.from) _ i (sym x.from_size));
    }

    pub place_to : Place (net_of w) ask.stops q.to (take (ask.stops + k - ask.stops) (drop ask.stops places))
    place_to = record {
      there = to_there;
      below = to_below;
      stands =
          let e : stops + k - stops ≡ k = omega arith in
          let f : drop stops places ≡ placed (net_of w) q.to =
          ap (drop stops) x.places
          ∙ drop_at (placed (net_of w) q.from) (placed (net_of w) q.to) stops
          (placed_long (posed_accepted posed) q.from from_there ∙ sym (posed_stops posed)) in
          ap (λ (l : ℕ). take l (drop stops places)) e ∙ ap (take k) (f ∙ placed_is (net_of w) q.to)
          ∙ take_at (area_part (net_of w) q.to) _ k (sym x.to_size);
    }

  pub places_written : {places : List ℕ} {i k : ℕ} → places ≡ placed (net_of w) q.from ++ placed (net_of w) q.to
      → i ≡ length (area_part (net_of w) q.from) → k ≡ length (area_part (net_of w) q.to) → Written (net_of w) q places i k
  places_written u v x = record { places = u; from_size = v; to_size = x }
