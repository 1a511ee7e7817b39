-- The stops of an area, named stop by named stop: counted, and written where there are as many places as stops.
use Prim.Native.Nat.{ℕ, zero, suc, ◌+◌, ◌-◌, ◌≤◌, ◌<◌}
use mathlib.Core.Path.{◌≡◌, refl, ap, ◌∙◌}
use mathlib.Core.List.{List, [], ◌++◌}
use native.Mathlib.Omega.{arith}
use lib.ListN.{length, get_or, drop, replicate, length-replicate, drop_of_length-le}
use lib.Seq.{sets-eq}
use Rattle.model.specs.declared.Location.TheVariants.{Area}
use Rattle.model.specs.Lists.{gather}
use Rattle.model.specs.Tables.{Net}
use Rattle.model.specs.Places.{served_of, stops_of_area}
use Rattle.model.specs.Left.{placed}
use Rattle.repository.specs.Accepted.{Accepted}
use Rattle.repository.specs.NetOf.{net_of}
use Rattle.repository.proofs.Ranges.{stops_few}
use Rattle.repository.proofs.Areas.{child_known, named_stop, area_fits}
use Rattle.base.specs.Below.{Below}
use Rattle.base.proofs.Below.{left_at}
use Rattle.discovery.specs.Served.{puts, area_rest, Tally, Filling}
use Rattle.discovery.proofs.Counting.{tally_room, tally_start, filling_start}

-- ---- what is named, and its children, are stops

pub named_known : {w : List ℕ} {a : ℕ} {named : List ℕ} (i : ℕ) → Accepted w → a < (net_of w).areas
    → named ≡ (net_of w).area_stops a
    → i < length named → get_or named i 0 < (net_of w).stops
named_known i h l e g = rw e (named_stop h l i (rw e at g))

pub children_stops : {w : List ℕ} {s : ℕ} {q : List ℕ} → Accepted w → s < (net_of w).stops → q ≡ (net_of w).children s
    → Below (net_of w).stops q
children_stops h l e = record { below = rw e (child_known h l) }

-- ---- what is left: the served children of the next, then the others

module _ (n : Net) (named : List ℕ) (i : ℕ) (g : i < length named) where
  rest_next : area_rest n named i ≡ served_of n (n.children (get_or named i 0)) ++ area_rest n named (i + 1)
  unfolding area_rest gather
  rest_next = ap (gather (λ (s : ℕ). served_of n (n.children s))) (left_at named i g)

  pub rest_part : {q : List ℕ} → q ≡ n.children (get_or named i 0)
      → area_rest n named i ≡ served_of n q ++ area_rest n named (i + 1)
  rest_part e = rw e rest_next

pub rest_over : (n : Net) (named : List ℕ) {i : ℕ} → length named ≤ i → area_rest n named i ≡ []
unfolding area_rest gather
rest_over n named {i} g = ap (gather (λ (s : ℕ). served_of n (n.children s))) (drop_of_length-le named {i = i} g)

module _ (n : Net) (a : ℕ) {named : List ℕ} (e : named ≡ n.area_stops a) where
  rest_whole : area_rest n named 0 ≡ stops_of_area n a
  unfolding area_rest stops_of_area
  rest_whole = rw e

  pub area_tally : Tally (length (stops_of_area n a)) 0 (area_rest n named 0)
  area_tally = rw rest_whole (tally_start (stops_of_area n a))

  pub area_filling : (w : List ℕ) → Filling (puts w 0 (stops_of_area n a)) w 0 (area_rest n named 0)
  area_filling w = rw rest_whole (filling_start w 0 (stops_of_area n a))

-- ---- no more than there are stops

module _ {w : List ℕ} {a : ℕ} (named : List ℕ) (i : ℕ) {k : ℕ} {q : List ℕ} (h : Accepted w) (l : a < (net_of w).areas)
    (t : Tally (length (stops_of_area (net_of w) a)) k (area_rest (net_of w) named i)) (g : i < length named)
    (e : q ≡ (net_of w).children (get_or named i 0)) where
  pub part_room : {size : ℕ} → size ≡ (net_of w).stops → k + length (served_of (net_of w) q) ≤ size
  part_room f =
      let left = tally_room (served_of (net_of w) q) (area_rest (net_of w) named (i + 1)) t (rest_part (net_of w) named i g e) in
      omega (arith, left, area_fits h l)

  -- so the count never wraps
  pub part_fits : {c : ℕ} → c ≡ length (served_of (net_of w) q) → k + c < 18446744073709551616
  part_fits f = omega (arith, part_room refl, stops_few h.laid)

-- ---- the places at the end

drop_zeros : (k m : ℕ) → drop k (replicate {A = ℕ} m 0) ≡ replicate (m - k) 0
drop_zeros zero m = let same : m - 0 ≡ m = omega arith in rw same
drop_zeros (suc k) zero = let none : 0 - suc k ≡ 0 = omega arith in rw none
drop_zeros (suc k) (suc m) = let same : suc m - suc k ≡ m - k = omega arith in rw same (drop_zeros k m)

zeros_filled : (m : ℕ) (l : List ℕ) → length l ≤ m → puts (replicate m 0) 0 l ≡ l ++ replicate (m - length l) 0
unfolding puts
zeros_filled m l g =
    let none : 0 + length l ≡ length l = omega arith in
    let room : 0 + length l ≤ length (replicate {A = ℕ} m 0) = omega (arith, length-replicate {A = ℕ} m 0) in
    sets-eq l (replicate m 0) 0 room ∙ ap (λ (x : List ℕ). l ++ x) (rw none (drop_zeros (length l) m))

pub area_placed : {w : List ℕ} {a m : ℕ} {p₀ p : List ℕ} → Accepted w → a < (net_of w).areas → p₀ ≡ replicate m 0
    → m ≡ (net_of w).stops
    → p ≡ puts p₀ 0 (stops_of_area (net_of w) a) → p ≡ placed (net_of w) (Area a)
unfolding placed
area_placed {w} {a} h l e f g =
    g
    ∙ ap (λ (x : List ℕ). puts x 0 (stops_of_area (net_of w) a)) (e ∙ ap (λ (k : ℕ). replicate k 0) f)
    ∙ zeros_filled (net_of w).stops (stops_of_area (net_of w) a) (area_fits h l)
