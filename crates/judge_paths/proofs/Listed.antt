-- Whether a stop is among those of a place.
use Prim.Native.Nat.{ℕ, ◌+◌, ◌≤◌, ◌<◌}
use mathlib.Core.Path.{◌≡◌, refl, sym, ap, ◌∙◌}
use mathlib.Core.Bool.{Bool, true, false, false≢true}
use mathlib.Core.List.{List, [], ◌∷◌, ◌++◌}
use native.Mathlib.Omega.{arith}
use lib.Dec.{eqb}
use Rattle.std.specs.List.{list_any}
use lib.ListN.{length, get_or, drop, drop_of_length-le}
use borrow.Author.Tests.{eqb-true, eqb-false, eq-eqb, ne_eqb}
use Rattle.base.proofs.Below.{left_at}
use Rattle.base.proofs.Choice.{split}
use Rattle.base.proofs.Each.{each_mem}
use Rattle.model.specs.declared.Location.{Location}
use Rattle.model.specs.declared.Location.TheVariants.{Stop, Area}
use Rattle.model.specs.Lists.{gather}
use Rattle.model.specs.Tables.{Net}
use Rattle.model.specs.Places.{served_of, stops_of_area, place_stops}
use Rattle.repository.specs.Accepted.{Accepted}
use Rattle.repository.specs.NetOf.{net_of}
use Rattle.repository.proofs.Areas.{area_known}
use Rattle.handheld.specs.Any.{any, Sought}
use Rattle.handheld.specs.Verdict.{is_listed}
use Rattle.handheld.proofs.Any.{sought_next, sought_found, sought_none, any_now, any_on}
use Rattle.handheld.proofs.Decided.{listed_mem}
use Rattle.judge_paths.specs.Areas.{is_child, child_of}

-- ---- a search through a lent list
module _ {f : ℕ → Bool} {goal : Bool} (l : List ℕ) (i : ℕ) (h : Sought f goal (drop i l)) where
  pub list_next : {x : Bool} → i < length l → x ≡ f (get_or l i 0) → x ≡ false → Sought f goal (drop (i + 1) l)
  list_next g e t = sought_next h (left_at l i g) (sym e ∙ t)

  pub list_found : {x : Bool} → i < length l → x ≡ f (get_or l i 0) → x ≡ true → true ≡ goal
  list_found g e t = sought_found h (left_at l i g) (sym e ∙ t)

  pub list_none : length l ≤ i → false ≡ goal
  list_none g = sought_none h (drop_of_length-le l {i = i} g)

-- the stop itself is looked for
pub listed_is : (s : ℕ) (l : List ℕ) → list_any (λ y. eqb y s) l ≡ is_listed s l
unfolding is_listed any
listed_is s [] = refl
listed_is s (x ∷ l) =
    split (eqb s x)
    (λ t. let e : eqb x s ≡ true = eq-eqb x s (sym (eqb-true s x t)) in rw e (sym (any_now (eqb s) x l t)))
    (λ t.
    let e : eqb x s ≡ false = ne_eqb x s (λ q. eqb-false s x t (sym q)) in
    rw e (listed_is s l ∙ sym (any_on (eqb s) x l t)))

-- ---- through two lists, one after the other
module _ {A : Type 0} (f : A → Bool) where
  any_left : (l k : List A) → any f l ≡ true → any f (l ++ k) ≡ true
  unfolding any
  any_left [] k e = absurd (false≢true e)
  any_left (x ∷ l) k e = split (f x) (λ t. any_now f x (l ++ k) t) (λ t. any_on f x (l ++ k) t ∙ any_left l k (sym (any_on f x l t) ∙ e))

  any_right : (l k : List A) → any f l ≡ false → any f (l ++ k) ≡ any f k
  unfolding any
  any_right [] k e = refl
  any_right (x ∷ l) k e =
      split (f x)
      (λ t. absurd (false≢true (sym e ∙ any_now f x l t)))
      (λ t. any_on f x (l ++ k) t ∙ any_right l k (sym (any_on f x l t) ∙ e))

-- ---- an area's stops
module _ (n : Net) (s : ℕ) where
  pub child_start : {l named : List ℕ} → named ≡ l → Sought (is_child n s) (child_of n s l) (drop 0 named)
  unfolding child_of
  child_start e = record { rest = ap (any (is_child n s)) e }

  module _ {goal : Bool} (named : List ℕ) (i : ℕ) (h : Sought (is_child n s) goal (drop i named)) (g : i < length named)
      {x : Bool} {q : List ℕ} (e : q ≡ n.children (get_or named i 0)) (f : x ≡ is_listed s q) where
    is : x ≡ is_child n s (get_or named i 0)
    unfolding is_child
    is = f ∙ ap (is_listed s) e

    pub child_next : x ≡ false → Sought (is_child n s) goal (drop (i + 1) named)
    child_next t = list_next named i h g is t

    pub child_found : x ≡ true → true ≡ goal
    child_found t = list_found named i h g is t

  -- among the served of some stops, a served stop is where it is among these
  module _ (t : n.served s ≡ true) where
    served_listed : (l : List ℕ) → any (eqb s) (served_of n l) ≡ any (eqb s) l
    unfolding served_of
    served_listed [] = refl
    served_listed (x ∷ l) =
        split (eqb s x)
        (λ e.
        let u : n.served x ≡ true = ap n.served (sym (eqb-true s x e)) ∙ t in
        rw u (any_now (eqb s) x (served_of n l) e ∙ sym (any_now (eqb s) x l e)))
        (λ e.
        split (n.served x)
        (λ u. rw u (any_on (eqb s) x (served_of n l) e ∙ served_listed l ∙ sym (any_on (eqb s) x l e)))
        (λ u. rw u (served_listed l ∙ sym (any_on (eqb s) x l e))))

    gather_listed : (l : List ℕ) → any (eqb s) (gather (λ p. served_of n (n.children p)) l) ≡ any (is_child n s) l
    unfolding gather is_child is_listed any
    gather_listed [] = refl
    gather_listed (p ∷ l) =
        let here = served_of n (n.children p) in
        let rest = gather (λ p. served_of n (n.children p)) l in
        split (is_child n s p)
        (λ e. any_left (eqb s) here rest (served_listed (n.children p) ∙ e) ∙ sym (any_now (is_child n s) p l e))
        (λ e. any_right (eqb s) here rest (served_listed (n.children p) ∙ e) ∙ gather_listed l ∙ sym (any_on (is_child n s) p l e))

    child_listed : (a : ℕ) → child_of n s (n.area_stops a) ≡ is_listed s (stops_of_area n a)
    unfolding is_listed stops_of_area child_of
    child_listed a = sym (gather_listed (n.area_stops a))

  -- a stop that is not served is not among them
  module _ (t : n.served s ≡ false) where
    unserved_listed : (l : List ℕ) → any (eqb s) (served_of n l) ≡ false
    unfolding served_of any
    unserved_listed [] = refl
    unserved_listed (x ∷ l) =
        split (n.served x)
        (λ u.
        let e : eqb s x ≡ false = ne_eqb s x (λ q. false≢true (sym t ∙ ap n.served q ∙ u)) in
        rw u (any_on (eqb s) x (served_of n l) e ∙ unserved_listed l))
        (λ u. rw u (unserved_listed l))

    none_gathered : (l : List ℕ) → any (eqb s) (gather (λ p. served_of n (n.children p)) l) ≡ false
    unfolding gather any
    none_gathered [] = refl
    none_gathered (p ∷ l) =
        let here = served_of n (n.children p) in
        let rest = gather (λ p. served_of n (n.children p)) l in
        any_right (eqb s) here rest (unserved_listed (n.children p)) ∙ none_gathered l

    none_listed : (a : ℕ) → false ≡ is_listed s (stops_of_area n a)
    unfolding is_listed stops_of_area
    none_listed a = sym (none_gathered (n.area_stops a))

-- as the code asks: by the mark
module _ (n : Net) (s a : ℕ) {b : Bool} (e : b ≡ n.served s) where
  pub area_served : {x : Bool} → b ≡ true → x ≡ child_of n s (n.area_stops a) → x ≡ is_listed s (stops_of_area n a)
  area_served t f = f ∙ child_listed n s (sym e ∙ t) a

  pub area_unserved : b ≡ false → false ≡ is_listed s (stops_of_area n a)
  area_unserved t = none_listed n s (sym e ∙ t) a

-- a stop that is not there is not among them
pub area_beyond : {w : List ℕ} {a s stops : ℕ} → Accepted w → a < (net_of w).areas → stops ≡ (net_of w).stops → stops ≤ s
    → false ≡ is_listed s (stops_of_area (net_of w) a)
area_beyond {w} {a} {s} ok h e l =
    split (is_listed s (stops_of_area (net_of w) a))
    (λ t. let b : s < (net_of w).stops = each_mem (area_known ok h) (listed_mem s (stops_of_area (net_of w) a) t) in absurd (omega arith))
    (λ t. sym t)

-- ---- a place is a stop or an area
module _ (n : Net) (s : ℕ) {l : Location} {x : Bool} where
  pub at_stop : {t : ℕ} {q : List ℕ} → l ≡ Stop t → q ≡ place_stops n (Stop t) → x ≡ is_listed s q → x ≡ is_listed s (place_stops n l)
  at_stop e f g = g ∙ ap (is_listed s) (f ∙ ap (place_stops n) (sym e))

  pub at_area : {a : ℕ} → l ≡ Area a → x ≡ is_listed s (stops_of_area n a) → x ≡ is_listed s (place_stops n l)
  unfolding place_stops
  at_area e g = g ∙ ap (λ (p : Location). is_listed s (place_stops n p)) (sym e)
