-- The stops of an area are all different, so that there is room for them in as many places as there are stops.
use Prim.Native.Nat.{ℕ, zero, suc, ◌≤◌, ◌<◌}
use mathlib.Core.Path.{◌≡◌, sym, ap, ◌∙◌}
use mathlib.Core.Logic.{◌≢◌}
use mathlib.Core.List.{List, ◌++◌}
use native.Mathlib.Omega.{arith}
use lib.ListN.{length, get_or}
use Rattle.base.proofs.Choice.{cond_elim}
use Rattle.base.specs.Each.{Each, nil, cons}
use Rattle.base.proofs.Each.{each_append, each_map, each_both}
use Rattle.base.specs.Distinct.{Distinct, empty, front}
use Rattle.base.proofs.Distinct.{distinct_short}
use Rattle.model.specs.Lists.{gather}
use Rattle.model.specs.Tables.{Net}
use Rattle.model.specs.Places.{served_of, stops_of_area}
use Rattle.repository.specs.Sections.{sec, STATIONS, CHILDREN, AREA_STOPS}
use Rattle.repository.specs.NetOf.{count, list_of, net_of}
use Rattle.repository.specs.Accepted.{Accepted}
use Rattle.repository.proofs.Rooms.{child_of_stop, stop_of_area}
use Rattle.repository.proofs.Tabs.{tab_each, tab_distinct}

-- ---- lists without a repetition

append_distinct : {xs ys : List ℕ} → Distinct xs → Distinct ys → Each (λ x. Each (λ y. y ≢ x) ys) xs
    → Distinct (xs ++ ys)
append_distinct empty d h = d
append_distinct (front a c) d (cons b h) = front (each_append a b) (append_distinct c d h)

module _ (n : Net) where
  served_each : {P : ℕ → Type 0} {l : List ℕ} → Each P l → Each P (served_of n l)
  unfolding served_of
  served_each nil = nil
  served_each {P} (cons {x = x} {xs = xs} p h) =
      cond_elim (Each P) (n.served x) _ _ (λ e. cons p (served_each h)) (λ e. served_each h)

  served_distinct : {l : List ℕ} → Distinct l → Distinct (served_of n l)
  unfolding served_of
  served_distinct empty = empty
  served_distinct (front {x = x} {xs = xs} a d) =
      cond_elim Distinct (n.served x) _ _ (λ e. front (served_each a) (served_distinct d)) (λ e. served_distinct d)

gather_each : {P Q : ℕ → Type 0} (f : ℕ → List ℕ) {l : List ℕ} → ((s : ℕ) → Q s → Each P (f s)) → Each Q l
    → Each P (gather f l)
unfolding gather
gather_each f h nil = nil
gather_each f h (cons {x = s} q a) = each_append (h s q) (gather_each f h a)

-- lists of numbers that each know from which number they come
module _ (f : ℕ → List ℕ) (parent : ℕ → ℕ) (Q : ℕ → Type 0) (of : (s : ℕ) → Q s → Each (λ c. parent c ≡ s) (f s))
    (once : (s : ℕ) → Q s → Distinct (f s)) where
  gather_distinct : {l : List ℕ} → Each Q l → Distinct l → Distinct (gather f l)
  unfolding gather
  gather_distinct nil empty = empty
  gather_distinct (cons {x = s} {xs = ss} q a) (front b d) =
      append_distinct (once s q) (gather_distinct a d)
      (each_map (λ x e. each_map (λ y ne same. ne (ap parent same ∙ e)) others) (of s q))
    where
      others : Each (λ y. parent y ≢ s) (gather f ss)
      others =
          gather_each {Q = λ (t : ℕ). Q t × (t ≢ s)} f (λ t h. each_map (λ c e g. h.1 (sym e ∙ g)) (of t h.0))
          (each_both a b)

each_at : {P : ℕ → Type 0} {l : List ℕ} → Each P l → (i : ℕ) → i < length l → P (get_or l i 0)
each_at nil i g = absurd (omega arith)
each_at (cons p h) zero g = p
each_at (cons p h) (suc i) g = each_at h i (omega arith)

-- ---- the stops of an area

module _ {w : List ℕ} (h : Accepted w) where
  module _ {s : ℕ} (i : s < (net_of w).stops) where
    children_of : Each (λ c. sec w STATIONS c ≡ s) ((net_of w).children s)
    unfolding net_of list_of count
    children_of =
        let t = child_of_stop h.laid i in
        tab_each (λ (c : ℕ). sec w STATIONS c ≡ s) (sec w CHILDREN) _ _
        (λ j l g. h.listed.child_of s j i (record { from = l; to = omega (arith, t.entry.rise) }))

    children_known : Each (λ c. c < (net_of w).stops) ((net_of w).children s)
    unfolding net_of list_of count
    children_known =
        let t = child_of_stop h.laid i in
        tab_each (λ (c : ℕ). c < (net_of w).stops) (sec w CHILDREN) _ _
        (λ j l g. h.listed.child_in s j i (record { from = l; to = omega (arith, t.entry.rise) }))

    children_once : Distinct ((net_of w).children s)
    unfolding net_of list_of count
    children_once =
        let t = child_of_stop h.laid i in
        tab_distinct (sec w CHILDREN) _ _ (λ j k l g m. h.listed.child_once j k g (omega (arith, t.entry.rise, t.within)))

    pub child_known : (j : ℕ) → j < length ((net_of w).children s) → get_or ((net_of w).children s) j 0 < (net_of w).stops
    child_known = each_at children_known

  module _ {a : ℕ} (i : a < (net_of w).areas) where
    named_known : Each (λ s. s < (net_of w).stops) ((net_of w).area_stops a)
    unfolding net_of list_of count
    named_known =
        let t = stop_of_area h.laid i in
        tab_each (λ (s : ℕ). s < (net_of w).stops) (sec w AREA_STOPS) _ _
        (λ j l g. h.listed.area_in j (omega (arith, t.entry.rise, t.within)))

    pub named_stop : (j : ℕ) → j < length ((net_of w).area_stops a) → get_or ((net_of w).area_stops a) j 0 < (net_of w).stops
    named_stop = each_at named_known

    named_once : Distinct ((net_of w).area_stops a)
    unfolding net_of list_of count
    named_once =
        let t = stop_of_area h.laid i in
        tab_distinct (sec w AREA_STOPS) _ _
        (λ j k l g m. h.listed.area_once_lem a j k i (record {
          from =
              l;
          to = omega (arith, t.entry.rise);
        }) g (omega (arith, t.entry.rise)))

    pub area_known : Each (λ s. s < (net_of w).stops) (stops_of_area (net_of w) a)
    unfolding stops_of_area
    area_known =
        gather_each (λ s. served_of (net_of w) ((net_of w).children s))
        (λ s l. served_each (net_of w) (children_known l)) named_known

    pub area_once_lem : Distinct (stops_of_area (net_of w) a)
    unfolding stops_of_area
    area_once_lem =
        gather_distinct (λ s. served_of (net_of w) ((net_of w).children s)) (sec w STATIONS) (λ s. s < (net_of w).stops)
        (λ s l. served_each (net_of w) (children_of l)) (λ s l. served_distinct (net_of w) (children_once l))
        named_known named_once

    pub area_fits : length (stops_of_area (net_of w) a) ≤ (net_of w).stops
    area_fits = distinct_short (net_of w).stops area_known area_once_lem
