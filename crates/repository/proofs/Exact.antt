-- A stop's route list is exact: it names the routes that contain the stop, ascending, each with the stop's first
-- position in it.
use Prim.Native.Nat.{ℕ, zero, suc, ◌+◌, ◌-◌, ◌≤◌, ◌<◌}
use mathlib.Core.Path.{◌≡◌, refl, sym, ap, ◌∙◌}
use mathlib.Core.List.{List, Memᴰ}
use native.Mathlib.Omega.{arith}
use native.Mathlib.Decide.{dec_lt}
use borrow.Author.Tests.{eq-eqb, ne_eqb}
use Rattle.model.specs.Lists.{upto}
use Rattle.model.specs.Tables.{Net}
use Rattle.model.specs.Choosing.{first_position}
use Rattle.repository.specs.Sections.{sec, CALL_STARTS, call_route, call_first}
use Rattle.repository.specs.NetOf.{net_of}
use Rattle.repository.specs.Readable.{CalledFrom, Searchable}
use Rattle.repository.specs.Rows.{calls, starts_of, first_row, past_row, OfStop, rest}
use Rattle.repository.proofs.Tabs.{Ascending, tab_ascends}
use Rattle.repository.proofs.Lists.{calls_are, rest_said, rest_says}
use Rattle.repository.proofs.Ranges.{under, of_stop, route_known, position_known}

-- route r contains stop s
pub record Contains (n : Net) (r s : ℕ) : Type 0 where
  pub route : r < n.routes
  pub position : ℕ
  pub within : position < n.positions r
  pub stop : n.stop_at r position ≡ s

-- a row of stop s names route r, and a first position that is not after p
record Row (w : List ℕ) (s r p : ℕ) : Type 0 where
  pub row : ℕ
  pub of : OfStop calls w s row
  pub route : call_route w row ≡ r
  pub first : call_first w row ≤ p

module _ {w : List ℕ} (h : Searchable w) {s : ℕ} where
  -- the routes of a stop's rows ascend
  climbs : (d i : ℕ) → OfStop calls w s i → i + suc d < past_row calls w s → call_route w i < call_route w (i + suc d)
  unfolding net_of starts_of first_row past_row
  climbs d i o l = by d l
    where
      next : (j : ℕ) → sec w CALL_STARTS s ≤ j → j + 1 < sec w CALL_STARTS (s + 1) → call_route w j < call_route w (j + 1)
      next j f g =
          let back : j + 1 - 1 ≡ j = omega arith in
          rw back at (h.indexed.call_rise s (j + 1) o.stop (omega arith) g)

      by : (d : ℕ) → i + suc d < sec w CALL_STARTS (s + 1) → call_route w i < call_route w (i + suc d)
      by zero g = next i o.from g
      by (suc d) g =
          let more : i + suc (suc d) ≡ i + suc d + 1 = omega arith in
          rw more (omega (arith, by d (omega arith), next (i + suc d) (omega (arith, o.from)) (omega arith)))

  pub routes_ascend : {i j : ℕ} → OfStop calls w s i → OfStop calls w s j → i < j → call_route w i < call_route w j
  routes_ascend {i} {j} o q l =
      let sum : i + suc (j - suc i) ≡ j = omega arith in
      rw sum at (climbs (j - suc i) i o (omega (arith, q.past)))

  -- so no two rows of a stop name the same route
  pub one_row : {i j : ℕ} → OfStop calls w s i → OfStop calls w s j → call_route w i ≡ call_route w j → i ≡ j
  one_row {i} {j} o q e =
      elim (dec_lt i j) [
        | yes l ↦ absurd (omega (arith, routes_ascend o q l))
        | no l ↦ elim (dec_lt j i) [ yes g ↦ absurd (omega (arith, routes_ascend q o g)) | no g ↦ omega arith ]
      ]

  -- each position of the stop in a route has such a row
  called : s < (net_of w).stops → {r p : ℕ} → r < (net_of w).routes → p < (net_of w).positions r → (net_of w).stop_at r p ≡ s
      → Row w s r p
  unfolding net_of starts_of first_row past_row
  called i {r} {p} hr hp e =
      let c : CalledFrom w r p s = rw e at (h.indexed.call_all r p hr hp) in
      record {
        row = c.row;
        of = record { stop = i; from = c.under.from; past = c.under.to };
        route = c.route;
        first = c.first;
      }

  module _ {j : ℕ} (o : OfStop calls w s j) where
    at_first : (net_of w).stop_at (call_route w j) (call_first w j) ≡ s
    unfolding net_of starts_of
    at_first = h.indexed.call_first_lem s j o.stop (under calls o)

    before_first : (p : ℕ) → p < call_first w j → (net_of w).stop_at (call_route w j) p ≡ s → ⊥
    before_first p l e =
        let r = route_known h o refl in
        let c = called o.stop r (omega (arith, position_known h o refl refl)) e in
        let same : j ≡ c.row = one_row o c.of (sym c.route) in
        omega (arith, c.first, ap (call_first w) same)

-- ---- the first of the positions listed

first_at : (n : Net) (r s m p i : ℕ) → i ≤ p → p < i + m → n.stop_at r p ≡ s → ((q : ℕ) → q < p → n.stop_at r q ≡ s → ⊥)
    → first_position n r s (upto m i) ≡ p
unfolding first_position upto
first_at n r s zero p i l g e b = absurd (omega arith)
first_at n r s (suc m) p i l g e b =
    elim (dec_lt i p) [
      | yes k ↦ rw (ne_eqb _ _ (b i k)) (first_at n r s m p (suc i) k (omega arith) e b)
      | no k ↦ let same : i ≡ p = omega arith in rw (same, eq-eqb _ _ e)
    ]

module _ {w : List ℕ} (h : Searchable w) {s : ℕ} where
  pub first_position_lem : {j r p : ℕ} → OfStop calls w s j → r ≡ call_route w j → p ≡ call_first w j
      → p ≡ first_position (net_of w) r s (upto ((net_of w).positions r) 0)
  first_position_lem {j} o e f =
      let at = first_at (net_of w) (call_route w j) s ((net_of w).positions (call_route w j)) (call_first w j) 0 (omega arith)
      (omega (arith, position_known h o refl refl)) (at_first h o) (before_first h o) in
      rw (e, f) (sym at)

  -- "A stop's route list names exactly the routes that contain it, once each, ascending."
  pub routes_contain : s < (net_of w).stops → (r : ℕ) → Memᴰ r ((net_of w).routes_of s) → Contains (net_of w) r s
  routes_contain i r m =
      let y = rest_said (call_route w) _ _ (rw (calls_are w s refl refl) at m) in
      let o = of_stop calls i refl y.from refl y.past in
      record {
        route = route_known h o y.says;
        position = call_first w y.row;
        within = position_known h o y.says refl;
        stop = ap (λ (x : ℕ). (net_of w).stop_at x (call_first w y.row)) y.says ∙ at_first h o;
      }

  pub contained_listed : s < (net_of w).stops → (r : ℕ) → Contains (net_of w) r s → Memᴰ r ((net_of w).routes_of s)
  contained_listed i r c =
      let y = called h i c.route c.within c.stop in
      rw (calls_are w s refl refl)
      (rest_says (call_route w) _ _ (record {
        row =
            y.row;
        from = y.of.from;
        past = y.of.past;
        says = sym y.route;
      }))

rows_ascend : {w : List ℕ} → Searchable w → {s : ℕ} → s < (net_of w).stops
    → Ascending (rest (call_route w) (first_row calls w s) (past_row calls w s))
unfolding rest
rows_ascend {w} h {s} i =
    tab_ascends (call_route w) _ _
    (λ j k l g m.
    routes_ascend h (of_stop calls i refl l refl (omega arith)) (of_stop calls i refl (omega arith) refl (omega arith)) g)

pub routes_ascending : {w : List ℕ} → Searchable w → {s : ℕ} → s < (net_of w).stops → Ascending ((net_of w).routes_of s)
routes_ascending {w} h {s} i = rw (calls_are w s refl refl) (rows_ascend h i)
