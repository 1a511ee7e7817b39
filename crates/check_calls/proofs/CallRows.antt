-- What the tests of one call, one position and one served mark say, both ways.
use Prim.Native.Nat.{ℕ, ◌+◌, ◌<◌}
use mathlib.Core.Path.{◌≡◌, sym, ◌∙◌}
use mathlib.Core.Bool.{true, ◌&&◌, true≢false}
use mathlib.Core.List.{List}
use lib.Dec.{ltb, leb, eqb}
use borrow.Author.Tests.{lt-ltb, ltb-true, le-leb, leb-true, eqb-true, eq-eqb}
use Rattle.base.proofs.Choice.{split, and_left, and_right}
use Rattle.repository.specs.Sections.{sec, routes, CALL_STARTS, SERVED, ROUTE_STOP_STARTS, ROUTE_STOPS, call_route}
use Rattle.repository.specs.Sections.{call_first, call_last}
use Rattle.repository.specs.NetOf.{count}
use Rattle.repository.specs.Listed.{call, calls, called, running, passes, served_mark}
use Rattle.repository.specs.Accepted.{Called, Passed}
use Rattle.check_calls.proofs.Ranges.{some_shown, some_so}

-- ---- a call
pub record Call (w : List ℕ) (s j : ℕ) : Type 0 where
  pub route : call_route w j < routes w
  pub first_in : call_first w j < count w ROUTE_STOP_STARTS (call_route w j)
  pub last_in : call_last w j < count w ROUTE_STOP_STARTS (call_route w j)
  pub first : sec w ROUTE_STOPS (sec w ROUTE_STOP_STARTS (call_route w j) + call_first w j) ≡ s
  pub last : sec w ROUTE_STOPS (sec w ROUTE_STOP_STARTS (call_route w j) + call_last w j) ≡ s

-- five tests of numbers: the first three are of order, the others of equality
five_shown : (a b c d e f x y s : ℕ) → ltb a b && ltb c d && ltb e f && eqb x s && eqb y s ≡ true
    → (a < b) × (c < d) × (e < f) × (x ≡ s) × (y ≡ s)
five_shown a b c d e f x y s h₅ =
    let h₄ = and_left (ltb a b && ltb c d && ltb e f && eqb x s) (eqb y s) h₅ in
    let h₃ = and_left (ltb a b && ltb c d && ltb e f) (eqb x s) h₄ in
    let h₂ = and_left (ltb a b && ltb c d) (ltb e f) h₃ in (
      ltb-true a b (and_left (ltb a b) (ltb c d) h₂),
      ltb-true c d (and_right (ltb a b) (ltb c d) h₂),
      ltb-true e f (and_right (ltb a b && ltb c d) (ltb e f) h₃),
      eqb-true x s (and_right (ltb a b && ltb c d && ltb e f) (eqb x s) h₄),
      eqb-true y s (and_right (ltb a b && ltb c d && ltb e f && eqb x s) (eqb y s) h₅),
    )

module _ (w : List ℕ) (s j : ℕ) where
  pub call_shown : call w s j ≡ true → Call w s j
  unfolding call
  call_shown e =
      let h = five_shown _ _ _ _ _ _ _ _ _ e in
      record { route = h.0; first_in = h.1; last_in = h.2; first = h.3; last = h.4 }

  pub call_so : Call w s j → call w s j ≡ true
  unfolding call
  call_so h =
      rw (lt-ltb _ _ h.route, lt-ltb _ _ h.first_in, lt-ltb _ _ h.last_in, eq-eqb _ _ h.first)
      (eq-eqb _ _ h.last)

-- ---- a position
module _ (w : List ℕ) (r p : ℕ) where
  pub called_shown : called w r p ≡ true → Called w r p (sec w ROUTE_STOPS (sec w ROUTE_STOP_STARTS r + p))
  unfolding called calls
  called_shown e =
      let x = some_shown (calls w r p) _ _ e in
      let j = x.at in
      let a = eqb (call_route w j) r in
      let b = leb (call_first w j) p in
      let c = leb p (call_last w j) in
      let h₂ = and_left (a && b) c x.passes in
      record {
        row = j;
        under = record { from = x.from; to = x.to };
        route = eqb-true _ _ (and_left a b h₂);
        first = leb-true _ _ (and_right a b h₂);
        last = leb-true _ _ (and_right (a && b) c x.passes);
      }

  pub called_so : Called w r p (sec w ROUTE_STOPS (sec w ROUTE_STOP_STARTS r + p)) → called w r p ≡ true
  unfolding called calls
  called_so h =
      some_so (calls w r p) _ _
      (record {
        at = h.row;
        from = h.under.from;
        to = h.under.to;
        passes = rw (eq-eqb _ _ h.route, le-leb _ _ h.first, le-leb _ _ h.last);
      })

-- ---- a served mark
module _ (w : List ℕ) (s : ℕ) where
  passes_shown : passes w s ≡ true → Passed w s
  unfolding passes running
  passes_shown e =
      let x = some_shown (running w) (sec w CALL_STARTS s) (sec w CALL_STARTS (s + 1)) e in
      record { row = x.at; under = record { from = x.from; to = x.to }; trip = ltb-true 0 _ x.passes }

  passes_so : Passed w s → passes w s ≡ true
  unfolding passes running
  passes_so h =
      some_so (running w) (sec w CALL_STARTS s) (sec w CALL_STARTS (s + 1))
      (record { at = h.row; from = h.under.from; to = h.under.to; passes = lt-ltb 0 _ h.trip })

  pub mark_set : served_mark w s ≡ true → Passed w s → sec w SERVED s ≡ 1
  unfolding served_mark
  mark_set e h = eqb-true (sec w SERVED s) 1 (rw (passes_so h) at e)

  pub mark_unset : served_mark w s ≡ true → (Passed w s → ⊥) → sec w SERVED s ≡ 0
  unfolding served_mark
  mark_unset e h =
      split (passes w s) (λ t. absurd (h (passes_shown t))) (λ t. eqb-true (sec w SERVED s) 0 (rw t at e))

  pub mark_so : (Passed w s → sec w SERVED s ≡ 1) → ((Passed w s → ⊥) → sec w SERVED s ≡ 0) → served_mark w s ≡ true
  unfolding served_mark
  mark_so f g =
      split (passes w s)
      (λ t. rw t (eq-eqb (sec w SERVED s) 1 (f (passes_shown t))))
      (λ t. rw t (eq-eqb (sec w SERVED s) 0 (g (λ h. true≢false (sym (passes_so h) ∙ t)))))
