-- The round loop on its way: the rounds left come to what the whole search comes to, and what the model knows before round k is known.
use Prim.Native.Nat.{ℕ, suc, ◌+◌, ◌-◌, ◌≤◌, ◌<◌}
use mathlib.Core.Path.{◌≡◌, sym, ap, ◌∙◌, subst}
use mathlib.Core.Bool.{true, false}
use native.Mathlib.Omega.{arith}
use native.Mathlib.Numerals.{add-one}
use Rattle.model.specs.Tables.{Net}
use Rattle.model.specs.Limits.{MOST_ROUNDS}
use Rattle.model.specs.Lists.{any_of}
use Rattle.model.specs.State.{Task, State}
use Rattle.model.specs.Round.{listed, round}
use Rattle.model.specs.Search.{begun, ended, loop, search}
use Rattle.model.specs.Sound.{Sound, Asked}
use Rattle.model.proofs.Orders.{listed_fair, loop_goes, loop_stops}
use Rattle.model.proofs.Search.{Inv, begun_inv, round_inv}

pub record Rounds (n : Net) (q : Task) (k : ℕ) (s : State) : Type 0 where
  pub rest : loop n q listed (MOST_ROUNDS - k) k s ≡ search n q listed
  pub known : Inv n q k s
  pub sound : Sound n
  pub asked : Asked n q

module _ {n : Net} {q : Task} where
  pub rounds_start : {s : State} → Sound n → Asked n q → s ≡ begun n q → Rounds n q 0 s
  unfolding search
  rounds_start ok asked e = record {
    rest = ap (λ (x : State). loop n q listed MOST_ROUNDS 0 x) e;
    known = subst (Inv n q 0) (sym e) (begun_inv n q ok asked);
    sound = ok;
    asked = asked;
  }

  module _ {k : ℕ} {s : State} (h : Rounds n q k s) where
    -- a round that finds a mark
    pub rounds_next : {u : State} → k < MOST_ROUNDS → any_of s.times.labels.mark ≡ true → u ≡ round n q listed k s → Rounds n q (k + 1) u
    rounds_next {u} lt e f =
        let c : MOST_ROUNDS - k ≡ suc (MOST_ROUNDS - (k + 1)) = omega arith in
        let one : k + 1 ≡ suc k = add-one k in
        let goes : loop n q listed (MOST_ROUNDS - k) k s ≡ loop n q listed (MOST_ROUNDS - (k + 1)) (suc k) (round n q listed k s) =
        ap (λ (x : ℕ). loop n q listed x k s) c ∙ loop_goes n q listed (MOST_ROUNDS - (k + 1)) k s e in
        record {
          rest = ap (λ (x : State). loop n q listed (MOST_ROUNDS - (k + 1)) (k + 1) x) f
              ∙ ap (λ (x : ℕ). loop n q listed (MOST_ROUNDS - (k + 1)) x (round n q listed k s)) one ∙ sym goes ∙ h.rest;
          known = subst (Inv n q (k + 1)) (sym f) (rw one (round_inv n q h.sound h.asked listed listed_fair k s lt h.known));
          sound = h.sound;
          asked = h.asked;
        }

    -- a round that finds none
    pub rounds_end : {u : State} → k < MOST_ROUNDS → any_of s.times.labels.mark ≡ false → u ≡ ended n q s → u ≡ search n q listed
    rounds_end {u} lt e f =
        let c : MOST_ROUNDS - k ≡ suc (MOST_ROUNDS - (k + 1)) = omega arith in
        f ∙ sym (ap (λ (x : ℕ). loop n q listed x k s) c ∙ loop_stops n q listed (MOST_ROUNDS - (k + 1)) k s e) ∙ h.rest

    -- all 15 have run
    pub rounds_all : MOST_ROUNDS ≤ k → s ≡ search n q listed
    unfolding loop
    rounds_all le = let c : MOST_ROUNDS - k ≡ 0 = omega arith in rw c at h.rest
