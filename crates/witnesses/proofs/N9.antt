-- The words of N9 list every footpath both ways, and are accepted: the promise on arrival queries is applied to them.
use Prim.Native.Nat.{ℕ, zero, suc, ◌≤◌, ◌<◌}
use mathlib.Core.Path.{◌≡◌, refl, ◌∙◌, subst₂}
use mathlib.Core.Bool.{true}
use mathlib.Core.List.Memᴰ
use mathlib.Core.List.{List, [], ◌∷◌, Memᴰ}
use native.Mathlib.Omega.{arith}
use lib.ListN.{length}
use Rattle.base.specs.Tab.{tab}
use Rattle.std.specs.Prelude.{Ok}
use Rattle.model.specs.declared.Leg.{Leg}
use Rattle.model.specs.declared.LegType.TheVariants.{Transit, Transfer, Walk}
use Rattle.model.specs.Spans.{transfer_span}
use Rattle.model.specs.Tables.{Foot}
use Rattle.model.specs.Answer.{Answer, may_walk}
use Rattle.model.specs.Journey.{Arriving, BothWays}
use Rattle.repository.specs.Sections.{size, sec}
use Rattle.repository.specs.NetOf.{count, list_of, transfer_row, walk_row, net_of}
use Rattle.check_tables.proofs.Examples.{N9, N9_accepted}
use Rattle.raptor.specs.Lent.{Lent}
use Rattle.raptor.specs.Solved.{sized, Solved}
use Rattle.raptor.proofs.Promises.{arrival_journey}
use Rattle.witnesses.proofs.N1.{answered}
use Rattle.witnesses.proofs.Computed.{to_4_by_450, N9_legs, N9_searched, N9_answered, N9_places}

abbrev there : Foot
there = record { to = 3; span = 30 }

abbrev back : Foot
back = record { to = 2; span = 30 }

-- "each footpath listed both ways, as one kind and with one span"
pub N9_both : BothWays (net_of N9) true
unfolding net_of list_of count sec size tab transfer_row transfer_span walk_row
N9_both (Transit v) s f i a m = absurd a
N9_both Walk zero f i a m = absurd (Memᴰ.not-nil m)
N9_both Walk (suc zero) f i a m = absurd (Memᴰ.not-nil m)
N9_both Walk (suc (suc zero)) f i a m = absurd (Memᴰ.not-nil m)
N9_both Walk (suc (suc (suc zero))) f i a m = absurd (Memᴰ.not-nil m)
N9_both Walk (suc (suc (suc (suc zero)))) f i a m = absurd (Memᴰ.not-nil m)
N9_both Walk (suc (suc (suc (suc (suc s))))) f i a m = let l : suc (suc (suc (suc (suc s)))) < 5 = i in absurd (omega arith)
N9_both Transfer zero f i a m = absurd (Memᴰ.not-nil m)
N9_both Transfer (suc zero) f i a m = absurd (Memᴰ.not-nil m)
N9_both Transfer (suc (suc zero)) f i a (Memᴰ.head e) = rw e (back, Memᴰ.head refl, refl, refl)
N9_both Transfer (suc (suc zero)) f i a (Memᴰ.tail m) = absurd (Memᴰ.not-nil m)
N9_both Transfer (suc (suc (suc zero))) f i a (Memᴰ.head e) = rw e (there, Memᴰ.head refl, refl, refl)
N9_both Transfer (suc (suc (suc zero))) f i a (Memᴰ.tail m) = absurd (Memᴰ.not-nil m)
N9_both Transfer (suc (suc (suc (suc zero)))) f i a m = absurd (Memᴰ.not-nil m)
N9_both Transfer (suc (suc (suc (suc (suc s))))) f i a m = let l : suc (suc (suc (suc (suc s)))) < 5 = i in absurd (omega arith)

module _ {before : Lent} {r : Answer} {after : Lent} (h : Solved N9 to_4_by_450 before r after)
    (roomy : sized (net_of N9) before ≡ true) (enough : 59 ≤ length before.journey) where
  -- "100, round 1" at stop 0
  pub N9_answer : r ≡ Ok (record { time = record { 0 = 100 }; stop = 0; round = 1; length = 59 })
  N9_answer = answered N9 N9_accepted to_4_by_450 h roomy ∙ N9_answered (length before.journey) enough

  -- `arrival_journey`, applied: the first leg leaves stop 0 at 100, the last comes to stop 4 by 450, with two rides
  pub N9_arrives : Arriving (net_of N9) true (4 ∷ []) 450 0 100 2 N9_legs
  unfolding may_walk
  N9_arrives =
      subst₂ (λ (ss : List ℕ) (gs : List Leg). Arriving (net_of N9) true ss 450 0 100 2 gs) N9_places N9_searched
      (arrival_journey N9 to_4_by_450 before h N9_answer N9_both refl)
