-- The legs that `read_leg` gives, one behind the other, are those that the bytes are read as.
-- Assumes nothing.
use Rattle.std.proofs.Common.{◌≡◌, ℕ, suc, ◌+◌, ◌-◌, ◌≤◌, List, [], length, drop, refl, sym, ap, ◌∙◌, arith, length-drop}
use Rattle.std.proofs.Common.{Option, Result, None, Some, Ok, Err}
use mathlib.Core.Path.{subst}
use Prim.Native.Nat.{zero}
use lib.ListN.{drop_of_length-le}
use lib.Seq.{drop-drop}
use Rattle.model.specs.declared.Leg.{Leg}
use Rattle.model.specs.Bytes.{Read, legs, bad, before, leg_size, read_from, read}
use Rattle.model.proofs.ReadBack.{read_end, read_stop, read_on}
use Rattle.journey.specs.declared.BadLeg.{BadLeg}
use Rattle.journey.specs.Reading.{leg_from}
use Rattle.journey.specs.Legs.{LegsFrom, over, next}
use Rattle.journey.proofs.Written.{least_size}
use Rattle.journey.proofs.First.{none_left}
use Rattle.journey.proofs.Told.{told_whole, told_bad, told_end, next_fits}

legs_same : {gs hs : List Leg} → legs gs ≡ legs hs → gs ≡ hs
legs_same e = cc

-- one turn, where the turns after it are known
turn : (i at : ℕ) (b : List ℕ) (gs : List Leg) → at ≤ length b → length b - at ≤ suc i → read_from (suc i) at (drop at b) ≡ legs gs
    → ((v : ℕ) (hs : List Leg) → v ≤ length b → length b - v ≤ i → read_from i v (drop v b) ≡ legs hs → LegsFrom b v hs) → LegsFrom b at gs
unfolding before
turn i at b gs h l e after = go (leg_from b at) refl
  where
    rest : (g : Leg) → leg_from b at ≡ Some (Ok g) → (r : Read) → read_from i (at + leg_size g.kind) (drop (at + leg_size g.kind) b) ≡ r
        → before g r ≡ legs gs → LegsFrom b at gs
    rest g w (legs hs) q p =
        let n = next_fits b at refl w refl refl in
        let m = least_size g.kind in
        subst (LegsFrom b at) (legs_same p) (next g w (after (at + leg_size g.kind) hs (omega arith) (omega arith) q))
    rest g w (bad o) q p = cc

    go : (r : Option (Result Leg BadLeg)) → leg_from b at ≡ r → LegsFrom b at gs
    go (Some (Ok g)) w =
        let step : read_from (suc i) at (drop at b) ≡ before g (read_from i (at + leg_size g.kind) (drop (leg_size g.kind) (drop at b))) =
        read_on i at (drop at b) (told_whole b at refl w refl) in
        let there : drop (leg_size g.kind) (drop at b) ≡ drop (at + leg_size g.kind) b = drop-drop (leg_size g.kind) at b in
        let all : before g (read_from i (at + leg_size g.kind) (drop (at + leg_size g.kind) b)) ≡ legs gs =
        ap (λ (x : List ℕ). before g (read_from i (at + leg_size g.kind) x)) (sym there) ∙ sym step ∙ e in
        rest g w (read_from i (at + leg_size g.kind) (drop (at + leg_size g.kind) b)) refl all
    go (Some (Err v)) w =
        let t = told_bad b at refl w refl in
        let n = length-drop at b in
        let stop = read_stop (suc i) at (drop at b) (omega arith) (omega arith) t.1 in
        cc
    go None w =
        let d : drop at b ≡ [] = drop_of_length-le b (told_end b at refl w) in
        subst (LegsFrom b at) (legs_same (sym (ap (read_from (suc i) at) d ∙ read_end (suc i) at) ∙ e)) (over w)

from : (f at : ℕ) (b : List ℕ) (gs : List Leg) → at ≤ length b → length b - at ≤ f → read_from f at (drop at b) ≡ legs gs → LegsFrom b at gs
unfolding read_from
from zero at b gs h l e = subst (LegsFrom b at) (legs_same e) (over (sym (none_left b at (omega arith))))
from (suc i) at b gs h l e = turn i at b gs h l e (λ v hs. from i v b hs)

-- "read back unchanged", by the program's own reader
pub legs_from : (b : List ℕ) (gs : List Leg) → read b ≡ legs gs → LegsFrom b 0 gs
unfolding read
legs_from b gs e = from (length b) 0 b gs (omega arith) (omega arith) e
