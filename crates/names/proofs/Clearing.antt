-- A book of no names.
-- Assumes nothing.
use Prim.Native.Nat.{ℕ}
use mathlib.Core.Path.{◌≡◌, sym, ◌∙◌}
use mathlib.Core.List.{List}
use native.Mathlib.Omega.{arith}
use native.Mathlib.Nat.{zero-add}
use lib.ListN.{take, drop, take-append-drop}
use Rattle.base.specs.Tab.{tab}
use Rattle.base.proofs.Tab.{tab_part}
use Rattle.names.specs.Book.{Empty}

-- a book that is cleared is one book
heads_none : {cap : ℕ} {w x : List ℕ} → Empty cap w x → take cap x ≡ tab (λ (i : ℕ). 0) cap 0
heads_none {cap} {w} {x} p =
    tab_part x (λ (i : ℕ). 0) cap 0 0 (omega (arith, p.room)) (λ j h. rw (zero-add j) (p.none j h))

pub empty_unique : {cap : ℕ} {w x y : List ℕ} → Empty cap w x → Empty cap w y → x ≡ y
empty_unique {cap} {w} {x} {y} p q =
    let a : take cap x ≡ take cap y = heads_none p ∙ sym (heads_none q) in
    let d : drop cap x ≡ drop cap y = p.past ∙ sym q.past in
    sym (take-append-drop cap x) ∙ rw (a, d) (take-append-drop cap y)
