-- A part of a list, from its first byte and from its end.
-- Assumes nothing.
use Prim.Native.Nat.{ℕ, suc, ◌+◌, ◌-◌, ◌≤◌, ◌<◌}
use mathlib.Core.Path.{◌≡◌, refl, sym, ap}
use mathlib.Core.List.{List, [], ◌∷◌, ◌++◌}
use native.Mathlib.Omega.{arith}
use native.Mathlib.Numerals.{add-one}
use native.Mathlib.Nat.{sub-zero}
use lib.ListN.{length, get_or, take, drop, length-take, length-drop}
use lib.Seq.{drop-cons, get_or-drop, get_or-take, take-suc, take-take, take-length}
use Rattle.csv_text.specs.Part.{part}

pub part_step : (b : List ℕ) (a e : ℕ) → a < e → e ≤ length b → part a e b ≡ get_or b a 0 ∷ part (a + 1) e b
unfolding part
part_step b a e h k =
    let c : e - a ≡ suc (e - (a + 1)) = omega arith in
    let i : a < length b = omega arith in
    rw (c, drop-cons b a 0, add-one)

pub part_none : (b : List ℕ) (a e : ℕ) → e ≤ a → part a e b ≡ []
unfolding part
part_none b a e h = let c : e - a ≡ 0 = omega arith in rw c

-- one byte more at the end
pub part_more : (b : List ℕ) (a i : ℕ) → a ≤ i → i < length b → part a (i + 1) b ≡ part a i b ++ (get_or b i 0 ∷ [])
unfolding part
part_more b a i h k = go (i - a) refl
  where
    go : (n : ℕ) → i - a ≡ n → take (i + 1 - a) (drop a b) ≡ take (i - a) (drop a b) ++ (get_or b i 0 ∷ [])
    go n e =
        let c : i + 1 - a ≡ suc (i - a) = omega arith in
        let l : i - a < length (drop a b) = omega (arith, length-drop a b) in
        let g : get_or (drop a b) (i - a) 0 ≡ get_or b i 0 = let s : a + (i - a) ≡ i = omega arith in rw (get_or-drop, s) in
        rw (c, take-suc (drop a b) (i - a) 0 l, g)

-- how long it is, what stands in it, and a part of it
pub part_length : (b : List ℕ) (a e : ℕ) → a ≤ e → e ≤ length b → length (part a e b) ≡ e - a
unfolding part
part_length b a e h k = simp (length-take, length-drop) (omega arith)

-- a part has one end
pub part_ends : (b : List ℕ) (a e e' : ℕ) → a ≤ e → e ≤ length b → a ≤ e' → e' ≤ length b → part a e b ≡ part a e' b → e ≡ e'
part_ends b a e e' h k h' k' p =
    let l : length (part a e b) ≡ length (part a e' b) = ap length p in
    omega (arith, l, part_length b a e h k, part_length b a e' h' k', h, h')

pub part_at : (b : List ℕ) (a e i : ℕ) → i < e - a → e ≤ length b → get_or (part a e b) i 0 ≡ get_or b (a + i) 0
unfolding part
part_at b a e i h k = rw (get_or-take, get_or-drop)

pub part_take : (b : List ℕ) (a e t : ℕ) → a ≤ t → t ≤ e → part a t b ≡ take (t - a) (part a e b)
unfolding part
part_take b a e t h k = sym (take-take (t - a) (e - a) (drop a b) (omega arith))

pub part_whole : (b : List ℕ) → part 0 (length b) b ≡ b
unfolding part
part_whole b = rw (sub-zero (length b)) (take-length b)
