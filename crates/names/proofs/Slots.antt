-- A text's slot.
-- Assumes nothing.
use Prim.Native.Nat.{ℕ, ◌+◌, ◌*◌, ◌%◌, ◌≤◌, ◌<◌}
use mathlib.Core.Path.{◌≡◌, refl, sym, ap, ◌∙◌}
use mathlib.Core.List.{List}
use native.Mathlib.Omega.{arith}
use native.Mathlib.Nat.{mod-lt}
use native.Mathlib.Numerals.{add-one}
use lib.ListN.{length, get_or, drop, drop_of_length-le}
use lib.Seq.{drop-cons}
use Rattle.names.specs.Book.{hash_from, slot_of}

pub record Hashing (b : List ℕ) (h i : ℕ) : Type 0 where
  pub small : h < 4_294_967_296
  rest : hash_from h (drop i b) ≡ hash_from 0 b

pub hashing_start : {b : List ℕ} → Hashing b 0 0
hashing_start = record { small = omega arith; rest = refl }

module _ {b : List ℕ} {h i : ℕ} (r : Hashing b h i) where
  pub hashing_on : i < length b → {x : ℕ} → x ≡ get_or b i 0 → Hashing b ((h * 31 + x) % 4294967296) (i + 1)
  unfolding hash_from
  hashing_on k {x} q = record { small = omega arith; rest = sym (rw (drop-cons b i 0 k, ← q, add-one)) ∙ r.rest }

  pub hashing_end : (cap : ℕ) {m : ℕ} → m ≡ cap → length b ≤ i → h % m ≡ slot_of cap b
  unfolding hash_from slot_of
  hashing_end cap q k = rw q (ap (λ (x : ℕ). x % cap) (sym (rw (drop_of_length-le b k)) ∙ r.rest))

pub slot_below : (h cap : ℕ) → 0 < cap → h % cap < cap
slot_below h cap k = mod-lt h k
