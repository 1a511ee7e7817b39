-- A search for the line's end that has come to i.
-- Assumes nothing.
use Prim.Native.Nat.{ℕ, ◌+◌, ◌-◌, ◌≤◌, ◌<◌}
use mathlib.Core.Path.{◌≡◌, refl, sym, ap, ◌∙◌}
use mathlib.Core.List.{List, [], ◌∷◌, ◌++◌, append-nil, append_assoc}
use native.Mathlib.Omega.{arith}
use native.Mathlib.Numerals.{add-one}
use lib.ListN.{length, get_or, drop, drop_of_length-le}
use lib.Seq.{drop-cons}
use borrow.Author.Tests.{eq-eqb, ne_eqb}
use Rattle.csv_text.specs.Part.{part}
use Rattle.csv_text.specs.Lines.{line_of, after_line, trimmed}
use Rattle.csv_text.proofs.Parts.{part_none, part_more, part_length, part_at, part_take}

pub record Seeking (b : List ℕ) (a i : ℕ) : Type 0 where
  pub low : a ≤ i
  pub high : i ≤ length b
  rest : part a i b ++ line_of (drop i b) ≡ line_of (drop a b)
  left : after_line (drop i b) ≡ after_line (drop a b)

pub seeking_start : {b : List ℕ} {a : ℕ} → a ≤ length b → Seeking b a a
seeking_start {b} {a} h = record { low = omega arith; high = h; rest = rw (part_none b a a (omega arith)); left = refl }

module _ {b : List ℕ} {a i : ℕ} (s : Seeking b a i) where
  pub seeking_on : i < length b → (get_or b i 0 ≡ 10 → ⊥) → Seeking b a (i + 1)
  unfolding line_of after_line
  seeking_on h x =
      let q : line_of (drop i b) ≡ get_or b i 0 ∷ line_of (drop (i + 1) b) = rw (drop-cons b i 0 h, ne_eqb (get_or b i 0) 10 x, add-one) in
      record {
        low = omega (arith, s.low);
        high = omega arith;
        rest = ap (λ (t : List ℕ). t ++ line_of (drop (i + 1) b)) (part_more b a i s.low h)
            ∙ append_assoc (part a i b) (get_or b i 0 ∷ []) (line_of (drop (i + 1) b))
            ∙ ap (λ (t : List ℕ). part a i b ++ t) (sym q)
            ∙ s.rest;
        left = sym (rw (drop-cons b i 0 h, ne_eqb (get_or b i 0) 10 x, add-one)) ∙ s.left;
      }

  pub seeking_found : i < length b → get_or b i 0 ≡ 10 → part a i b ≡ line_of (drop a b)
  unfolding line_of
  seeking_found h x =
      let q : line_of (drop i b) ≡ [] = rw (drop-cons b i 0 h, eq-eqb (get_or b i 0) 10 x) in
      sym (append-nil (part a i b)) ∙ ap (λ (t : List ℕ). part a i b ++ t) (sym q) ∙ s.rest

  pub seeking_end : length b ≤ i → part a (length b) b ≡ line_of (drop a b)
  unfolding line_of
  seeking_end h =
      let e : length b ≡ i = omega (arith, s.high) in
      let q : line_of (drop i b) ≡ [] = rw (drop_of_length-le b h) in
      rw e (sym (append-nil (part a i b)) ∙ ap (λ (t : List ℕ). part a i b ++ t) (sym q) ∙ s.rest)

  pub behind_found : i < length b → get_or b i 0 ≡ 10 → after_line (drop a b) ≡ drop (i + 1) b
  unfolding after_line
  behind_found h x = sym s.left ∙ rw (drop-cons b i 0 h, eq-eqb (get_or b i 0) 10 x, add-one)

  pub behind_end : length b ≤ i → after_line (drop a b) ≡ drop (length b + 1) b
  unfolding after_line
  behind_end h =
      let n : length b ≤ length b + 1 = omega arith in
      let e : drop (length b + 1) b ≡ [] = drop_of_length-le b n in
      sym s.left ∙ rw (drop_of_length-le b h, e)

-- ---- the carriage return
module _ (b : List ℕ) (a e : ℕ) (k : e ≤ length b) where
  last_is : a < e → get_or (part a e b) (length (part a e b) - 1) 0 ≡ get_or b (e - 1) 0
  last_is h =
      let z = part_length b a e (omega arith) k in
      let i : length (part a e b) - 1 ≡ e - 1 - a = omega arith in
      let j : a + (e - 1 - a) ≡ e - 1 = omega arith in
      rw (i, part_at b a e (e - 1 - a) (omega arith) k, j)

  pub text_return : a < e → get_or b (e - 1) 0 ≡ 13 → part a (e - 1) b ≡ trimmed (part a e b)
  unfolding trimmed
  text_return h x =
      let z = part_length b a e (omega arith) k in
      let c = eq-eqb (get_or (part a e b) (length (part a e b) - 1) 0) 13 (last_is h ∙ x) in
      let i : length (part a e b) - 1 ≡ e - 1 - a = omega arith in
      rw (c, i) (part_take b a e (e - 1) (omega arith) (omega arith))

  pub text_whole : a < e → (get_or b (e - 1) 0 ≡ 13 → ⊥) → part a e b ≡ trimmed (part a e b)
  unfolding trimmed
  text_whole h x =
      let n : get_or (part a e b) (length (part a e b) - 1) 0 ≡ 13 → ⊥ = λ y. x (sym (last_is h) ∙ y) in
      rw (ne_eqb (get_or (part a e b) (length (part a e b) - 1) 0) 13 n)

  pub text_empty : e ≤ a → part a e b ≡ trimmed (part a e b)
  unfolding trimmed
  text_empty h = rw (part_none b a e h)
