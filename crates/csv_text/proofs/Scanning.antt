-- A scan that has come to i: the bytes behind it are the text so far, and what is left decides.
-- Assumes nothing.
use Prim.Native.Nat.{ℕ, ◌+◌, ◌≤◌, ◌<◌}
use mathlib.Core.Path.{◌≡◌, refl, sym, ap, ◌∙◌}
use mathlib.Core.Bool.{true, false}
use mathlib.Core.List.{List, [], ◌∷◌, ◌++◌, append-nil, append_assoc}
use native.Mathlib.Omega.{arith}
use lib.ListN.{length, get_or}
use borrow.Author.Tests.{eq-eqb, ne_eqb}
use Rattle.csv_text.specs.Part.{part}
use Rattle.csv_text.specs.Fields.{Scan, taken, wrong, joined, plain, quoted, field}
use Rattle.std.specs.Prelude.{Option, None, Some}
use Rattle.csv_text.specs.declared.TextField.{TextField}
use Rattle.csv_text.specs.Read.{scan_of, Within}
use Rattle.csv_text.proofs.Parts.{part_step, part_none, part_more}

-- a text before a scan
led : List ℕ → Scan → Scan
led s (taken t r) = taken (s ++ t) r
led s wrong = wrong

led_none : (s : Scan) → led [] s ≡ s
unfolding led
led_none (taken t r) = refl
led_none wrong = refl

led_held : (s : List ℕ) (x : ℕ) (c : Scan) → led (s ++ (x ∷ [])) c ≡ led s (joined x c)
unfolding led joined
led_held s x (taken t r) = ap (λ (l : List ℕ). taken l r) (append_assoc s (x ∷ []) t)
led_held s x wrong = refl

pub record Going (f : List ℕ → Scan) (b : List ℕ) (a e i : ℕ) : Type 0 where
  pub low : a ≤ i
  pub high : i ≤ e
  pub inside : e ≤ length b
  rest : led (part a i b) (f (part i e b)) ≡ f (part a e b)

pub going_start : {f : List ℕ → Scan} {b : List ℕ} {a e : ℕ} → a ≤ e → e ≤ length b → Going f b a e a
going_start {f} {b} {a} {e} h k =
    record { low = omega arith; high = h; inside = k; rest = rw (part_none b a a (omega arith)) (led_none (f (part a e b))) }

module _ {f : List ℕ → Scan} {b : List ℕ} {a e i : ℕ} (g : Going f b a e i) where
  -- a byte of the text
  step : i < e → f (part i e b) ≡ joined (get_or b i 0) (f (part (i + 1) e b)) → Going f b a e (i + 1)
  step h q =
      let k = g.inside in
      record {
        low = omega (arith, g.low);
        high = omega arith;
        inside = g.inside;
        rest = ap (λ (t : List ℕ). led t (f (part (i + 1) e b))) (part_more b a i g.low (omega arith))
            ∙ led_held (part a i b) (get_or b i 0) (f (part (i + 1) e b))
            ∙ ap (led (part a i b)) (sym q)
            ∙ g.rest;
      }

  -- the end of the text
  close : (n : ℕ) → f (part i e b) ≡ taken [] (part n e b) → scan_of b e (Some (record { from = a; to = i; next = n })) ≡ f (part a e b)
  unfolding scan_of led
  close n q = ap (λ (t : List ℕ). taken t (part n e b)) (sym (append-nil (part a i b))) ∙ ap (led (part a i b)) (sym q) ∙ g.rest

  fail : f (part i e b) ≡ wrong → scan_of b e None ≡ f (part a e b)
  unfolding scan_of led
  fail q = ap (led (part a i b)) (sym q) ∙ g.rest

-- ---- a field without quotes
module _ {b : List ℕ} {a e i : ℕ} (g : Going plain b a e i) where
  pub plain_on : i < e → (get_or b i 0 ≡ 44 → ⊥) → (get_or b i 0 ≡ 34 → ⊥) → Going plain b a e (i + 1)
  unfolding plain
  plain_on h x y =
      step g h (rw (part_step b i e h g.inside, ne_eqb (get_or b i 0) 44 x, ne_eqb (get_or b i 0) 34 y))

  pub plain_comma : i < e → get_or b i 0 ≡ 44 → scan_of b e (Some (record { from = a; to = i; next = i })) ≡ plain (part a e b)
  unfolding plain
  plain_comma h x = close g i (rw (part_step b i e h g.inside, eq-eqb (get_or b i 0) 44 x))

  pub plain_quote : i < e → get_or b i 0 ≡ 34 → scan_of b e None ≡ plain (part a e b)
  unfolding plain
  plain_quote h y =
      let x : get_or b i 0 ≡ 44 → ⊥ = λ z. absurd (omega arith) in
      fail g (rw (part_step b i e h g.inside, ne_eqb (get_or b i 0) 44 x, eq-eqb (get_or b i 0) 34 y))

  pub plain_end : e ≤ i → scan_of b e (Some (record { from = a; to = e; next = e })) ≡ plain (part a e b)
  unfolding plain
  plain_end h =
      let l : i ≡ e = omega (arith, g.high) in
      rw l at (close g i (rw (part_none b i e h)))

-- ---- a field between quotes
module _ {b : List ℕ} {a e i : ℕ} (g : Going (quoted false) b a e i) where
  pub quoted_on : i < e → (get_or b i 0 ≡ 34 → ⊥) → Going (quoted false) b a e (i + 1)
  unfolding quoted
  quoted_on h x = step g h (rw (part_step b i e h g.inside, ne_eqb (get_or b i 0) 34 x))

  pub quoted_open : e ≤ i → scan_of b e None ≡ quoted false (part a e b)
  unfolding quoted
  quoted_open h = fail g (rw (part_none b i e h))

  module _ (h : i < e) (x : get_or b i 0 ≡ 34) {n : ℕ} (c : n ≡ i + 1) where
    here : quoted false (part i e b) ≡ quoted true (part n e b)
    unfolding quoted
    here = rw (part_step b i e h g.inside, eq-eqb (get_or b i 0) 34 x, c)

    pub quoted_last : e ≤ n → scan_of b e (Some (record { from = a; to = i; next = n })) ≡ quoted false (part a e b)
    unfolding quoted
    quoted_last k = close g n (here ∙ rw (part_none b n e k))

    pub quoted_comma : n < e → get_or b n 0 ≡ 44 → scan_of b e (Some (record { from = a; to = i; next = n })) ≡ quoted false (part a e b)
    unfolding quoted
    quoted_comma k y = close g n (here ∙ rw (part_step b n e k g.inside, eq-eqb (get_or b n 0) 44 y))

    pub quoted_wrong : n < e → (get_or b n 0 ≡ 44 → ⊥) → (get_or b n 0 ≡ 34 → ⊥) → scan_of b e None ≡ quoted false (part a e b)
    unfolding quoted
    quoted_wrong k y z = fail g (here ∙ rw (part_step b n e k g.inside, ne_eqb (get_or b n 0) 44 y, ne_eqb (get_or b n 0) 34 z))

    -- a doubled quote: two bytes of the text
    pub quoted_twice : n < e → (get_or b n 0 ≡ 44 → ⊥) → get_or b n 0 ≡ 34 → Going (quoted false) b a e (i + 2)
    unfolding quoted
    quoted_twice k y z =
        let k' = g.inside in
        let l' = g.low in
        let s : i + 1 + 1 ≡ i + 2 = omega arith in
        let t : part a (i + 2) b ≡ (part a i b ++ (34 ∷ [])) ++ (34 ∷ []) =
        ap (λ (m : ℕ). part a m b) (sym s)
        ∙ part_more b a (i + 1) (omega arith) (omega arith)
        ∙ (let z' : get_or b (i + 1) 0 ≡ 34 = rw c at z in rw (part_more b a i g.low (omega arith), x, z')) in
        let q : quoted false (part i e b) ≡ joined 34 (joined 34 (quoted false (part (n + 1) e b))) =
        here ∙ rw (part_step b n e k g.inside, ne_eqb (get_or b n 0) 44 y, eq-eqb (get_or b n 0) 34 z) in
        let m : n + 1 ≡ i + 2 = omega arith in
        record {
          low = omega arith;
          high = omega arith;
          inside = g.inside;
          rest = ap (λ (u : List ℕ). led u (quoted false (part (i + 2) e b))) t
              ∙ led_held (part a i b ++ (34 ∷ [])) 34 (quoted false (part (i + 2) e b))
              ∙ led_held (part a i b) 34 (joined 34 (quoted false (part (i + 2) e b)))
              ∙ ap (led (part a i b)) (sym (q ∙ ap (λ (j : ℕ). joined 34 (joined 34 (quoted false (part j e b)))) m))
              ∙ g.rest;
        }

-- ---- which of the two
module _ (b : List ℕ) (a e : ℕ) (k : e ≤ length b) where
  pub field_quoted : {s : Scan} → a < e → get_or b a 0 ≡ 34 → s ≡ quoted false (part (a + 1) e b) → s ≡ field (part a e b)
  unfolding field
  field_quoted h x q = q ∙ rw (part_step b a e h k, eq-eqb (get_or b a 0) 34 x)

  pub field_plain : {s : Scan} → a < e → (get_or b a 0 ≡ 34 → ⊥) → s ≡ plain (part a e b) → s ≡ field (part a e b)
  unfolding field
  field_plain h x q =
      q ∙ ap plain (part_step b a e h k) ∙ sym (rw (part_step b a e h k, ne_eqb (get_or b a 0) 34 x))

  pub field_empty : {s : Scan} → e ≤ a → s ≡ plain (part a e b) → s ≡ field (part a e b)
  unfolding field plain
  field_empty h q = q ∙ rw (part_none b a e h)

pub within_wider : (b : List ℕ) (a e : ℕ) (r : Option TextField) → Within b (a + 1) e r → Within b a e r
within_wider b a e (Some f) h = let l = h.0 in (omega arith, h.1, h.2, h.3, h.4)
within_wider b a e None h = tt
