-- The wanted fields gathered: what is kept are the wanted texts of the fields so far.
-- Assumes nothing.
use Prim.Native.Nat.{ℕ, zero, suc, ◌+◌, ◌≤◌, ◌<◌}
use mathlib.Core.Path.{◌≡◌, refl, sym, ap, ◌∙◌}
use mathlib.Core.Bool.{Bool, true, false, cond}
use Rattle.std.specs.Prelude.{Option, None, Some}
use mathlib.Core.List.{List, [], ◌∷◌, ◌++◌}
use native.Mathlib.Omega.{arith}
use lib.Dec.{eqb, eqb-zero-suc, eqb-suc-zero, eqb-suc-suc}
use borrow.Author.Tests.{eq-eqb, ne_eqb}
use lib.ListN.{length, get_or, length-append}
use Rattle.csv_text.specs.Part.{part}
use Rattle.csv_text.specs.Fields.{field, fields}
use Rattle.csv_text.specs.Read.{scan_of, Within}
use Rattle.csv_text.specs.declared.TextField.{TextField}
use Rattle.csv_text.proofs.Parts.{part_none}
use Rattle.columns.specs.declared.Span.{Span}
use Rattle.columns.specs.declared.Picked.{Picked}
use Rattle.columns.specs.Picks.{Five, five_of, five_in, text_at, wanted_span, picked_in, Spanned, AllSpanned}
use Rattle.columns.specs.Keeping.{span_from, KeptAt, NoneKept}
use Rattle.columns.proofs.Passing.{Passed, passed_start, passed_wrong, passed_last, passed_on, text_inside, next_behind}

-- ---- one span
module _ {place k : ℕ} (from to : ℕ) (old : Span) where
  pub keep_new : place ≡ k → span_from from to ≡ cond (eqb place k) (span_from from to) old
  keep_new e = rw (eq-eqb place k e)

  pub keep_old : (place ≡ k → ⊥) → old ≡ cond (eqb place k) (span_from from to) old
  keep_old e = rw (ne_eqb place k e)

-- one text more behind others: at its place it is that text, at any other what stood there
at_more : (ts : List (List ℕ)) (t : List ℕ) (k : ℕ) → get_or (ts ++ (t ∷ [])) k [] ≡ cond (eqb k (length ts)) t (get_or ts k [])
at_more [] t zero = refl
at_more [] t (suc k) = rw (eqb-suc-zero k)
at_more (x ∷ ts) t zero = rw (eqb-zero-suc (length ts))
at_more (x ∷ ts) t (suc k) = at_more ts t k ∙ ap (λ (c : Bool). cond c t (get_or ts k [])) (sym (eqb-suc-suc k (length ts)))

-- a span that is kept or replaced, as its text
text_kept : (b : List ℕ) (f t : ℕ) (c : Bool) (s : Span) → text_at b (cond c (span_from f t) s) ≡ cond c (part f t b) (text_at b s)
unfolding text_at
text_kept b f t true s = refl
text_kept b f t false s = refl

span_kept : (b : List ℕ) (f t : ℕ) (c : Bool) (s : Span) → f ≤ t → t ≤ length b → Spanned b s → Spanned b (cond c (span_from f t) s)
span_kept b f t true s h k w = (h, k)
span_kept b f t false s h k w = w

-- the texts that are kept
five_at : List ℕ → Picked → Five
five_at b p =
    record {
      count = p.count;
      one = text_at b (wanted_span p 0);
      two = text_at b (wanted_span p 1);
      three = text_at b (wanted_span p 2);
      four = text_at b (wanted_span p 3);
      five = text_at b (wanted_span p 4);
    }

told_five : (b : List ℕ) (p : Picked) → picked_in b (Some p) ≡ Some (five_at b p)
unfolding picked_in five_at
told_five b p = refl

one_kept : (b : List ℕ) (ts : List (List ℕ)) (f t k n : ℕ) (s : Span) → n ≡ length ts → text_at b s ≡ get_or ts k []
    → text_at b (cond (eqb k n) (span_from f t) s) ≡ get_or (ts ++ (part f t b ∷ [])) k []
one_kept b ts f t k n s e q =
    text_kept b f t (eqb k n) s
    ∙ (let z : cond (eqb k n) (part f t b) (text_at b s) ≡ cond (eqb k (length ts)) (part f t b) (get_or ts k []) = rw (e, q) in z)
    ∙ sym (at_more ts (part f t b) k)

-- ---- the loop: the next field begins at i, and p is kept
pub record Gathered (w : List ℕ) (b : List ℕ) (a e i : ℕ) (p : Picked) : Type 0 where
  texts : List (List ℕ)
  pub passed : Passed b a e i texts
  pub few : p.count ≤ i
  counted : p.count ≡ length texts
  told : (j : ℕ) → j < 5 → text_at b (wanted_span p j) ≡ get_or texts (get_or w j 0) []
  spans : (j : ℕ) → j < 5 → Spanned b (wanted_span p j)

pub gathered_start : {w : List ℕ} {b : List ℕ} {a e : ℕ} {p : Picked} → NoneKept a p → a ≤ e → e ≤ length b → Gathered w b a e a p
unfolding text_at
gathered_start {w} {b} {a} {e} {p} q h k =
    record {
      texts = [];
      passed = passed_start h k;
      few = omega (arith, q.count);
      counted = q.count;
      told = λ j l. rw (q.spans j l, part_none b a a (omega arith));
      spans = λ j l. rw (q.spans j l) (omega arith, omega arith);
    }

module _ {w : List ℕ} {b : List ℕ} {a e i : ℕ} {p : Picked} (g : Gathered w b a e i p) where
  pub pick_wrong : {r : Option Picked} → r ≡ None → scan_of b e None ≡ field (part i e b) → picked_in b r ≡ five_in w (fields (part a e b))
  unfolding picked_in five_in
  pick_wrong n s = rw n (ap (five_in w) (sym (passed_wrong g.passed s)))

  module _ (x : TextField) (s : scan_of b e (Some x) ≡ field (part i e b)) {q : Picked} (k : KeptAt w x.from x.to p q) where
    texts_more : List (List ℕ)
    texts_more = g.texts ++ (part x.from x.to b ∷ [])

    counted_more : q.count ≡ length texts_more
    unfolding texts_more
    counted_more = omega (arith, k.count, g.counted, length-append g.texts (part x.from x.to b ∷ []))

    told_more : (j : ℕ) → j < 5 → text_at b (wanted_span q j) ≡ get_or texts_more (get_or w j 0) []
    unfolding texts_more
    told_more j h =
        ap (text_at b) (k.spans j h) ∙ one_kept b g.texts x.from x.to (get_or w j 0) p.count (wanted_span p j) g.counted (g.told j h)

    five_more : five_at b q ≡ five_of w texts_more
    unfolding five_at five_of
    five_more =
        let t₁ = told_more 0 (omega arith) in
        let t₂ = told_more 1 (omega arith) in
        let t₃ = told_more 2 (omega arith) in
        let t₄ = told_more 3 (omega arith) in
        let t₅ = told_more 4 (omega arith) in
        λ i. record { count = counted_more i; one = t₁ i; two = t₂ i; three = t₃ i; four = t₄ i; five = t₅ i }

    pub pick_last : e ≤ x.next → picked_in b (Some q) ≡ five_in w (fields (part a e b))
    unfolding five_in texts_more
    pick_last h =
        told_five b q ∙ ap Some five_more ∙ ap (five_in w) (sym (passed_last g.passed x s h))

    module _ (u : Within b i e (Some x)) where
      span_more : (j : ℕ) → j < 5 → Spanned b (wanted_span q j)
      span_more j h =
          rw (k.spans j h)
          (span_kept b x.from x.to (eqb (get_or w j 0) p.count) (wanted_span p j) u.1 (text_inside b i e x u g.passed.inside) (g.spans j h))

      pub spans_more : AllSpanned b (Some q)
      spans_more =
          (span_more 0 (omega arith), span_more 1 (omega arith), span_more 2 (omega arith), span_more 3 (omega arith), span_more 4 (omega arith))

      pub gathered_on : x.next < e → Gathered w b a e (x.next + 1) q
      unfolding texts_more
      gathered_on h =
          record {
            texts = texts_more;
            passed = passed_on g.passed x s h;
            few = omega (arith, k.count, g.few, next_behind b i e x u);
            counted = counted_more;
            told = told_more;
            spans = span_more;
          }
