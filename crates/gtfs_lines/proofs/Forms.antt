-- A line's form, and its values from the texts that are picked of it.
-- Assumes nothing.
use Prim.Native.Nat.{ℕ, ◌≤◌, ◌<◌}
use mathlib.Core.Path.{◌≡◌, refl, ◌∙◌}
use mathlib.Core.Bool.{Bool, true, false, cond, ◌&&◌}
use Rattle.std.specs.Prelude.{Option, None, Some}
use mathlib.Core.List.{List}
use lib.Dec.{eqb, ltb}
use borrow.Author.Tests.{eq-eqb, ne_eqb, lt-ltb, le-ltb, ltb-true, ltb-false}
use Rattle.base.proofs.Choice.{split}
use Rattle.csv_text.specs.There.{if_there}
use Rattle.csv_text.proofs.Parts.{part_step, part_none}
use Rattle.columns.specs.declared.Span.{Span}
use Rattle.columns.specs.declared.Picked.{Picked}
use Rattle.columns.specs.Picks.{Five, text_at, wanted_span, picked_in, Spanned, AllSpanned}
use Rattle.feed.specs.Times.{is_id}
use Rattle.gtfs_lines.specs.Values.{formed}

-- a text is an id where its span is not empty
id_is : (b : List ℕ) (s : Span) → Spanned b s → ltb s.from s.to ≡ is_id (text_at b s)
unfolding text_at is_id
id_is b s w =
    split (ltb s.from s.to)
    (λ t. let l = ltb-true s.from s.to t in t ∙ rw (part_step b s.from s.to l w.1))
    (λ t. let l = ltb-false s.from s.to t in t ∙ rw (part_none b s.from s.to l))

module _ (b : List ℕ) (p : Picked) (n : ℕ) (s : AllSpanned b (Some p)) {o : Option Five} (q : picked_in b (Some p) ≡ o) where
  by_form : if_there o (formed Some n) ≡ cond (eqb p.count n && ltb (wanted_span p 0).from (wanted_span p 0).to && ltb (wanted_span p 1).from (wanted_span p 1).to) (picked_in b (Some p)) None
  unfolding picked_in formed if_there
  by_form = rw (← q, id_is b (wanted_span p 0) s.0, id_is b (wanted_span p 1) s.1)

  pub form_count : (p.count ≡ n → ⊥) → picked_in b None ≡ if_there o (formed Some n)
  unfolding picked_in
  form_count e = rw (by_form, ne_eqb p.count n e)

  module _ (e : p.count ≡ n) where
    pub form_one : (wanted_span p 0).to ≤ (wanted_span p 0).from → picked_in b None ≡ if_there o (formed Some n)
    unfolding picked_in
    form_one h = rw (by_form, eq-eqb p.count n e, le-ltb (wanted_span p 0).from (wanted_span p 0).to h)

    module _ (f : (wanted_span p 0).from < (wanted_span p 0).to) where
      pub form_two : (wanted_span p 1).to ≤ (wanted_span p 1).from → picked_in b None ≡ if_there o (formed Some n)
      unfolding picked_in
      form_two h = rw (by_form, eq-eqb p.count n e, lt-ltb (wanted_span p 0).from (wanted_span p 0).to f, le-ltb (wanted_span p 1).from (wanted_span p 1).to h)

      pub form_right : (wanted_span p 1).from < (wanted_span p 1).to → picked_in b (Some p) ≡ if_there o (formed Some n)
      form_right h = rw (by_form, eq-eqb p.count n e, lt-ltb (wanted_span p 0).from (wanted_span p 0).to f, lt-ltb (wanted_span p 1).from (wanted_span p 1).to h)

pub form_none : (b : List ℕ) (n : ℕ) {r : Option Picked} {o : Option Five} → r ≡ None → picked_in b None ≡ o
    → picked_in b r ≡ if_there o (formed Some n)
unfolding picked_in if_there
form_none b n e q = rw (e, ← q)

-- ---- the values of a line whose form is right
pub formed_then : {L : Type 0} (f : Five → Option L) (n : ℕ) (o : Option Five) → if_there o (formed f n) ≡ if_there (if_there o (formed Some n)) f
unfolding formed if_there
formed_then f n None = refl
formed_then f n (Some x) = either (eqb x.count n && is_id x.one && is_id x.two)
  where
    either : (c : Bool) → cond c (f x) None ≡ if_there (cond c (Some x) None) f
    either true = refl
    either false = refl
