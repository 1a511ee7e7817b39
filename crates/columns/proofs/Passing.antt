-- Fields of a line taken one by one: the texts so far and the fields of what is left are those of the line.
-- Assumes nothing.
use Prim.Native.Nat.{ℕ, ◌+◌, ◌-◌, ◌≤◌, ◌<◌}
use mathlib.Core.Path.{◌≡◌, refl, sym, ap, ◌∙◌}
use Rattle.std.specs.Prelude.{Option, None, Some}
use mathlib.Core.List.{List, [], ◌∷◌, ◌++◌, append_assoc}
use native.Mathlib.Omega.{arith}
use lib.ListN.{length, get_or}
use Rattle.csv_text.specs.Part.{part}
use Rattle.csv_text.specs.Fields.{taken, field, with_field, fields}
use Rattle.csv_text.specs.Read.{scan_of, Within}
use Rattle.csv_text.specs.declared.TextField.{TextField}
use Rattle.csv_text.proofs.Parts.{part_step, part_none}
use Rattle.csv_text.proofs.Stepping.{fields_wrong, fields_last, fields_more}

-- texts before those of a line
led : List (List ℕ) → Option (List (List ℕ)) → Option (List (List ℕ))
led ts None = None
led ts (Some us) = Some (ts ++ us)

led_none : (o : Option (List (List ℕ))) → led [] o ≡ o
unfolding led
led_none None = refl
led_none (Some us) = refl

led_field : (ts : List (List ℕ)) (t : List ℕ) (o : Option (List (List ℕ))) → led (ts ++ (t ∷ [])) o ≡ led ts (with_field t o)
unfolding led with_field
led_field ts t None = refl
led_field ts t (Some us) = ap Some (append_assoc ts (t ∷ []) us)

pub record Passed (b : List ℕ) (a e i : ℕ) (ts : List (List ℕ)) : Type 0 where
  pub high : i ≤ e
  pub inside : e ≤ length b
  rest : led ts (fields (part i e b)) ≡ fields (part a e b)

pub passed_start : {b : List ℕ} {a e : ℕ} → a ≤ e → e ≤ length b → Passed b a e a []
passed_start {b} {a} {e} h k = record { high = h; inside = k; rest = led_none (fields (part a e b)) }

module _ {b : List ℕ} {a e i : ℕ} {ts : List (List ℕ)} (p : Passed b a e i ts) where
  pub passed_wrong : scan_of b e None ≡ field (part i e b) → fields (part a e b) ≡ None
  unfolding scan_of led
  passed_wrong s = sym p.rest ∙ ap (led ts) (fields_wrong (part i e b) (sym s))

  module _ (x : TextField) (s : scan_of b e (Some x) ≡ field (part i e b)) where
    here : field (part i e b) ≡ taken (part x.from x.to b) (part x.next e b)
    unfolding scan_of
    here = sym s

    pub passed_last : e ≤ x.next → fields (part a e b) ≡ Some (ts ++ (part x.from x.to b ∷ []))
    unfolding led
    passed_last h =
        sym p.rest
        ∙ ap (led ts) (fields_last (part i e b) (part x.from x.to b) (here ∙ ap (taken (part x.from x.to b)) (part_none b x.next e h)))

    pub passed_on : x.next < e → Passed b a e (x.next + 1) (ts ++ (part x.from x.to b ∷ []))
    passed_on h =
        let more : fields (part i e b) ≡ with_field (part x.from x.to b) (fields (part (x.next + 1) e b)) =
        fields_more (part i e b) (part x.from x.to b) (get_or b x.next 0) (part (x.next + 1) e b)
        (here ∙ ap (taken (part x.from x.to b)) (part_step b x.next e h p.inside)) in
        record {
          high = omega arith;
          inside = p.inside;
          rest = led_field ts (part x.from x.to b) (fields (part (x.next + 1) e b)) ∙ ap (led ts) (sym more) ∙ p.rest;
        }

-- where a field that was found stands
module _ (b : List ℕ) (a e : ℕ) (x : TextField) (w : Within b a e (Some x)) where
  pub text_inside : e ≤ length b → x.to ≤ length b
  text_inside k = omega (arith, w.2, w.3)

  pub next_behind : a ≤ x.next
  next_behind = omega (arith, w.0, w.1, w.2)

  pub less_left : x.next < e → e - (x.next + 1) < e - a
  less_left h = omega (arith, next_behind)
