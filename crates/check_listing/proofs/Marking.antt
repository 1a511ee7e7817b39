-- Words found distinct by marks: a word that was marked before stands twice; else the marks stand for all of them.
use Prim.Native.Nat.{ℕ, suc, ◌+◌, ◌-◌, ◌*◌, ◌≤◌, ◌<◌}
use mathlib.Core.Path.{◌≡◌, refl, sym, ap, ◌∙◌}
use mathlib.Core.Bool.{Bool, true, false, ◌||◌, true≢false}
use mathlib.Core.List.{List}
use native.Mathlib.Numerals.{add-one}
use native.Mathlib.Omega.{arith}
use lib.Dec.{eqb}
use borrow.Author.Tests.{eqb-true, eqb-false, eq-eqb, ne_eqb}
use lib.ListN.{length}
use Rattle.base.proofs.Choice.{split}
use Rattle.base.specs.All.{So}
use Rattle.base.proofs.All.{so_start, so_on, so_fails, so_passes}
use Rattle.marks.specs.Marks.{marked, with_mark, Stand}
use Rattle.marks.proofs.Stand.{stand_more}
use Rattle.repository.specs.Sections.{sec}
use Rattle.repository.specs.Listed.{among, unseen, distinct}
use Rattle.check_listing.specs.Fitting.{Fitting, Unmarked, JustMarked, marked_on, marked_by}
use Rattle.check_calls.proofs.Ranges.{some_none, some_more}

-- the words a, .., i - 1 are distinct, and they are marked; the rest leads where all lead from the marks ws₀
pub record Marking (w : List ℕ) (k a b : ℕ) (ws₀ ws : List ℕ) (i : ℕ) : Type 0 where
  pub from : a ≤ i
  pub to : i ≤ b
  pub so : So (unseen w k a) a b i
  pub stand : Stand ws (among w k a i)
  pub rest : marked_on w k (b - i) i ws ≡ marked_by w k a b ws₀

swap : (x y : ℕ) → eqb x y ≡ eqb y x
swap x y =
    split (eqb y x)
    (λ t. rw t (eq-eqb x y (sym (eqb-true y x t))))
    (λ t. rw t (ne_eqb x y (λ e. eqb-false y x t (sym e))))

module _ {w : List ℕ} {k a b : ℕ} where
  pub marking_start : {ws : List ℕ} {m : ℕ} → Fitting w k a b m → Unmarked ws → Marking w k a b ws ws a
  unfolding among marked_by
  marking_start f u = record {
    from = omega arith;
    to = f.order;
    so = so_start;
    stand = record { agree = λ t h. u.none t h ∙ sym (some_none (λ j. eqb (sec w k j) t) a a (omega arith)) };
    rest = refl;
  }

  module _ {ws₀ ws : List ℕ} {i s m : ℕ} (h : Marking w k a b ws₀ ws i) (l : i < b) (e : s ≡ sec w k i) (f : Fitting w k a b m)
      (c : length ws ≡ m) where
    pub mark_room : s < 64 * length ws
    mark_room = omega (arith, f.marks i h.from l)

    module _ {seen : Bool} (g : seen ≡ marked ws s) where
      known : seen ≡ among w k a i (sec w k i)
      known = g ∙ h.stand.agree s mark_room ∙ ap (among w k a i) e

      pub marked_twice : seen ≡ true → false ≡ distinct w k a b
      unfolding distinct unseen
      marked_twice t = sym (so_fails h.so l (rw (← known, t)))

      one_more : b - i ≡ suc (b - suc i)
      one_more = omega arith

      here : (o : Bool) → seen ≡ o → marked ws (sec w k i) ≡ o
      here o t = ap (marked ws) (sym e) ∙ sym g ∙ t

      pub left_twice : seen ≡ true → ws ≡ marked_by w k a b ws₀
      unfolding marked_on
      left_twice t = rw (one_more, here true t) at h.rest

      pub marking_on : {vs : List ℕ} → seen ≡ false → vs ≡ with_mark ws s → Marking w k a b ws₀ vs (i + 1)
      unfolding unseen among marked_on
      marking_on t q = record {
        from = omega (arith, h.from);
        to = omega arith;
        so = so_on h.so l (rw (← known, t));
        stand = rw q (record { agree = more });
        rest = rw (add-one, q, e) (rw (one_more, here false t) at h.rest);
      }
        where
          more : (t : ℕ) → t < 64 * length (with_mark ws s) → marked (with_mark ws s) t ≡ among w k a (i + 1) t
          more t x =
              (stand_more ws (among w k a i) s mark_room h.stand).agree t x
              ∙ ap (λ (y : Bool). among w k a i t || y) (swap t s ∙ ap (λ (y : ℕ). eqb y t) e)
              ∙ sym (some_more (λ j. eqb (sec w k j) t) a i h.from)

  module _ {ws₀ ws : List ℕ} {i : ℕ} (h : Marking w k a b ws₀ ws i) (l : b ≤ i) where
    pub marked_all : true ≡ distinct w k a b
    unfolding distinct
    marked_all = sym (so_passes h.so l)

    pub left_all : ws ≡ marked_by w k a b ws₀
    unfolding marked_on
    left_all = let none : b - i ≡ 0 = omega arith in rw none at h.rest

    pub marks_stand : JustMarked true ws w k a b
    marks_stand =
        let to = h.to in
        let end : i ≡ b = omega arith in
        record { stand = λ e. rw end at h.stand }

-- an answer of no says nothing here: `marked_by` says which marks are left
pub marks_none : {ws w : List ℕ} {k a b : ℕ} → JustMarked false ws w k a b
marks_none = record { stand = λ e. absurd (true≢false (sym e)) }
