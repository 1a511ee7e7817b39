-- What a change of the words or the marks does to the state; and that it keeps them sized and tidy.
-- Assumes nothing.
use mathlib.Core.Path.{◌≡◌, ap, ◌∙◌}
use mathlib.Core.List.{List}
use Prim.Native.Nat.{ℕ}
use lib.ListN.{length}
use Rattle.model.specs.Work.{Work}
use Rattle.allocator.specs.Layout.{Sized, view}
use Rattle.allocator.specs.Tidy.{TidyParts}

-- ws' and ms' are tidy where ws and ms are
pub record Kept (stops routes : ℕ) (ws ms ws' ms' : List ℕ) : Type 0 where
  pub tidy : TidyParts stops routes ws ms → TidyParts stops routes ws' ms'

-- ws and ms became ws' and ms', and f says how the state changed: what `Does` of specs/ says, whether or not ws and ms are tidy
pub record Became (stops routes : ℕ) (f : Work → Work) (ws ms ws' ms' : List ℕ) : Type 0 where
  pub is : view stops routes ws' ms' ≡ f (view stops routes ws ms)
  pub kept : Kept stops routes ws ms ws' ms'
  pub sized : Sized stops routes ws' ms'

pub does_then : {stops routes : ℕ} (f g : Work → Work) {ws ms ws₁ ms₁ ws' ms' : List ℕ} → Became stops routes f ws ms ws₁ ms₁
    → Became stops routes g ws₁ ms₁ ws' ms' → Became stops routes (λ a. g (f a)) ws ms ws' ms'
does_then f g p q = record {
  is = q.is ∙ ap g p.is;
  kept = record { tidy = λ t. q.kept.tidy (p.kept.tidy t) };
  sized = q.sized;
}

-- a change that keeps the lengths
pub words_sized : {stops routes : ℕ} {ws ms ws' : List ℕ} → Sized stops routes ws ms → length ws' ≡ length ws → Sized stops routes ws' ms
words_sized z e = record {
  words = record {
    most_stops = z.words.most_stops;
    most_routes = z.words.most_routes;
    words_length = e ∙ z.words.words_length;
  };
  marks = z.marks;
}

pub marks_sized : {stops routes : ℕ} {ws ms ms' : List ℕ} → Sized stops routes ws ms → length ms' ≡ length ms → Sized stops routes ws ms'
marks_sized z e = record {
  words = z.words;
  marks = record {
    most_stops = z.marks.most_stops;
    most_routes = z.marks.most_routes;
    marks_length = e ∙ z.marks.marks_length;
  };
}
