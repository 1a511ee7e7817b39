-- Where each number of a range passes, all pass.
use Prim.Native.Nat.{ℕ, zero, suc, ◌+◌, ◌-◌, ◌≤◌, ◌<◌}
use mathlib.Core.Path.{◌≡◌, refl, ◌∙◌}
use mathlib.Core.Bool.{Bool, true, false, cond}
use mathlib.Core.List.{List}
use native.Mathlib.Omega.{arith}
use denote.Param.Members.{Mut}
use Rattle.std.specs.declared.ops.Range.{Range}
use Rattle.std.specs.Fn.{Called}
use Rattle.std.specs.Iterator.{YieldsThen}
use Rattle.std.specs.List.{FoldsTo, list_all, list_any, range_with_len}
use Rattle.std.specs.Option.{MatchOption}
use Rattle.std.specs.Prelude.{Option}
use Rattle.std.proofs.iter.Yields.{nat_range_steps}
use Rattle.std.proofs.lemmas.Iterator.{YieldsList-from_range}
use Rattle.std.proofs.lemmas.Iterator.Search.{all_from_yields_List, any_from_yields_List}
use Rattle.base.specs.All.{all, every}
use Rattle.base.proofs.Choice.{split}
use Rattle.repository.specs.Listed.{fails, some}

every_so : (f : ℕ → Bool) (n i : ℕ) → ((k : ℕ) → i ≤ k → k < i + n → f k ≡ true) → every f n i ≡ true
unfolding every
every_so f zero i h = refl
every_so f (suc n) i h =
    let here : f i ≡ true = h i (omega arith) (omega arith) in
    rw (here, every) (every_so f n (suc i) (λ k p q. h k (omega arith) (omega arith)))

pub all_so : (f : ℕ → Bool) (a b : ℕ) → ((k : ℕ) → a ≤ k → k < b → f k ≡ true) → all f a b ≡ true
unfolding all
all_so f a b h = every_so f (b - a) a (λ k p q. h k p (omega arith))

-- what an iterator's `all` over a range answers, where its closure answers a test of each number
every_listed : (f : ℕ → Bool) (n i : ℕ) → list_all f (range_with_len i n) ≡ every f n i
unfolding every
every_listed f zero i = refl
every_listed f (suc n) i =
    let next : i + 1 ≡ suc i = omega arith in
    split (f i) (λ e. rw (e, next, every) (every_listed f n (suc i))) (λ e. rw (e, every))

pub all_over : {F : Type 0} {g : Mut F (ℕ × Unit {0}) Bool} {s : Range ℕ} (f : ℕ → Bool) (a b : ℕ) (u : Range ℕ) (c : F) (r : Bool)
    → (xs : List ℕ) × (o : Option ℕ) × (j : F) × YieldsThen nat_range_steps s xs o u × FoldsTo (λ p x q. Called g p (x, tt) true q) c xs j
    × MatchOption o (r ≡ true) (λ x. (r ≡ false) × ((h : F) × Called g j (x, tt) false h))
    → s.start ≡ a → s.end ≡ b
    → ((x : ℕ) (t : Bool) (q : F) → Called g c (x, tt) t q → (q ≡ c) × (t ≡ f x)) → r ≡ all f a b
unfolding all
all_over {s = s} f a b u c r ran ea eb told =
    all_from_yields_List f u c r ran (YieldsList-from_range {s = s} s.start s.end _ refl refl) told
    ∙ every_listed f (s.end - s.start) s.start
    ∙ rw (ea, eb)

-- and what its `any` answers
some_listed : (f : ℕ → Bool) (n i : ℕ) → list_any f (range_with_len i n) ≡ cond (every (fails f) n i) false true
unfolding every fails
some_listed f zero i = refl
some_listed f (suc n) i =
    let next : i + 1 ≡ suc i = omega arith in
    split (f i) (λ e. rw (e, every)) (λ e. rw (e, next, every) (some_listed f n (suc i)))

pub some_over : {F : Type 0} {g : Mut F (ℕ × Unit {0}) Bool} {s : Range ℕ} (f : ℕ → Bool) (a b : ℕ) (u : Range ℕ) (c : F) (r : Bool)
    → (xs : List ℕ) × (o : Option ℕ) × (j : F) × YieldsThen nat_range_steps s xs o u × FoldsTo (λ p x q. Called g p (x, tt) false q) c xs j
    × MatchOption o (r ≡ false) (λ x. (r ≡ true) × ((h : F) × Called g j (x, tt) true h))
    → s.start ≡ a → s.end ≡ b
    → ((x : ℕ) (t : Bool) (q : F) → Called g c (x, tt) t q → (q ≡ c) × (t ≡ f x)) → r ≡ some f a b
unfolding all some
some_over {s = s} f a b u c r ran ea eb told =
    any_from_yields_List f u c r ran (YieldsList-from_range {s = s} s.start s.end _ refl refl) told
    ∙ some_listed f (s.end - s.start) s.start
    ∙ rw (ea, eb)
