-- Two results of one search between two lists of stops are equal: the target, and every word of the workspace. The state x is the one that the
-- contract of `search` names; a lent slice keeps its length.
-- Assumes nothing.
use Prim.Native.Nat.{ℕ}
use mathlib.Core.Path.{◌≡◌, sym, ap, ◌∙◌}
use mathlib.Core.List.{List}
use lib.ListN.{length}
use Rattle.model.specs.declared.Target.{Target}
use Rattle.model.specs.State.{State}
use Rattle.model.specs.Work.{work_of, state_of}
use Rattle.allocator.specs.Layout.{Sized, view}
use Rattle.allocator.specs.Tidy.{Tidy}
use Rattle.allocator.proofs.Unique.{Leaves, leaves_unique}

-- the slices ws and ms were lent; the target `aimed` is given, and ws' and ms' are left
pub record Searches (stops routes : ℕ) (ws ms : List ℕ) (x : State) (aimed : Target) (ws' ms' : List ℕ) : Type 0 where
  pub is : state_of (view stops routes ws' ms') aimed ≡ x
  pub tidy : Tidy stops routes ws' ms'
  pub words_long : length ws' ≡ length ws
  pub marks_long : length ms' ≡ length ms

module _ {stops routes : ℕ} {ws ms : List ℕ} {x : State} where
  leaves : {aimed : Target} {ws' ms' : List ℕ} → Searches stops routes ws ms x aimed ws' ms' → Leaves stops routes ws ms (work_of x) ws' ms'
  leaves h = record { is = ap work_of h.is; tidy = h.tidy; words_long = h.words_long; marks_long = h.marks_long }

  aims : {aimed : Target} {ws' ms' : List ℕ} → Searches stops routes ws ms x aimed ws' ms' → aimed ≡ x.times.target
  aims h = ap (λ (y : State). y.times.target) h.is

  pub search_unique : {aimed aimed' : Target} {ws' ms' ws'' ms'' : List ℕ} → Sized stops routes ws ms → Searches stops routes ws ms x aimed ws' ms' → Searches stops routes ws ms x aimed' ws'' ms''
      → (aimed ≡ aimed') × (ws' ≡ ws'') × (ms' ≡ ms'')
  search_unique z a b = let same = leaves_unique z (leaves a) (leaves b) in (aims a ∙ sym (aims b), same.0, same.1)
