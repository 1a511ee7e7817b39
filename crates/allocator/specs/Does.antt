-- What an operation finds and leaves, over words and marks. Contracts speak of a workspace that is a value, by `Becomes` (specs/Workspace.antt), from
-- which `becomes_does` of proofs/Unique.antt gives `Does`; a workspace always says `Usable`.
use Rattle.std.specs.Prelude.{ℕ, List, ◌≡◌}
use Rattle.model.specs.Work.{Work}
use Rattle.allocator.specs.Layout.{Sized, view}
use Rattle.allocator.specs.Tidy.{Tidy}

-- the slices have their lengths, and hold nothing beside the state
pub record Usable (stops routes : ℕ) (ws ms : List ℕ) : Type 0 where
  pub sized : Sized stops routes ws ms
  pub tidy : Tidy stops routes ws ms

-- the words ws and the marks ms became ws' and ms': these hold f of the state that those held, and can be used again
pub record Does (stops routes : ℕ) (f : Work → Work) (ws ms ws' ms' : List ℕ) : Type 0 where
  pub holds : view stops routes ws' ms' ≡ f (view stops routes ws ms)
  pub usable : Usable stops routes ws' ms'
