-- What a search between two lists of stops is asked, as the model's task; and a search that has begun.
use Rattle.std.specs.Prelude.{ℕ, ◌<◌, ◌≡◌, List}
use Rattle.model.specs.State.{Task, task}
use Rattle.allocator.specs.Workspace.{state}
use Rattle.allocator.specs.declared.Workspace.{Workspace}
use Rattle.allocator.specs.Operations.{cleared}
use Rattle.allocator.specs.Repeated.{started_all}
use Rattle.raptor_rounds.specs.declared.Ask.{Ask}
use Rattle.raptor_rounds.specs.Tabled.{Tabled}
use Rattle.base.specs.Below.{Below}

abbrev pub task_between : Ask → List ℕ → List ℕ → Task
task_between a starts goals = task a.direction a.mode a.walking starts goals a.moment.0

-- a cleared workspace in which the start stops are labelled
pub record Begun (tables : List ℕ) (a : Ask) (starts goals : List ℕ) (w : Workspace) : Type 0 where
  pub tabled : Tabled tables w.stops w.routes
  pub starts_in : Below w.stops starts
  pub goals_in : Below w.stops goals
  pub moment : 0 < a.moment.0
  pub holds : state w ≡ started_all a.moment.0 starts (cleared w.stops w.routes a.direction)
