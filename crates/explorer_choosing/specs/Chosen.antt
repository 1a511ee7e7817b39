-- Choosing as the program does it to the workspace, and a round's beginning by what it reads of the task.
use Rattle.std.specs.Prelude.{ℕ, false, []}
use Rattle.model.specs.declared.Direction.{Direction}
use Rattle.model.specs.declared.Mode.{Mode}
use Rattle.model.specs.Tables.{Net}
use Rattle.model.specs.Lists.{upto, set_in}
use Rattle.model.specs.Choosing.{first_position, choose_at, choose}
use Rattle.model.specs.Work.{Work}
use Rattle.allocator.specs.Operations.{chosen_of, with_chosen, activated}
use Rattle.explorer.specs.Applied.{opened_work}

-- a route r of stop s: "take the first position of the stop"
unfoldable pub chosen_by : Direction → Net → ℕ → ℕ → Work → Work
chosen_by d n s r w = activated d r (first_position n r s (upto (n.positions r) 0)) w

-- all routes of stop s: each route's mark and the routes to scan are those of the model, and all else is as before
unfoldable pub chosen_at : Direction → Net → ℕ → Work → Work
chosen_at d n s w = with_chosen (choose_at d n s (n.routes_of s) (chosen_of w)) w

-- the routes of all marked stops, ascending
unfoldable pub chosen_all : Direction → Net → Work → Work
chosen_all d n w = with_chosen (choose d n (set_in 0 w.labels.mark) (chosen_of w)) w

-- "swap labels and clear the current ones; .. choose routes; clear marks". Of the task only the mode and the direction
-- are read: `opened_by_lem` of proofs/Opened.antt
unfoldable pub opened_by : Mode → Direction → Net → Work → Work
opened_by mode d n w =
    opened_work n (record { direction = d; mode = mode; walking = false; starts = []; goals = []; moment = 0 }) w
