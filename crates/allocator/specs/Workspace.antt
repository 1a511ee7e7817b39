-- A workspace as a value: the state that it holds, and what an operation makes of it. The contracts of all that searches speak of it so.
use Rattle.std.specs.Prelude.{ℕ, Bool, List, ◌≡◌}
use Rattle.std.specs.Borrow.{MutBor}
use Rattle.model.specs.Work.{Work}
use Rattle.allocator.specs.Layout.{prev_of, curr_of, best_of, held_of, active_of, mark_of, held_mark_of, mask_of, view}
use Rattle.allocator.specs.declared.Workspace.{Workspace}

-- the state that it holds
abbrev pub state : Workspace → Work
state w = view w.stops w.routes w.words.now w.marks.now

-- ---- parts of that state
abbrev pub prev : Workspace → List ℕ
prev w = prev_of w.stops w.routes w.words.now

abbrev pub curr : Workspace → List ℕ
curr w = curr_of w.stops w.routes w.words.now

abbrev pub best : Workspace → List ℕ
best w = best_of w.stops w.routes w.words.now

abbrev pub held_labels : Workspace → List ℕ
held_labels w = held_of w.stops w.routes w.words.now

abbrev pub active : Workspace → List ℕ
active w = active_of w.stops w.routes w.words.now

abbrev pub mark : Workspace → List Bool
mark w = mark_of w.stops w.routes w.marks.now

abbrev pub held_mark : Workspace → List Bool
held_mark w = held_mark_of w.stops w.routes w.marks.now

abbrev pub mask : Workspace → List Bool
mask w = mask_of w.stops w.routes w.marks.now

-- it lies over these lent words and marks, for so many stops and routes
pub record Over (words marks : MutBor (List ℕ)) (stops routes : ℕ) (w : Workspace) : Type 0 where
  pub words_same : w.words.ghost_name ≡ words.ghost_name
  pub marks_same : w.marks.ghost_name ≡ marks.ghost_name
  pub stops_same : w.stops ≡ stops
  pub routes_same : w.routes ≡ routes

-- w' lies over the same words and marks as w
pub record SameSlices (w w' : Workspace) : Type 0 where
  pub words_same : w'.words.ghost_name ≡ w.words.ghost_name
  pub marks_same : w'.marks.ghost_name ≡ w.marks.ghost_name
  pub stops_same : w'.stops ≡ w.stops
  pub routes_same : w'.routes ≡ w.routes

-- the workspace w became w', which holds f of the state that w held. Of one w there is one such w', word for word: `becomes_unique`
-- of proofs/Unique.antt
pub record Becomes (f : Work → Work) (w w' : Workspace) : Type 0 where
  pub holds : state w' ≡ f (state w)
  pub same : SameSlices w w'
