-- One operation after another on a workspace.
-- Assumes nothing.
use mathlib.Core.Path.{refl, ap, ◌∙◌}
use Rattle.model.specs.Work.{Work}
use Rattle.allocator.specs.Workspace.{SameSlices, Becomes}
use Rattle.allocator.specs.declared.Workspace.{Workspace}

pub same_self : {w : Workspace} → SameSlices w w
same_self = record { words_same = refl; marks_same = refl; stops_same = refl; routes_same = refl }

pub same_then : {w w₁ w' : Workspace} → SameSlices w w₁ → SameSlices w₁ w' → SameSlices w w'
same_then p q = record {
  words_same = q.words_same ∙ p.words_same;
  marks_same = q.marks_same ∙ p.marks_same;
  stops_same = q.stops_same ∙ p.stops_same;
  routes_same = q.routes_same ∙ p.routes_same;
}

pub becomes_then : {f g : Work → Work} {w w₁ w' : Workspace} → Becomes f w w₁ → Becomes g w₁ w' → Becomes (λ x. g (f x)) w w'
becomes_then {g = g} p q = record { holds = q.holds ∙ ap g p.holds; same = same_then p.same q.same }
