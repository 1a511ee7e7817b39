-- The start stops one after the other: what the loop over them, above this crate, does to the state.
use Rattle.std.specs.Prelude.{List, [], ◌∷◌, ℕ}
use Rattle.model.specs.Work.{Work}
use Rattle.allocator.specs.Operations.{started}

-- the start stops, at moment t
unfoldable pub started_all : ℕ → List ℕ → Work → Work
started_all t [] w = w
started_all t (i ∷ is) w = started_all t is (started i t w)
