-- `all_starts_ok`: a list of single words has as many rows as words.
use native.Mathlib.Nat.{div-one}
use native.Mathlib.Omega.{arith}
use Rattle.repository.specs.Laid.{well_started}
use Rattle.check_shape.proofs.all_starts_ok.Goals as goal

pub returns-else-starts_ok-7 : goal.returns-else-starts_ok-7
unfolding well_started
returns-else-starts_ok-7 c = grind (arith, div-one)
