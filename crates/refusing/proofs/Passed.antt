-- Tables that pass the check are accepted. Assumes nothing.
use Rattle.std.proofs.Common.{◌≡◌, Bool, true, List, ℕ, Result, Ok, Err, refl}
use Rattle.std.specs.Prelude.{is_ok}
use Rattle.model.specs.declared.Refusal.{Refusal}
use Rattle.model.specs.Refusal.{number_given}
use Rattle.repository.specs.Accepted.{Accepted}
use Rattle.repository.specs.Checked.{check_of}
use Rattle.check_tables.proofs.Whole.{zero_accepted}

pub passed : (w : List ℕ) (r : Result (Unit {0}) Refusal) {b : Bool} → number_given r ≡ check_of w → b ≡ is_ok r → b ≡ true → Accepted w
passed w (Ok u) e f t = zero_accepted w e refl
passed w (Err k) e f t = cc
