-- Searchable tables with so many stops and routes, behind a function: `Searchable` has many facts, and only who asks for them has them.
use Rattle.std.specs.Prelude.{ℕ, List}
use Rattle.explorer.specs.Fixed.{Fixed}

pub record Tabled (tables : List ℕ) (stops routes : ℕ) : Type 0 where
  pub known : Unit {0} → Fixed tables stops routes
