-- The children of the stops that an area names.
use Rattle.std.specs.Prelude.{ℕ, Bool, List}
use Rattle.model.specs.Tables.{Net}
use Rattle.handheld.specs.Any.{any}
use Rattle.handheld.specs.Verdict.{is_listed}

-- stop s is a child of p
unfoldable pub is_child : Net → ℕ → ℕ → Bool
is_child n s p = is_listed s (n.children p)

-- it is a child of one of the stops named
unfoldable pub child_of : Net → ℕ → List ℕ → Bool
child_of n s named = any (is_child n s) named
