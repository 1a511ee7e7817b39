-- The test that a stop's calls are halved by.
use Rattle.std.specs.Prelude.{ℕ, ◌+◌, Bool, List, leb}
use Rattle.repository.specs.Sections.{call_route}

-- the i-th row of the calls from row a on names route r or a later one
unfoldable pub reached : List ℕ → ℕ → ℕ → ℕ → Bool
reached w a r i = leb r (call_route w (a + i))
