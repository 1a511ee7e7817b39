-- A part of a list: read, and written over.
use Rattle.std.specs.Prelude.{List, ◌++◌, ℕ, ◌+◌, length, take, drop}

-- `count` elements, from `start` on
unfoldable pub sect : ℕ → ℕ → List ℕ → List ℕ
sect start count ws = take count (drop start ws)

-- ws with xs written over it from `start` on
unfoldable pub overlaid : ℕ → List ℕ → List ℕ → List ℕ
overlaid start xs ws = take start ws ++ (xs ++ drop (start + length xs) ws)
