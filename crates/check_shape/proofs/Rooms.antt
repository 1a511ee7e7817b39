-- What the header says of an index: a section ends where the next begins, and the last with the words.
use Prim.Native.Nat.{ℕ, zero, suc, ◌+◌, ◌-◌, ◌*◌, ◌^◌, ◌≤◌, ◌<◌}
use mathlib.Core.Path.{◌≡◌}
use mathlib.Core.List.{List}
use native.Mathlib.Omega.{arith}
use lib.ListN.{length}
use Rattle.repository.specs.Sections.{start, size}
use Rattle.repository.specs.Sections.{SECTIONS}
use Rattle.check_shape.specs.Shape.{Headed}

module _ {w : List ℕ} (h : Headed w) where
  to_end : (d k : ℕ) → k + d ≡ SECTIONS → start w k ≤ length w
  to_end zero k e = let last : k ≡ SECTIONS = omega arith in rw last (omega arith)
  to_end (suc d) k e = omega (arith, h.rise k (omega arith), to_end d (k + 1) (omega arith))

  pub within : (k : ℕ) → k ≤ SECTIONS → start w k ≤ length w
  within k g = to_end (SECTIONS - k) k (omega arith)

  pub room : {k i : ℕ} → k < SECTIONS → i < size w k → start w k + i < length w
  unfolding size
  room {k} {i} g l = omega (arith, within (k + 1) (omega arith))

  -- an entry that is not the last, and the word behind it
  module _ {k : ℕ} (i : ℕ) (g : k < SECTIONS) (l : i + 1 < size w k) where
    pub entry_room : start w k + i < length w
    entry_room = omega (arith, room g l)

    pub next_room : start w k + (i + 1) < length w
    next_room = room g l

    pub next_fits : length w * 4 < 2 ^ 63 → i + 1 < 2 ^ 64
    next_fits m = omega (arith, room g l)

  -- a starts section and the list behind it
  module _ (k : ℕ) {n : ℕ} (g : k + 1 < SECTIONS) (l : n < size w k) where
    pub first_room : start w k + 0 < length w
    first_room = omega (arith, room (omega arith) l)

    pub last_room : start w k + n < length w
    last_room = room (omega arith) l

    pub starts_room : {o : ℕ} → o ≡ start w k → o + n < length w
    starts_room e = omega (arith, last_room)

  -- the two ends of section k, as read
  module _ {k a b : ℕ} (g : k < SECTIONS) (ea : a ≡ start w k) (eb : b ≡ start w (k + 1)) where
    pub size_is : b - a ≡ size w k
    unfolding size
    size_is = omega arith

    pub size_within : b - a ≤ length w
    size_within = omega (arith, within (k + 1) (omega arith))
