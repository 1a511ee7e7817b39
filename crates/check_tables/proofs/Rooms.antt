-- The words of a row lie within the words of laid tables.
use Prim.Native.Nat.{ℕ, ◌+◌, ◌*◌, ◌<◌}
use mathlib.Core.List.{List}
use native.Mathlib.Omega.{arith}
use lib.ListN.{length}
use Rattle.repository.specs.Sections.{start, rows, TRANSFERS, WALKS, TRANSFER_WORDS, WALK_WORDS}
use Rattle.repository.specs.Laid.{Laid}
use Rattle.repository.proofs.Rooms.{row_room}

module _ {w : List ℕ} (h : Laid w) (j : ℕ) where
  pub span_room : j < rows w TRANSFERS TRANSFER_WORDS → start w TRANSFERS + (j * TRANSFER_WORDS + 2) < length w
  span_room l = row_room h TRANSFERS TRANSFER_WORDS (omega arith) l (omega arith)

  pub transfer_room : j < rows w TRANSFERS TRANSFER_WORDS → start w TRANSFERS + (j * TRANSFER_WORDS + 3) < length w
  transfer_room l = row_room h TRANSFERS TRANSFER_WORDS (omega arith) l (omega arith)

  pub walk_room : j < rows w WALKS WALK_WORDS → start w WALKS + (j * WALK_WORDS + 1) < length w
  walk_room l = row_room h WALKS WALK_WORDS (omega arith) l (omega arith)
