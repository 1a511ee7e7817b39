-- The leaves of the readers: sizes, entries and parts, in the shape in which their code asks.
use Prim.Native.Nat.{ℕ, ◌+◌, ◌-◌, ◌≤◌, ◌<◌}
use mathlib.Core.Path.{◌≡◌}
use mathlib.Core.List.{List}
use native.Mathlib.Omega.{arith}
use native.Mathlib.Nat.{add_assoc}
use lib.ListN.{length, take, drop}
use Rattle.base.specs.Tab.{tab}
use Rattle.base.proofs.Tab.{tab_part}
use Rattle.repository.specs.Sections.{start, size, sec, routes, ROUTE_STOP_STARTS, ROUTE_STOPS}
use Rattle.repository.specs.NetOf.{count}
use Rattle.repository.specs.Laid.{Laid}
use Rattle.repository.specs.Entries.{Entry, Part}
use Rattle.repository.proofs.Rooms.{room, part_room, starts_top}

module _ {w : List ℕ} {k i : ℕ} (h : Laid w) (t : Entry w k i) where
  pub entry_room : start w k + i < length w
  entry_room = room h k t.section (omega (arith, t.next))

  pub next_room : start w k + (i + 1) < length w
  next_room = room h k t.section t.next

module _ {w : List ℕ} {k a b base : ℕ} (h : Laid w) (p : Part w k a b) (e : base ≡ start w k) where
  pub part_end : base + b ≤ length w
  part_end = omega (arith, part_room h k p.section p.within)

  pub part_is : take (base + b - (base + a)) (drop (base + a) w) ≡ tab (sec w k) (b - a) a
  unfolding sec
  part_is =
      let d : base + b - (base + a) ≡ b - a = omega (arith, p.rise) in
      rw d (tab_part w (sec w k) (b - a) (base + a) a (omega (arith, part_end, p.rise)) (λ j l. rw (e, add_assoc)))

-- the stop at a position: its word, and what it is
pub stop_word_in : {w : List ℕ} {r p a : ℕ} → Laid w → r < routes w → p < count w ROUTE_STOP_STARTS r → a ≡ sec w ROUTE_STOP_STARTS r
    → a + p < size w ROUTE_STOPS
unfolding count
stop_word_in {r = r} l hr hp e = omega (arith, starts_top l.route_stop_starts (r + 1) (omega arith))
