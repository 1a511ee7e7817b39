-- What reading on asks of an index that was found in range: an entry of a starts section, or room in a list.
use Prim.Native.Nat.{ℕ, ◌+◌, ◌≤◌, ◌<◌}
use mathlib.Core.Path.{◌≡◌}
use mathlib.Core.Bool.{true}
use mathlib.Core.List.{List}
use native.Mathlib.Omega.{arith}
use Rattle.repository.specs.Sections.{sec, stops, routes, rows, CALL_STARTS, CALLS, ROUTE_STOP_STARTS}
use Rattle.repository.specs.Sections.{CALL_WORDS, call_route}
use Rattle.repository.specs.Laid.{Laid}
use Rattle.repository.specs.Listed.{call, calls_hold}
use Rattle.repository.specs.Entries.{Entry}
use Rattle.check_calls.proofs.Rooms.{row_in}
use Rattle.check_calls.proofs.Facts.{under_shown}
use Rattle.check_calls.proofs.CallRows.{call_shown}

module _ {w : List ℕ} (l : Laid w) where
  pub route_entry : (r : ℕ) → r < routes w → Entry w ROUTE_STOP_STARTS r
  route_entry r h = record { section = omega arith; next = omega arith; rise = l.route_stop_starts.rise r h }

  -- row j of stop s is one of the calls
  pub call_room : (s : ℕ) {j e : ℕ} → s < stops w → e ≡ sec w CALL_STARTS (s + 1) → j < e → j < rows w CALLS CALL_WORDS
  call_room s h ee to = row_in l.call_starts s h to ee

  -- it names a route
  pub call_runs : (s : ℕ) {j a e : ℕ} → calls_hold w ≡ true → s < stops w → a ≡ sec w CALL_STARTS s → e ≡ sec w CALL_STARTS (s + 1)
      → a ≤ j → j < e → call_route w j < routes w
  unfolding calls_hold
  call_runs s {j} t hs ea ee from to =
      let row = under_shown w CALL_STARTS (stops w) (call w) t s j hs (record { from = omega arith; to = omega arith }) in
      (call_shown w s j row).route
