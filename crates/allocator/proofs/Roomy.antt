-- Slices of the lengths that `words_room` and `marks_room` say hold the state.
-- Assumes nothing.
use Prim.Native.Nat.{ℕ, ◌≤◌}
use mathlib.Core.Path.{◌≡◌}
use mathlib.Core.List.{List}
use lib.ListN.{length}
use Rattle.model.specs.Limits.{MOST_STOPS, MOST_ROUTES}
use Rattle.allocator.specs.Layout.{words_room, marks_room, Sized}

module _ {stops routes : ℕ} {ws ms : List ℕ} where
  pub sized_of : stops ≤ MOST_STOPS → routes ≤ MOST_ROUTES → length ws ≡ words_room stops routes → length ms ≡ marks_room stops routes
      → Sized stops routes ws ms
  sized_of h i a b = record {
    words = record { most_stops = h; most_routes = i; words_length = a };
    marks = record { most_stops = h; most_routes = i; marks_length = b };
  }
