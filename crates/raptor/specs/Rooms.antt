-- The lengths that the tables ask for: three where they are accepted, else why they are refused.
use Rattle.std.specs.Prelude.{ℕ, zero, suc, Result, Ok, Err, List}
use Rattle.model.specs.declared.Refusal.{Refusal}
use Rattle.model.specs.Refusal.{refusal_of}
use Rattle.model.specs.Tables.{Net}
use Rattle.repository.specs.NetOf.{net_of}
use Rattle.repository.specs.Checked.{check_of}
use Rattle.allocator.specs.Layout.{words_room, marks_room}
use Rattle.raptor.specs.declared.Lengths.{Lengths}
use Rattle.raptor.specs.Solved.{places_room}

abbrev pub lengths_of : ℕ → ℕ → Lengths
lengths_of stops routes = record {
  words = words_room stops routes;
  marks = marks_room stops routes;
  places = places_room stops;
}

unfoldable pub room_by : Net → ℕ → Result Lengths Refusal
room_by n zero = Ok (lengths_of n.stops n.routes)
room_by n (suc k) = Err (refusal_of (suc k))

unfoldable pub room_of : List ℕ → Result Lengths Refusal
room_of w = room_by (net_of w) (check_of w)
