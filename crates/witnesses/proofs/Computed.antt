-- What the words of networks N and N9 hold, and what the search of document 01 makes of N1's and N9's question, by computation.
use Prim.Native.Nat.{ℕ, ◌≤◌}
use mathlib.Core.Path.{◌≡◌, refl}
use mathlib.Core.Bool.{true}
use mathlib.Core.List.{List, [], ◌∷◌}
use lib.ListN.{replicate, length-replicate}
use borrow.Author.Tests.{le-leb, eq-eqb}
use Rattle.base.specs.Tab.{tab}
use Rattle.std.specs.Prelude.{Ok, Err}
use Rattle.model.specs.declared.Error.TheVariants.{TooLong}
use Rattle.model.specs.declared.Direction.TheVariants.{Departure as Departing}
use Rattle.model.specs.declared.Leg.{Leg}
use Rattle.model.specs.declared.LegType.TheVariants.{Transit, Transfer}
use Rattle.model.specs.declared.Location.TheVariants.{Stop}
use Rattle.model.specs.declared.Mode.TheVariants.{Source}
use Rattle.model.specs.declared.Query.{Query}
use Rattle.model.specs.declared.TimeConstraint.TheVariants.{Departure, Arrival}
use Rattle.model.specs.declared.Walks.TheVariants.{Unsaid}
use Rattle.model.specs.Tables.{Net}
use Rattle.model.specs.Alike.{Alike}
use Rattle.model.specs.Spans.{transfer_span, walk_span}
use Rattle.model.specs.Answer.{Answer, answer, legs_of}
use Rattle.model.specs.Moments.{or_max, reading, better, ahead}
use Rattle.model.specs.Lists.{upto, downto, gather, set_in, any_of}
use Rattle.model.specs.Applying.{wins, store, apply1, apply_all, keep_all}
use Rattle.model.specs.Legs.{leg_of, propose}
use Rattle.model.specs.Choosing.{first_position, sooner, fresh, refilled, choose1, choose_at, choose}
use Rattle.model.specs.Rides.{reach, leave, first_trip, last_trip, catch, allows, boarded, board, alight, scan, course, rides}
use Rattle.model.specs.Footpaths.{walked, paths, footpaths}
use Rattle.model.specs.Round.{listed, aim, picks, opened, ride_half, foot_half, ridden, footed, aimed, round_times, ridden_parents, round_parents, round}
use Rattle.model.specs.Search.{starting, begun, ended, loop, search}
use Rattle.model.specs.Back.{onward, back, trace, in_order, journey}
use Rattle.model.specs.Bytes.{leg_size, size_of}
use Rattle.model.specs.Places.{exists, or_itself, stops_of_stop, served_of, stops_of_area, place_stops, unserved, barren}
use Rattle.model.specs.Answer.{may_walk, moment_of, task_by, task_of, refusal, lowest, searched, reply_to, reply, unless}
use Rattle.model.proofs.Examples.{net, no_route, no_trip, among, serving, N_with}
use Rattle.model.proofs.Examples.{N as listed_N}
use Rattle.repository.specs.Sections.{size, sec}
use Rattle.repository.specs.NetOf.{count, list_of, transfer_row, walk_row, station_of, net_of}
use Rattle.check_tables.proofs.Examples.{N, N9}
use Rattle.allocator.specs.Layout.{words_room, marks_room}
use Rattle.path.proofs.Examples.{first, second, third}
use Rattle.raptor.specs.Lent.{lent}
use Rattle.raptor.specs.Solved.{places_room, room_for, sized}

-- the accepted words of N are the network of document 01's worked answers
pub N_alike : Alike (net_of N) listed_N
unfolding net_of count list_of sec size tab transfer_row walk_row station_of transfer_span walk_span listed_N N_with net no_route no_trip among serving
N_alike = record {
  stops = refl;
  routes = refl;
  positions = refl;
  trips = refl;
  stop_at = refl;
  trip_at = refl;
  arrival = refl;
  departure = refl;
  routes_of = refl;
  transfers = refl;
  walks = refl;
  station = refl;
  children = refl;
  served = refl;
  areas = refl;
  area_stops = refl;
}

-- "Departing 0 to 4" at 50, and "Arriving" at 4 from 0 by 450
abbrev pub from_0_at_50 : Query
from_0_at_50 = record { from = Stop 0; to = Stop 4; time = Departure (record { 0 = 50 }); walks = Unsaid; mode = Source }

abbrev pub to_4_by_450 : Query
to_4_by_450 = record { from = Stop 0; to = Stop 4; time = Arrival (record { 0 = 450 }); walks = Unsaid; mode = Source }

-- what these words, a question and a buffer come to; whoever unfolds it computes
computed : List ℕ → Query → ℕ → Answer
unfolding net_of count list_of sec size tab transfer_row walk_row station_of transfer_span walk_span or_max reading better ahead upto downto gather set_in any_of wins store apply1 apply_all keep_all leg_of propose first_position sooner fresh refilled choose1 choose_at choose reach leave first_trip last_trip catch allows boarded board alight scan course rides walked paths footpaths listed aim picks opened ride_half foot_half ridden footed aimed round_times ridden_parents round_parents round starting begun ended loop search onward back trace in_order journey leg_size size_of exists or_itself stops_of_stop served_of stops_of_area place_stops unserved barren may_walk moment_of task_by task_of refusal lowest searched reply_to reply unless answer legs_of
computed w q room = answer 0 true (net_of w) q room

-- their legs
abbrev pub N1_legs : List Leg
N1_legs =
    record { from = 0; to = 2; departure = record { 0 = 100 }; arrival = record { 0 = 300 }; kind = Transit 0 }
    ∷ record { from = 2; to = 3; departure = record { 0 = 300 }; arrival = record { 0 = 330 }; kind = Transfer }
    ∷ record { from = 3; to = 4; departure = record { 0 = 350 }; arrival = record { 0 = 450 }; kind = Transit 2 }
    ∷ []

abbrev pub N9_legs : List Leg
N9_legs =
    record { from = 0; to = 2; departure = record { 0 = 100 }; arrival = record { 0 = 300 }; kind = Transit 0 }
    ∷ record { from = 2; to = 3; departure = record { 0 = 320 }; arrival = record { 0 = 350 }; kind = Transfer }
    ∷ record { from = 3; to = 4; departure = record { 0 = 350 }; arrival = record { 0 = 450 }; kind = Transit 2 }
    ∷ []

pub N1_searched : legs_of (net_of N) from_0_at_50 ≡ N1_legs
unfolding computed
N1_searched = refl

-- and as the way back of a departure search finds them, the last first
pub N1_toward : (task_of (net_of N) from_0_at_50).direction ≡ Departing
unfolding computed
N1_toward = refl

pub N1_found : trace (net_of N) (task_of (net_of N) from_0_at_50) (searched (net_of N) from_0_at_50) ≡ third ∷ second ∷ first ∷ []
unfolding computed first second third
N1_found = refl

-- the answer, with a buffer of `room` bytes
pub N1_answered : (room : ℕ) → 59 ≤ room → answer 0 true (net_of N) from_0_at_50 room ≡ Ok (record { time = record { 0 = 450 }; stop = 4; round = 1; length = 59 })
unfolding computed
N1_answered room h = rw (le-leb 59 room h)

-- "N1 with a buffer of 58 bytes"
pub N10_answered : answer 0 true (net_of N) from_0_at_50 58 ≡ Err (TooLong 59)
unfolding computed
N10_answered = refl

pub N9_searched : legs_of (net_of N9) to_4_by_450 ≡ N9_legs
unfolding computed
N9_searched = refl

pub N9_answered : (room : ℕ) → 59 ≤ room → answer 0 true (net_of N9) to_4_by_450 room ≡ Ok (record { time = record { 0 = 100 }; stop = 0; round = 1; length = 59 })
unfolding computed
N9_answered room h = rw (le-leb 59 room h)

-- no station is there, so a stop is its place's only one
pub N_places : place_stops (net_of N) (Stop 0) ≡ 0 ∷ []
unfolding computed
N_places = refl

pub N9_places : place_stops (net_of N9) (Stop 4) ≡ 4 ∷ []
unfolding computed
N9_places = refl

-- a workspace of the right lengths is there for every network
pub roomy : (n : Net) (buffer : List ℕ)
    → sized n (lent (replicate (words_room n.stops n.routes) 0) (replicate (marks_room n.stops n.routes) 0) (replicate (places_room n.stops) 0) buffer)
    ≡ true
unfolding sized room_for
roomy n buffer =
    rw (
      eq-eqb _ _ (length-replicate {A = ℕ} (words_room n.stops n.routes) 0),
      eq-eqb _ _ (length-replicate {A = ℕ} (marks_room n.stops n.routes) 0),
      eq-eqb _ _ (length-replicate {A = ℕ} (places_room n.stops) 0),
    )
