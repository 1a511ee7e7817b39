-- "reading that gives the same tables": whatever was read, written and read again gives the same rows and as many stops and trips.
-- Assumes nothing.
use Prim.Native.Nat.{ℕ}
use mathlib.Core.Path.{◌≡◌, sym, ◌∙◌}
use mathlib.Core.List.{List}
use lib.ListN.{length}
use Rattle.feed.specs.declared.Room.{Room}
use Rattle.feed.specs.Feed.{Got}
use Rattle.feed.specs.Reading.{read_feed}
use Rattle.feed.specs.Writing.{write_times, write_transfers}
use Rattle.feed.specs.Promised.{Countable, Rereads}
use Rattle.feed.proofs.RoundTrip.{written_reads}
use Rattle.feed.proofs.Standing.{read_orderly, read_tallies}

module _ (room : Room) (a b : List ℕ) (c : Countable room) where
  -- what was read, written and read again
  abbrev pub again : Got
  again = read_feed room (write_times (read_feed room a b).feed.times) (write_transfers (read_feed room a b).feed.transfers)

  pub round_trip : Rereads room (read_feed room a b).feed.times (read_feed room a b).feed.transfers again
  round_trip = written_reads room (read_feed room a b).feed.times (read_feed room a b).feed.transfers c (read_orderly room a b)

  pub same_stops : length again.feed.stops ≡ length (read_feed room a b).feed.stops
  same_stops = round_trip.stops ∙ sym (read_tallies room a b).stops

  pub same_trips : length again.feed.trips ≡ length (read_feed room a b).feed.trips
  same_trips = round_trip.trips ∙ sym (read_tallies room a b).trips
