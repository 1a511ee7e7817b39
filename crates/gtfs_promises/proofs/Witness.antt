-- Files that meet what the promises of the reader suppose, by computation: one for each number.
-- Assumes nothing.
use Prim.Native.Nat.{ℕ, ◌*◌}
use Prim.Native.String.{◌++◌}
use mathlib.Core.Path.{◌≡◌, refl}
use mathlib.Core.List.{List, [], ◌∷◌}
use native.Mathlib.Omega.{arith}
use Rattle.base.specs.Tab.{tab}
use Rattle.base.proofs.Tab.{tab_length}
use Rattle.feed.specs.declared.Room.{Room}
use Rattle.feed.specs.Feed.{done, bad_times, bad_transfers, full}
use Rattle.feed.specs.Reading.{read_feed}
use Rattle.feed.specs.Refused.{BadInTimes, BadInTransfers, FullAt, AllTaken}
use Rattle.feed.proofs.Meaning.{bad_times_means, bad_transfers_means, full_means, done_means}
use Rattle.feed.proofs.Examples.{bytes, given}
use Rattle.gtfs_read.specs.declared.Told.{Told}
use Rattle.gtfs_read.specs.Reads.{LentFeed, lent_feed, rows_of, feed_room, Reads}
use Rattle.gtfs_promises.specs.Answers.{TooLong, first_long, BothShort, AnswersWith}
use Rattle.gtfs_promises.proofs.Numbers.{number_1, taken_answered, bad_times_answered, bad_transfers_answered, full_answered}

-- ---- two rides of a trip, and a transfer to a third stop, which falls into the slot of the first
unfoldable pub RIDES : List ℕ
unfolding bytes
RIDES = bytes ("trip_id,arrival_time,departure_time,stop_id,stop_sequence\n" ++ "t,8:00:00,8:05:00,A,3\n" ++ "t,8:10:00,8:10:00,B,7\n")

unfoldable pub WALKS : List ℕ
unfolding bytes
WALKS = bytes ("from_stop_id,to_stop_id,transfer_type,min_transfer_time\n" ++ "B,D,2,60\n")

-- no departure
pub BAD_RIDES : List ℕ
unfolding bytes
BAD_RIDES = bytes ("trip_id,arrival_time,departure_time,stop_id,stop_sequence\n" ++ "t,8:00:00,,A,3\n")

-- no such type
pub BAD_WALKS : List ℕ
unfolding bytes
BAD_WALKS = bytes ("from_stop_id,to_stop_id,transfer_type,min_transfer_time\n" ++ "B,D,6,60\n")

room_for : ℕ → Room
room_for stops = record { stops = stops; trips = 1; times = 2; transfers = 1 }

-- words for so many stops, one trip, two stop times and one transfer
unfoldable pub lent_for : ℕ → LentFeed
lent_for stops = lent_feed (tab (λ i. 7) 8 0) (tab (λ i. 7) 4 0) (tab (λ i. 7) (4 * stops) 0) (tab (λ i. 7) 4 0)

-- what each of them gives
rides_got : (given 3 1 2 1 RIDES WALKS).end ≡ done
unfolding given RIDES WALKS
rides_got = refl

rides_times :
    (given 3 1 2 1 RIDES WALKS).feed.times
    ≡ record { trip = 0; stop = 0; arrival = 115_200; departure = 115_500 }
    ∷ record { trip = 0; stop = 1; arrival = 115_800; departure = 115_800 }
    ∷ []
unfolding given RIDES WALKS
rides_times = refl

rides_transfers : (given 3 1 2 1 RIDES WALKS).feed.transfers ≡ record { from = 1; to = 2; kind = 2; span = 60 } ∷ []
unfolding given RIDES WALKS
rides_transfers = refl

rides_stops : (given 3 1 2 1 RIDES WALKS).feed.stops ≡ bytes "A" ∷ bytes "B" ∷ bytes "D" ∷ []
unfolding given RIDES WALKS bytes
rides_stops = refl

rides_trips : (given 3 1 2 1 RIDES WALKS).feed.trips ≡ bytes "t" ∷ []
unfolding given RIDES WALKS bytes
rides_trips = refl

bad_rides_got : (given 3 1 2 1 BAD_RIDES WALKS).end ≡ bad_times 2
unfolding given BAD_RIDES WALKS
bad_rides_got = refl

bad_walks_got : (given 3 1 2 1 RIDES BAD_WALKS).end ≡ bad_transfers 2
unfolding given RIDES BAD_WALKS
bad_walks_got = refl

few_got : (given 1 1 2 1 RIDES WALKS).end ≡ full
unfolding given RIDES WALKS
few_got = refl

room_3 : feed_room (lent_for 3) ≡ room_for 3
unfolding feed_room rows_of lent_for room_for tab
room_3 = refl

room_1 : feed_room (lent_for 1) ≡ room_for 1
unfolding feed_room rows_of lent_for room_for tab
room_1 = refl

-- as rows, in the room of what is lent
pub rides_read :
    (read_feed (feed_room (lent_for 3)) RIDES WALKS).feed.times
    ≡ record { trip = 0; stop = 0; arrival = 115_200; departure = 115_500 }
    ∷ record { trip = 0; stop = 1; arrival = 115_800; departure = 115_800 }
    ∷ []
unfolding given room_for
rides_read = rw room_3 rides_times

pub walks_read : (read_feed (feed_room (lent_for 3)) RIDES WALKS).feed.transfers ≡ record { from = 1; to = 2; kind = 2; span = 60 } ∷ []
unfolding given room_for
walks_read = rw room_3 rides_transfers

pub rides_ended : (read_feed (feed_room (lent_for 3)) RIDES WALKS).end ≡ done
unfolding given room_for
rides_ended = rw room_3 rides_got

pub stops_read : (read_feed (feed_room (lent_for 3)) RIDES WALKS).feed.stops ≡ bytes "A" ∷ bytes "B" ∷ bytes "D" ∷ []
unfolding given room_for
stops_read = rw room_3 rides_stops

pub trips_read : (read_feed (feed_room (lent_for 3)) RIDES WALKS).feed.trips ≡ bytes "t" ∷ []
unfolding given room_for
trips_read = rw room_3 rides_trips

-- none is too long
pub short_rides : BothShort RIDES WALKS
unfolding RIDES WALKS bytes
short_rides = record { first_short = omega arith; second_short = omega arith }

short_bad_rides : BothShort BAD_RIDES WALKS
unfolding BAD_RIDES WALKS bytes
short_bad_rides = record { first_short = omega arith; second_short = omega arith }

short_bad_walks : BothShort RIDES BAD_WALKS
unfolding RIDES BAD_WALKS bytes
short_bad_walks = record { first_short = omega arith; second_short = omega arith }

-- ---- each is read as it is said to be
pub rides_taken : AllTaken (feed_room (lent_for 3)) RIDES WALKS (read_feed (feed_room (lent_for 3)) RIDES WALKS).feed
rides_taken = done_means (feed_room (lent_for 3)) RIDES WALKS rides_ended

pub ride_bad : BadInTimes (feed_room (lent_for 3)) BAD_RIDES 2 (read_feed (feed_room (lent_for 3)) BAD_RIDES WALKS).feed
unfolding given room_for
ride_bad = bad_times_means (feed_room (lent_for 3)) BAD_RIDES WALKS (rw room_3 bad_rides_got)

pub walk_bad : BadInTransfers (feed_room (lent_for 3)) RIDES BAD_WALKS 2 (read_feed (feed_room (lent_for 3)) RIDES BAD_WALKS).feed
unfolding given room_for
walk_bad = bad_transfers_means (feed_room (lent_for 3)) RIDES BAD_WALKS (rw room_3 bad_walks_got)

pub stops_full : FullAt (feed_room (lent_for 1)) RIDES WALKS (read_feed (feed_room (lent_for 1)) RIDES WALKS).feed
unfolding given room_for
stops_full = full_means (feed_room (lent_for 1)) RIDES WALKS (rw room_1 few_got)

-- and so each number is answered
module _ {r : Told} {l' : LentFeed} where
  pub answers_0 : Reads RIDES WALKS (lent_for 3) r l' → AnswersWith r 0 0 0
  answers_0 m = (taken_answered m short_rides rides_taken).0

  pub answers_14_times : Reads BAD_RIDES WALKS (lent_for 3) r l' → AnswersWith r 14 2 1
  answers_14_times m = (bad_times_answered m short_bad_rides ride_bad).0

  pub answers_14_transfers : Reads RIDES BAD_WALKS (lent_for 3) r l' → AnswersWith r 14 2 2
  answers_14_transfers m = (bad_transfers_answered m short_bad_walks walk_bad).0

  pub answers_15 : Reads RIDES WALKS (lent_for 1) r l' → AnswersWith r 15 0 0
  answers_15 m = (full_answered m short_rides stops_full).0

-- 4 GiB of line feeds
pub long_file : TooLong (tab (λ i. 10) 4_294_967_296 0) WALKS
long_file = first_long (rw (tab_length {A = ℕ} (λ i. 10) 4_294_967_296 0) (omega arith))

pub answers_1 : {l : LentFeed} {r : Told} {l' : LentFeed} → Reads (tab (λ i. 10) 4_294_967_296 0) WALKS l r l' → AnswersWith r 1 0 0
answers_1 m = (number_1 m).1 long_file
