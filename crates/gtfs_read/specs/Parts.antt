-- The answer made of those of the two files, and what they must be lent.
use Rattle.std.specs.Prelude.{ℕ, ◌*◌, ◌≤◌, List, length, Result, Ok, Err, ⊤}
use Rattle.feed.specs.declared.Room.{Room}
use Rattle.feed.specs.declared.Unread.{Unread}
use Rattle.feed.specs.declared.Unread.TheVariants.{Bad as BadLine, Full as Filled}
use Rattle.gtfs_times.specs.declared.TimesTold.{TimesTold}
use Rattle.gtfs_transfers.specs.declared.TransfersTold.{TransfersTold}
use Rattle.gtfs_read.specs.declared.Told.{Told}
use Rattle.gtfs_read.specs.declared.File.{File}
use Rattle.gtfs_read.specs.declared.File.TheVariants.{StopTimes, Transfers}
use Rattle.gtfs_read.specs.declared.Unfinished.{Unfinished}
use Rattle.gtfs_read.specs.declared.Unfinished.TheVariants.{Bad, Full}

-- a bad line is one of the file's
unfoldable pub ended_in : File → Result ⊤ Unread → Result ⊤ Unfinished
ended_in file (Ok x) = Ok x
ended_in file (Err (BadLine k)) = Err (Bad file k)
ended_in file (Err Filled) = Err Full

abbrev pub first_told : TimesTold → Told
first_told a =
    record {
      ending = ended_in StopTimes a.ending;
      stops = a.stops;
      split = a.stops;
      trips = a.trips;
      times = a.times;
      transfers = 0;
    }

abbrev pub told_both : TimesTold → TransfersTold → Told
told_both a b =
    record {
      ending = ended_in Transfers b.ending;
      stops = b.stops;
      split = a.stops;
      trips = a.trips;
      times = a.times;
      transfers = b.transfers;
    }

-- tables and books have their room, and the files' places fit 32 bits
pub record FilesLent (room : Room) (a b times transfers stops trips : List ℕ) : Type 0 where
  pub first_short : length a ≤ 4_294_967_295
  pub second_short : length b ≤ 4_294_967_295
  pub small : room.times ≤ 4_294_967_295
  pub rows : 4 * room.times ≤ length times
  pub paths : 4 * room.transfers ≤ length transfers
  pub stop_words : 4 * room.stops ≤ length stops
  pub trip_words : 4 * room.trips ≤ length trips
