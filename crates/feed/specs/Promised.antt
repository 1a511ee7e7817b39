-- "reading that gives the same tables": what reading what was written gives, and in which rooms.
use Rattle.std.specs.Prelude.{◌≤◌, ◌≡◌, List, length}
use Rattle.feed.specs.declared.Room.{Room}
use Rattle.feed.specs.Feed.{TimeRow, TransferRow, done, Got}
use Rattle.feed.specs.Orderly.{none_seen, after_times, after_transfers}

-- no table takes more than a u32 counts
pub record Countable (room : Room) : Type 0 where
  pub stops : room.stops ≤ 4_294_967_295
  pub trips : room.trips ≤ 4_294_967_295
  pub times : room.times ≤ 4_294_967_295
  pub transfers : room.transfers ≤ 4_294_967_295

-- the same rows in the same order, and as many stops and trips as appear in them
pub record Rereads (room : Room) (ts : List TimeRow) (xs : List TransferRow) (g : Got) : Type 0 where
  pub ended : g.end ≡ done
  pub times : g.feed.times ≡ ts
  pub transfers : g.feed.transfers ≡ xs
  pub stops : length g.feed.stops ≡ after_transfers (after_times none_seen ts).stops xs
  pub trips : length g.feed.trips ≡ (after_times none_seen ts).trips

-- a room that takes at least as much
pub record Wider (room room' : Room) : Type 0 where
  pub stops : room.stops ≤ room'.stops
  pub trips : room.trips ≤ room'.trips
  pub times : room.times ≤ room'.times
  pub transfers : room.transfers ≤ room'.transfers
