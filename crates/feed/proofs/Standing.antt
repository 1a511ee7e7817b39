-- Whatever the files hold and wherever their reading ends: the rows are orderly, no name stands twice, every table is within its room.
-- Assumes nothing.
use Prim.Native.Nat.{ℕ}
use mathlib.Core.Path.{◌≡◌, refl}
use mathlib.Core.List.{List, []}
use Rattle.feed.specs.declared.Room.{Room}
use Rattle.feed.specs.Reading.{read_feed}
use Rattle.feed.specs.Orderly.{Orderly}
use Rattle.feed.specs.Held.{Once, Tallies, InRoom}
use Rattle.feed.proofs.Keeping.{Right, empty_right, times_kept, transfers_kept}
use Rattle.feed.proofs.Reaching.{Stays, holds_of_read}

right_stays : (room : Room) → Stays room (λ f. Right room f × (f.transfers ≡ [])) (Right room)
right_stays room = record {
  empty = (empty_right room, refl);
  times = λ t p. times_kept t p.0 p.1;
  then = λ p. p.0;
  transfers = λ t r. transfers_kept t r;
}

module _ (room : Room) (a b : List ℕ) where
  read_right : Right room (read_feed room a b).feed
  read_right = holds_of_read room (λ f. Right room f × (f.transfers ≡ [])) (Right room) (right_stays room) a b

  pub read_orderly : Orderly room (read_feed room a b).feed.times (read_feed room a b).feed.transfers
  read_orderly =
      let r = read_right in
      record {
        few_times = r.within.times;
        few_transfers = r.within.transfers;
        times_right = r.times_right;
        transfers_right = r.transfers_right;
      }

  -- as many names as numbers
  pub read_tallies : Tallies (read_feed room a b).feed
  read_tallies = read_right.tallies

  pub stops_once : Once (read_feed room a b).feed.stops
  stops_once = read_right.stops_once

  pub trips_once : Once (read_feed room a b).feed.trips
  trips_once = read_right.trips_once

  pub within_room : InRoom room (read_feed room a b).feed
  within_room = read_right.within
