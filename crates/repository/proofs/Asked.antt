-- Accepted tables have what each reader asks of them.
use Prim.Native.Nat.{ℕ}
use mathlib.Core.List.{List}
use Rattle.repository.specs.Accepted.{Listed, Accepted}
use Rattle.repository.specs.Readable.{Readable, Indexed, Searchable}

listed_indexed : {w : List ℕ} → Listed w → Indexed w
listed_indexed h = record {
  stop_in = h.stop_in;
  trip_in = h.trip_in;
  trip_long = h.trip_long;
  call_route_lem = h.call_route_lem;
  call_first_in = h.call_first_in;
  call_first_lem = h.call_first_lem;
  call_rise = h.call_rise;
  call_all = λ r p i l.
      let c = h.call_all r p i l in
      record { row = c.row; under = c.under; route = c.route; first = c.first };
  transfer_to_lem = h.transfer_to_lem;
  walk_to_lem = h.walk_to_lem;
}

pub searchable_readable : {w : List ℕ} → Searchable w → Readable w
searchable_readable h = record { laid = h.laid }

pub accepted_searchable : {w : List ℕ} → Accepted w → Searchable w
accepted_searchable h = record {
  laid = h.laid;
  indexed = listed_indexed h.listed;
  timed = h.timed;
  ordered = h.ordered;
  measured = h.measured;
}
