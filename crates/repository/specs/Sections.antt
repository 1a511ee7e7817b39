-- The flat tables: a header of 21 words, then 20 sections, each beginning where the one before ends. Nobody above this crate knows it.
-- Every number of the layout stands in this file and, for code, in sections.rt, and nowhere else.
use Rattle.std.specs.Prelude.{ℕ, ◌+◌, ◌-◌, ◌*◌, ◌/◌, List, get_or, Float}
use Rattle.std.specs.Float.Ieee.{of_bits}
use Rattle.std.specs.Float.{binary32}

-- The sections, with S stops, R routes, T trips, A areas. A "starts" section begins with 0, never falls, and ends with the number of rows of
-- the list behind it.

-- S: stop s at place s
abbrev pub STOP_LIST : ℕ
STOP_LIST = 0

-- S: the stop's parent station, or MAX
abbrev pub STATIONS : ℕ
STATIONS = 1

-- S + 1
abbrev pub CHILD_STARTS : ℕ
CHILD_STARTS = 2

-- stops, under their station
abbrev pub CHILDREN : ℕ
CHILDREN = 3

-- S + 1
abbrev pub CALL_STARTS : ℕ
CALL_STARTS = 4

-- rows of 3, under their stop: route, first position, last position of the stop in it; routes ascending
abbrev pub CALLS : ℕ
CALLS = 5

-- S: 1 where a trip passes the stop, else 0
abbrev pub SERVED : ℕ
SERVED = 6

-- S + 1
abbrev pub TRANSFER_STARTS : ℕ
TRANSFER_STARTS = 7

-- rows of 4, under the stop that they leave: from, to, span or MAX, metres as the bits of an f32
abbrev pub TRANSFERS : ℕ
TRANSFERS = 8

-- S + 1
abbrev pub WALK_STARTS : ℕ
WALK_STARTS = 9

-- rows of 2, under the stop that they leave: to, metres as the bits of an f32
abbrev pub WALKS : ℕ
WALKS = 10

-- R + 1
abbrev pub ROUTE_STOP_STARTS : ℕ
ROUTE_STOP_STARTS = 11

-- the stop at each position, under the route
abbrev pub ROUTE_STOPS : ℕ
ROUTE_STOPS = 12

-- R + 1
abbrev pub ROUTE_TRIP_STARTS : ℕ
ROUTE_TRIP_STARTS = 13

-- T: trips, under their route, in its order
abbrev pub ROUTE_TRIPS : ℕ
ROUTE_TRIPS = 14

-- T + 1
abbrev pub TIME_STARTS : ℕ
TIME_STARTS = 15

-- rows of 2, under their trip, one a position: arrival, departure
abbrev pub TIMES : ℕ
TIMES = 16

-- A + 1
abbrev pub AREA_STARTS : ℕ
AREA_STARTS = 17

-- stops, under the area that names them
abbrev pub AREA_STOPS : ℕ
AREA_STOPS = 18

-- rows of 2, one for each trip: its route, its place among `ROUTE_TRIPS`
abbrev pub STANDING : ℕ
STANDING = 19

-- how many sections there are
abbrev pub SECTIONS : ℕ
SECTIONS = 20

-- the words of the header: word k is where section k begins, the last one the length of the tables
abbrev pub HEADER : ℕ
HEADER = 21

-- The words of a row, where it has more than one

abbrev pub CALL_WORDS : ℕ
CALL_WORDS = 3

abbrev pub TRANSFER_WORDS : ℕ
TRANSFER_WORDS = 4

abbrev pub WALK_WORDS : ℕ
WALK_WORDS = 2

abbrev pub TIME_WORDS : ℕ
TIME_WORDS = 2

abbrev pub STANDING_WORDS : ℕ
STANDING_WORDS = 2

-- Reading

-- header word k
abbrev pub start : List ℕ → ℕ → ℕ
start w k = get_or w k 0

-- how many words section k has
unfoldable pub size : List ℕ → ℕ → ℕ
size w k = start w (k + 1) - start w k

-- word i of section k
unfoldable pub sec : List ℕ → ℕ → ℕ → ℕ
sec w k i = get_or w (start w k + i) 0

-- how many rows of `wide` words section k has
abbrev pub rows : List ℕ → ℕ → ℕ → ℕ
rows w k wide = size w k / wide

-- how many of each there are
abbrev pub stops : List ℕ → ℕ
stops w = size w STOP_LIST

abbrev pub routes : List ℕ → ℕ
routes w = size w ROUTE_STOP_STARTS - 1

abbrev pub trips : List ℕ → ℕ
trips w = size w TIME_STARTS - 1

abbrev pub areas : List ℕ → ℕ
areas w = size w AREA_STARTS - 1

-- the metres of an f32's bits
abbrev pub metres : ℕ → Float
metres bits = of_bits binary32 bits

-- The fields. Of a stop

abbrev pub stop_list_at : List ℕ → ℕ → ℕ
stop_list_at w s = sec w STOP_LIST s

abbrev pub station_at : List ℕ → ℕ → ℕ
station_at w s = sec w STATIONS s

abbrev pub served_at : List ℕ → ℕ → ℕ
served_at w s = sec w SERVED s

-- of row j of a list

abbrev pub child_at : List ℕ → ℕ → ℕ
child_at w j = sec w CHILDREN j

abbrev pub route_stop_at : List ℕ → ℕ → ℕ
route_stop_at w j = sec w ROUTE_STOPS j

abbrev pub route_trip_at : List ℕ → ℕ → ℕ
route_trip_at w j = sec w ROUTE_TRIPS j

abbrev pub area_stop_at : List ℕ → ℕ → ℕ
area_stop_at w j = sec w AREA_STOPS j

abbrev pub call_route : List ℕ → ℕ → ℕ
call_route w j = sec w CALLS (j * CALL_WORDS)

abbrev pub call_first : List ℕ → ℕ → ℕ
call_first w j = sec w CALLS (j * CALL_WORDS + 1)

abbrev pub call_last : List ℕ → ℕ → ℕ
call_last w j = sec w CALLS (j * CALL_WORDS + 2)

abbrev pub transfer_from : List ℕ → ℕ → ℕ
transfer_from w j = sec w TRANSFERS (j * TRANSFER_WORDS)

abbrev pub transfer_to : List ℕ → ℕ → ℕ
transfer_to w j = sec w TRANSFERS (j * TRANSFER_WORDS + 1)

abbrev pub transfer_stated : List ℕ → ℕ → ℕ
transfer_stated w j = sec w TRANSFERS (j * TRANSFER_WORDS + 2)

abbrev pub transfer_bits : List ℕ → ℕ → ℕ
transfer_bits w j = sec w TRANSFERS (j * TRANSFER_WORDS + 3)

abbrev pub transfer_metres : List ℕ → ℕ → Float
transfer_metres w j = metres (transfer_bits w j)

abbrev pub walk_to : List ℕ → ℕ → ℕ
walk_to w j = sec w WALKS (j * WALK_WORDS)

abbrev pub walk_bits : List ℕ → ℕ → ℕ
walk_bits w j = sec w WALKS (j * WALK_WORDS + 1)

abbrev pub walk_metres : List ℕ → ℕ → Float
walk_metres w j = metres (walk_bits w j)

-- of a trip: its route, and the row of `ROUTE_TRIPS` that it is

abbrev pub standing_route : List ℕ → ℕ → ℕ
standing_route w v = sec w STANDING (v * STANDING_WORDS)

abbrev pub standing_place : List ℕ → ℕ → ℕ
standing_place w v = sec w STANDING (v * STANDING_WORDS + 1)

-- the stop at position p of route r, and trip i of its order

abbrev pub stop_on : List ℕ → ℕ → ℕ → ℕ
stop_on w r p = route_stop_at w (sec w ROUTE_STOP_STARTS r + p)

abbrev pub trip_on : List ℕ → ℕ → ℕ → ℕ
trip_on w r i = route_trip_at w (sec w ROUTE_TRIP_STARTS r + i)

-- the moments at position p of the trip whose first row is `row`

abbrev pub arrival_in : List ℕ → ℕ → ℕ → ℕ
arrival_in w row p = sec w TIMES ((row + p) * TIME_WORDS)

abbrev pub departure_in : List ℕ → ℕ → ℕ → ℕ
departure_in w row p = sec w TIMES ((row + p) * TIME_WORDS + 1)
