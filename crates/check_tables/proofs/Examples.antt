-- The words of networks N and N9, and N with one word changed: the number of each. So accepted tables are there, and every number is.
use Prim.Native.Nat.{ℕ}
use mathlib.Core.Path.{◌≡◌, refl, ap}
use mathlib.Core.List.{List, [], ◌∷◌}
use lib.ListN.{get_or, set}
use lib.Ieee.{le, of_bits}
use Rattle.base.specs.All.{every, all}
use Rattle.repository.specs.Sections.{size, sec}
use Rattle.repository.specs.NetOf.{count, net_of}
use Rattle.repository.specs.Laid.{headed, well_sized, limited, starts_section, well_started, positioned, laid}
use Rattle.repository.specs.Listed.{fails, some, among, unseen, distinct, indexed, in_range, under, in_place, stop_list}
use Rattle.repository.specs.Listed.{station, stations, child, of_station, children_name, children_all, children, route_stops}
use Rattle.repository.specs.Listed.{route_trips, time_each, trip_times, call, calls, later, ascending, called, called_along}
use Rattle.repository.specs.Listed.{calls_hold, calls_rise, calls_all, stop_routes, running, passes, served_mark, served}
use Rattle.repository.specs.Listed.{transfer, transfers, walks, area_once, areas_once, areas_listed}
use Rattle.repository.specs.Listed.{standing, standings, framed, well_listed}
use Rattle.repository.specs.Checked.{walk, timely, timed, behind, ordered, measured, check_of}
use Rattle.repository.specs.Accepted.{Accepted}
use Rattle.check_tables.proofs.Whole.{accepted_is}

abbrev pub N : List ℕ
N =
    21 ∷ 26 ∷ 31 ∷ 37 ∷ 37 ∷ 43 ∷ 58 ∷ 63 ∷ 69 ∷ 73 ∷ 79 ∷ 79 ∷ 82 ∷ 87 ∷ 90 ∷ 94 ∷ 99 ∷ 119 ∷ 120 ∷ 120 ∷ 128
    ∷ 0 ∷ 1 ∷ 2 ∷ 3 ∷ 4
    ∷ 4294967295 ∷ 4294967295 ∷ 4294967295 ∷ 4294967295 ∷ 4294967295
    ∷ 0 ∷ 0 ∷ 0 ∷ 0 ∷ 0 ∷ 0
    ∷ 0 ∷ 1 ∷ 2 ∷ 3 ∷ 4 ∷ 5
    ∷ 0 ∷ 0 ∷ 0 ∷ 0 ∷ 1 ∷ 1 ∷ 0 ∷ 2 ∷ 2 ∷ 1 ∷ 0 ∷ 0 ∷ 1 ∷ 1 ∷ 1
    ∷ 1 ∷ 1 ∷ 1 ∷ 1 ∷ 1
    ∷ 0 ∷ 0 ∷ 0 ∷ 1 ∷ 1 ∷ 1
    ∷ 2 ∷ 3 ∷ 30 ∷ 0
    ∷ 0 ∷ 0 ∷ 0 ∷ 0 ∷ 0 ∷ 0
    ∷ 0 ∷ 3 ∷ 5
    ∷ 0 ∷ 1 ∷ 2 ∷ 3 ∷ 4
    ∷ 0 ∷ 2 ∷ 4
    ∷ 0 ∷ 1 ∷ 2 ∷ 3
    ∷ 0 ∷ 3 ∷ 6 ∷ 8 ∷ 10
    ∷ 100 ∷ 100 ∷ 200 ∷ 210 ∷ 300 ∷ 300 ∷ 400 ∷ 400 ∷ 500 ∷ 510 ∷ 600 ∷ 600
    ∷ 350 ∷ 350 ∷ 450 ∷ 450 ∷ 650 ∷ 650 ∷ 750 ∷ 750
    ∷ 0
    ∷ 0 ∷ 0 ∷ 0 ∷ 1 ∷ 1 ∷ 2 ∷ 1 ∷ 3 ∷ []

-- "N8 with transfer 3 to 2, span 30, added"
abbrev pub N9 : List ℕ
N9 =
    21 ∷ 26 ∷ 31 ∷ 37 ∷ 37 ∷ 43 ∷ 58 ∷ 63 ∷ 69 ∷ 77 ∷ 83 ∷ 83 ∷ 86 ∷ 91 ∷ 94 ∷ 98 ∷ 103 ∷ 123 ∷ 124 ∷ 124 ∷ 132
    ∷ 0 ∷ 1 ∷ 2 ∷ 3 ∷ 4
    ∷ 4294967295 ∷ 4294967295 ∷ 4294967295 ∷ 4294967295 ∷ 4294967295
    ∷ 0 ∷ 0 ∷ 0 ∷ 0 ∷ 0 ∷ 0
    ∷ 0 ∷ 1 ∷ 2 ∷ 3 ∷ 4 ∷ 5
    ∷ 0 ∷ 0 ∷ 0 ∷ 0 ∷ 1 ∷ 1 ∷ 0 ∷ 2 ∷ 2 ∷ 1 ∷ 0 ∷ 0 ∷ 1 ∷ 1 ∷ 1
    ∷ 1 ∷ 1 ∷ 1 ∷ 1 ∷ 1
    ∷ 0 ∷ 0 ∷ 0 ∷ 1 ∷ 2 ∷ 2
    ∷ 2 ∷ 3 ∷ 30 ∷ 0 ∷ 3 ∷ 2 ∷ 30 ∷ 0
    ∷ 0 ∷ 0 ∷ 0 ∷ 0 ∷ 0 ∷ 0
    ∷ 0 ∷ 3 ∷ 5
    ∷ 0 ∷ 1 ∷ 2 ∷ 3 ∷ 4
    ∷ 0 ∷ 2 ∷ 4
    ∷ 0 ∷ 1 ∷ 2 ∷ 3
    ∷ 0 ∷ 3 ∷ 6 ∷ 8 ∷ 10
    ∷ 100 ∷ 100 ∷ 200 ∷ 210 ∷ 300 ∷ 300 ∷ 400 ∷ 400 ∷ 500 ∷ 510 ∷ 600 ∷ 600
    ∷ 350 ∷ 350 ∷ 450 ∷ 450 ∷ 650 ∷ 650 ∷ 750 ∷ 750
    ∷ 0
    ∷ 0 ∷ 0 ∷ 0 ∷ 1 ∷ 1 ∷ 2 ∷ 1 ∷ 3 ∷ []

-- N; no words; the route stops end short; the transfer goes to no stop; trip 0 arrives at moment 0; trip 0 departs from
-- its last stop after trip 1; a span of 86,401; a distance that is NaN; N9; trip 3 stands where trip 2 does
numbers :
    check_of N ∷ check_of [] ∷ check_of (set N 81 4) ∷ check_of (set N 70 5) ∷ check_of (set N 99 0) ∷ check_of (set N 104 601)
    ∷ check_of (set N 71 86401) ∷ check_of (set N 72 2143289344) ∷ check_of N9 ∷ check_of (set N 127 2) ∷ []
    ≡ 0 ∷ 1 ∷ 1 ∷ 2 ∷ 3 ∷ 4 ∷ 5 ∷ 5 ∷ 0 ∷ 2 ∷ []
unfolding check_of laid headed well_sized limited starts_section well_started positioned size sec count net_of all every well_listed
    framed fails some among unseen distinct indexed in_range under in_place stop_list station stations child
    of_station children_name children_all children route_stops route_trips time_each trip_times standing standings call calls
    later ascending called called_along calls_hold calls_rise calls_all stop_routes running passes served_mark
    served transfer transfers walks area_once areas_once areas_listed walk timely timed behind ordered
    measured of_bits le
numbers = refl

pub N_accepted : Accepted N
N_accepted = (accepted_is N).0 (ap (λ (l : List ℕ). get_or l 0 0) numbers)

pub N9_accepted : Accepted N9
N9_accepted = (accepted_is N9).0 (ap (λ (l : List ℕ). get_or l 8 0) numbers)
