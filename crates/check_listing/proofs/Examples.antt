-- A network in which every listing rule has something to say, and the same with one word changed, which breaks one rule.
use Prim.Native.Nat.{ℕ}
use mathlib.Core.Path.{◌≡◌, refl}
use mathlib.Core.Bool.{Bool, true, false}
use mathlib.Core.List.{List, [], ◌∷◌}
use lib.ListN.{set, replicate}
use Rattle.base.specs.All.{every, all}
use Rattle.repository.specs.Sections.{size, sec}
use Rattle.repository.specs.NetOf.{count}
use Rattle.repository.specs.Laid.{headed, well_sized, limited, starts_section, well_started, positioned, laid}
use Rattle.repository.specs.Listed.{fails, some, among, unseen, distinct, indexed, in_range, under, in_place, stop_list}
use Rattle.repository.specs.Listed.{station, stations, child, of_station, children_name, children_all, children}
use Rattle.repository.specs.Listed.{route_stops, route_trips, time_each, trip_times, call, later, ascending, calls, called}
use Rattle.repository.specs.Listed.{called_along, calls_hold, calls_rise, calls_all, stop_routes, running, passes, served_mark}
use Rattle.repository.specs.Listed.{served, transfer, transfers, walk_in, walks, area_once, areas_once, areas_listed}
use Rattle.repository.specs.Listed.{standing, standings, framed, well_listed}

-- Stops 0 to 5, of which 5 is the station of 0 and 1. Route 0: stops 0, 1, 2, two trips. Route 1: stops 3, 4, one trip.
-- Route 2: stops 2, 3, 2, no trip. A transfer from 2 to 3, a walk from 3 to 2. Area 0: stops 5 and 2. Area 1: none.
-- The header, then a line for each section.
unfoldable image : List ℕ
image =
    21 ∷ 27 ∷ 33 ∷ 40 ∷ 42 ∷ 49 ∷ 70 ∷ 76 ∷ 83 ∷ 87 ∷ 94 ∷ 96 ∷ 100 ∷ 108 ∷ 112 ∷ 115 ∷ 119 ∷ 135 ∷ 138 ∷ 140 ∷ 146 ∷
    0 ∷ 1 ∷ 2 ∷ 3 ∷ 4 ∷ 5 ∷
    5 ∷ 5 ∷ 4294967295 ∷ 4294967295 ∷ 4294967295 ∷ 4294967295 ∷
    0 ∷ 0 ∷ 0 ∷ 0 ∷ 0 ∷ 0 ∷ 2 ∷
    0 ∷ 1 ∷
    0 ∷ 1 ∷ 2 ∷ 4 ∷ 6 ∷ 7 ∷ 7 ∷
    0 ∷ 0 ∷ 0 ∷ 0 ∷ 1 ∷ 1 ∷ 0 ∷ 2 ∷ 2 ∷ 2 ∷ 0 ∷ 2 ∷ 1 ∷ 0 ∷ 0 ∷ 2 ∷ 1 ∷ 1 ∷ 1 ∷ 1 ∷ 1 ∷
    1 ∷ 1 ∷ 1 ∷ 1 ∷ 1 ∷ 0 ∷
    0 ∷ 0 ∷ 0 ∷ 1 ∷ 1 ∷ 1 ∷ 1 ∷
    2 ∷ 3 ∷ 30 ∷ 0 ∷
    0 ∷ 0 ∷ 0 ∷ 0 ∷ 1 ∷ 1 ∷ 1 ∷
    2 ∷ 1092616192 ∷
    0 ∷ 3 ∷ 5 ∷ 8 ∷
    0 ∷ 1 ∷ 2 ∷ 3 ∷ 4 ∷ 2 ∷ 3 ∷ 2 ∷
    0 ∷ 2 ∷ 3 ∷ 3 ∷
    0 ∷ 1 ∷ 2 ∷
    0 ∷ 3 ∷ 6 ∷ 8 ∷
    100 ∷ 100 ∷ 200 ∷ 210 ∷ 300 ∷ 300 ∷ 400 ∷ 400 ∷ 500 ∷ 510 ∷ 600 ∷ 600 ∷ 350 ∷ 350 ∷ 450 ∷ 450 ∷
    0 ∷ 2 ∷ 2 ∷
    5 ∷ 2 ∷
    0 ∷ 0 ∷ 0 ∷ 1 ∷ 1 ∷ 2 ∷ []

image_laid : laid image ≡ true
unfolding image laid headed well_sized limited well_started starts_section positioned every all size sec count
image_laid = refl

-- no rule is broken
unfoldable kept : Bool
kept = well_listed image

-- the word at a place of the image as another number
unfoldable changed : ℕ → ℕ → Bool
changed i v = well_listed (set image i v)

unfoldable broken : List Bool
broken =
    -- a stop out of its place
    changed 22 2 ∷
    -- a station that is no stop
    changed 30 6 ∷
    -- a child listed twice
    changed 41 0 ∷
    -- a child that names no station
    changed 28 4294967295 ∷
    -- a stop that names a station and is no child of it
    changed 29 5 ∷
    -- a route with a stop out of range
    changed 100 6 ∷
    -- a trip in two routes
    changed 114 1 ∷
    -- a trip with a time too few
    changed 117 5 ∷
    -- a trip that stands in no route
    changed 140 3 ∷
    -- a trip that stands in another route
    changed 142 1 ∷
    -- a trip that stands in another's place
    changed 141 1 ∷
    -- a call's first position is another stop's
    changed 50 1 ∷
    -- a call's last position is before the last
    changed 60 0 ∷
    -- a call for another route
    changed 49 1 ∷
    -- a served mark left unset
    changed 70 0 ∷
    -- a served mark where no trip passes
    changed 75 1 ∷
    -- a transfer listed under another stop
    changed 83 1 ∷
    -- a transfer to no stop
    changed 84 6 ∷
    -- a walk to no stop
    changed 94 6 ∷
    -- an area that names a stop twice
    changed 139 5 ∷
    -- an area that names no stop
    changed 138 6 ∷ []

image_listed : (kept ≡ true) × (broken ≡ replicate 21 false)
unfolding kept broken changed image every all size sec count fails some among unseen distinct indexed in_range under in_place stop_list station stations child of_station children_name children_all children route_stops route_trips time_each trip_times standing standings call later ascending calls called called_along calls_hold calls_rise calls_all stop_routes running passes served_mark served transfer transfers walk_in walks area_once areas_once areas_listed framed well_listed
image_listed = (refl, refl)
