-- The networks of the worked answers beyond N and M, built as these are: the X's of oracle/cases.txt (X9a, where an area is refused, is not asked
-- there), then others with a letter.
use Prim.Native.Nat.{ℕ, zero, suc}
use Rattle.std.specs.Prelude.{Option, None, Some}
use mathlib.Core.List.{List, [], ◌∷◌}
use Rattle.model.specs.Tables.{Foot, Net}
use Rattle.model.proofs.Examples.{Trip, Route, net}

abbrev pub route : List ℕ → List Trip → Route
route stops trips = record { stops = stops; trips = trips }

abbrev pub one : List ℕ → Trip → Route
one stops trip = route stops (trip ∷ [])

abbrev pub foot : ℕ → ℕ → Foot
foot to span = record { to = to; span = span }

-- networks with footpaths alone, with stations and areas alone, and with neither
unfoldable pub with_feet : ℕ → List Route → List (List Foot) → List (List Foot) → Net
unfolding net
with_feet n rs transfers walks =
    net (record { stops = n; routes = rs; transfers = transfers; walks = walks; stations = []; areas = [] })

unfoldable pub with_places : ℕ → List Route → List (Option ℕ) → List (List ℕ) → Net
unfolding net
with_places n rs stations areas =
    net (record { stops = n; routes = rs; transfers = []; walks = []; stations = stations; areas = areas })

unfoldable pub of_routes : ℕ → List Route → Net
unfolding with_feet
of_routes n rs = with_feet n rs [] []

-- n routes, from stop i to the next and so on, each with one trip, and all at one moment
unfoldable pub hops : ℕ → ℕ → List Route
hops zero i = []
hops (suc n) i = one (i ∷ suc i ∷ []) ((10, 10) ∷ (10, 10) ∷ []) ∷ hops n (suc i)

-- X4: stop 0 and n more in a row, with these transfers
unfoldable pub line : ℕ → List (List Foot) → Net
unfolding with_feet hops
line n transfers = with_feet (suc n) (hops n 0) transfers []

-- two footpaths one behind the other
unfoldable pub X1 : Net
unfolding with_feet
X1 = with_feet 3 (one (2 ∷ 0 ∷ 1 ∷ []) ((8, 8) ∷ (10, 10) ∷ (12, 12) ∷ []) ∷ []) ((foot 1 0 ∷ []) ∷ (foot 2 1 ∷ []) ∷ []) []

-- two trips of one route, and another route that comes to it at two stops
unfoldable pub X2 : Net
unfolding of_routes
X2 =
    of_routes 4
    (route (1 ∷ 0 ∷ 3 ∷ []) (((9, 10) ∷ (11, 17) ∷ (18, 19) ∷ []) ∷ ((9, 12) ∷ (16, 21) ∷ (22, 23) ∷ []) ∷ [])
    ∷ one (2 ∷ 1 ∷ 0 ∷ []) ((4, 4) ∷ (9, 9) ∷ (14, 14) ∷ []) ∷ [])

-- stop 5 by one late ride, or by four
unfoldable pub X3 : Net
unfolding of_routes
X3 =
    of_routes 6
    (one (0 ∷ 5 ∷ []) ((100, 100) ∷ (100, 100) ∷ [])
    ∷ one (0 ∷ 1 ∷ []) ((10, 10) ∷ (10, 10) ∷ [])
    ∷ one (1 ∷ 3 ∷ []) ((10, 10) ∷ (150, 150) ∷ [])
    ∷ one (1 ∷ 2 ∷ []) ((20, 20) ∷ (20, 20) ∷ [])
    ∷ one (2 ∷ 4 ∷ []) ((30, 30) ∷ (30, 30) ∷ [])
    ∷ one (3 ∷ 4 ∷ 5 ∷ []) ((5, 5) ∷ (50, 50) ∷ (60, 60) ∷ []) ∷ [])

-- X3 the other way round, each moment m as 200 - m
unfoldable pub X3' : Net
unfolding of_routes
X3' =
    of_routes 6
    (one (5 ∷ 0 ∷ []) ((100, 100) ∷ (100, 100) ∷ [])
    ∷ one (1 ∷ 0 ∷ []) ((190, 190) ∷ (190, 190) ∷ [])
    ∷ one (3 ∷ 1 ∷ []) ((50, 50) ∷ (190, 190) ∷ [])
    ∷ one (2 ∷ 1 ∷ []) ((180, 180) ∷ (180, 180) ∷ [])
    ∷ one (4 ∷ 2 ∷ []) ((170, 170) ∷ (170, 170) ∷ [])
    ∷ one (5 ∷ 4 ∷ 3 ∷ []) ((140, 140) ∷ (150, 150) ∷ (195, 195) ∷ []) ∷ [])

-- a route that comes back to where it began
unfoldable pub X5 : Net
unfolding of_routes
X5 = of_routes 2 (one (0 ∷ 1 ∷ 0 ∷ []) ((1, 1) ∷ (1, 1) ∷ (1, 1) ∷ []) ∷ [])

-- a route from a stop to itself
unfoldable pub X6 : Net
unfolding of_routes
X6 = of_routes 1 (one (0 ∷ 0 ∷ []) ((32, 32) ∷ (32, 32) ∷ []) ∷ [])

-- a transfer and a walk between the same stops, both of no time
unfoldable pub X7 : Net
unfolding with_feet
X7 = with_feet 2 (one (1 ∷ 0 ∷ []) ((1, 3) ∷ (4, 4) ∷ []) ∷ []) ((foot 1 0 ∷ []) ∷ []) ((foot 1 0 ∷ []) ∷ [])

-- a footpath as long as the moment that it is taken from, and one second shorter
unfoldable pub X8a : Net
unfolding with_feet
X8a = with_feet 3 (one (1 ∷ 2 ∷ []) ((5, 5) ∷ (9, 9) ∷ []) ∷ []) ((foot 1 5 ∷ []) ∷ (foot 0 5 ∷ []) ∷ []) []

unfoldable pub X8b : Net
unfolding with_feet
X8b = with_feet 3 (one (1 ∷ 2 ∷ []) ((6, 6) ∷ (10, 10) ∷ []) ∷ []) ((foot 1 5 ∷ []) ∷ (foot 0 5 ∷ []) ∷ []) []

-- areas that name a stop without children, and no stop
unfoldable pub X9a : Net
unfolding with_places
X9a = with_places 3 (one (0 ∷ 1 ∷ []) ((1, 1) ∷ (2, 2) ∷ []) ∷ []) [] ((0 ∷ []) ∷ [] ∷ [])

-- areas that name a station, and its only child
unfoldable pub X9b : Net
unfolding with_places
X9b = with_places 3 (one (0 ∷ 1 ∷ []) ((1, 1) ∷ (2, 2) ∷ []) ∷ []) (Some 2 ∷ []) ((2 ∷ []) ∷ (0 ∷ []) ∷ [])

-- a station that is served itself; its child is not
unfoldable pub X10 : Net
unfolding with_places
X10 = with_places 3 (one (2 ∷ 1 ∷ []) ((1, 1) ∷ (2, 2) ∷ []) ∷ []) (Some 2 ∷ []) []

-- a footpath that leads to where another begins
unfoldable pub X11 : Net
unfolding with_feet
X11 =
    with_feet 3
    (one (1 ∷ 0 ∷ []) ((6, 18) ∷ (22, 23) ∷ [])
    ∷ one (0 ∷ 1 ∷ []) ((7, 7) ∷ (12, 12) ∷ []) ∷ [])
    ((foot 2 1 ∷ []) ∷ (foot 0 0 ∷ []) ∷ [])
    []

-- a route that passes stop 1 twice, the second time at the same moment as stop 0
unfoldable pub X12 : Net
unfolding of_routes
X12 = of_routes 2 (one (1 ∷ 0 ∷ 1 ∷ []) ((1, 2) ∷ (2, 2) ∷ (2, 3) ∷ []) ∷ [])

-- two journeys that come to stop 3 at one moment, with two legs and with three
unfoldable pub X17 : Net
unfolding with_feet
X17 =
    with_feet 5
    (one (0 ∷ 1 ∷ []) ((5, 5) ∷ (10, 10) ∷ [])
    ∷ one (0 ∷ 2 ∷ []) ((5, 5) ∷ (8, 8) ∷ [])
    ∷ one (1 ∷ 3 ∷ []) ((20, 20) ∷ (30, 30) ∷ [])
    ∷ one (4 ∷ 3 ∷ []) ((20, 20) ∷ (30, 30) ∷ []) ∷ [])
    ([] ∷ [] ∷ (foot 4 2 ∷ []) ∷ [])
    []

-- a transfer that is listed one way only
unfoldable pub X18 : Net
unfolding with_feet
X18 =
    with_feet 5
    (one (0 ∷ 1 ∷ 2 ∷ []) ((100, 100) ∷ (200, 210) ∷ (300, 300) ∷ [])
    ∷ one (3 ∷ 4 ∷ []) ((350, 350) ∷ (450, 450) ∷ []) ∷ [])
    ([] ∷ [] ∷ [] ∷ (foot 2 30 ∷ []) ∷ [])
    []

-- a trip that stands at its first stop
unfoldable pub X19 : Net
unfolding of_routes
X19 = of_routes 2 (one (0 ∷ 1 ∷ []) ((26, 28) ∷ (48, 75) ∷ []) ∷ [])

-- a ride and two footpaths through every stop, back to the first
unfoldable pub X21 : Net
unfolding with_feet
X21 = with_feet 3 (one (0 ∷ 1 ∷ 2 ∷ []) ((1, 1) ∷ (10, 10) ∷ (20, 20) ∷ []) ∷ []) ([] ∷ (foot 2 1 ∷ []) ∷ (foot 0 1 ∷ []) ∷ []) []

-- a footpath from where a journey would begin
unfoldable pub X22 : Net
unfolding with_feet
X22 = with_feet 2 (one (1 ∷ 0 ∷ []) ((1, 2) ∷ (7, 10) ∷ []) ∷ []) ((foot 1 0 ∷ []) ∷ []) []

-- two children of a station that are reached at one moment
unfoldable pub X23 : Net
unfolding with_places
X23 = with_places 2 (one (0 ∷ 1 ∷ []) ((1, 1) ∷ (1, 1) ∷ []) ∷ one (0 ∷ 0 ∷ []) ((1, 1) ∷ (1, 1) ∷ []) ∷ []) (Some 1 ∷ Some 1 ∷ []) []

-- stops 1, 2 and 3 are station 4's, 5 is station 6's, 7 is station 8's; 0 and 9 have none. No trip passes 3, whose route has none, nor 5, nor 9.
-- The areas name station 4, station 6, stations 8 and 4, stations 4 and 8
unfoldable pub P : Net
unfolding with_places
P =
    with_places 10
    (one (1 ∷ 0 ∷ []) ((10, 10) ∷ (30, 30) ∷ [])
    ∷ one (2 ∷ 0 ∷ []) ((10, 10) ∷ (20, 20) ∷ [])
    ∷ one (0 ∷ 7 ∷ []) ((40, 40) ∷ (50, 50) ∷ [])
    ∷ one (0 ∷ 1 ∷ []) ((40, 40) ∷ (50, 50) ∷ [])
    ∷ route (3 ∷ 0 ∷ []) [] ∷ [])
    (None ∷ Some 4 ∷ Some 4 ∷ Some 4 ∷ None ∷ Some 6 ∷ None ∷ Some 8 ∷ [])
    ((4 ∷ []) ∷ (6 ∷ []) ∷ (8 ∷ 4 ∷ []) ∷ (4 ∷ 8 ∷ []) ∷ [])

-- both stops of a station on one route, the higher number first
unfoldable pub C : Net
unfolding with_places
C = with_places 3 (one (1 ∷ 0 ∷ []) ((10, 10) ∷ (20, 20) ∷ []) ∷ []) (Some 2 ∷ Some 2 ∷ []) []

-- both stops of a station on one route, behind another stop, the lower number first
unfoldable pub D : Net
unfolding with_places
D = with_places 4 (one (2 ∷ 0 ∷ 1 ∷ []) ((10, 10) ∷ (20, 20) ∷ (30, 30) ∷ []) ∷ []) (Some 3 ∷ Some 3 ∷ []) []

-- a transfer and a walk between the same stops, the walk shorter
unfoldable pub W : Net
unfolding with_feet
W = with_feet 3 (one (0 ∷ 1 ∷ []) ((10, 10) ∷ (20, 20) ∷ []) ∷ []) ([] ∷ (foot 2 9 ∷ []) ∷ []) ([] ∷ (foot 2 5 ∷ []) ∷ [])

-- two trips that come at one moment; the second leaves later and comes in later
unfoldable pub T : Net
unfolding of_routes
T = of_routes 2 (route (0 ∷ 1 ∷ []) (((10, 10) ∷ (20, 20) ∷ []) ∷ ((10, 12) ∷ (25, 25) ∷ []) ∷ []) ∷ [])

-- two trips of one route, and both its last stops in one station
unfoldable pub U : Net
unfolding with_places
U =
    with_places 4
    (route (0 ∷ 1 ∷ 2 ∷ []) (((10, 10) ∷ (20, 20) ∷ (30, 30) ∷ []) ∷ ((12, 12) ∷ (25, 25) ∷ (40, 40) ∷ []) ∷ []) ∷ [])
    (None ∷ Some 3 ∷ Some 3 ∷ None ∷ []) []

-- two trips of one route, and a ride on from each of its last stops
unfoldable pub Y : Net
unfolding of_routes
Y =
    of_routes 4
    (route (0 ∷ 1 ∷ 2 ∷ []) (((10, 10) ∷ (14, 14) ∷ (30, 30) ∷ []) ∷ ((12, 12) ∷ (25, 25) ∷ (40, 40) ∷ []) ∷ [])
    ∷ one (1 ∷ 3 ∷ []) ((15, 15) ∷ (50, 50) ∷ [])
    ∷ one (2 ∷ 3 ∷ []) ((45, 45) ∷ (60, 60) ∷ []) ∷ [])

-- Y the other way round: two trips of one route, and a ride to each of its first stops
unfoldable pub Z : Net
unfolding of_routes
Z =
    of_routes 4
    (route (0 ∷ 1 ∷ 2 ∷ []) (((10, 10) ∷ (20, 20) ∷ (30, 30) ∷ []) ∷ ((12, 12) ∷ (25, 25) ∷ (40, 40) ∷ []) ∷ [])
    ∷ one (3 ∷ 0 ∷ []) ((2, 2) ∷ (5, 5) ∷ [])
    ∷ one (3 ∷ 1 ∷ []) ((2, 2) ∷ (22, 22) ∷ []) ∷ [])

-- a trip that waits at its second stop, and a ride to that stop which comes while it waits
unfoldable pub K : Net
unfolding of_routes
K =
    of_routes 4
    (one (0 ∷ 1 ∷ 2 ∷ []) ((10, 10) ∷ (15, 20) ∷ (30, 30) ∷ [])
    ∷ one (3 ∷ 0 ∷ []) ((2, 2) ∷ (5, 5) ∷ [])
    ∷ one (3 ∷ 1 ∷ []) ((2, 2) ∷ (18, 18) ∷ []) ∷ [])

-- a trip from the first moment to the last
unfoldable pub L : Net
unfolding of_routes
L = of_routes 2 (one (0 ∷ 1 ∷ []) ((1, 1) ∷ (1_000_000, 1_000_000) ∷ []) ∷ [])

-- a route that passes stop 0 twice
unfoldable pub F : Net
unfolding of_routes
F = of_routes 3 (one (0 ∷ 1 ∷ 0 ∷ 2 ∷ []) ((10, 10) ∷ (20, 20) ∷ (30, 30) ∷ (40, 40) ∷ []) ∷ [])

-- footpaths from stops 1 and 2 that come to stop 3 at one moment
unfoldable pub O : Net
unfolding with_feet
O =
    with_feet 4
    (one (0 ∷ 2 ∷ []) ((10, 10) ∷ (20, 20) ∷ [])
    ∷ one (0 ∷ 1 ∷ []) ((10, 10) ∷ (20, 20) ∷ []) ∷ [])
    ([] ∷ (foot 3 5 ∷ []) ∷ (foot 3 5 ∷ []) ∷ [])
    []
