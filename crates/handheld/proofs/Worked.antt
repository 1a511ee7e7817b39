-- Worked verdicts, as one claim over the definitions, by computation: each rule of request 2 below has a verdict that another rule in its place
-- would change.
--
-- "legs form a journey", N1's and others that the search writes           J1, J2
-- "no sooner than asked"; for an arrival query "no later than asked"      J3; A1
-- any origin and destination of the query                                 O1 to O5
-- a departure journey begins with a ride, an arrival journey ends with one B1; A2
-- an arrival journey may begin at any moment                              A3
-- legs join; no stop is left before it is reached; one may wait           C1; C2; C3
-- a footpath is listed under its first stop, leads to its last, and lasts exactly its span; of its own kind; allowed
--                                                                         F1 to F6
-- no number wraps                                                         F7
-- a ride fits some earlier and later position of its trip                 R1 to R6
-- 1 to 15 rides                                                           M1
-- no legs is a no                                                         E1
-- 1 to 5, then 7, 8, 9, then 13, before yes and no                        D1 to D3
use Prim.Native.Nat.{ℕ, zero, suc}
use mathlib.Core.Path.{refl}
use mathlib.Core.Bool.{true, false}
use Rattle.std.specs.Prelude.{None, Some, Ok, Err}
use mathlib.Core.List.{List, [], ◌∷◌, ◌++◌}
use Rattle.model.specs.declared.Leg.{Leg}
use Rattle.model.specs.declared.Location.TheVariants.{Stop, Area}
use Rattle.model.specs.declared.Mode.TheVariants.{Source}
use Rattle.model.specs.declared.TimeConstraint.TheVariants.{Departure}
use Rattle.model.specs.declared.Walks.TheVariants.{Allowed, Barred}
use Rattle.model.specs.Tables.{Net}
use Rattle.model.specs.Lists.{upto, gather}
use Rattle.model.specs.Places.{exists, or_itself, stops_of_stop, served_of, stops_of_area, place_stops, unserved, barren}
use Rattle.model.specs.Bytes.{u32, kind_byte, trip_field, write_leg, write, read, read_from, first_leg, uncut, leg_of_body, leg_at, u32_at, before, leg_size}
use Rattle.model.specs.Answer.{may_walk, moment_of, refusal, lowest, unless}
use Rattle.model.proofs.Examples.{net, N, N⁺, ask, departing, arriving}
use Rattle.model.proofs.Networks.{one, foot, of_routes, X1, X5, X9b, X12, X18, W}
use Rattle.model.proofs.Worked.{◌is◌, Hold, ride, transfer, walk, leaving, coming}
use Rattle.model.specs.declared.Refusal.TheVariants.{Times, Place, Moment, Barren}
use Rattle.handheld.specs.declared.NoVerdict.TheVariants.{Bad, Refused}
use Rattle.handheld.specs.Any.{any}
use Rattle.handheld.specs.Right.{is_ride, soonest}
use Rattle.handheld.specs.Fitting.{leaves_at, comes_at, comes_from, fits_from, fits_trip, stands_at, fits_route, fits_ride, fits_foot, fits_path, fits_leg}
use Rattle.handheld.specs.Verdict.{is_listed, rides_with, follows, led, leg_on, follow, may_begin, may_end, at_start, comes_in, verdict}
use Rattle.handheld.specs.Judged.{judged_as, judged}

-- N1's three legs
unfoldable pub rides_to_2 : Leg
unfolding ride
rides_to_2 = ride 0 2 0 100 300

unfoldable pub N1 : List Leg
unfolding ride transfer rides_to_2
N1 = rides_to_2 ∷ transfer 2 3 300 330 ∷ ride 3 4 2 350 450 ∷ []

-- k rides from stop s of X5 to stop u and back and so on, each at its only moment
unfoldable pub shuttle : ℕ → ℕ → ℕ → List Leg
unfolding ride
shuttle zero s u = []
shuttle (suc k) s u = ride s u 0 1 1 ∷ shuttle k u s

-- a bus that stands at its first stop, which is also its next
unfoldable pub standstill : Net
unfolding of_routes
standstill = of_routes 1 (one (0 ∷ 0 ∷ []) ((3, 4) ∷ (4, 4) ∷ []) ∷ [])

-- a station, stop 3, of a served stop 1 and an unserved stop 2, with a transfer from 1 to 2; area 0 names the station
unfoldable pub station : Net
unfolding net
station = net (record {
  stops = 4;
  routes = one (0 ∷ 1 ∷ []) ((10, 10) ∷ (20, 20) ∷ []) ∷ [];
  transfers = [] ∷ (foot 2 5 ∷ []) ∷ [];
  walks = [];
  stations = None ∷ Some 3 ∷ Some 3 ∷ [];
  areas = (3 ∷ []) ∷ [];
})

pub verdicts :
    Hold (
    -- J1, J2: N1; two footpaths one behind the other; a loop
    verdict N (departing Source 0 4 50) N1 is true
    ∷ verdict X1 (departing Source 2 2 7) (ride 2 0 0 8 10 ∷ transfer 0 1 10 10 ∷ transfer 1 2 12 13 ∷ []) is true
    -- J3: no sooner than asked
    ∷ verdict N (departing Source 0 4 100) N1 is true
    ∷ verdict N (departing Source 0 4 101) N1 is false
    -- A1: no later than asked
    ∷ verdict N (arriving 0 4 450) N1 is true
    ∷ verdict N (arriving 0 4 449) N1 is false
    -- O1, O2: from no origin, to no destination
    ∷ verdict N (departing Source 0 4 50) (ride 3 4 2 350 450 ∷ []) is false
    ∷ verdict N (departing Source 0 4 50) (rides_to_2 ∷ transfer 2 3 300 330 ∷ []) is false
    -- O3 to O5: any platform of a station; of an area only the served ones
    ∷ verdict station (leaving (Stop 0) (Stop 2) 5) (ride 0 1 0 10 20 ∷ []) is true
    ∷ verdict station (leaving (Stop 0) (Area 0) 5) (ride 0 1 0 10 20 ∷ []) is true
    ∷ verdict station (leaving (Stop 0) (Stop 3) 5) (ride 0 1 0 10 20 ∷ transfer 1 2 20 25 ∷ []) is true
    ∷ verdict station (leaving (Stop 0) (Area 0) 5) (ride 0 1 0 10 20 ∷ transfer 1 2 20 25 ∷ []) is false
    -- B1: a departure journey begins with a ride, and may end with a footpath
    ∷ verdict N (departing Source 2 4 50) (transfer 2 3 300 330 ∷ ride 3 4 2 350 450 ∷ []) is false
    ∷ verdict N (departing Source 0 3 50) (rides_to_2 ∷ transfer 2 3 300 330 ∷ []) is true
    -- A2: an arrival journey ends with one, and may begin with a footpath
    ∷ verdict N (arriving 2 4 450) (transfer 2 3 300 330 ∷ ride 3 4 2 350 450 ∷ []) is true
    ∷ verdict N (arriving 0 3 400) (rides_to_2 ∷ transfer 2 3 300 330 ∷ []) is false
    -- A3: and may begin at any moment: nothing is asked of its first departure
    ∷ verdict N (arriving 2 4 450) (transfer 2 3 0 30 ∷ ride 3 4 2 350 450 ∷ []) is true
    -- C1: legs join
    ∷ verdict N (departing Source 0 4 50) (ride 0 1 0 100 200 ∷ transfer 2 3 300 330 ∷ ride 3 4 2 350 450 ∷ []) is false
    ∷ verdict N (departing Source 0 4 50) (rides_to_2 ∷ ride 3 4 2 350 450 ∷ []) is false
    -- C2: no stop is left before it is reached
    ∷ verdict N (departing Source 0 4 50) (rides_to_2 ∷ transfer 2 3 299 329 ∷ ride 3 4 2 350 450 ∷ []) is false
    ∷ verdict N (departing Source 0 4 50) (ride 0 2 1 400 600 ∷ transfer 2 3 600 630 ∷ ride 3 4 2 350 450 ∷ []) is false
    -- C3: one may wait, also before a footpath, and change on the trip that one is on
    ∷ verdict N (departing Source 0 4 50) (rides_to_2 ∷ transfer 2 3 310 340 ∷ ride 3 4 3 650 750 ∷ []) is true
    ∷ verdict N (departing Source 0 2 50) (ride 0 1 0 100 200 ∷ ride 1 2 0 210 300 ∷ []) is true
    -- F1, F2: exactly its span
    ∷ verdict N (departing Source 0 4 50) (rides_to_2 ∷ transfer 2 3 300 331 ∷ ride 3 4 2 350 450 ∷ []) is false
    ∷ verdict N (departing Source 0 4 50) (rides_to_2 ∷ transfer 2 3 300 329 ∷ ride 3 4 2 350 450 ∷ []) is false
    -- F3: listed under the stop that it leaves, one way only unless it is listed both ways
    ∷ verdict X18 (arriving 0 4 450) (rides_to_2 ∷ transfer 2 3 320 350 ∷ ride 3 4 1 350 450 ∷ []) is false
    ∷ verdict N⁺ (arriving 0 4 450) (rides_to_2 ∷ transfer 2 3 320 350 ∷ ride 3 4 2 350 450 ∷ []) is true
    -- F4: leads to its last stop
    ∷ verdict N (departing Source 0 4 50) (rides_to_2 ∷ transfer 2 4 300 330 ∷ []) is false
    -- F5: of its own kind
    ∷ verdict N (departing Source 0 3 50) (rides_to_2 ∷ walk 2 3 300 330 ∷ []) is false
    ∷ verdict W (departing Source 0 2 5) (ride 0 1 0 10 20 ∷ transfer 1 2 20 25 ∷ []) is false
    -- F6: walks, where they are allowed
    ∷ verdict W (departing Source 0 2 5) (ride 0 1 0 10 20 ∷ walk 1 2 20 25 ∷ []) is true
    ∷ verdict W (ask Source Allowed (Departure (record { 0 = 5 })) (Stop 0) (Stop 2)) (ride 0 1 0 10 20 ∷ walk 1 2 20 25 ∷ []) is true
    ∷ verdict W (ask Source Barred (Departure (record { 0 = 5 })) (Stop 0) (Stop 2)) (ride 0 1 0 10 20 ∷ walk 1 2 20 25 ∷ []) is false
    ∷ verdict W (ask Source Barred (Departure (record { 0 = 5 })) (Stop 0) (Stop 2)) (ride 0 1 0 10 20 ∷ transfer 1 2 20 29 ∷ []) is true
    -- F7: a moment past the last u32 is not one at its beginning
    ∷ verdict N (departing Source 0 3 50) (rides_to_2 ∷ transfer 2 3 4_294_967_290 24 ∷ []) is false
    -- R1, R2: another trip's moments; a trip that is not there
    ∷ verdict N (departing Source 0 4 50) (rides_to_2 ∷ transfer 2 3 300 330 ∷ ride 3 4 2 650 750 ∷ []) is false
    ∷ verdict N (departing Source 0 4 50) (rides_to_2 ∷ transfer 2 3 300 330 ∷ ride 3 4 9 350 450 ∷ []) is false
    -- R3: another stop than the one at that moment
    ∷ verdict N (departing Source 0 1 50) (ride 0 1 0 100 300 ∷ []) is false
    -- R4, R5: the same position twice; a later and an earlier one
    ∷ verdict N (departing Source 0 0 50) (ride 0 0 0 100 100 ∷ []) is false
    ∷ verdict N (departing Source 2 0 50) (ride 2 0 0 300 100 ∷ []) is false
    -- R6: a stop that is called at twice: some two of its positions
    ∷ verdict standstill (departing Source 0 0 1) (ride 0 0 0 4 4 ∷ []) is true
    ∷ verdict standstill (departing Source 0 0 1) (ride 0 0 0 3 4 ∷ []) is false
    ∷ verdict X12 (departing Source 1 1 1) (ride 1 1 0 2 2 ∷ []) is true
    -- M1: 15 rides and no sixteenth
    ∷ verdict X5 (departing Source 0 1 1) (shuttle 15 0 1) is true
    ∷ verdict X5 (departing Source 0 0 1) (shuttle 14 0 1) is true
    ∷ verdict X5 (departing Source 0 0 1) (shuttle 16 0 1) is false
    -- E1: no legs
    ∷ verdict N (departing Source 0 0 50) [] is false
    ∷ verdict N (arriving 0 0 50) [] is false
    ∷ [])
    × Hold (
    -- D1: yes, no, and the offset of the bad leg, also behind a leg that is wrong
    judged 0 N (departing Source 0 4 50) (write N1) is Ok true
    ∷ judged 0 N (departing Source 0 4 101) (write N1) is Ok false
    ∷ judged 0 N (departing Source 0 4 50) [] is Ok false
    ∷ judged 0 N (departing Source 0 4 50) (write N1 ++ (9 ∷ [])) is Err (Bad (record { at = 59 }))
    ∷ judged 0 N (departing Source 0 4 101) (write N1 ++ (1 ∷ 0 ∷ [])) is Err (Bad (record { at = 59 }))
    -- D2: 7, 8 and 9 before 13, in their order
    ∷ judged 0 N (departing Source 0 5 50) (9 ∷ []) is Err (Refused Place)
    ∷ judged 0 N (departing Source 5 4 0) (write N1) is Err (Refused Place)
    ∷ judged 0 N (departing Source 0 4 0) (9 ∷ []) is Err (Refused Moment)
    ∷ judged 0 N (departing Source 0 4 1_000_001) (write N1) is Err (Refused Moment)
    ∷ judged 0 X9b (leaving (Area 1) (Stop 1) 1) (9 ∷ []) is Err (Refused Barren)
    -- D3: the tables' own number before all of them
    ∷ judged 3 N (departing Source 0 5 0) (9 ∷ []) is Err (Refused Times)
    ∷ [])
unfolding departing arriving leaving coming ask N N⁺ X1 X5 X9b X12 X18 W standstill station N1 rides_to_2 ride transfer walk shuttle any is_ride soonest leaves_at comes_at comes_from fits_from fits_trip stands_at fits_route fits_ride fits_foot fits_path fits_leg is_listed rides_with follows led leg_on follow may_begin may_end at_start comes_in verdict judged_as judged upto gather exists or_itself stops_of_stop served_of stops_of_area place_stops unserved barren u32 kind_byte trip_field write_leg write read read_from first_leg uncut leg_of_body leg_at u32_at before leg_size may_walk moment_of refusal lowest unless
verdicts = (refl, refl)
