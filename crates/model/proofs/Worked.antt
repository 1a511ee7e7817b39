-- The second list of worked answers, as one claim over the definitions, by computation: each rule of document 01 below has an answer that
-- another rule in its place would change. The first list, N1 to N10 and M1, M2, is `answers` of Examples.antt.
--
-- Numbers given back
--   the lowest that applies: the tables' own, then 6, 7, 8, 9          R1 to R9
--   7, a stop or an area past the last                                 R7
--   8, a moment outside 1 to 1,000,000                                 R8
--   9, an area without a served stop, at either end                    R9, X9
--   10, also for an unserved stop                                      R10
--   12, one byte too few; a journey that just fits is found            R12
--   13, and the offset of the bad leg                                  R13
--   every other field is 0                                             all of R
--   the workspace as the search ends                                   E1 to E5
--   the buffer past the journey, and on all but 0                      J1
-- Places: a stop is its parent's children, else its own, else itself   P1, X9, X10
--   an area is the served children of the stops that it names          P1, P3, R9, X9
--   the places of the workspace                                        P3, E5
-- Footpath seconds
--   the walking span                                                   S1
--   a stated span, also one of 0, before the distance                  S2
-- A round
--   start stops have no best moment                                    X6, X21
--   labels are swapped and the current ones cleared; marks are cleared E1, E3, E4, E5
--   15 rounds                                                          X4, E4
--   the first position of a stop                                       F1, X5
--   it replaces a route's mark if smaller, in arrivals if larger       C1, D1
--   marks filled once per query, in rescan before every round          X2, E1, E2
--   only the routes that this round chose are scanned                  E1, E5
--   position 0 activates no route in arrivals                          E3
--   the proposal at a position, then the boarding                      F1
--   the target test in departures                                      X3
--   no target test in arrivals                                         X3'
--   boarding by arrival, the first trip                                X2, X12, X19, T1
--   the last trip in arrivals                                          T1
--   who is aboard changes trip where the label allows it, else not     U1; Y1, Z1
--   if none, stay                                                      K1
--   no footpath before a ride                                          X22
--   footpaths from the labels that the rides left                      X1, X21, E4
--   transfers before walks                                             X7
--   stops ascending; routes ascending; the first applied wins          O1; X17
--   arrivals use the listing backwards; a span that reaches its label  X18; X8
--   goals in list order, strict improvements only                      P2, X23
--   legs in riding order, earlier moment first                         X1, X8, X18
-- Walking is allowed where a query does not say                        W1
use Prim.Native.Nat.{ℕ}
use mathlib.Core.Path.{◌≡◌, refl}
use mathlib.Core.Bool.{true, false}
use Rattle.std.specs.Prelude.{None, Some}
use mathlib.Core.List.{List, [], ◌∷◌, ◌++◌}
use lib.ListN.{replicate}
use lib.Ieee.{Float, of_bits, binary32}
use Rattle.std.specs.Prelude.{Err}
use Rattle.model.specs.declared.Error.TheVariants.{FailedToBuildRoute}
use Rattle.model.specs.declared.Leg.{Leg}
use Rattle.model.specs.declared.LegType.TheVariants.{Transit, Transfer, Walk}
use Rattle.model.specs.declared.Location.{Location}
use Rattle.model.specs.declared.Location.TheVariants.{Stop, Area}
use Rattle.model.specs.declared.Mode.TheVariants.{Source, Rescan}
use Rattle.model.specs.declared.Query.{Query}
use Rattle.model.specs.declared.TimeConstraint.TheVariants.{Departure, Arrival}
use Rattle.model.specs.declared.Walks.TheVariants.{Unsaid, Allowed, Barred}
use Rattle.model.specs.Moments.{MAX}
use Rattle.model.specs.Spans.{transfer_span, walk_span}
use Rattle.shared.specs.Walk.{walking_span}
use Rattle.model.specs.Bytes.{write, read, read_from, first_leg, uncut, leg_of_body, leg_at, u32_at, before}
use Rattle.model.specs.Answer.{Given, given, given_read, answer, searched, legs_of}
use Rattle.model.specs.Left.{placed, workspace_of, written, journey_left}
use Rattle.model.proofs.Examples.{N, M, ask, departing, arriving, says, found, refused}
use Rattle.model.proofs.Networks.{foot, line, X1, X2, X3, X3', X5, X6, X7, X8a, X8b, X9a, X9b, X10, X11, X12, X17, X18, X19, X21, X22, X23, P, C, D, W, T, U, Y, Z, K, L, F, O}

-- The form of the list

-- what is asked of the definitions, and what is told
infix 70 ◌is◌
abbrev pub ◌is◌ : {A : Type 0} → A → A → A × A
◌is◌ a b = (a, b)

abbrev pub asked : {A : Type 0} → List (A × A) → List A
asked [] = []
asked (p ∷ ps) = p.0 ∷ asked ps

abbrev pub told : {A : Type 0} → List (A × A) → List A
told [] = []
told (p ∷ ps) = p.1 ∷ told ps

-- all of them at once
abbrev pub Hold : {A : Type 0} → List (A × A) → Type 0
Hold ps = asked ps ≡ told ps

-- Legs, places and questions in short

unfoldable pub ride : ℕ → ℕ → ℕ → ℕ → ℕ → Leg
ride from to trip x y = record { from = from; to = to; departure = record { 0 = x }; arrival = record { 0 = y }; kind = Transit trip }

unfoldable pub transfer : ℕ → ℕ → ℕ → ℕ → Leg
transfer from to x y = record { from = from; to = to; departure = record { 0 = x }; arrival = record { 0 = y }; kind = Transfer }

unfoldable pub walk : ℕ → ℕ → ℕ → ℕ → Leg
walk from to x y = record { from = from; to = to; departure = record { 0 = x }; arrival = record { 0 = y }; kind = Walk }

-- between places, as the source has it
unfoldable pub leaving : Location → Location → ℕ → Query
unfolding ask
leaving from to m = ask Source Unsaid (Departure (record { 0 = m })) from to

unfoldable pub coming : Location → Location → ℕ → Query
unfolding ask
coming from to m = ask Source Unsaid (Arrival (record { 0 = m })) from to

-- 13 and the offset of the bad leg
unfoldable pub unread : ℕ → Given
unread at = record { number = 13; time = 0; stop = 0; round = 0; length = 0; offset = at }

-- metres, by their bit pattern as tables have them
unfoldable pub metres : ℕ → Float
unfolding of_bits
metres bits = of_bits binary32 bits

unfoldable pub walk_spans : List ℕ → List ℕ
unfolding walk_span walking_span metres
walk_spans [] = []
walk_spans (b ∷ bs) = walk_span (metres b) ∷ walk_spans bs

pub worked :
    Hold (
    -- X1: footpaths read the labels as the rides left them
    says X1 (departing Source 2 2 7) 100 is found 13 2 0 55
    -- X2: boarding by arrival may change to a later trip of the route; rescan finds another way
    ∷ says X2 (departing Source 2 3 1) 100 is found 22 3 1 42
    ∷ says X2 (departing Rescan 2 3 1) 100 is found 18 3 2 63
    -- X3: the target test shuts out a label, and the route's mark stays free for a better one; an arrival search has no such test
    ∷ says X3 (departing Source 0 5 1) 100 is found 60 5 3 84
    ∷ says X3' (arriving 5 0 199) 100 is found 100 5 0 21
    -- X4: 15 rides and no sixteenth
    ∷ says (line 15 []) (departing Source 0 15 1) 400 is found 10 15 14 315
    ∷ says (line 16 []) (departing Source 0 16 1) 400 is refused 10 0
    ∷ says (line 15 []) (arriving 0 15 10) 400 is found 10 0 14 315
    ∷ says (line 16 []) (arriving 0 16 10) 400 is refused 10 0
    -- X5: the first position of a stop in an arrival search is 0, which activates nothing; rescan too
    ∷ says X5 (arriving 1 0 1) 100 is refused 10 0
    ∷ says X5 (ask Rescan Unsaid (Arrival (record { 0 = 1 })) (Stop 1) (Stop 0)) 100 is refused 10 0
    -- X6: a ride back to the origin
    ∷ says X6 (departing Source 0 0 7) 100 is found 32 0 0 21
    -- X7: a transfer of no time
    ∷ says X7 (departing Source 1 1 1) 100 is found 4 1 0 38
    -- X8: a span that reaches its label proposes nothing; one second less does
    ∷ says X8a (arriving 0 2 9) 100 is refused 10 0
    ∷ says X8b (arriving 0 2 10) 100 is found 1 0 0 38
    -- X9: an area is the children of the stops that it names, and not these; a stop is its station's children
    ∷ says X9a (leaving (Area 0) (Stop 1) 1) 100 is refused 9 0
    ∷ says X9a (leaving (Area 1) (Stop 1) 1) 100 is refused 9 0
    ∷ says X9b (leaving (Area 0) (Stop 1) 1) 100 is found 2 1 0 21
    ∷ says X9b (leaving (Area 1) (Stop 1) 1) 100 is refused 9 0
    ∷ says X9b (departing Source 2 1 1) 100 is found 2 1 0 21
    ∷ says X9b (departing Source 0 1 1) 100 is found 2 1 0 21
    -- X10: a station that is served itself is not among its stops
    ∷ says X10 (departing Source 2 1 1) 100 is refused 10 0
    -- X11, X12: one footpath leads to where the other begins; a trip that is met again at the moment of boarding
    ∷ says X11 (departing Source 0 2 2) 100 is refused 10 0
    ∷ says X11 (departing Rescan 0 2 2) 100 is refused 10 0
    ∷ says X12 (departing Source 0 0 1) 100 is refused 10 0
    ∷ says X12 (departing Rescan 0 0 1) 100 is refused 10 0
    -- X17, X18: a tie; a one-way transfer used backwards
    ∷ says X17 (departing Source 0 3 1) 100 is found 30 3 1 42
    ∷ says X18 (arriving 0 4 450) 100 is found 100 0 1 59
    -- X19: boarding by arrival misses a trip that still stands there
    ∷ says X19 (departing Source 0 1 28) 100 is refused 10 0
    ∷ says X19 (departing Rescan 0 1 28) 100 is refused 10 0
    -- X21, X22, X23: as many legs as stops; no footpath before a ride; the target's best stands still within a round
    ∷ says X21 (departing Source 0 0 1) 100 is found 21 0 0 55
    ∷ says X22 (departing Source 0 0 1) 100 is refused 10 0
    ∷ says X23 (departing Source 0 0 1) 100 is found 1 0 0 21
    -- R1 to R5: the tables' own number before all else, R6: then the workspace's
    ∷ given (answer 1 false P (departing Source 10 0 0) 0) is refused 1 0
    ∷ given (answer 2 true P (departing Source 1 0 5) 100) is refused 2 0
    ∷ given (answer 3 false P (departing Source 10 0 0) 0) is refused 3 0
    ∷ given (answer 4 true P (departing Source 1 0 5) 100) is refused 4 0
    ∷ given (answer 5 false P (departing Source 10 0 0) 0) is refused 5 0
    ∷ given (answer 0 false P (departing Source 10 0 0) 0) is refused 6 0
    -- R7: a stop or an area past the last, as either place; before 8
    ∷ says P (departing Source 10 0 5) 100 is refused 7 0
    ∷ says P (departing Source 0 10 5) 100 is refused 7 0
    ∷ says P (leaving (Area 4) (Stop 0) 5) 100 is refused 7 0
    ∷ says P (coming (Stop 0) (Area 4) 5) 100 is refused 7 0
    ∷ says P (departing Source 10 0 0) 100 is refused 7 0
    ∷ says P (leaving (Area 1) (Stop 10) 0) 100 is refused 7 0
    -- R8: moments 0 and 1,000,001, in both directions; before 9. Moments 1 and 1,000,000 are accepted
    ∷ says L (departing Source 0 1 0) 100 is refused 8 0
    ∷ says L (departing Source 0 1 1) 100 is found 1_000_000 1 0 21
    ∷ says L (departing Source 0 1 1_000_000) 100 is refused 10 0
    ∷ says L (departing Source 0 1 1_000_001) 100 is refused 8 0
    ∷ says L (arriving 0 1 0) 100 is refused 8 0
    ∷ says L (arriving 0 1 1) 100 is refused 10 0
    ∷ says L (arriving 0 1 1_000_000) 100 is found 1 0 0 21
    ∷ says L (arriving 0 1 1_000_001) 100 is refused 8 0
    ∷ says P (leaving (Area 1) (Stop 0) 0) 100 is refused 8 0
    -- R9: an area without a served stop, as either place, in both directions
    ∷ says P (leaving (Area 1) (Stop 0) 5) 100 is refused 9 0
    ∷ says P (leaving (Stop 0) (Area 1) 5) 100 is refused 9 0
    ∷ says P (coming (Area 1) (Stop 0) 50) 100 is refused 9 0
    ∷ says P (coming (Stop 0) (Area 1) 50) 100 is refused 9 0
    -- R10: an unserved stop is 10 and never 9, as either place
    ∷ says P (departing Source 9 0 5) 100 is refused 10 0
    ∷ says P (departing Source 5 0 5) 100 is refused 10 0
    ∷ says P (departing Source 0 9 5) 100 is refused 10 0
    -- R11: 11, which no accepted tables lead to, gives nothing else
    ∷ given (Err FailedToBuildRoute) is refused 11 0
    -- R12: a journey that just fits, and a byte less
    ∷ says X6 (departing Source 0 0 7) 21 is found 32 0 0 21
    ∷ says X6 (departing Source 0 0 7) 20 is refused 12 21
    ∷ says N (departing Source 0 4 50) 59 is found 450 4 1 59
    -- R13: journey bytes that are legs; an unknown kind, at the start and behind two legs; a cut body
    ∷ given_read (read []) is refused 0 0
    ∷ given_read (read (write (ride 0 2 0 100 300 ∷ transfer 2 3 300 330 ∷ []))) is refused 0 0
    ∷ given_read (read (0 ∷ replicate 20 0)) is unread 0
    ∷ given_read (read (write (ride 0 2 0 100 300 ∷ transfer 2 3 300 330 ∷ []) ++ 4 ∷ replicate 20 0)) is unread 38
    ∷ given_read (read (write (walk 0 2 100 300 ∷ []) ++ 3 ∷ replicate 15 0)) is unread 17
    -- P1: a stop is its station's children, and so is the station, and the area that names it; one of the children need not be served
    ∷ says P (departing Source 1 0 5) 100 is found 20 0 0 21
    ∷ says P (departing Source 3 0 5) 100 is found 20 0 0 21
    ∷ says P (departing Source 4 0 5) 100 is found 20 0 0 21
    ∷ says P (leaving (Area 0) (Stop 0) 5) 100 is found 20 0 0 21
    -- P2: of goals reached at one moment the first in the list is chosen
    ∷ says P (leaving (Stop 0) (Area 2) 35) 100 is found 50 7 0 21
    ∷ says P (leaving (Stop 0) (Area 3) 35) 100 is found 50 1 0 21
    -- C1: of two positions in a route a departure search takes the smaller, though it comes second; an arrival search the larger, which comes first
    ∷ says C (departing Source 0 0 5) 100 is found 20 0 0 21
    ∷ says C (arriving 0 0 30) 100 is found 10 1 0 21
    -- D1: the smaller, which comes first; the larger, though it comes second
    ∷ says D (departing Source 0 0 5) 100 is found 30 1 0 21
    ∷ says D (arriving 0 0 30) 100 is found 20 0 0 21
    -- W1: walks unsaid, allowed and barred
    ∷ says W (departing Source 0 2 5) 100 is found 25 2 0 38
    ∷ says W (ask Source Allowed (Departure (record { 0 = 5 })) (Stop 0) (Stop 2)) 100 is found 25 2 0 38
    ∷ says W (ask Source Barred (Departure (record { 0 = 5 })) (Stop 0) (Stop 2)) 100 is found 29 2 0 38
    -- T1: the first trip in departures, the last in arrivals
    ∷ says T (departing Source 0 1 10) 100 is found 20 1 0 21
    ∷ says T (arriving 0 1 30) 100 is found 12 0 0 21
    ∷ says T (arriving 0 1 24) 100 is found 10 0 0 21
    ∷ says T (arriving 0 1 19) 100 is refused 10 0
    -- U1: who is aboard in an arrival search changes to a later trip; Y1: not where the label is before the trip's arrival; Z1: nor in a
    -- departure search where it is after the trip's departure
    ∷ says U (arriving 0 1 30) 100 is found 12 0 0 21
    ∷ says Y (arriving 0 3 60) 100 is found 12 0 1 42
    ∷ says Z (departing Source 3 2 1) 100 is found 30 2 1 42
    -- K1: who is aboard and finds no trip stays
    ∷ says K (departing Source 3 2 1) 100 is found 30 2 1 42
    -- F1: the first position of a stop in departures; the proposal at a position comes before the boarding there
    ∷ says F (departing Source 0 1 5) 100 is found 20 1 0 21
    ∷ says F (departing Source 0 0 5) 100 is found 30 0 0 21
    ∷ [])
    × Hold (
    -- X1 and X2: two footpaths in a row, with a wait between them; the later trip
    legs_of X1 (departing Source 2 2 7) is (ride 2 0 0 8 10 ∷ transfer 0 1 10 10 ∷ transfer 1 2 12 13 ∷ [])
    ∷ legs_of X2 (departing Source 2 3 1) is (ride 2 0 2 4 14 ∷ ride 0 3 1 21 22 ∷ [])
    ∷ legs_of X2 (departing Rescan 2 3 1) is (ride 2 1 2 4 9 ∷ ride 1 0 0 10 11 ∷ ride 0 3 0 17 18 ∷ [])
    -- X7: of a transfer and a walk that tie, the transfer
    ∷ legs_of X7 (departing Source 1 1 1) is (ride 1 0 0 3 4 ∷ transfer 0 1 4 4 ∷ [])
    -- X8: a footpath of an arrival search, earlier first
    ∷ legs_of X8b (arriving 0 2 10) is (transfer 0 1 1 6 ∷ ride 1 2 0 6 10 ∷ [])
    -- X17: of two rides that tie, the one on the lower route
    ∷ legs_of X17 (departing Source 0 3 1) is (ride 0 1 0 5 10 ∷ ride 1 3 2 20 30 ∷ [])
    -- X18: the transfer from 3 to 2, used from 2 to 3
    ∷ legs_of X18 (arriving 0 4 450) is (ride 0 2 0 100 300 ∷ transfer 2 3 320 350 ∷ ride 3 4 1 350 450 ∷ [])
    -- X21 and X23
    ∷ legs_of X21 (departing Source 0 0 1) is (ride 0 1 0 1 10 ∷ transfer 1 2 10 11 ∷ transfer 2 0 20 21 ∷ [])
    ∷ legs_of X23 (departing Source 0 0 1) is (ride 0 0 1 1 1 ∷ [])
    -- O1: of two footpaths that tie, the one from the lower stop
    ∷ legs_of O (departing Source 0 3 5) is (ride 0 1 1 10 20 ∷ transfer 1 3 20 25 ∷ [])
    -- W1: the walk, and where it is barred the transfer
    ∷ legs_of W (departing Source 0 2 5) is (ride 0 1 0 10 20 ∷ walk 1 2 20 25 ∷ [])
    ∷ legs_of W (ask Source Barred (Departure (record { 0 = 5 })) (Stop 0) (Stop 2)) is (ride 0 1 0 10 20 ∷ transfer 1 2 20 29 ∷ [])
    -- T1: which trip
    ∷ legs_of T (departing Source 0 1 10) is (ride 0 1 0 10 20 ∷ [])
    ∷ legs_of T (arriving 0 1 30) is (ride 0 1 1 12 25 ∷ [])
    -- U1, Y1 and Z1: which trip
    ∷ legs_of U (arriving 0 1 30) is (ride 0 1 1 12 25 ∷ [])
    ∷ legs_of Y (arriving 0 3 60) is (ride 0 2 1 12 40 ∷ ride 2 3 3 45 60 ∷ [])
    ∷ legs_of Z (departing Source 3 2 1) is (ride 3 0 2 2 5 ∷ ride 0 2 0 10 30 ∷ [])
    -- F1: where the same trip is met again it is boarded there
    ∷ legs_of F (departing Source 0 2 5) is (ride 0 2 0 30 40 ∷ [])
    ∷ legs_of F (departing Source 0 0 5) is (ride 0 0 0 10 30 ∷ [])
    ∷ [])
    × Hold (
    -- S1: "Metres to seconds: 0 to 0, 1.5 to 1, 1.6 to 2, 3 to 2, 100 to 67, 150 to 100."
    walk_spans (0 ∷ 0x3FC0_0000 ∷ 0x3FCC_CCCD ∷ 0x4040_0000 ∷ 0x42C8_0000 ∷ 0x4316_0000 ∷ []) is (0 ∷ 1 ∷ 2 ∷ 2 ∷ 67 ∷ 100 ∷ [])
    -- S2: 100 metres with a span of 30 stated, of 0, and with none
    ∷ (transfer_span 30 (metres 0x42C8_0000) ∷ transfer_span 0 (metres 0x42C8_0000) ∷ transfer_span MAX (metres 0x42C8_0000) ∷ []) is (30 ∷ 0 ∷ 67 ∷ [])
    -- P3: what is left in the places of the workspace: nothing of a stop, the served children of an area in the order of its stops
    ∷ placed P (Stop 1) is replicate 10 0
    ∷ placed P (Area 0) is (1 ∷ 2 ∷ replicate 8 0)
    ∷ placed P (Area 1) is replicate 10 0
    ∷ placed P (Area 2) is (7 ∷ 1 ∷ 2 ∷ replicate 7 0)
    -- J1: what is left in the buffer: on 0 the bytes past the journey; on 12, on 10 and on a refusal all of it
    ∷ journey_left 0 true X6 (departing Source 0 0 7) (replicate 23 9) is (write (ride 0 0 0 32 32 ∷ []) ++ 9 ∷ 9 ∷ [])
    ∷ journey_left 0 true X6 (departing Source 0 0 7) (replicate 20 9) is replicate 20 9
    ∷ journey_left 0 true X6 (departing Source 0 0 33) (replicate 23 9) is replicate 23 9
    ∷ journey_left 0 true X6 (departing Source 0 1 7) (replicate 23 9) is replicate 23 9
    ∷ journey_left 0 false X6 (departing Source 0 0 7) (replicate 23 9) is replicate 23 9
    ∷ [])
    × Hold (
    -- E1: the search ends early, in a round that finds no mark: it has swapped the labels and cleared the current ones
    (searched M (departing Source 0 2 120)).times is record {
      prev = replicate 3 0;
      labels = record { curr = replicate 3 0; best = 0 ∷ 200 ∷ 0 ∷ []; mark = replicate 3 false };
      held = replicate 3 0;
      held_mark = replicate 3 false;
      active = replicate 2 0;
      mask = replicate 2 false;
      target = record { stop = 0; round = 0; time = record { 0 = 0 } };
    }
    -- E2: in rescan the routes' marks are those of the last round
    ∷ (searched M (departing Rescan 0 2 120)).times is record {
      prev = replicate 3 0;
      labels = record { curr = replicate 3 0; best = 0 ∷ 200 ∷ 400 ∷ []; mark = replicate 3 false };
      held = replicate 3 0;
      held_mark = replicate 3 false;
      active = 2 ∷ MAX ∷ [];
      mask = true ∷ false ∷ [];
      target = record { stop = 2; round = 1; time = record { 0 = 400 } };
    }
    -- E3: in an arrival search position 0 activates no route
    ∷ (searched T (arriving 1 0 20)).times is record {
      prev = replicate 2 0;
      labels = record { curr = replicate 2 0; best = replicate 2 0; mark = replicate 2 false };
      held = replicate 2 0;
      held_mark = replicate 2 false;
      active = 0 ∷ [];
      mask = false ∷ [];
      target = record { stop = 0; round = 0; time = record { 0 = 0 } };
    }
    -- E4: the search goes through 15 rounds and swaps no more. The last round's ride came to stop 15, and then a footpath to stop 0
    ∷ (searched (line 15 (replicate 15 [] ++ (foot 0 1 ∷ []) ∷ [])) (departing Source 0 15 1)).times is record {
      prev = replicate 14 0 ++ 10 ∷ 0 ∷ [];
      labels = record { curr = 11 ∷ replicate 14 0 ++ 10 ∷ []; best = 11 ∷ replicate 15 10; mark = true ∷ replicate 14 false ++ true ∷ [] };
      held = replicate 15 0 ++ 10 ∷ [];
      held_mark = replicate 15 false ++ true ∷ [];
      active = replicate 15 0;
      mask = replicate 14 false ++ true ∷ [];
      target = record { stop = 15; round = 14; time = record { 0 = 10 } };
    }
    ∷ [])
    × Hold (
    -- E5: the whole workspace, the parents and the places among it
    workspace_of X6 (departing Source 0 0 7) (searched X6 (departing Source 0 0 7)) is record {
      work = record {
        prev = 0 ∷ [];
        labels = record { curr = 0 ∷ []; best = 32 ∷ []; mark = false ∷ [] };
        held = 0 ∷ [];
        held_mark = false ∷ [];
        active = 0 ∷ [];
        mask = false ∷ [];
        parents = Some (ride 0 0 0 32 32) ∷ replicate 14 None;
      };
      origins = 0 ∷ [];
      goals = 0 ∷ [];
    }
    ∷ [])
unfolding says departing arriving leaving coming found refused unread N M X1 X2 X3 X3' line X5 X6 X7 X8a X8b X9a X9b X10 X11 X12 X17 X18 X19 X21 X22 X23 P C D W T U Y Z K L F O ride transfer walk walk_spans transfer_span placed workspace_of written journey_left given_read read read_from first_leg uncut leg_of_body leg_at u32_at before
worked = (refl, refl, refl, refl, refl)
