-- The limits of document 01, each named once. "At the limit is accepted; one more is 1."
use Rattle.std.specs.Prelude.{ℕ}

-- "Most: 4,096 stops, 1,024 routes, 128 positions in a route, 16,384 trips, 262,144 stop times, 16,384 transfers, 32,768 walk entries,
-- 1,024 areas, 16,384 area entries, 15 rounds (0 to 14)."
abbrev pub MOST_STOPS : ℕ
MOST_STOPS = 4_096

abbrev pub MOST_ROUTES : ℕ
MOST_ROUTES = 1_024

abbrev pub MOST_POSITIONS : ℕ
MOST_POSITIONS = 128

abbrev pub MOST_TRIPS : ℕ
MOST_TRIPS = 16_384

abbrev pub MOST_STOP_TIMES : ℕ
MOST_STOP_TIMES = 262_144

abbrev pub MOST_TRANSFERS : ℕ
MOST_TRANSFERS = 16_384

abbrev pub MOST_WALKS : ℕ
MOST_WALKS = 32_768

abbrev pub MOST_AREAS : ℕ
MOST_AREAS = 1_024

abbrev pub MOST_AREA_ENTRIES : ℕ
MOST_AREA_ENTRIES = 16_384

abbrev pub MOST_ROUNDS : ℕ
MOST_ROUNDS = 15

-- "a timetable moment outside 1 to 1,000,000", "query moment outside 1 to 1,000,000"
abbrev pub LAST_MOMENT : ℕ
LAST_MOMENT = 1_000_000

-- "a stated transfer span above 86,400"
abbrev pub LONGEST_SPAN : ℕ
LONGEST_SPAN = 86_400
