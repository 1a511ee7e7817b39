-- Numbers 3, 4 and 5, and the check: "The lowest refusal that applies is given". Each number is tested on tables that have no lower one.
use Rattle.std.specs.Prelude.{ℕ, ◌+◌, ◌-◌, Bool, cond, ◌&&◌, ◌||◌, List, leb, eqb}
use Rattle.shared.specs.Walk.{stretch}
use Rattle.base.specs.All.{all}
use Rattle.model.specs.Moments.{MAX}
use Rattle.model.specs.Tables.{Net}
use Rattle.model.specs.Limits.{LAST_MOMENT, LONGEST_SPAN}
use Rattle.repository.specs.Sections.{rows, TRANSFERS, WALKS, TRANSFER_WORDS, WALK_WORDS, transfer_stated}
use Rattle.repository.specs.Sections.{transfer_metres, walk_metres}
use Rattle.repository.specs.NetOf.{net_of}
use Rattle.repository.specs.Laid.{laid}
use Rattle.repository.specs.Listed.{well_listed}

-- a test of every trip, by its place, at every position of every route: "walks routes, then positions, then trips"
unfoldable pub walk : Net → ℕ → (ℕ → ℕ → ℕ → Bool) → Bool
walk n from f = all (λ r. all (λ p. all (f r p) from (n.trips r)) 0 (n.positions r)) 0 n.routes

-- 3: "a timetable moment outside 1 to 1,000,000; arrival after departure at a position; departure after the next position's arrival"
unfoldable pub timely : Net → ℕ → ℕ → ℕ → Bool
timely n r p i =
    let v = n.trip_at r i in
    leb 1 (n.arrival v p) && leb (n.arrival v p) (n.departure v p) && leb (n.departure v p) LAST_MOMENT
    && (leb (n.positions r) (p + 1) || leb (n.departure v p) (n.arrival v (p + 1)))

unfoldable pub timed : Net → Bool
timed n = walk n 0 (timely n)

-- 4: "At each position of a route, arrivals never fall from one trip to the next, nor do departures; equality is allowed."
unfoldable pub behind : Net → ℕ → ℕ → ℕ → Bool
behind n r p i =
    let u = n.trip_at r (i - 1) in
    let v = n.trip_at r i in
    leb (n.arrival u p) (n.arrival v p) && leb (n.departure u p) (n.departure v p)

unfoldable pub ordered : Net → Bool
ordered n = walk n 1 (behind n)

-- 5: "a distance that is NaN, below 0 or above 100,000; a stated transfer span above 86,400"
unfoldable pub measured : List ℕ → Bool
measured w =
    all (λ j. (eqb (transfer_stated w j) MAX || leb (transfer_stated w j) LONGEST_SPAN) && stretch (transfer_metres w j)) 0
    (rows w TRANSFERS TRANSFER_WORDS)
    && all (λ j. stretch (walk_metres w j)) 0 (rows w WALKS WALK_WORDS)

unfoldable pub check_of : List ℕ → ℕ
check_of w = cond (laid w) (cond (well_listed w) (cond (timed (net_of w)) (cond (ordered (net_of w)) (cond (measured w) 0 5) 4) 3) 2) 1
