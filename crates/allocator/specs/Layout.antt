-- Where each part of the state stands, by how many stops and routes there are. Words: previous labels, current labels, best
-- moments, held labels, the routes' marks, and the parents of 15 rounds. Marks: of the stops, of the stops as held,
-- of the routes that the round scans.
use Rattle.std.specs.Prelude.{Bool, List, ◌≡◌, ℕ, ◌+◌, ◌*◌, ◌/◌, ◌≤◌, length}
use Rattle.std.specs.Prelude.{Option}
use Rattle.base.specs.Tab.{tab}
use Rattle.marks.specs.Marks.{marked}
use Rattle.model.specs.declared.Leg.{Leg}
use Rattle.model.specs.Limits.{MOST_STOPS, MOST_ROUTES, MOST_ROUNDS}
use Rattle.model.specs.Work.{Work}
use Rattle.allocator.specs.Sections.{sect}
use Rattle.allocator.specs.Rows.{parents}

-- how many words hold `count` marks, 64 to a word
abbrev pub pages : ℕ → ℕ
pages count = (count + 63) / 64

-- how many words, and how many words of marks, the state takes
abbrev pub words_room : ℕ → ℕ → ℕ
words_room stops routes = 94 * stops + routes

abbrev pub marks_room : ℕ → ℕ → ℕ
marks_room stops routes = 2 * pages stops + pages routes

-- "Most: 4,096 stops, 1,024 routes": no place below overflows
pub record Words (stops routes : ℕ) (ws : List ℕ) : Type 0 where
  pub most_stops : stops ≤ MOST_STOPS
  pub most_routes : routes ≤ MOST_ROUTES
  pub words_length : length ws ≡ 94 * stops + routes

pub record Marks (stops routes : ℕ) (ms : List ℕ) : Type 0 where
  pub most_stops : stops ≤ MOST_STOPS
  pub most_routes : routes ≤ MOST_ROUTES
  pub marks_length : length ms ≡ 2 * pages stops + pages routes

-- both slices have the length that the tables ask for
pub record Sized (stops routes : ℕ) (ws ms : List ℕ) : Type 0 where
  pub words : Words stops routes ws
  pub marks : Marks stops routes ms

-- the first `count` marks of the words x
unfoldable pub flags : ℕ → List ℕ → List Bool
flags count x = tab (marked x) count 0

module _ (stops routes : ℕ) where
  -- ---- in the words
  unfoldable pub prev_of : List ℕ → List ℕ
  prev_of ws = sect 0 stops ws

  unfoldable pub curr_of : List ℕ → List ℕ
  curr_of ws = sect stops stops ws

  unfoldable pub best_of : List ℕ → List ℕ
  best_of ws = sect (2 * stops) stops ws

  unfoldable pub held_of : List ℕ → List ℕ
  held_of ws = sect (3 * stops) stops ws

  unfoldable pub active_of : List ℕ → List ℕ
  active_of ws = sect (4 * stops) routes ws

  -- the parent of stop i in round k is row k * stops + i
  unfoldable pub parents_of : List ℕ → List (Option Leg)
  parents_of ws = parents (MOST_ROUNDS * stops) (sect (4 * stops + routes) (90 * stops) ws)

  -- ---- in the marks
  unfoldable pub mark_of : List ℕ → List Bool
  mark_of ms = flags stops (sect 0 (pages stops) ms)

  unfoldable pub held_mark_of : List ℕ → List Bool
  held_mark_of ms = flags stops (sect (pages stops) (pages stops) ms)

  unfoldable pub mask_of : List ℕ → List Bool
  mask_of ms = flags routes (sect (2 * pages stops) (pages routes) ms)

  -- the state that the words and the marks hold
  unfoldable pub view : List ℕ → List ℕ → Work
  view ws ms = record {
    prev = prev_of ws;
    labels = record { curr = curr_of ws; best = best_of ws; mark = mark_of ms };
    held = held_of ws;
    held_mark = held_mark_of ms;
    active = active_of ws;
    mask = mask_of ms;
    parents = parents_of ws;
  }
