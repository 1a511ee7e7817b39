-- The C face: what a call answers and leaves, in words and numbers.
use Rattle.std.specs.Prelude.{ℕ, ◌<◌, ◌≤◌, ◌≡◌, cond, List, ◌∷◌, leb, eqb, length, drop}
use Rattle.model.specs.declared.Query.{Query}
use Rattle.model.specs.Answer.{Answer, given}
use Rattle.repository.specs.Checked.{check_of}
use Rattle.allocator.specs.Layout.{words_room, marks_room}
use Rattle.repository.specs.NetOf.{net_of}
use Rattle.raptor.specs.Lent.{Lent}
use Rattle.raptor.specs.Solved.{places_room, Solved}
use Rattle.kiosk_words.specs.Words.{told_in}

-- "it must hold 5 words; else 6", after the tables' own number
unfoldable pub short_number : ℕ → ℕ
short_number fault = cond (eqb fault 0) 6 fault

-- what a call answers and leaves, a its answer's words: in an answer too short for it nothing is told, and nothing is touched
pub record Faced (w : List ℕ) (q : Query) (before : Lent) (a : List ℕ) (r : ℕ) (after : Lent) (a' : List ℕ) : Type 0 where
  pub short : length a < 5 → (r ≡ short_number (check_of w)) × (after ≡ before) × (a' ≡ a)
  pub solved : 5 ≤ length a → (x : Answer) × Solved w q before x after × (r ≡ (given x).number) × (a' ≡ told_in (given x) a)

-- the room: its three lengths where the tables are accepted and there are three words for them
unfoldable pub room_number : List ℕ → List ℕ → ℕ
room_number w room = cond (eqb (check_of w) 0) (cond (leb 3 (length room)) 0 6) (check_of w)

unfoldable pub room_left : List ℕ → List ℕ → List ℕ
room_left w room =
    cond (eqb (room_number w room) 0)
    (words_room (net_of w).stops (net_of w).routes ∷ marks_room (net_of w).stops (net_of w).routes ∷ places_room (net_of w).stops ∷ drop 3 room)
    room
