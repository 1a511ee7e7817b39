-- What `solve` answers and leaves, for every table, query, workspace and buffer. Two results that meet `Solved` are equal, in the answer
-- and in every word and byte of everything lent (`solved_unique` of proofs/Unique.antt).
use Rattle.std.specs.Prelude.{ℕ, ◌+◌, ◌<◌, ◌≡◌, Bool, ◌&&◌, List, eqb, length, take, drop}
use Rattle.model.specs.declared.Query.{Query}
use Rattle.model.specs.Tables.{Net}
use Rattle.model.specs.Answer.{Answer, lowest, searched, answer}
use Rattle.model.specs.Left.{Workspace, workspace_of, journey_left}
use Rattle.repository.specs.NetOf.{net_of}
use Rattle.repository.specs.Checked.{check_of}
use Rattle.allocator.specs.Layout.{words_room, marks_room, Sized, view}
use Rattle.allocator.specs.Tidy.{Tidy}
use Rattle.raptor.specs.Lent.{Lent}

-- origins and goals: as many places for each as there are stops
abbrev pub places_room : ℕ → ℕ
places_room stops = stops + stops

-- the workspace slices have exactly the lengths that so many stops and routes ask for; else "6 a workspace slice of wrong length"
unfoldable pub room_for : ℕ → ℕ → ℕ → ℕ → ℕ → Bool
room_for stops routes words marks places = eqb words (words_room stops routes) && eqb marks (marks_room stops routes) && eqb places (places_room stops)

unfoldable pub sized : Net → Lent → Bool
sized n l = room_for n.stops n.routes (length l.words) (length l.marks) (length l.places)

-- the workspace that the three slices hold
unfoldable pub holds : ℕ → ℕ → Lent → Workspace
holds stops routes l = record { work = view stops routes l.words l.marks; origins = take stops l.places; goals = drop stops l.places }

-- "as the search ends", and nothing beside it
pub record Ended (n : Net) (q : Query) (after : Lent) : Type 0 where
  pub ends : holds n.stops n.routes after ≡ workspace_of n q (searched n q)
  pub fits : Sized n.stops n.routes after.words after.marks
  pub tidy : Tidy n.stops n.routes after.words after.marks

-- "The workspace is untouched on 1 to 9, as the search ends on 0 and 10 to 12"
pub record WorkspaceLeft (n : Net) (q : Query) (number : ℕ) (before after : Lent) : Type 0 where
  pub untouched : 0 < number → (after.words ≡ before.words) × (after.marks ≡ before.marks) × (after.places ≡ before.places)
  pub ended : number ≡ 0 → Ended n q after

-- tables w, query q, and the four slices as they are lent; the answer r, and the four as they are left
pub record Solved (w : List ℕ) (q : Query) (before : Lent) (r : Answer) (after : Lent) : Type 0 where
  pub answers : r ≡ answer (check_of w) (sized (net_of w) before) (net_of w) q (length before.journey)
  pub journey : after.journey ≡ journey_left (check_of w) (sized (net_of w) before) (net_of w) q before.journey
  pub workspace : WorkspaceLeft (net_of w) q (lowest (check_of w) (sized (net_of w) before) (net_of w) q) before after
