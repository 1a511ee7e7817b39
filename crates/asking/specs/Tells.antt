-- What `ask` tells and leaves: what `solve` does in as much of each slice as the tables ask for. "Each public function states the complete
-- result and the final contents of everything lent, refusals included"; two results that meet `Tells` are equal (`asked_unique` of
-- proofs/Unique.antt).
use Rattle.std.specs.Prelude.{ℕ, ◌≡◌, Bool, true, false, ◌&&◌, List, leb, length, take, drop, Option, Some, None, Ok, Err}
use Rattle.model.specs.declared.Error.TheVariants.{Refused}
use Rattle.model.specs.declared.Query.{Query}
use Rattle.model.specs.declared.Refusal.{Refusal}
use Rattle.model.specs.Answer.{Answer}
use Rattle.raptor.specs.declared.Lengths.{Lengths}
use Rattle.raptor.specs.Rooms.{room_of}
use Rattle.raptor.specs.Lent.{Lent}
use Rattle.raptor.specs.Solved.{Solved}

-- the slices have the words, marks and places of n at least
unfoldable pub enough : Lengths → Lent → Bool
enough n l = leb n.words (length l.words) && leb n.marks (length l.marks) && leb n.places (length l.places)

-- the first words, marks and places, as many as n says, and the journey buffer whole
abbrev pub foremost : Lengths → Lent → Lent
foremost n l =
    record { words = take n.words l.words; marks = take n.marks l.marks; places = take n.places l.places; journey = l.journey }

-- solved in the first words, marks and places, and nothing changed behind them
pub record SolvedIn (n : Lengths) (t : List ℕ) (q : Query) (before : Lent) (x : Answer) (after : Lent) : Type 0 where
  pub solved : Solved t q (foremost n before) x (foremost n after)
  pub words : drop n.words after.words ≡ drop n.words before.words
  pub marks : drop n.marks after.marks ≡ drop n.marks before.marks
  pub places : drop n.places after.places ≡ drop n.places before.places

-- tables t, query q, and the slices as they are lent; what is told, r, and the slices as they are left
pub record Tells (t : List ℕ) (q : Query) (before : Lent) (r : Option Answer) (after : Lent) : Type 0 where
  pub refused : (k : Refusal) → room_of t ≡ Err k → (r ≡ Some (Err (Refused k))) × (after ≡ before)
  pub large : (n : Lengths) → room_of t ≡ Ok n → enough n before ≡ false → (r ≡ None) × (after ≡ before)
  pub solved : (n : Lengths) → room_of t ≡ Ok n → enough n before ≡ true
      → (x : Answer) × (r ≡ Some x) × SolvedIn n t q before x after
