-- The book in which names are looked up: with room for `cap` names it takes 4 * cap words. The first `cap` words are heads: of each slot one more
-- than the number of the last name that falls there, 0 for none. Then three words for each name: where its text begins and ends in its file, and
-- one more than the number of the last name before it that falls into the same slot. Names with numbers below `split` stand in the first file, the
-- others in the second.
use Rattle.std.specs.Prelude.{ℕ, zero, suc, ◌+◌, ◌*◌, ◌%◌, ◌≤◌, ◌<◌, ◌≡◌, cond, List, [], ◌∷◌, eqb, ltb, length, get_or, drop}
use Rattle.base.specs.Tab.{tab}
use Rattle.csv_text.specs.Part.{part}
use Rattle.names.specs.declared.Shelf.{Shelf}

-- any number that the text alone decides
unfoldable pub hash_from : ℕ → List ℕ → ℕ
hash_from h [] = h
hash_from h (x ∷ t) = hash_from ((h * 31 + x) % 4_294_967_296) t

unfoldable pub slot_of : ℕ → List ℕ → ℕ
slot_of cap t = hash_from 0 t % cap

-- one more than the number of the last of the first n names that falls into slot b
unfoldable pub last_in : ℕ → (ℕ → List ℕ) → ℕ → ℕ → ℕ
last_in cap name b zero = 0
last_in cap name b (suc i) = cond (eqb (slot_of cap (name i)) b) (suc i) (last_in cap name b i)

abbrev pub start_at : ℕ → List ℕ → ℕ → ℕ
start_at cap w i = get_or w (cap + 3 * i) 0

abbrev pub end_at : ℕ → List ℕ → ℕ → ℕ
end_at cap w i = get_or w (cap + 3 * i + 1) 0

abbrev pub next_at : ℕ → List ℕ → ℕ → ℕ
next_at cap w i = get_or w (cap + 3 * i + 2) 0

-- the file in which name i stands
unfoldable pub file_of : List ℕ → List ℕ → ℕ → ℕ → List ℕ
file_of first second split i = cond (ltb i split) first second

-- the text of name i
unfoldable pub name_at : List ℕ → List ℕ → Shelf → List ℕ → ℕ → List ℕ
name_at first second shelf w i = part (start_at shelf.cap w i) (end_at shelf.cap w i) (file_of first second shelf.split i)

-- the texts of all names, in the order of their numbers
unfoldable pub names_in : List ℕ → List ℕ → Shelf → List ℕ → List (List ℕ)
names_in first second shelf w = tab (name_at first second shelf w) shelf.count 0

-- a shelf with one name more
abbrev pub one_more : Shelf → Shelf
one_more shelf = record { cap = shelf.cap; split = shelf.split; count = shelf.count + 1 }

-- the words are a book of the shelf's names in the two files
pub record Book (first second : List ℕ) (shelf : Shelf) (w : List ℕ) : Type 0 where
  pub few : shelf.count ≤ shelf.cap
  pub room : 4 * shelf.cap ≤ length w
  pub ordered : (i : ℕ) → i < shelf.count → start_at shelf.cap w i ≤ end_at shelf.cap w i
  pub inside : (i : ℕ) → i < shelf.count → end_at shelf.cap w i ≤ length (file_of first second shelf.split i)
  pub heads : (b : ℕ) → b < shelf.cap → get_or w b 0 ≡ last_in shelf.cap (name_at first second shelf w) b shelf.count
  pub nexts : (i : ℕ) → i < shelf.count
      → next_at shelf.cap w i ≡ last_in shelf.cap (name_at first second shelf w) (slot_of shelf.cap (name_at first second shelf w i)) i

-- the next name is the text t; those before it, and what stands behind it, are what they were
pub record Added (first second : List ℕ) (shelf : Shelf) (w w' t : List ℕ) : Type 0 where
  pub new : name_at first second shelf w' shelf.count ≡ t
  pub old : (i : ℕ) → i < shelf.count → name_at first second shelf w' i ≡ name_at first second shelf w i
  pub long : length w' ≡ length w
  pub past : drop (shelf.cap + 3 * (shelf.count + 1)) w' ≡ drop (shelf.cap + 3 * (shelf.count + 1)) w

-- no slot has a name; what stands behind the heads is what it was
pub record Empty (cap : ℕ) (w w' : List ℕ) : Type 0 where
  pub room : 4 * cap ≤ length w'
  pub none : (b : ℕ) → b < cap → get_or w' b 0 ≡ 0
  pub long : length w' ≡ length w
  pub past : drop cap w' ≡ drop cap w
