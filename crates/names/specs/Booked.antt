-- What a reader says of a book that was lent to it: the names that it left there, each at its number, and that nothing behind them was touched.
use Rattle.std.specs.Prelude.{ℕ, ◌+◌, ◌*◌, ◌<◌, ◌≡◌, List, length, get_or, drop}
use Rattle.names.specs.declared.Shelf.{Shelf}
use Rattle.names.specs.Book.{next_at, names_in, Book}

-- the words w became w'
pub record Booked (first second : List ℕ) (shelf : Shelf) (w w' : List ℕ) (names : List (List ℕ)) : Type 0 where
  pub book : Book first second shelf w'
  pub texts : names_in first second shelf w' ≡ names
  pub long : length w' ≡ length w
  pub past : drop (shelf.cap + 3 * shelf.count) w' ≡ drop (shelf.cap + 3 * shelf.count) w

-- two books with the same words but for where each name's text begins and ends
pub record SameBook (shelf : Shelf) (v w : List ℕ) : Type 0 where
  pub same_heads : (b : ℕ) → b < shelf.cap → get_or v b 0 ≡ get_or w b 0
  pub same_nexts : (i : ℕ) → i < shelf.count → next_at shelf.cap v i ≡ next_at shelf.cap w i
  pub same_behind : drop (shelf.cap + 3 * shelf.count) v ≡ drop (shelf.cap + 3 * shelf.count) w
  pub same_length : length v ≡ length w
