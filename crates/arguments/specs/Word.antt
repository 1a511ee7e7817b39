-- Whether an argument is a word, or begins with it.
use Rattle.std.specs.Prelude.{ℕ, Bool, cond, ◌&&◌, List, length, get_or, leb, eqb}
use Rattle.base.specs.All.{all}

unfoldable pub same_at : List ℕ → List ℕ → ℕ → Bool
same_at arg word i = eqb (get_or arg i 0) (get_or word i 0)

unfoldable pub begins_with : List ℕ → List ℕ → Bool
begins_with arg word = leb (length word) (length arg) && all (same_at arg word) 0 (length word)

unfoldable pub same : List ℕ → List ℕ → Bool
same arg word = eqb (length arg) (length word) && begins_with arg word

-- how long the word is where the argument begins with it, else 0
abbrev pub after_of : List ℕ → List ℕ → ℕ
after_of arg word = cond (begins_with arg word) (length word) 0
