-- What is told of a writing, and what is left.
-- Assumes nothing.
use Prim.Native.Nat.{ℕ, ◌≤◌, ◌<◌}
use mathlib.Core.Path.{◌≡◌, refl, ◌∙◌}
use mathlib.Core.List.{List, [], ◌∷◌}
use native.Mathlib.Omega.{arith}
use lib.ListN.{length, set}
use borrow.Author.Tests.{le-leb, lt-leb}
use Rattle.base.specs.Put.{with_bytes}
use Rattle.std.specs.Prelude.{Result, Ok, Err}
use Rattle.gtfs_write.specs.declared.Unwritten.{Unwritten}
use Rattle.gtfs_write.specs.Refusing.{by_number}
use Rattle.gtfs_write.specs.Written.{held_after}
use Rattle.gtfs_c.specs.FeedFace.{writing_number, writing_words, writing_answer, writing_told, writing_left}

pub two_put : (a b : ℕ) (l : List ℕ) → 2 ≤ length l → set (set l 0 a) 1 b ≡ with_bytes l 0 (a ∷ b ∷ [])
unfolding with_bytes
two_put a b (x ∷ y ∷ l) h = refl
two_put a b [] h = absurd (omega arith)
two_put a b (x ∷ []) h = absurd (omega arith)

-- the buffer is told of by the answer or by its number
left_numbered : (r : Result ℕ Unwritten) (out text : List ℕ) → held_after r out text ≡ held_after (by_number r) out text
unfolding held_after
left_numbered (Ok n) out text = refl
left_numbered (Err e) out text = refl

-- ---- with fewer than two words
module _ (x : Result ℕ ℕ) (told : List ℕ) (h : length told < 2) where
  pub short_answer : 6 ≡ writing_answer x told
  unfolding writing_answer
  short_answer = rw (lt-leb 2 (length told) h)

  pub short_told : told ≡ writing_told x told
  unfolding writing_told
  short_told = rw (lt-leb 2 (length told) h)

  pub short_left : (out text : List ℕ) → out ≡ writing_left x told out text
  unfolding writing_left
  short_left out text = rw (lt-leb 2 (length told) h)

-- ---- with both
module _ (x : Result ℕ ℕ) (told : List ℕ) (y : Result ℕ Unwritten) (e : by_number y ≡ x) (h : 2 ≤ length told) where
  pub whole_answer : {r : ℕ} → r ≡ writing_number (by_number y) → r ≡ writing_answer x told
  unfolding writing_answer
  whole_answer f = rw (le-leb 2 (length told) h, ← e) f

  pub whole_told : {m : List ℕ} → m ≡ with_bytes told 0 (writing_words (by_number y)) → m ≡ writing_told x told
  unfolding writing_told
  whole_told f = rw (le-leb 2 (length told) h, ← e) f

  pub whole_left : (out text : List ℕ) {m : List ℕ} → m ≡ held_after y out text → m ≡ writing_left x told out text
  unfolding writing_left
  whole_left out text f = rw (le-leb 2 (length told) h, ← e) (f ∙ left_numbered y out text)
