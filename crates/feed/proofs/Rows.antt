-- Rows as words: either way there and back, how many there are, and rows joined.
-- Assumes nothing.
use Prim.Native.Nat.{ℕ, ◌+◌, ◌*◌, ◌/◌, ◌%◌}
use mathlib.Core.Path.{◌≡◌, refl, ap, ◌∙◌}
use mathlib.Core.List.{List, [], ◌∷◌, ◌++◌, append_assoc}
use native.Mathlib.Omega.{arith}
use lib.ListN.{length, length-append}
use Rattle.feed.specs.Feed.{TimeRow, TransferRow}
use Rattle.feed.specs.Rows.{fours_in, flat_by, time_with, time_words, time_rows_in, flat_times, transfer_with, transfer_words, transfer_rows_in, flat_transfers}

-- ---- any rows of four words
module _ {A : Type 0} (f : ℕ → ℕ → ℕ → ℕ → A) (g : A → List ℕ) where
  fours_flat : ((x : A) (w : List ℕ) → fours_in f (g x ++ w) ≡ x ∷ fours_in f w) → (xs : List A) → fours_in f (flat_by g xs) ≡ xs
  unfolding fours_in flat_by
  fours_flat h [] = refl
  fours_flat h (x ∷ xs) = h x (flat_by g xs) ∙ ap (λ (ys : List A). x ∷ ys) (fours_flat h xs)

  flat_fours : ((a b c d : ℕ) → g (f a b c d) ≡ a ∷ b ∷ c ∷ d ∷ []) → (w : List ℕ) → length w % 4 ≡ 0 → flat_by g (fours_in f w) ≡ w
  unfolding fours_in flat_by
  flat_fours h [] e = refl
  flat_fours h (a ∷ []) e = absurd (omega arith)
  flat_fours h (a ∷ b ∷ []) e = absurd (omega arith)
  flat_fours h (a ∷ b ∷ c ∷ []) e = absurd (omega arith)
  flat_fours h (a ∷ b ∷ c ∷ d ∷ w) e =
      rw (h a b c d) (ap (λ (v : List ℕ). a ∷ b ∷ c ∷ d ∷ v) (flat_fours h w (omega arith)))

pub fours_length : {A : Type 0} (f : ℕ → ℕ → ℕ → ℕ → A) (w : List ℕ) → length (fours_in f w) ≡ length w / 4
unfolding fours_in
fours_length f [] = refl
fours_length f (a ∷ []) = refl
fours_length f (a ∷ b ∷ []) = refl
fours_length f (a ∷ b ∷ c ∷ []) = refl
fours_length f (a ∷ b ∷ c ∷ d ∷ w) = omega (arith, fours_length f w)

module _ {A : Type 0} (g : A → List ℕ) where
  flat_length : ((x : A) → length (g x) ≡ 4) → (xs : List A) → length (flat_by g xs) ≡ 4 * length xs
  unfolding flat_by
  flat_length h [] = refl
  flat_length h (x ∷ xs) = omega (arith, length-append (g x) (flat_by g xs), h x, flat_length h xs)

  flat_append : (xs ys : List A) → flat_by g (xs ++ ys) ≡ flat_by g xs ++ flat_by g ys
  unfolding flat_by
  flat_append [] ys = refl
  flat_append (x ∷ xs) ys = rw (append_assoc (g x) (flat_by g xs)) (ap (λ (v : List ℕ). g x ++ v) (flat_append xs ys))

-- ---- stop times
pub times_flat : (rs : List TimeRow) → time_rows_in (flat_times rs) ≡ rs
unfolding time_rows_in flat_times fours_in time_with time_words
times_flat rs = fours_flat time_with time_words (λ x w. refl) rs

pub flat_times_lem : (w : List ℕ) → length w % 4 ≡ 0 → flat_times (time_rows_in w) ≡ w
unfolding time_rows_in flat_times time_with time_words
flat_times_lem w h = flat_fours time_with time_words (λ a b c d. refl) w h

pub flat_times_length : (rs : List TimeRow) → length (flat_times rs) ≡ 4 * length rs
unfolding flat_times time_words
flat_times_length rs = flat_length time_words (λ x. refl) rs

pub flat_times_append : (rs ss : List TimeRow) → flat_times (rs ++ ss) ≡ flat_times rs ++ flat_times ss
unfolding flat_times
flat_times_append rs ss = flat_append time_words rs ss

-- ---- transfers
pub transfers_flat : (rs : List TransferRow) → transfer_rows_in (flat_transfers rs) ≡ rs
unfolding transfer_rows_in flat_transfers fours_in transfer_with transfer_words
transfers_flat rs = fours_flat transfer_with transfer_words (λ x w. refl) rs

pub flat_transfers_lem : (w : List ℕ) → length w % 4 ≡ 0 → flat_transfers (transfer_rows_in w) ≡ w
unfolding transfer_rows_in flat_transfers transfer_with transfer_words
flat_transfers_lem w h = flat_fours transfer_with transfer_words (λ a b c d. refl) w h

pub flat_transfers_length : (rs : List TransferRow) → length (flat_transfers rs) ≡ 4 * length rs
unfolding flat_transfers transfer_words
flat_transfers_length rs = flat_length transfer_words (λ x. refl) rs

pub flat_transfers_append : (rs ss : List TransferRow) → flat_transfers (rs ++ ss) ≡ flat_transfers rs ++ flat_transfers ss
unfolding flat_transfers
flat_transfers_append rs ss = flat_append transfer_words rs ss
