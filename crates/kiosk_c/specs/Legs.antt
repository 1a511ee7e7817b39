-- Journey bytes through the C face: "13 journey bytes: unknown kind or cut body", with "only the offset of the bad leg's first byte"; a leg
-- in six words; and the legs that a caller walks.
use Rattle.std.specs.Prelude.{ℕ, ◌+◌, ◌≤◌, ◌≡◌, cond, Option, Result, None, Some, Ok, Err, List, [], ◌∷◌, leb, length, drop}
use Rattle.model.specs.declared.Leg.{Leg}
use Rattle.model.specs.Bytes.{leg_size}
use Rattle.kiosk_words.specs.Words.{leg_told_in}
use Rattle.journey.specs.declared.BadLeg.{BadLeg}
use Rattle.journey.specs.Reading.{leg_from}

-- what is read, in one word: 0 and how many legs, 13 and the offset; 6 where there is no word
unfoldable pub read_word : Result ℕ BadLeg → ℕ
read_word (Ok count) = count
read_word (Err bad) = bad.at

unfoldable pub read_kind : Result ℕ BadLeg → ℕ
read_kind (Ok count) = 0
read_kind (Err bad) = 13

unfoldable pub read_number : Result ℕ BadLeg → List ℕ → ℕ
read_number x told = cond (leb 1 (length told)) (read_kind x) 6

unfoldable pub read_left : Result ℕ BadLeg → List ℕ → List ℕ
read_left x told = cond (leb 1 (length told)) (read_word x ∷ drop 1 told) told

-- how many bytes the leg takes; 0 where no byte is left, 13 where there is none, 6 where there are not six words
unfoldable pub leg_bytes : Option (Result Leg BadLeg) → ℕ
leg_bytes (Some (Ok g)) = leg_size g.kind
leg_bytes (Some (Err bad)) = 13
leg_bytes None = 0

unfoldable pub leg_words : Option (Result Leg BadLeg) → List ℕ → List ℕ
leg_words (Some (Ok g)) leg = leg_told_in g leg
leg_words (Some (Err bad)) leg = leg
leg_words None leg = leg

unfoldable pub leg_number : Option (Result Leg BadLeg) → List ℕ → ℕ
leg_number x leg = cond (leb 6 (length leg)) (leg_bytes x) 6

unfoldable pub leg_left : Option (Result Leg BadLeg) → List ℕ → List ℕ
leg_left x leg = cond (leb 6 (length leg)) (leg_words x leg) leg

-- a call of `kiosk_leg` at an offset, with any six words or more, answers r and leaves the words so
abbrev pub LegCall : List ℕ → ℕ → ℕ → (List ℕ → List ℕ) → Type 0
LegCall b at r left = (leg : List ℕ) → 6 ≤ length leg → (leg_number (leg_from b at) leg ≡ r) × (leg_left (leg_from b at) leg ≡ left leg)

-- a walk by `kiosk_leg`, from offset `at` on and each time on by what it answers: of each leg of gs its size and its six words; then 0,
-- with nothing written
pub data FaceLegsFrom (b : List ℕ) : ℕ → List Leg → Type 0 where
  over : {at : ℕ} → LegCall b at 0 (λ leg. leg) → FaceLegsFrom b at []
  next : {at : ℕ} {gs : List Leg} (g : Leg) → LegCall b at (leg_size g.kind) (leg_told_in g) → FaceLegsFrom b (at + leg_size g.kind) gs
      → FaceLegsFrom b at (g ∷ gs)
