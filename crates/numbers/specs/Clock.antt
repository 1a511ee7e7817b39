-- "times as H:MM:SS or HH:MM:SS, hours to 99. .. The reader adds 86,400 to each moment"
use Rattle.std.specs.Prelude.{ℕ, ◌+◌, ◌-◌, ◌*◌, ◌/◌, ◌%◌, cond, ◌&&◌, List, [], ◌∷◌, ◌++◌, leb, eqb, length, get_or}
use Rattle.std.specs.Prelude.{Option, None, Some}
use Rattle.csv_text.specs.There.{if_there}
use Rattle.numbers.specs.Decimal.{decimal}

-- "adds 86,400": midnight stands a day after moment 0
abbrev pub MIDNIGHT : ℕ
MIDNIGHT = 86_400

-- two digits, as a number up to `most`
unfoldable pub up_to : ℕ → ℕ → ℕ → Option ℕ
up_to most x y = if_there (decimal (x ∷ y ∷ [])) (λ v. cond (leb v most) (Some v) None)

-- HH:MM:SS, where 58 is a colon
unfoldable pub eight_bytes : List ℕ → Option ℕ
eight_bytes t =
    cond (eqb (get_or t 2 0) 58 && eqb (get_or t 5 0) 58)
    (if_there (up_to 99 (get_or t 0 0) (get_or t 1 0)) (λ h.
    if_there (up_to 59 (get_or t 3 0) (get_or t 4 0)) (λ m.
    if_there (up_to 59 (get_or t 6 0) (get_or t 7 0)) (λ s.
    Some (h * 3_600 + m * 60 + s + MIDNIGHT)))))
    None

-- H:MM:SS is HH:MM:SS with a 0 in front
unfoldable pub clock : List ℕ → Option ℕ
clock t = cond (eqb (length t) 8) (eight_bytes t) (cond (eqb (length t) 7) (eight_bytes (48 ∷ t)) None)

-- a moment as the writer puts it, HH:MM:SS
unfoldable pub two_digits : ℕ → List ℕ
two_digits n = (48 + n / 10) ∷ (48 + n % 10) ∷ []

unfoldable pub clock_text : ℕ → List ℕ
clock_text m =
    let x = m - MIDNIGHT in
    two_digits (x / 3_600) ++ (58 ∷ two_digits (x / 60 % 60) ++ (58 ∷ two_digits (x % 60)))
