-- Moments as a clock shows them, worked by computation: what is read, and what is none.
-- Assumes nothing.
use mathlib.Core.Path.{◌≡◌, refl}
use Rattle.std.specs.Prelude.{None, Some}
use mathlib.Core.List.{[], ◌∷◌}
use Rattle.csv_text.specs.There.{if_there}
use Rattle.numbers.specs.Decimal.{decimal_from, decimal}
use Rattle.numbers.specs.Clock.{up_to, eight_bytes, clock}

pub clocks_read :
    -- "8:05:00"
    (clock (56 ∷ 58 ∷ 48 ∷ 53 ∷ 58 ∷ 48 ∷ 48 ∷ []) ≡ Some 115_500)
    -- "08:05:00"
    × (clock (48 ∷ 56 ∷ 58 ∷ 48 ∷ 53 ∷ 58 ∷ 48 ∷ 48 ∷ []) ≡ Some 115_500)
    -- "25:10:00"
    × (clock (50 ∷ 53 ∷ 58 ∷ 49 ∷ 48 ∷ 58 ∷ 48 ∷ 48 ∷ []) ≡ Some 177_000)
    -- "99:59:59"
    × (clock (57 ∷ 57 ∷ 58 ∷ 53 ∷ 57 ∷ 58 ∷ 53 ∷ 57 ∷ []) ≡ Some 446_399)
    -- "0:00:00"
    × (clock (48 ∷ 58 ∷ 48 ∷ 48 ∷ 58 ∷ 48 ∷ 48 ∷ []) ≡ Some 86_400)
unfolding clock eight_bytes up_to if_there decimal decimal_from
clocks_read = (refl, refl, refl, refl, refl)

pub clocks_refused :
    -- "100:00:00"
    (clock (49 ∷ 48 ∷ 48 ∷ 58 ∷ 48 ∷ 48 ∷ 58 ∷ 48 ∷ 48 ∷ []) ≡ None)
    -- "8:5:00"
    × (clock (56 ∷ 58 ∷ 53 ∷ 58 ∷ 48 ∷ 48 ∷ []) ≡ None)
    -- "008:00:00"
    × (clock (48 ∷ 48 ∷ 56 ∷ 58 ∷ 48 ∷ 48 ∷ 58 ∷ 48 ∷ 48 ∷ []) ≡ None)
    -- "08:60:00"
    × (clock (48 ∷ 56 ∷ 58 ∷ 54 ∷ 48 ∷ 58 ∷ 48 ∷ 48 ∷ []) ≡ None)
    -- "08:00:60"
    × (clock (48 ∷ 56 ∷ 58 ∷ 48 ∷ 48 ∷ 58 ∷ 54 ∷ 48 ∷ []) ≡ None)
    -- " 8:00:00"
    × (clock (32 ∷ 56 ∷ 58 ∷ 48 ∷ 48 ∷ 58 ∷ 48 ∷ 48 ∷ []) ≡ None)
    -- ""
    × (clock [] ≡ None)
    -- "7:000:00"
    × (clock (55 ∷ 58 ∷ 48 ∷ 48 ∷ 48 ∷ 58 ∷ 48 ∷ 48 ∷ []) ≡ None)
unfolding clock eight_bytes up_to if_there decimal decimal_from
clocks_refused = (refl, refl, refl, refl, refl, refl, refl, refl)
