-- A place as a person names it: the number of a stop, or `area:` and a number.
use Rattle.std.specs.Prelude.{ℕ, cond, List, [], ◌∷◌, length, eqb, Result, Ok, Err}
use Rattle.arguments.specs.declared.bytes.NoNumber.{NoNumber}
use Rattle.arguments.specs.declared.place.Place.{Place}
use Rattle.arguments.specs.declared.place.Place.TheVariants.{Stop, Area}
use Rattle.arguments.specs.Digits.{Number, number_in}
use Rattle.arguments.specs.Word.{after_of}

-- `area:`
abbrev pub area_word : List ℕ
area_word = 97 ∷ 114 ∷ 101 ∷ 97 ∷ 58 ∷ []

abbrev pub numbered : ℕ → ℕ → Place
numbered from n = cond (eqb from 0) (Stop n) (Area n)

-- a number that begins at `from`: 0 is a stop's
abbrev pub located : ℕ → Number → Result Place NoNumber
located from (Ok n) = Ok (numbered from n)
located from (Err e) = Err e

abbrev pub place_said : List ℕ → Result Place NoNumber
place_said arg = let from = after_of arg area_word in located from (number_in arg from (length arg))
