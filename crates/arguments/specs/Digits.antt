-- The number that bytes of an argument are: digits in base ten, at least one, below 4,294,967,296.
use Rattle.std.specs.Prelude.{ℕ, zero, suc, ◌+◌, ◌*◌, ◌-◌, Bool, cond, ◌&&◌, List, length, get_or, ltb, leb, Result, Ok, Err}
use Rattle.base.specs.All.{all}
use Rattle.arguments.specs.declared.bytes.NoNumber.{NoNumber}
use Rattle.arguments.specs.declared.bytes.NoNumber.TheVariants.{NoDigits, TooLarge}

-- a number of 32 bits, or why there is none
abbrev pub Number : Type 0
Number = Result ℕ NoNumber

-- '0' is 48, '9' is 57
abbrev pub is_digit : ℕ → Bool
is_digit b = leb 48 b && leb b 57

abbrev pub digit_at : List ℕ → ℕ → Bool
digit_at arg i = is_digit (get_or arg i 0)

-- the number of the n digits from `from` on
unfoldable pub tens : List ℕ → ℕ → ℕ → ℕ
tens arg from zero = 0
tens arg from (suc n) = tens arg from n * 10 + (get_or arg (from + n) 0 - 48)

-- a number where it fits 32 bits
abbrev pub fitting : ℕ → Number
fitting n = cond (ltb n 4_294_967_296) (Ok n) (Err TooLarge)

-- the number of the bytes from `from` to before `to`: nothing where they are none, are not all there or are not all digits
abbrev pub number_in : List ℕ → ℕ → ℕ → Number
number_in arg from to =
    cond (ltb from to && leb to (length arg) && all (digit_at arg) from to) (fitting (tens arg from (to - from))) (Err NoDigits)
