-- A moment as a person writes and reads it.
use Rattle.std.specs.Prelude.{ℕ, ◌+◌, ◌*◌, ◌-◌, ◌/◌, ◌%◌, Bool, cond, ◌&&◌, List, length, get_or, ltb, leb, eqb, Result, Ok, Err}
use Rattle.arguments.specs.declared.bytes.NoNumber.{NoNumber}
use Rattle.arguments.specs.declared.bytes.NoNumber.TheVariants.{NoDigits, TooLarge as NumberTooLarge}
use Rattle.arguments.specs.declared.moment.NoMoment.{NoMoment}
use Rattle.arguments.specs.declared.moment.NoMoment.TheVariants.{NoForm, NoMinutes, TooLarge}
use Rattle.arguments.specs.declared.moment.Clock.{Clock}
use Rattle.arguments.specs.Digits.{Number, number_in}

-- a moment, or why there is none
abbrev pub Moment : Type 0
Moment = Result ℕ NoMoment

-- seconds, "a moment is a u32 of seconds"
abbrev pub fits : ℕ → Moment
fits t = cond (ltb t 4_294_967_296) (Ok t) (Err TooLarge)

-- hours, minutes and seconds; the last two go from 0 to 59
abbrev pub sum_of : ℕ → ℕ → ℕ → Moment
sum_of h m s = cond (leb m 59 && leb s 59) (fits (h * 3600 + m * 60 + s)) (Err NoMinutes)

-- why there is no moment, where there is no number
abbrev pub moment_fault : NoNumber → NoMoment
moment_fault NoDigits = NoForm
moment_fault NumberTooLarge = TooLarge

abbrev pub on_hours : Number → ℕ → ℕ → Moment
on_hours (Ok h) m s = sum_of h m s
on_hours (Err e) m s = Err (moment_fault e)

abbrev pub with_seconds : Number → ℕ → Number → Moment
with_seconds h m (Ok s) = on_hours h m s
with_seconds h m (Err e) = Err NoForm

abbrev pub of_clock : Number → Number → Number → Moment
of_clock h (Ok m) s = with_seconds h m s
of_clock h (Err e) s = Err NoForm

abbrev pub of_seconds : Number → Moment
of_seconds (Ok t) = Ok t
of_seconds (Err e) = Err (moment_fault e)

-- a colon, 58, stands third from the end and sixth from it
abbrev pub has_clock_form : List ℕ → Bool
has_clock_form arg = leb 6 (length arg) && eqb (get_or arg (length arg - 6) 0) 58 && eqb (get_or arg (length arg - 3) 0) 58

-- H:MM:SS, the minutes and the seconds with two digits each
abbrev pub clock_in : List ℕ → Moment
clock_in arg =
    let h = length arg - 6 in
    of_clock (number_in arg 0 h) (number_in arg (h + 1) (h + 3)) (number_in arg (h + 4) (h + 6))

-- H:MM:SS, or else seconds
abbrev pub moment_said : List ℕ → Moment
moment_said arg = cond (has_clock_form arg) (clock_in arg) (of_seconds (number_in arg 0 (length arg)))

-- the clock's face so many seconds into a day, so many days before the day asked
abbrev pub face : ℕ → ℕ → Clock
face days s = record { days = days; hours = s / 3600; minutes = s / 60 % 60; seconds = s % 60 }

-- a moment of the timetable whose day begins at a midnight: what is before it is on the day before, or on the fewest days before that reach it
abbrev pub clock_of : ℕ → ℕ → Clock
clock_of t midnight =
    let days = (midnight - t + 86_399) / 86_400 in
    cond (leb midnight t) (face 0 (t - midnight)) (face days (days * 86_400 - (midnight - t)))
