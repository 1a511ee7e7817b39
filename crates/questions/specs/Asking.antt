-- Which query the arguments are: a place, `depart` or `arrive`, a moment against the timetable's midnight, walks and the mode.
use Rattle.std.specs.Prelude.{ℕ, Bool, true, false, cond, List, [], ◌∷◌, Option, Some, None, unwrap_or, Result, Ok, Err}
use Rattle.model.specs.declared.Location.{Location}
use Rattle.model.specs.declared.Location.TheVariants.{Stop as stop, Area as area}
use Rattle.model.specs.declared.TimeConstraint.{TimeConstraint}
use Rattle.model.specs.declared.TimeConstraint.TheVariants.{Departure as departure, Arrival as arrival}
use Rattle.model.specs.declared.Walks.{Walks}
use Rattle.model.specs.declared.Walks.TheVariants.{Unsaid, Allowed, Barred}
use Rattle.model.specs.declared.Mode.{Mode}
use Rattle.model.specs.declared.Mode.TheVariants.{Source, Rescan}
use Rattle.arguments.specs.declared.bytes.NoNumber.{NoNumber}
use Rattle.arguments.specs.declared.moment.NoMoment.{NoMoment}
use Rattle.arguments.specs.declared.options.Options.{Options}
use Rattle.arguments.specs.declared.place.Place.{Place}
use Rattle.arguments.specs.declared.place.Place.TheVariants.{Stop, Area}
use Rattle.arguments.specs.Moment.{Moment}
use Rattle.arguments.specs.Word.{same}
use Rattle.model.specs.declared.Direction.{Direction}
use Rattle.model.specs.declared.Direction.TheVariants.{Departure, Arrival}
use Rattle.questions.specs.declared.NoQuestion.{NoQuestion}
use Rattle.questions.specs.declared.NoQuestion.TheVariants.{NoDirection, NoMoment as unmoved}
use Rattle.questions.specs.declared.Question.{Question}

abbrev pub location_of : Place → Location
location_of (Stop n) = stop n
location_of (Area n) = area n

-- the place that an argument is, and nothing where it is none
abbrev pub spot_of : Result Place NoNumber → Option Location
spot_of (Ok p) = Some (location_of p)
spot_of (Err e) = None

-- `depart` and `arrive`, in ASCII
abbrev pub depart_word : List ℕ
depart_word = 100 ∷ 101 ∷ 112 ∷ 97 ∷ 114 ∷ 116 ∷ []

abbrev pub arrive_word : List ℕ
arrive_word = 97 ∷ 114 ∷ 114 ∷ 105 ∷ 118 ∷ 101 ∷ []

abbrev pub direction_said : List ℕ → Option Direction
direction_said arg = cond (same arg depart_word) (Some Departure) (cond (same arg arrive_word) (Some Arrival) None)

-- `walks:yes` allows walks, `walks:no` bars them
abbrev pub walks_for : Option Bool → Walks
walks_for (Some true) = Allowed
walks_for (Some false) = Barred
walks_for None = Unsaid

-- `mode:rescan` asks for the rescan mode
abbrev pub mode_for : Option Bool → Mode
mode_for (Some true) = Rescan
mode_for (Some false) = Source
mode_for None = Source

-- the seconds of `midnight:SECONDS`, 0 where they are not said
abbrev pub midnight_for : Options → ℕ
midnight_for o = unwrap_or o.midnight 0

-- "an earliest departure or a latest arrival"
abbrev pub time_for : Direction → ℕ → TimeConstraint
time_for Departure t = departure (record { 0 = t })
time_for Arrival t = arrival (record { 0 = t })

abbrev pub asks : Location → Location → TimeConstraint → Options → Question
asks from to c o =
    record {
      query = record { from = from; to = to; time = c; walks = walks_for o.walks; mode = mode_for o.rescan };
      file = o.file;
      midnight = midnight_for o;
      bytes = o.bytes;
    }

-- nothing is asked where there is no moment
abbrev pub no_moment : NoMoment → NoQuestion
no_moment e = unmoved e

-- what is asked at a moment, or why there is no moment
abbrev pub asked_toward : Location → Location → Direction → Moment → Options → Result Question NoQuestion
asked_toward from to d (Ok t) o = Ok (asks from to (time_for d t) o)
asked_toward from to d (Err e) o = Err (no_moment e)

-- the same in the direction that an argument is, or that it is none
abbrev pub asked_for : Location → Location → Option Direction → Moment → Options → Result Question NoQuestion
asked_for from to (Some d) moment o = asked_toward from to d moment o
asked_for from to None moment o = Err NoDirection
