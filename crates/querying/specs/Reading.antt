-- What is read of an argument: the options with the one that it is, or nothing, where it is none.
use Rattle.std.specs.Prelude.{ℕ, Option, Some, None, Result, Ok, Err}
use Rattle.arguments.specs.declared.options.NoOption.{NoOption}
use Rattle.arguments.specs.declared.options.Options.{Options}
use Rattle.arguments.specs.Options.{Saying, with_said}

abbrev pub choice_of : Result Options NoOption → Option Options
choice_of (Ok o) = Some o
choice_of (Err e) = None

-- the options with one more, which argument i said
abbrev pub read_of : Options → Saying → ℕ → Option Options
read_of o said i = choice_of (with_said o said i)
