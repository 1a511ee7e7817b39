-- Which options were said: "walks:yes|no", "mode:source|rescan", "tables:FILE", "midnight:SECONDS", "bytes", each at most once.
use Rattle.std.specs.Prelude.{ℕ, Bool, true, false, cond, List, [], ◌∷◌, length, ltb, Some, None, is_some, Result, Ok, Err}
use Rattle.arguments.specs.declared.options.NoOption.{NoOption}
use Rattle.arguments.specs.declared.options.NoOption.TheVariants.{Twice, BadWalks, BadMode, BadTables, BadMidnight, Unknown}
use Rattle.arguments.specs.declared.options.Options.{Options}
use Rattle.arguments.specs.declared.options.Said.{Said}
use Rattle.arguments.specs.declared.options.Said.TheVariants.{Walks, Rescan, Tables, Midnight, Bytes}
use Rattle.arguments.specs.Digits.{Number, number_in}
use Rattle.arguments.specs.Word.{begins_with, same}

-- the words, in ASCII: `walks:`, `mode:`, `tables:`, `midnight:`, `bytes`, and `yes`, `no`, `source`, `rescan` behind the first two
abbrev pub walks_word : List ℕ
walks_word = 119 ∷ 97 ∷ 108 ∷ 107 ∷ 115 ∷ 58 ∷ []

abbrev pub walks_yes : List ℕ
walks_yes = 119 ∷ 97 ∷ 108 ∷ 107 ∷ 115 ∷ 58 ∷ 121 ∷ 101 ∷ 115 ∷ []

abbrev pub walks_no : List ℕ
walks_no = 119 ∷ 97 ∷ 108 ∷ 107 ∷ 115 ∷ 58 ∷ 110 ∷ 111 ∷ []

abbrev pub mode_word : List ℕ
mode_word = 109 ∷ 111 ∷ 100 ∷ 101 ∷ 58 ∷ []

abbrev pub mode_source : List ℕ
mode_source = 109 ∷ 111 ∷ 100 ∷ 101 ∷ 58 ∷ 115 ∷ 111 ∷ 117 ∷ 114 ∷ 99 ∷ 101 ∷ []

abbrev pub mode_rescan : List ℕ
mode_rescan = 109 ∷ 111 ∷ 100 ∷ 101 ∷ 58 ∷ 114 ∷ 101 ∷ 115 ∷ 99 ∷ 97 ∷ 110 ∷ []

abbrev pub tables_word : List ℕ
tables_word = 116 ∷ 97 ∷ 98 ∷ 108 ∷ 101 ∷ 115 ∷ 58 ∷ []

abbrev pub midnight_word : List ℕ
midnight_word = 109 ∷ 105 ∷ 100 ∷ 110 ∷ 105 ∷ 103 ∷ 104 ∷ 116 ∷ 58 ∷ []

abbrev pub bytes_word : List ℕ
bytes_word = 98 ∷ 121 ∷ 116 ∷ 101 ∷ 115 ∷ []

-- nothing is said
abbrev pub unsaid : Options
unsaid = record { walks = None; rescan = None; file = None; midnight = None; bytes = false }

-- what an argument says, or why it is no option
abbrev pub Saying : Type 0
Saying = Result Said NoOption

abbrev pub walks_said : List ℕ → Saying
walks_said arg = cond (same arg walks_yes) (Ok (Walks true)) (cond (same arg walks_no) (Ok (Walks false)) (Err BadWalks))

abbrev pub mode_said : List ℕ → Saying
mode_said arg = cond (same arg mode_source) (Ok (Rescan false)) (cond (same arg mode_rescan) (Ok (Rescan true)) (Err BadMode))

-- a file has a name
abbrev pub tables_said : List ℕ → Saying
tables_said arg = cond (ltb 7 (length arg)) (Ok Tables) (Err BadTables)

abbrev pub midnight_said : Number → Saying
midnight_said (Ok t) = Ok (Midnight t)
midnight_said (Err e) = Err BadMidnight

-- the option that an argument is, by the word that it begins with
abbrev pub said_of : List ℕ → Saying
said_of arg =
    cond (begins_with arg walks_word) (walks_said arg)
    (cond (begins_with arg mode_word) (mode_said arg)
    (cond (begins_with arg tables_word) (tables_said arg)
    (cond (begins_with arg midnight_word) (midnight_said (number_in arg 9 (length arg)))
    (cond (same arg bytes_word) (Ok Bytes) (Err Unknown)))))

-- the options with one more, which argument i said
abbrev pub more_of : Options → Said → ℕ → Options
more_of o (Walks v) i = record o { walks = Some v }
more_of o (Rescan v) i = record o { rescan = Some v }
more_of o Tables i = record o { file = Some i }
more_of o (Midnight t) i = record o { midnight = Some t }
more_of o Bytes i = record o { bytes = true }

-- whether that option is said already
abbrev pub is_said : Options → Said → Bool
is_said o (Walks v) = is_some o.walks
is_said o (Rescan v) = is_some o.rescan
is_said o Tables = is_some o.file
is_said o (Midnight t) = is_some o.midnight
is_said o Bytes = o.bytes

-- the options with one more, which argument i said: "each at most once"
abbrev pub with_one : Options → Said → ℕ → Result Options NoOption
with_one o said i = cond (is_said o said) (Err (Twice said)) (Ok (more_of o said i))

-- the same of what argument i says: where it is no option, why it is none
abbrev pub with_said : Options → Saying → ℕ → Result Options NoOption
with_said o (Ok said) i = with_one o said i
with_said o (Err e) i = Err e
