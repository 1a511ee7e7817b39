-- What one more byte does to a line, and to the n words that are lent for the line's words to be stored in.
use Rattle.std.specs.Prelude.{ℕ, ◌+◌, Bool, true, false, cond, ◌&&◌, ◌||◌, List, eqb, ltb, length, set, Option, Some, None, is_some, unwrap_or}
use Rattle.lines.specs.declared.Line.{Line}
use Rattle.lines.specs.Token.{held, longer_by}

-- a line between two tokens
abbrev pub between_tokens : Option ℕ → ℕ → Bool → Bool → Line
between_tokens name count bad ended = record { name = name; count = count; bad = bad; ended = ended; token = None }

-- a line before its first byte
abbrev pub empty_line : Line
empty_line = between_tokens None 0 false false

-- a first token names the line, unless its value is 0
abbrev pub name_of : ℕ → Option ℕ
name_of v = cond (eqb v 0) None (Some v)

-- a token of the value v is a word that is stored: the line has its name, the word is a u32, and there is room for it
abbrev pub stores : ℕ → Line → ℕ → Bool
stores n l v = is_some l.name && ltb v held && ltb l.count n

-- a token of the value v closed: the first names the line, each other is stored, or the line is bad
abbrev pub closed_at : ℕ → Line → ℕ → Line
closed_at n l v =
    cond (is_some l.name)
    (cond (stores n l v) (between_tokens l.name (l.count + 1) l.bad false) (between_tokens l.name l.count true false))
    (between_tokens (name_of v) l.count l.bad false)

-- the open token closed, where one is open
abbrev pub closed_with : ℕ → Line → Option ℕ → Line
closed_with n l (Some v) = closed_at n l v
closed_with n l None = l

abbrev pub closed : ℕ → Line → Line
closed n l = closed_with n l l.token

-- the lent words with that word at the place of its count
abbrev pub words_with : List ℕ → Line → Option ℕ → List ℕ
words_with w l (Some v) = cond (stores (length w) l v) (set w l.count v) w
words_with w l None = w

abbrev pub with_word : List ℕ → Line → List ℕ
with_word w l = words_with w l l.token

-- the line with its token longer by a byte, which opens it where none is open
abbrev pub longer_token : Line → ℕ → Line
longer_token l b =
    record { name = l.name; count = l.count; bad = l.bad; ended = false; token = Some (longer_by (unwrap_or l.token 0) b) }

-- a byte after a line's end begins the next line
abbrev pub next_line : Line → Line
next_line l = cond l.ended empty_line l

abbrev pub at_end : Line → Line
at_end l = between_tokens l.name l.count l.bad true

-- a newline (10) ends the line, a space (32) the token, any other byte is the token's
abbrev pub line_after : ℕ → Line → ℕ → Line
line_after n l b = cond (eqb b 10) (at_end (closed n l)) (cond (eqb b 32) (closed n l) (longer_token l b))

abbrev pub words_after : List ℕ → Line → ℕ → List ℕ
words_after w l b = cond (eqb b 10 || eqb b 32) (with_word w l) w
