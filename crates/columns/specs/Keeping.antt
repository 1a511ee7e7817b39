-- How the wanted fields are gathered, and a column is found, one field of a line after another.
use Rattle.std.specs.Prelude.{ℕ, ◌+◌, ◌<◌, ◌≡◌, List, cond, eqb, get_or}
use Rattle.columns.specs.declared.Span.{Span}
use Rattle.columns.specs.declared.Picked.{Picked}
use Rattle.columns.specs.declared.Column.{Column}
use Rattle.columns.specs.declared.Column.TheVariants.{At, Absent, Twice}
use Rattle.columns.specs.Picks.{wanted_span}

abbrev pub span_from : ℕ → ℕ → Span
span_from f t = record { from = f; to = t }

-- field number `count` stands from f up to below t: it is kept where it is wanted
pub record KeptAt (w : List ℕ) (f t : ℕ) (p q : Picked) : Type 0 where
  pub count : q.count ≡ p.count + 1
  pub spans : (j : ℕ) → j < 5 → wanted_span q j ≡ cond (eqb (get_or w j 0) p.count) (span_from f t) (wanted_span p j)

-- before the first field every text is empty
pub record NoneKept (a : ℕ) (p : Picked) : Type 0 where
  pub count : p.count ≡ 0
  pub spans : (j : ℕ) → j < 5 → wanted_span p j ≡ span_from a a

-- where a column stands that field k has as well
unfoldable pub met_at : Column → ℕ → Column
met_at (At i) k = Twice
met_at Absent k = At k
met_at Twice k = Twice
