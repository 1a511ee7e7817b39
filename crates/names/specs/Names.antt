-- A name's number is its place in the list of names; a name that is not there is put behind them.
use Rattle.std.specs.Prelude.{ℕ, zero, suc, cond, List}
use Rattle.csv_text.specs.Texts.{same_text}

-- one more than the place of a text among the first n names, 0 where it is not among them; no name stands there twice
unfoldable pub place_among : (ℕ → List ℕ) → List ℕ → ℕ → ℕ
place_among name t zero = 0
place_among name t (suc i) = cond (same_text t (name i)) (suc i) (place_among name t i)
