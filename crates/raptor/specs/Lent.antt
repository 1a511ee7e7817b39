-- The four slices that a caller lends: words, marks and places of the workspace, and the journey buffer.
use Rattle.std.specs.Prelude.{ℕ, List}

pub record Lent : Type 0 where
  pub words : List ℕ
  pub marks : List ℕ
  pub places : List ℕ
  pub journey : List ℕ

abbrev pub lent : List ℕ → List ℕ → List ℕ → List ℕ → Lent
lent ws ms places journey = record { words = ws; marks = ms; places = places; journey = journey }
