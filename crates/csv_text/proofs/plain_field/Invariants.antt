-- `csv_text::plain_field` meets its contract: the bytes behind are the text so far.
-- Assumes nothing.
use Rattle.csv_text.specs.Fields.{plain}
use Rattle.csv_text.proofs.Scanning.{Going}
use Rattle.csv_text.proofs.plain_field.Given as goal

abbrev pub invariant-loop-i : goal.invariant-loop-i
invariant-loop-i l = Going plain l.bytes l.a l.e l.i
