-- `csv_text::line_end` meets its contract: the bytes behind are the line so far.
-- Assumes nothing.
use Rattle.csv_text.proofs.Lining.{Seeking}
use Rattle.csv_text.proofs.line_end.Given as goal

abbrev pub invariant-loop-i : goal.invariant-loop-i
invariant-loop-i l = Seeking l.bytes l.a l.i
