-- `columns::kept` meets its contract: a span at a time.
-- Assumes nothing.
use Rattle.std.proofs.Common.{◌≡◌, ℕ, ◌<◌, ◌≤◌, get_or, cond, eqb, length}
use Rattle.columns.specs.Keeping.{span_from}
use Rattle.columns.proofs.kept.Given as goal

abbrev pub invariant-loop-j : goal.invariant-loop-j
invariant-loop-j l = record {
  long : length l.spans ≡ 5;
  done : (j : ℕ)
      → j < l.j
      → get_or l.spans j (span_from 0 0)
      ≡ cond (eqb (get_or l.fn.w j 0) l.fn.old.count) (span_from l.from l.to) (get_or l.fn.old.spans j (span_from 0 0));
  left : (j : ℕ) → l.j ≤ j → get_or l.spans j (span_from 0 0) ≡ get_or l.fn.old.spans j (span_from 0 0);
}
