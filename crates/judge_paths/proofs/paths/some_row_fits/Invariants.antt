-- `some_row_fits`: the rows that are left decide.
use Rattle.repository.specs.NetOf.{net_of}
use Rattle.repository.specs.Rows.{rest}
use Rattle.handheld.specs.Any.{any, Sought}
use Rattle.handheld.specs.Fitting.{fits_foot}
use Rattle.judge_paths.specs.Paths.{path_row, paths_of}
use Rattle.judge_paths.proofs.paths.some_row_fits.Given as goal

abbrev pub invariant-loop-j : goal.invariant-loop-j
invariant-loop-j l = Sought (fits_foot l.g) (any (fits_foot l.g) (paths_of l.walk (net_of l.tables) l.g.from)) (rest (path_row l.walk l.tables) l.j l.j-end)
