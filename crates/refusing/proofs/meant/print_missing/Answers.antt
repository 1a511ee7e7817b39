-- `refusing::meant::print_missing`: tables that pass the check are accepted.
use Rattle.std.proofs.Common.{rules}
use Rattle.refusing.proofs.Passed.{passed}
use Rattle.refusing.proofs.meant.print_missing.Goals as goal

pub exists-requires : goal.exists-requires
exists-requires g c = search (rules, passed)

pub exists-requires-then-branch : goal.exists-requires-then-branch
exists-requires-then-branch g c = search (rules, passed)
