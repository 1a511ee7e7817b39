-- `refusing::meant::print_meant`: tables that pass the check are accepted.
use Rattle.std.proofs.Common.{rules}
use Rattle.refusing.proofs.Passed.{passed}
use Rattle.refusing.proofs.meant.print_meant.Goals as goal

pub print_place-requires : goal.print_place-requires
print_place-requires g c = search (rules, passed)

pub print_place-requires-then-is_ok : goal.print_place-requires-then-is_ok
print_place-requires-then-is_ok g c = search (rules, passed)
