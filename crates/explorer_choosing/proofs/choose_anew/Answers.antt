-- `choose_anew`: two operations, one after the other.
use Rattle.allocator.proofs.Becoming.{becomes_then}
use Rattle.explorer.proofs.Fixed.{fixed_same}
use Rattle.explorer_choosing.proofs.choose_anew.Goals as goal

pub choose_routes-requires : goal.choose_routes-requires
choose_routes-requires c = record { fixed = fixed_same c.begin_choosing.ensures.same c.requires.fixed }

pub returns : goal.returns
returns c = becomes_then c.begin_choosing.ensures c.choose_routes.ensures
