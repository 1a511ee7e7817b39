-- `positions_ok`: each route decides.
use borrow.Author.Rules.{rules}
use Prim.Native.Nat.{◌-◌}
use Rattle.repository.specs.Sections.{size, ROUTE_STOP_STARTS}
use Rattle.repository.specs.Laid.{positioned}
use Rattle.check_shape.specs.Shape.{route_fits}
use Rattle.repository.proofs.All.{all_over}
use Rattle.check_shape.proofs.positions_ok.Goals as goal

pub returns : goal.returns
unfolding positioned route_fits
returns c =
    let w = c.args.tables.now in
    all_over (route_fits w) (0) (size w ROUTE_STOP_STARTS - 1) _ _ _ c.all.ensures.ran (search rules) (search rules) (λ x t q k. search rules)
