-- `never_falls`: each word but the last decides.
use borrow.Author.Rules.{rules}
use Rattle.check_shape.specs.Shape.{no_fall}
use Rattle.repository.proofs.All.{all_over}
use Rattle.check_shape.proofs.never_falls.Goals as goal

pub returns : goal.returns
unfolding no_fall
returns c =
    let w = c.args.tables.now in
    all_over (no_fall w c.args.o) (0) (c.args.n) _ _ _ c.all.ensures.ran (search rules) (search rules) (λ x t q k. search rules)
