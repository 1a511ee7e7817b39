-- `is_listed`: as the slice's own search.
use Rattle.std.proofs.Common.{◌∙◌}
use Rattle.judge_paths.proofs.Listed.{listed_is}
use Rattle.judge_paths.proofs.places.is_listed.Goals as goal

pub returns : goal.returns
returns c = c.contains.ensures.value ∙ listed_is c.args.s c.args.stops.now
