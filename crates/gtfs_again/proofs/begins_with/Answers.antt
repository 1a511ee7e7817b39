-- `gtfs_again::begins_with`: the library's `starts_with` is the definition's.
-- Assumes nothing.
use Rattle.arguments.proofs.Word.{starts}
use Rattle.gtfs_again.proofs.begins_with.Goals as goal

pub returns : goal.returns
returns c = starts _ _ _ c.starts_with.ensures.value
