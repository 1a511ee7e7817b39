-- How the reading of a file ends, as the code answers with it.
use Rattle.std.specs.Prelude.{Result, Ok, Err, ⊤}
use Rattle.feed.specs.declared.Unread.{Unread}
use Rattle.feed.specs.declared.Unread.TheVariants.{Bad, Full}
use Rattle.feed.specs.Feed.{End, done, bad_times, bad_transfers, full}

unfoldable pub ending_of : End → Result ⊤ Unread
ending_of done = Ok tt
ending_of (bad_times k) = Err (Bad k)
ending_of (bad_transfers k) = Err (Bad k)
ending_of full = Err Full
