-- "reading that gives the same tables", as the program `gtfs` tests it.
use Rattle.std.specs.Prelude.{ℕ, Bool, cond, ◌&&◌, List, eqb, is_err}
use Rattle.arguments.specs.Word.{begins_with}
use Rattle.gtfs_read.specs.declared.Told.{Told}
use Rattle.gtfs_again.specs.declared.Again.{Again}
use Rattle.gtfs_again.specs.declared.Again.TheVariants.{Same, NotRead, OtherCounts, OtherTimes, OtherTransfers}

-- so much was taken both times
unfoldable pub same_counts : Told → Told → Bool
same_counts t u =
    eqb t.stops u.stops && eqb t.trips u.trips && eqb t.times u.times && eqb t.transfers u.transfers

-- rows as they were written, with what was told of them; then as they were read again
unfoldable pub again_as : List ℕ → List ℕ → Told → List ℕ → List ℕ → Told → Again
again_as times paths t times' paths' u =
    cond (is_err u.ending) NotRead
    (cond (same_counts t u) (cond (begins_with times' times) (cond (begins_with paths' paths) Same OtherTransfers) OtherTimes) OtherCounts)
