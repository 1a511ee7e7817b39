-- The values of a line, read from where its ids stand.
use Rattle.std.specs.Prelude.{ℕ, List}
use Rattle.columns.specs.Picks.{text_at}
use Rattle.feed.specs.declared.TimeSpans.{TimeSpans}
use Rattle.feed.specs.declared.TransferSpans.{TransferSpans}
use Rattle.feed.specs.Times.{TimeLine}
use Rattle.feed.specs.Transfers.{TransferLine}

unfoldable pub time_at : List ℕ → TimeSpans → TimeLine
time_at b v =
    record { trip = text_at b v.trip; stop = text_at b v.stop; arrival = v.arrival; departure = v.departure; sequence = v.sequence }

unfoldable pub transfer_at : List ℕ → TransferSpans → TransferLine
transfer_at b v = record { from = text_at b v.from; to = text_at b v.to; kind = v.kind; span = v.span }
