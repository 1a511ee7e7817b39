-- A row's values: where they stand, as the code answers, and what they are, from the five texts that are picked of its line.
use Rattle.std.specs.Prelude.{ℕ, cond, ◌&&◌, List, eqb}
use Rattle.std.specs.Prelude.{Option, None, Some}
use Rattle.csv_text.specs.There.{if_there}
use Rattle.columns.specs.Picks.{Five, Spanned}
use Rattle.numbers.specs.Decimal.{decimal}
use Rattle.numbers.specs.Clock.{clock}
use Rattle.feed.specs.declared.TimeSpans.{TimeSpans}
use Rattle.feed.specs.declared.TransferSpans.{TransferSpans}
use Rattle.feed.specs.Times.{TimeLine, is_id}
use Rattle.feed.specs.Transfers.{TransferLine, kind_of, span_of}
use Rattle.feed.specs.Spans.{time_at, transfer_at}

-- what a line holds that has as many fields as the header, and two ids: the first two that are picked
unfoldable pub formed : {L : Type 0} → (Five → Option L) → ℕ → Five → Option L
formed f n x = cond (eqb x.count n && is_id x.one && is_id x.two) (f x) None

-- ---- stop_times.txt: trip, stop, arrival, departure and sequence are picked, in this order
unfoldable pub time_read : List ℕ → Option TimeSpans → Option TimeLine
time_read b (Some v) = Some (time_at b v)
time_read b None = None

abbrev pub TimeSpanned : List ℕ → Option TimeSpans → Type 0
TimeSpanned b (Some v) = Spanned b v.trip × Spanned b v.stop
TimeSpanned b None = Unit {0}

unfoldable pub time_in : Five → Option TimeLine
time_in x =
    if_there (clock x.three) (λ a.
    if_there (clock x.four) (λ d.
    if_there (decimal x.five) (λ q.
    Some (record { trip = x.one; stop = x.two; arrival = a; departure = d; sequence = q }))))

-- ---- transfers.txt: from, to, kind and span are picked, in this order
unfoldable pub transfer_read : List ℕ → Option TransferSpans → Option TransferLine
transfer_read b (Some v) = Some (transfer_at b v)
transfer_read b None = None

abbrev pub TransferSpanned : List ℕ → Option TransferSpans → Type 0
TransferSpanned b (Some v) = Spanned b v.from × Spanned b v.to
TransferSpanned b None = Unit {0}

unfoldable pub transfer_in : Five → Option TransferLine
transfer_in x =
    if_there (kind_of x.three) (λ k.
    if_there (span_of k x.four) (λ s.
    Some (record { from = x.one; to = x.two; kind = k; span = s })))
