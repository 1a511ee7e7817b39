-- A header by the places of its columns, each there or not.
use Rattle.std.specs.Prelude.{ℕ}
use Rattle.std.specs.Prelude.{Option, Some}
use Rattle.csv_text.specs.There.{if_there}
use Rattle.feed.specs.declared.TimesColumns.{TimesColumns}
use Rattle.feed.specs.declared.TransferColumns.{TransferColumns}

-- the columns of a header with so many, by their places
unfoldable pub times_placed : ℕ → Option ℕ → Option ℕ → Option ℕ → Option ℕ → Option ℕ → Option TimesColumns
times_placed n trip arrival departure stop sequence =
    if_there trip (λ a.
    if_there arrival (λ b.
    if_there departure (λ c.
    if_there stop (λ d.
    if_there sequence (λ e.
    Some (record { count = n; trip = a; arrival = b; departure = c; stop = d; sequence = e }))))))

unfoldable pub transfers_placed : ℕ → Option ℕ → Option ℕ → Option ℕ → Option ℕ → Option TransferColumns
transfers_placed n from to kind span =
    if_there from (λ a.
    if_there to (λ b.
    if_there kind (λ c.
    if_there span (λ d.
    Some (record { count = n; from = a; to = b; kind = c; span = d })))))
