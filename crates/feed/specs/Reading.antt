-- Both files: "numbers stops and trips in order of first appearance, stop_times first".
use Rattle.std.specs.Prelude.{ℕ, cond, ◌&&◌, List, eqb, get_or, drop}
use Rattle.csv_text.specs.Lines.{lines}
use Rattle.feed.specs.declared.Room.{Room}
use Rattle.feed.specs.Feed.{done, bad_times, bad_transfers, full, Got}
use Rattle.feed.specs.Times.{read_times}
use Rattle.feed.specs.Transfers.{read_transfers}

-- a file may begin with the three bytes that mark UTF-8
unfoldable pub without_mark : List ℕ → List ℕ
without_mark b = cond (eqb (get_or b 0 0) 239 && eqb (get_or b 1 0) 187 && eqb (get_or b 2 0) 191) (drop 3 b) b

unfoldable pub transfers_after : Room → List ℕ → Got → Got
transfers_after room b g =
    elim g.end [
      | done ↦ read_transfers room (lines (without_mark b)) g.feed
      | bad_times k ↦ g
      | bad_transfers k ↦ g
      | full ↦ g
    ]

unfoldable pub read_feed : Room → List ℕ → List ℕ → Got
read_feed room a b = transfers_after room b (read_times room (lines (without_mark a)))
