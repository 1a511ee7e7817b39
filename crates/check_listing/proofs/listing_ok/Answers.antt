-- `listing_ok`: what a later part asks of an earlier one.
use borrow.Author.Rules.{rules}
use mathlib.Core.Path.{sym, ◌∙◌}
use mathlib.Core.Bool.{true≢false}
use Rattle.check_listing.proofs.Parts.{stops_passed, calls_passed}
use Rattle.check_listing.proofs.listing_ok.Goals as goal
use Rattle.check_listing.proofs.listing_ok.Goals.{then-framed_ok, else-framed_ok}

pub stop_routes_ok-requires-clause-tables_value : goal.stop_routes_ok-requires-clause-tables_value
stop_routes_ok-requires-clause-tables_value c = search (rules, stops_passed)

pub served_ok-requires-clause-tables_value : goal.served_ok-requires-clause-tables_value
served_ok-requires-clause-tables_value c =
    let passed = c.if-stop_routes_ok.true in
    elim c.if-framed_ok.branch [
      | then-framed_ok w ↦ calls_passed _ w.stop_routes_ok.ensures (sym w.value-is ∙ passed)
      | else-framed_ok w ↦ absurd (true≢false (sym passed ∙ w.value-is ∙ w.if-framed_ok.false))
    ]
