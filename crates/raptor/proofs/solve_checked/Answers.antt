-- `raptor::solve_checked` meets its contract: refused by a slice or by the query, or searched.
use borrow.Author.Rules.{rules}
use Rattle.std.proofs.lemmas.Result.{err_from_is_err_and}
use Rattle.raptor.proofs.Measures.{unfit, fit, room_sized}
use Rattle.raptor.proofs.Searched.{ask_stops, ask_routes, posed_of}
use Rattle.raptor.proofs.Answered.{by_room, by_query, by_search}
use Rattle.raptor.proofs.solve_checked.Goals as goal

pub returns-then-ne : goal.returns-then-ne
returns-then-ne c = search (rules, by_room, unfit, ask_stops, ask_routes)

pub returns-in_err-refusal : goal.returns-in_err-refusal
returns-in_err-refusal c =
    let p = err_from_is_err_and c.from_residual.result c.from_residual.ensures.1 in
    let roomy = fit _ _ _ _ _ c.lengths_for.ensures c.ne.ensures c.if-ne.false in
    rw (p.1, p.2) (by_query c.args.tables.now c.args.q _ c.requires (search (rules, ask_stops)) (search (rules, ask_routes)) roomy (search rules))

pub run-requires-clause-posed : goal.run-requires-clause-posed
run-requires-clause-posed c = search (rules, posed_of)

pub run-requires-clause-sized : goal.run-requires-clause-sized
run-requires-clause-sized c =
    let roomy = fit _ _ _ _ _ c.lengths_for.ensures c.ne.ensures c.if-ne.false in search (rules, room_sized, ask_stops, ask_routes)

pub returns : goal.returns
returns c =
    let roomy = fit _ _ _ _ _ c.lengths_for.ensures c.ne.ensures c.if-ne.false in
    by_search c.args.tables.now c.args.q _ c.requires (search (rules, ask_stops)) (search (rules, ask_routes)) roomy (search rules) c.run.ensures
