-- `choose_at`: the rows from j on are left, and choosing by them leads where choosing by all of them leads.
use Prim.Native.Nat.{◌≤◌, ◌<◌}
use native.Mathlib.Omega.{arith}
use borrow.Author.Rules.{rules}
use Rattle.repository.specs.Rows.{calls, first_row}
use Rattle.allocator.proofs.Becoming.{same_self, same_then}
use Rattle.explorer.proofs.Turns.{row_end}
use Rattle.explorer_choosing.proofs.Choosing.{route_start, route_in, route_next}
use Rattle.explorer_choosing.proofs.choose_at.Goals as goal

pub loop-j-init : goal.loop-j-init
loop-j-init c = (search (rules, route_start), same_self)

pub activate-requires : goal.activate-requires
activate-requires c =
    let from : first_row calls c.args.tables.now c.args.s ≤ c.loop-j.j = omega arith in
    let below : c.call_route-r.result < c.args.workspace.now.routes = search (rules, route_in) in
    omega arith

pub loop-j-preserved : goal.loop-j-preserved
loop-j-preserved c =
    let from : first_row calls c.args.tables.now c.args.s ≤ c.loop-j.j = omega arith in
    let step = c.activate.ensures in
    (search (rules, route_next), same_then c.loop-j.invariant.1 step.same)

pub returns : goal.returns
returns c = record { holds = search (rules, row_end); same = c.loop-j.invariant.1 }
