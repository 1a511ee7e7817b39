-- `open_round`: three operations, one after the other, are the model's `opened`.
use mathlib.Core.Path.{◌∙◌}
use Rattle.allocator.proofs.Becoming.{same_then}
use Rattle.explorer.proofs.Fixed.{fixed_same}
use Rattle.explorer_choosing.proofs.Opened.{opened_steps}
use Rattle.explorer_choosing.proofs.open_round.Goals as goal

pub choose_anew-requires : goal.choose_anew-requires
choose_anew-requires c = record { fixed = fixed_same c.swap_labels.ensures.same c.requires.fixed }

pub returns : goal.returns
returns c =
    let a = c.swap_labels.ensures in
    let b = c.choose_anew.ensures in
    let d = c.clear_marks.ensures in
    let whole = same_then a.same b.same in
    record { holds = opened_steps _ _ _ _ c.requires.fixed.net_stops (a.same.routes_same ∙ c.requires.fixed.net_routes) (whole.stops_same ∙ c.requires.fixed.net_stops) a.holds b.holds d.holds; same = same_then whole d.same }
