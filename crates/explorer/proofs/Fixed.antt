-- What stays fixed is fixed of a workspace over the same words and marks too.
use mathlib.Core.Path.{◌∙◌}
use mathlib.Core.List.{List}
use Prim.Native.Nat.{ℕ}
use Rattle.allocator.specs.Workspace.{SameSlices}
use Rattle.allocator.specs.declared.Workspace.{Workspace}
use Rattle.explorer.specs.declared.Round.{Round}
use Rattle.explorer.specs.Fixed.{Fixed, InRound}

module _ {w w' : Workspace} (s : SameSlices w w') where
  pub fixed_same : {tables : List ℕ} → Fixed tables w.stops w.routes → Fixed tables w'.stops w'.routes
  fixed_same h = record {
    searchable = h.searchable;
    net_stops = s.stops_same ∙ h.net_stops;
    net_routes = s.routes_same ∙ h.net_routes;
  }

  pub in_round_same : {tables : List ℕ} {round : Round} → InRound tables w.stops w.routes round → InRound tables w'.stops w'.routes round
  in_round_same h = record { fixed = fixed_same h.fixed; number = h.number }
