-- Parts that pass together pass each, and what a later part asks of an earlier one.
use Prim.Native.Nat.{ℕ}
use mathlib.Core.Path.{◌≡◌, sym, ◌∙◌}
use mathlib.Core.Bool.{Bool, true, ◌&&◌}
use mathlib.Core.List.{List}
use Rattle.base.proofs.Choice.{and_left, and_right}
use Rattle.repository.specs.Listed.{children, route_stops, route_trips}
use Rattle.repository.specs.Listed.{trip_times, standings, stop_list, stations, framed, calls_hold, calls_rise, calls_all}
use Rattle.repository.specs.Listed.{stop_routes}

-- ---- six parts that pass together pass each
pub record Six (a b c d e f : Bool) : Type 0 where
  pub first : a ≡ true
  pub second : b ≡ true
  pub third : c ≡ true
  pub fourth : d ≡ true
  pub fifth : e ≡ true
  pub sixth : f ≡ true

module _ (a b c d e f : Bool) where
  pub six_shown : a && b && c && d && e && f ≡ true → Six a b c d e f
  six_shown h₆ =
      let h₅ = and_left (a && b && c && d && e) f h₆ in
      let h₄ = and_left (a && b && c && d) e h₅ in
      let h₃ = and_left (a && b && c) d h₄ in
      let h₂ = and_left (a && b) c h₃ in
      record {
        first = and_left a b h₂;
        second = and_right a b h₂;
        third = and_right (a && b) c h₃;
        fourth = and_right (a && b && c) d h₄;
        fifth = and_right (a && b && c && d) e h₅;
        sixth = and_right (a && b && c && d && e) f h₆;
      }

  pub six_so : Six a b c d e f → a && b && c && d && e && f ≡ true
  six_so h = rw (h.first, h.second, h.third, h.fourth, h.fifth) h.sixth

-- the rules for stops, stations and routes: six, and that of the standings
module _ (w : List ℕ) where
  abbrev six : Bool
  six = stop_list w && stations w && children w && route_stops w && route_trips w && trip_times w

  pub framed_parts : framed w ≡ true → Six (stop_list w) (stations w) (children w) (route_stops w) (route_trips w) (trip_times w)
  unfolding framed
  framed_parts e =
      six_shown (stop_list w) (stations w) (children w) (route_stops w) (route_trips w) (trip_times w) (and_left six (standings w) e)

  pub framed_standings : framed w ≡ true → standings w ≡ true
  unfolding framed
  framed_standings e = and_right six (standings w) e

  pub framed_so : Six (stop_list w) (stations w) (children w) (route_stops w) (route_trips w) (trip_times w) → standings w ≡ true
      → framed w ≡ true
  unfolding framed
  framed_so h t = rw (six_so (stop_list w) (stations w) (children w) (route_stops w) (route_trips w) (trip_times w) h) t

-- ---- what a later part asks of an earlier one
pub trips_passed : (w : List ℕ) {a : Bool} → a ≡ route_trips w → a ≡ true → route_trips w ≡ true
trips_passed w e t = sym e ∙ t

pub stops_passed : (w : List ℕ) {a : Bool} → a ≡ framed w → a ≡ true → route_stops w ≡ true
stops_passed w e t = (framed_parts w (sym e ∙ t)).fourth

pub calls_passed : (w : List ℕ) {a : Bool} → a ≡ stop_routes w → a ≡ true → calls_hold w ≡ true
unfolding stop_routes
calls_passed w e t =
    and_left (calls_hold w) (calls_rise w) (and_left (calls_hold w && calls_rise w) (calls_all w) (sym e ∙ t))
