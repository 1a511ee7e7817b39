-- Networks that are alike are the same as far as they exist, and so are answered alike. `Alike` compares lists, which compute.
use Prim.Native.Nat.{ℕ, ◌<◌}
use mathlib.Core.Path.{◌≡◌, sym, ap, ◌∙◌}
use mathlib.Core.Bool.{Bool}
use mathlib.Core.List.{List}
use lib.ListN.{get_or}
use Rattle.base.specs.Tab.{tab}
use Rattle.base.proofs.Tab.{tab_at}
use Rattle.model.specs.declared.Query.{Query}
use Rattle.model.specs.Tables.{Net}
use Rattle.model.specs.Answer.{answer}
use Rattle.model.specs.Sound.{Sound, SoundPlaces}
use Rattle.model.specs.Alike.{Alike}
use Rattle.model.specs.Same.{Same, SamePlaces}
use Rattle.model.proofs.SameAnswer.{answer_same}

-- lists of values are the same where each value is
tabs_at : {A : Type 0} (f g : ℕ → A) (n : ℕ) → tab f n 0 ≡ tab g n 0 → (j : ℕ) → j < n → f j ≡ g j
tabs_at {A} f g n e j h =
    sym (tab_at f n j (f 0) h) ∙ ap (λ (l : List A). get_or l j (f 0)) e ∙ tab_at g n j (f 0) h

module _ {n m : Net} (a : Alike n m) where
  pub alike_same : Same n m
  alike_same = record {
    stops = a.stops;
    routes = a.routes;
    positions = tabs_at _ _ n.routes a.positions;
    stop_at_lem = λ r p hr hp. tabs_at _ _ (n.positions r) (tabs_at _ _ n.routes a.stop_at r hr) p hp;
    trips = tabs_at _ _ n.routes a.trips;
    trip_at_lem = λ r i hr hi. tabs_at _ _ (n.trips r) (tabs_at _ _ n.routes a.trip_at r hr) i hi;
    arrival = λ r i p hr hi hp. tabs_at _ _ (n.positions r) (tabs_at _ _ (n.trips r) (tabs_at _ _ n.routes a.arrival r hr) i hi) p hp;
    departure = λ r i p hr hi hp. tabs_at _ _ (n.positions r) (tabs_at _ _ (n.trips r) (tabs_at _ _ n.routes a.departure r hr) i hi) p hp;
    routes_of_lem = tabs_at _ _ n.stops a.routes_of;
    transfers = tabs_at _ _ n.stops a.transfers;
    walks = tabs_at _ _ n.stops a.walks;
  }

  pub alike_places : SamePlaces n m
  alike_places = record {
    areas = a.areas;
    station = tabs_at _ _ n.stops a.station;
    children = tabs_at _ _ n.stops a.children;
    served = tabs_at _ _ n.stops a.served;
    area_stops_lem = tabs_at _ _ n.areas a.area_stops;
  }

  -- every query, buffer and workspace gets the same answer
  pub alike_answered : Sound n → SoundPlaces n → (q : Query) (fault : ℕ) (sized : Bool) (room : ℕ)
      → answer fault sized n q room ≡ answer fault sized m q room
  alike_answered ok places q fault sized room = answer_same alike_same alike_places ok places q fault sized room
