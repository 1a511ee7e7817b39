-- Network N as another loader could write it, with other numbers behind its last stop, route, trip and position: they change no answer.
use Prim.Native.Nat.{ℕ}
use mathlib.Core.Path.{◌≡◌, refl}
use mathlib.Core.Bool.{Bool, true}
use mathlib.Core.Logic.{◌≢◌}
use Rattle.std.specs.Prelude.{None, Some}
use mathlib.Core.List.{List, [], ◌∷◌}
use native.Mathlib.Omega.{arith}
use lib.ListN.{get_or}
use Rattle.base.specs.Tab.{tab}
use Rattle.model.specs.declared.Query.{Query}
use Rattle.model.specs.Tables.{Net}
use Rattle.model.specs.Answer.{answer}
use Rattle.model.specs.Alike.{Alike}
use Rattle.model.proofs.Examples.{N, N_with, net, no_route, no_trip, among, serving, passed, naming, all_trips, trips_before}
use Rattle.model.proofs.SoundN.{N_sound, N_sound_places}
use Rattle.model.specs.Same.{Same, SamePlaces}
use Rattle.model.proofs.Alike.{alike_same, alike_places, alike_answered}

-- entry j of row i, and 77 where there is none
abbrev at : List (List ℕ) → ℕ → ℕ → ℕ
at rows i j = get_or (get_or rows i []) j 77

abbrev pub N_beyond : Net
N_beyond = record {
  stops = 5;
  routes = 2;
  positions = λ r. get_or (3 ∷ 2 ∷ []) r 77;
  stop_at = at ((0 ∷ 1 ∷ 2 ∷ []) ∷ (3 ∷ 4 ∷ []) ∷ []);
  trips = λ r. get_or (2 ∷ 2 ∷ []) r 77;
  trip_at = at ((0 ∷ 1 ∷ []) ∷ (2 ∷ 3 ∷ []) ∷ []);
  arrival = at ((100 ∷ 200 ∷ 300 ∷ []) ∷ (400 ∷ 500 ∷ 600 ∷ []) ∷ (350 ∷ 450 ∷ []) ∷ (650 ∷ 750 ∷ []) ∷ []);
  departure = at ((100 ∷ 210 ∷ 300 ∷ []) ∷ (400 ∷ 510 ∷ 600 ∷ []) ∷ (350 ∷ 450 ∷ []) ∷ (650 ∷ 750 ∷ []) ∷ []);
  routes_of = λ s. get_or ((0 ∷ []) ∷ (0 ∷ []) ∷ (0 ∷ []) ∷ (1 ∷ []) ∷ (1 ∷ []) ∷ []) s (77 ∷ []);
  transfers = λ s. get_or ([] ∷ [] ∷ (record { to = 3; span = 30 } ∷ []) ∷ [] ∷ [] ∷ []) s (record { to = 77; span = 0 } ∷ []);
  walks = λ s. get_or ([] ∷ [] ∷ [] ∷ [] ∷ [] ∷ []) s (record { to = 77; span = 0 } ∷ []);
  station = λ s. get_or (None ∷ None ∷ None ∷ None ∷ None ∷ []) s (Some 77);
  children = λ s. get_or ([] ∷ [] ∷ [] ∷ [] ∷ [] ∷ []) s (77 ∷ []);
  served = λ s. true;
  areas = 0;
  area_stops = λ a. 77 ∷ [];
}

pub N_beyond_alike : Alike N N_beyond
unfolding tab N N_with net no_route no_trip among serving passed naming all_trips trips_before
N_beyond_alike = record {
  stops = refl;
  routes = refl;
  positions = refl;
  trips = refl;
  stop_at = refl;
  trip_at = refl;
  arrival = refl;
  departure = refl;
  routes_of = refl;
  transfers = refl;
  walks = refl;
  station = refl;
  children = refl;
  served = refl;
  areas = refl;
  area_stops = refl;
}

-- they are not the same functions: route 0 has no position 3
pub N_beyond_differs : N.stop_at 0 3 ≢ N_beyond.stop_at 0 3
unfolding N N_with net no_route
N_beyond_differs e = omega arith

-- so far as they exist they are
pub N_beyond_same : Same N N_beyond
N_beyond_same = alike_same N_beyond_alike

pub N_beyond_places : SamePlaces N N_beyond
N_beyond_places = alike_places N_beyond_alike

pub N_beyond_answered : (q : Query) (fault : ℕ) (sized : Bool) (room : ℕ)
    → answer fault sized N q room ≡ answer fault sized N_beyond q room
N_beyond_answered = alike_answered N_beyond_alike N_sound N_sound_places
