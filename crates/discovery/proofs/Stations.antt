-- The stops of a stop: "parent's children; else own; else itself".
use Prim.Native.Nat.{ℕ}
use mathlib.Core.Path.{◌≡◌, ap}
use Rattle.std.specs.Prelude.{None, Some}
use mathlib.Core.List.{List, [], ◌∷◌}
use native.Mathlib.Omega.{arith}
use lib.ListN.{length}
use Rattle.model.specs.declared.Location.TheVariants.{Stop}
use Rattle.model.specs.Tables.{Net}
use Rattle.model.specs.Places.{or_itself, stops_of_stop, place_stops}

-- a list of no entries is empty, and any other is not
pub itself : (s : ℕ) (l : List ℕ) {own q : List ℕ} → own ≡ l → length own ≡ 0 → q ≡ s ∷ [] → q ≡ or_itself s l
unfolding or_itself
itself s [] e f g = g
itself s (c ∷ cs) e f g = absurd (omega (arith, ap (λ (m : List ℕ). length m) e))

pub own_ones : (s : ℕ) (l : List ℕ) {own : List ℕ} → own ≡ l → (length own ≡ 0 → ⊥) → own ≡ or_itself s l
unfolding or_itself
own_ones s [] e f = absurd (f (ap (λ (m : List ℕ). length m) e))
own_ones s (c ∷ cs) e f = e

module _ (n : Net) (s : ℕ) {q : List ℕ} where
  pub of_station : {p : ℕ} → Some p ≡ n.station s → q ≡ n.children p → q ≡ place_stops n (Stop s)
  unfolding place_stops stops_of_stop
  of_station e g = rw (← e) g

  pub of_none : None ≡ n.station s → q ≡ or_itself s (n.children s) → q ≡ place_stops n (Stop s)
  unfolding place_stops stops_of_stop
  of_none e g = rw (← e) g
