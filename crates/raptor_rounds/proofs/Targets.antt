-- The end-of-round scan: one goal, and the loop over them.
use Prim.Native.Nat.{ℕ, ◌+◌, ◌≤◌, ◌<◌}
use mathlib.Core.Path.{◌≡◌, refl}
use mathlib.Core.Bool.{Bool, true, false}
use mathlib.Core.List.{List}
use lib.ListN.{length, get_or, drop, drop_of_length-le}
use Rattle.model.specs.declared.Direction.{Direction}
use Rattle.shared.specs.declared.Time.{Time}
use Rattle.model.specs.declared.Target.{Target}
use Rattle.model.specs.Moments.{better}
use Rattle.model.specs.Round.{aim}
use Rattle.raptor_rounds.specs.Targets.{taken}
use Rattle.base.proofs.Below.{left_at}

module _ (d : Direction) (k : ℕ) (best : List ℕ) (s : ℕ) (aimed : Target) {t : Time} {b : Bool} (et : t.0 ≡ get_or best s 0)
    (eb : b ≡ better d t.0 aimed.time.0) where
  pub taken_yes : b ≡ true → record { stop = s; round = k; time = t } ≡ taken d k best s aimed
  unfolding taken
  taken_yes e = rw (← et, ← eb, e)

  pub taken_no : b ≡ false → aimed ≡ taken d k best s aimed
  unfolding taken
  taken_no e = rw (← et, ← eb, e)

-- the scan has come to place i of the goals with the target `aimed`
pub record Scanned (d : Direction) (k : ℕ) (best goals : List ℕ) (aimed₀ aimed : Target) (i : ℕ) : Type 0 where
  pub rest : aim d k best (drop i goals) aimed ≡ aim d k best goals aimed₀

module _ {d : Direction} {k : ℕ} {best goals : List ℕ} {aimed₀ : Target} where
  pub scanned_none : Scanned d k best goals aimed₀ aimed₀ 0
  scanned_none = record { rest = refl }

  pub scanned_on : {aimed aimed' : Target} {s : ℕ} (i : ℕ) → Scanned d k best goals aimed₀ aimed i → i < length goals → s ≡ get_or goals i 0
      → aimed' ≡ taken d k best s aimed → Scanned d k best goals aimed₀ aimed' (i + 1)
  unfolding aim taken
  scanned_on {aimed} {aimed'} {s} i h lt es eu = record { rest = rw (eu, es) (rw (left_at goals i lt) at h.rest) }

  pub scanned_all : {aimed : Target} {i : ℕ} → Scanned d k best goals aimed₀ aimed i → length goals ≤ i → aimed ≡ aim d k best goals aimed₀
  unfolding aim
  scanned_all h le = rw (drop_of_length-le goals le) at h.rest
