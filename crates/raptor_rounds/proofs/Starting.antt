-- The loop over the start stops: each is labelled and marked.
use Prim.Native.Nat.{ℕ, ◌+◌, ◌≤◌, ◌<◌}
use mathlib.Core.Path.{◌≡◌, refl}
use mathlib.Core.List.{List}
use lib.ListN.{length, get_or, drop, drop_of_length-le}
use Rattle.model.specs.Work.{Work}
use Rattle.allocator.specs.Operations.{started}
use Rattle.allocator.specs.Repeated.{started_all}
use Rattle.base.proofs.Below.{left_at}

-- the loop has come to place i of the start stops
pub record Starting (t : ℕ) (ss : List ℕ) (w₀ w : Work) (i : ℕ) : Type 0 where
  pub rest : started_all t (drop i ss) w ≡ started_all t ss w₀

module _ {t : ℕ} {ss : List ℕ} {w₀ : Work} where
  pub starting_none : Starting t ss w₀ w₀ 0
  starting_none = record { rest = refl }

  pub starting_on : {w u : Work} {s : ℕ} (i : ℕ) → Starting t ss w₀ w i → i < length ss → s ≡ get_or ss i 0 → u ≡ started s t w
      → Starting t ss w₀ u (i + 1)
  unfolding started_all
  starting_on i h lt es eu = record { rest = rw (eu, es) (rw (left_at ss i lt) at h.rest) }

  pub starting_all : {w : Work} {i : ℕ} → Starting t ss w₀ w i → length ss ≤ i → w ≡ started_all t ss w₀
  unfolding started_all
  starting_all h le = rw (drop_of_length-le ss le) at h.rest
