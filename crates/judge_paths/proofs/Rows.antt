-- The rows of one list or the other, one by one.
use Prim.Native.Nat.{ℕ, ◌+◌, ◌≤◌, ◌<◌}
use mathlib.Core.Path.{◌≡◌, sym, ap, ◌∙◌}
use mathlib.Core.Bool.{Bool, true, false}
use mathlib.Core.List.{List}
use Rattle.model.specs.Tables.{Foot}
use Rattle.repository.specs.NetOf.{net_of}
use Rattle.repository.specs.Rows.{first_row, past_row, rest}
use Rattle.repository.proofs.Lists.{rest_step, rest_end, transfers_are, walks_are}
use Rattle.handheld.specs.Any.{any, Sought}
use Rattle.handheld.proofs.Any.{sought_next, sought_found, sought_none}
use Rattle.judge_paths.specs.Paths.{listing_of, path_row, paths_of}

-- ---- the walk from one row to the next
module _ (walk : Bool) (w : List ℕ) (s : ℕ) {a b : ℕ} where
  paths_are : a ≡ first_row (listing_of walk) w s → b ≡ past_row (listing_of walk) w s → paths_of walk (net_of w) s ≡ rest (path_row walk w) a b
  unfolding listing_of path_row paths_of
  paths_are = go walk
    where
      go : (walk : Bool) → a ≡ first_row (listing_of walk) w s → b ≡ past_row (listing_of walk) w s
          → paths_of walk (net_of w) s ≡ rest (path_row walk w) a b
      go true e f = walks_are w s e f
      go false e f = transfers_are w s e f

  pub rows_start : (f : Foot → Bool) → a ≡ first_row (listing_of walk) w s → b ≡ past_row (listing_of walk) w s
      → Sought f (any f (paths_of walk (net_of w) s)) (rest (path_row walk w) a b)
  rows_start f e h = record { rest = ap (any f) (sym (paths_are e h)) }

module _ {A : Type 0} {f : A → Bool} {goal : Bool} (r : ℕ → A) (j b : ℕ) (h : Sought f goal (rest r j b)) where
  pub rows_next : {x : Bool} → j < b → x ≡ f (r j) → x ≡ false → Sought f goal (rest r (j + 1) b)
  rows_next l e t = sought_next h (rest_step r l) (sym e ∙ t)

  pub rows_found : {x : Bool} → j < b → x ≡ f (r j) → x ≡ true → true ≡ goal
  rows_found l e t = sought_found h (rest_step r l) (sym e ∙ t)

  pub rows_none : b ≤ j → false ≡ goal
  rows_none l = sought_none h (rest_end r l)
