-- The rows of a stop as the network's lists: what a loop over rows needs, with no word on where the rows stand.
use Prim.Native.Nat.{ℕ, suc, ◌+◌, ◌-◌, ◌≤◌, ◌<◌}
use mathlib.Core.Path.{◌≡◌}
use mathlib.Core.List.{List, [], ◌∷◌, Memᴰ}
use native.Mathlib.Omega.{arith}
use native.Mathlib.Numerals.{add-one}
use Rattle.base.specs.Tab.{tab}
use Rattle.repository.specs.Sections.{call_route}
use Rattle.repository.specs.NetOf.{count, list_of, transfer_row, walk_row, net_of}
use Rattle.repository.specs.Rows.{calls, transfers, walks, starts_of, first_row, past_row, rest}
use Rattle.repository.proofs.Tabs.{Said, tab_said, tab_says}

-- ---- the rows from j up to b: one more, and none

module _ {A : Type 0} (f : ℕ → A) where
  pub rest_step : {j b : ℕ} → j < b → rest f j b ≡ f j ∷ rest f (j + 1) b
  unfolding rest tab
  rest_step {j} {b} l = let more : b - j ≡ suc (b - (j + 1)) = omega arith in rw (more, add-one, tab)

  pub rest_end : {j b : ℕ} → b ≤ j → rest f j b ≡ []
  unfolding rest tab
  rest_end {j} {b} l = let none : b - j ≡ 0 = omega arith in rw none

-- ---- the lists of a stop

module _ (w : List ℕ) (s : ℕ) {a b : ℕ} where
  pub calls_are : a ≡ first_row calls w s → b ≡ past_row calls w s → (net_of w).routes_of s ≡ rest (call_route w) a b
  unfolding net_of list_of count rest first_row past_row starts_of
  calls_are e f = rw (e, f)

  pub transfers_are : a ≡ first_row transfers w s → b ≡ past_row transfers w s
      → (net_of w).transfers s ≡ rest (transfer_row w) a b
  unfolding net_of list_of count rest first_row past_row starts_of
  transfers_are e f = rw (e, f)

  pub walks_are : a ≡ first_row walks w s → b ≡ past_row walks w s → (net_of w).walks s ≡ rest (walk_row w) a b
  unfolding net_of list_of count rest first_row past_row starts_of
  walks_are e f = rw (e, f)

-- ---- what stands in such a list is what a row says

module _ {A : Type 0} (f : ℕ → A) {x : A} where
  pub rest_said : (a b : ℕ) → Memᴰ x (rest f a b) → Said f a b x
  unfolding rest
  rest_said a b m =
      let y = tab_said f (b - a) a m in
      record { row = y.row; from = y.from; past = omega (arith, y.from, y.past); says = y.says }

  pub rest_says : (a b : ℕ) → Said f a b x → Memᴰ x (rest f a b)
  unfolding rest
  rest_says a b y =
      tab_says f (b - a) a
      (record { row = y.row; from = y.from; past = omega (arith, y.from, y.past); says = y.says })
