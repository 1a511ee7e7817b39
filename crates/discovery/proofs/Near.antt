-- Steps around a place: each narrows the bracket in which the first trip in time stands.
use Prim.Native.Nat.{ℕ, ◌+◌, ◌-◌, ◌≤◌, ◌<◌}
use mathlib.Core.Path.{◌≡◌, sym, ap, ◌∙◌}
use mathlib.Core.Bool.{Bool, true, false, false≢true}
use mathlib.Core.List.{List}
use native.Mathlib.Omega.{arith}
use Rattle.base.specs.Halving.{Bracket}
use Rattle.base.proofs.Halving.{bracket_none, bracket_up, bracket_down, bracket_done}
use Rattle.model.specs.Tables.{Net}
use Rattle.repository.specs.Readable.{Readable, Searchable}
use Rattle.repository.proofs.Asked.{searchable_readable}
use Rattle.repository.specs.NetOf.{net_of}
use Rattle.repository.specs.Rows.{Stands}
use Rattle.repository.proofs.Trips.{place_of_trip, stands}
use Rattle.discovery.specs.Trips.{Along, not_before, first_not_before}
use Rattle.discovery.proofs.Tests.{not_before_rising}

-- what the tables say along a route
pub along : {w : List ℕ} {r p : ℕ} → Searchable w → r < (net_of w).routes → p < (net_of w).positions r → Along w r p
along h i l = record { known = λ u. h; route = i; position = l }

module _ {w : List ℕ} {r p : ℕ} (z : Along w r p) where
  pub along_readable : Readable w
  along_readable = searchable_readable (z.known tt)

  pub along_stands : {i v : ℕ} → i < (net_of w).trips r → v ≡ (net_of w).trip_at r i → Stands w v p
  along_stands l e = stands (z.known tt) z.route (place_of_trip l e) z.position

module _ (w : List ℕ) (r p x : ℕ) where
  abbrev n : Net
  n = net_of w

  abbrev Around : ℕ → ℕ → Type 0
  Around lo hi = Bracket (not_before n r p x) (n.trips r) lo hi

  -- the whole route
  pub whole : {m : ℕ} → m ≡ n.trips r → Around 0 m
  whole e = bracket_none e

  -- a bracket that is closed holds the place
  pub closed : {i j : ℕ} → Around i j → i ≡ j → j ≡ first_not_before n r p x
  unfolding first_not_before
  closed b e = sym e ∙ bracket_done b (omega arith)

  pub closed_first : {hi : ℕ} → Around 0 hi → hi ≡ 0 → 0 ≡ first_not_before n r p x
  closed_first b e = sym e ∙ closed b (sym e)

  -- the test at i was read as b
  module _ (i : ℕ) {b : Bool} (e : b ≡ not_before n r p x i) where
    pub step_down : {lo hi : ℕ} → Around lo hi → lo ≤ i → i < hi → b ≡ true → Around lo i
    step_down h l g t = bracket_down h l g (sym e ∙ t)

    pub step_up : {lo hi : ℕ} → Along w r p → Around lo hi → i < hi → b ≡ false → Around (i + 1) hi
    step_up z h g t =
        bracket_up (not_before_rising n r p x (z.known tt).ordered z.route z.position) h g (sym e ∙ t)

    pub begin_up : {m : ℕ} → Along w r p → m ≡ n.trips r → i < m → b ≡ false → Around (i + 1) m
    begin_up k f g t = step_up k (whole f) g t

    -- the one before the bracket's end passes
    pub step_before : {hi : ℕ} → Around 0 hi → i ≡ hi - 1 → (hi ≡ 0 → ⊥) → b ≡ true → Around 0 i
    step_before h f z t = step_down h (omega arith) (omega arith) t

    -- the bracket's first fails
    pub step_after : {lo hi : ℕ} → Along w r p → Around lo hi → (lo ≡ hi → ⊥) → i ≡ lo → b ≡ false
        → Around (lo + 1) hi
    step_after k h z f t = rw f at (step_up k h (omega (arith, h.lo_hi)) t)

    -- the one before the bracket's end fails
    pub stop_down : {hi : ℕ} → Along w r p → Around 0 hi → i ≡ hi - 1 → (hi ≡ 0 → ⊥) → b ≡ false
        → hi ≡ first_not_before n r p x
    stop_down {hi} k h f z t = let m : Around (i + 1) hi = step_up k h (omega arith) t in closed m (omega arith)

    -- the bracket's first passes
    pub stop_up : {lo hi : ℕ} → Around lo hi → (lo ≡ hi → ⊥) → i ≡ lo → b ≡ true → lo ≡ first_not_before n r p x
    stop_up h z f t = sym f ∙ closed (step_down h (omega arith) (omega (arith, h.lo_hi)) t) (sym f)

  -- the test at i fails, and at j, not before it, passes
  pub step_both : (i j : ℕ) {a b : Bool} {lo hi : ℕ} → a ≡ not_before n r p x i → b ≡ not_before n r p x j → Along w r p → Around lo hi → i ≤ j → j < hi → a ≡ false → b ≡ true → Around (i + 1) j
  step_both i j {a} {b} e f k h l g u t =
      let apart : i ≡ j → ⊥ = λ s. false≢true (sym u ∙ e ∙ ap (not_before n r p x) s ∙ sym f ∙ t) in
      step_down j f (step_up i e k h (omega arith) u) (omega arith) g t

  -- a place that a step looks at is one of the route
  pub in_down : {hi : ℕ} → Around 0 hi → (hi ≡ 0 → ⊥) → hi - 1 < n.trips r
  in_down h z = omega (arith, h.hi_n)

  pub in_up : {lo hi : ℕ} → Around lo hi → (lo ≡ hi → ⊥) → lo < n.trips r
  in_up h z = omega (arith, h.lo_hi, h.hi_n)
