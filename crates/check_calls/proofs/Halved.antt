-- The call that names a route, found by halving a stop's calls, which ascend.
use Prim.Native.Nat.{ℕ, zero, suc, ◌+◌, ◌-◌, ◌≤◌, ◌<◌}
use mathlib.Core.Path.{◌≡◌, refl, sym, ◌∙◌}
use mathlib.Core.Bool.{Bool, true, false}
use mathlib.Core.List.{List}
use native.Mathlib.Omega.{arith}
use lib.Dec.{leb, ltb}
use borrow.Author.Tests.{ltb-true, ltb-false, leb-true, leb-false, le-leb, lt-leb, le-ltb, eqb-true}
use Rattle.base.proofs.Choice.{split, same_test, and_left}
use Rattle.base.proofs.All.{all_at}
use Rattle.base.specs.Halving.{Rising, Bracket}
use Rattle.repository.specs.Sections.{size, sec, stops, routes, rows, CALL_STARTS, CALLS, ROUTE_STOP_STARTS}
use Rattle.repository.specs.Sections.{ROUTE_STOPS, CALL_WORDS, call_route}
use Rattle.repository.specs.NetOf.{count}
use Rattle.repository.specs.Laid.{Laid}
use Rattle.repository.specs.Listed.{some, route_stops, later, ascending, calls_rise, calls, called}
use Rattle.repository.specs.Entries.{Entry}
use Rattle.check_calls.specs.Reached.{reached}
use Rattle.check_calls.proofs.Ranges.{some_shown, some_so}
use Rattle.repository.proofs.Rooms.{starts_top}
use Rattle.check_calls.proofs.Facts.{index_shown}
use Rattle.repository.proofs.Leaves.{stop_word_in}

-- ---- halves
module _ (w : List ℕ) (a r i : ℕ) {q : ℕ} (e : q ≡ call_route w (a + i)) where
  pub route_before : q < r → reached w a r i ≡ false
  unfolding reached
  route_before h = rw (← e) (lt-leb r q h)

  pub route_reached : r ≤ q → reached w a r i ≡ true
  unfolding reached
  route_reached h = rw (← e) (le-leb r q h)

pub bracket_shut : {t : ℕ → Bool} {n lo hi : ℕ} → Bracket t n lo hi → hi ≤ lo → Bracket t n lo lo
bracket_shut {t} {n} {lo} {hi} b h =
    let up = b.lo_hi in
    let e : hi ≡ lo = omega arith in
    record { lo_hi = omega arith; hi_n = omega (arith, b.hi_n); below = b.below; above = rw e at b.above }

-- ---- routes ascend
module _ (w : List ℕ) (s : ℕ) (t : calls_rise w ≡ true) (hs : s < stops w) where
  step : (j : ℕ) → sec w CALL_STARTS s + 1 ≤ j → j < sec w CALL_STARTS (s + 1) → call_route w (j - 1) < call_route w j
  unfolding calls_rise ascending later
  step j from to =
      let rise = all_at (ascending w) 0 (stops w) t s (omega arith) hs in
      ltb-true _ _ (all_at (later w) (sec w CALL_STARTS s + 1) (sec w CALL_STARTS (s + 1)) rise j from to)

  climb : (d x : ℕ) → sec w CALL_STARTS s ≤ x → x + suc d < sec w CALL_STARTS (s + 1) → call_route w x < call_route w (x + suc d)
  climb zero x from to =
      let next : x + suc 0 - 1 ≡ x = omega arith in
      rw next at (step (x + suc 0) (omega arith) to)
  climb (suc d) x from to =
      let next : x + suc (suc d) - 1 ≡ x + suc d = omega arith in
      let last : call_route w (x + suc d) < call_route w (x + suc (suc d)) =
      rw next at (step (x + suc (suc d)) (omega arith) to) in
      omega (arith, climb d x from (omega arith))

  route_later : (x y : ℕ) → sec w CALL_STARTS s ≤ x → x < y → y < sec w CALL_STARTS (s + 1) → call_route w x < call_route w y
  route_later x y from h to =
      let there : x + suc (y - suc x) ≡ y = omega arith in
      rw there at (climb (y - suc x) x from (omega arith))

-- ---- the stop at position p of route r, and its n calls from row a on
module _ {w : List ℕ} {r p s : ℕ} (l : Laid w) (t : route_stops w ≡ true) (hr : r < routes w) (hp : p < count w ROUTE_STOP_STARTS r)
    (es : s ≡ sec w ROUTE_STOPS (sec w ROUTE_STOP_STARTS r + p)) where
  stop_in : s < stops w
  unfolding route_stops
  stop_in = rw es (index_shown w ROUTE_STOPS (stops w) t (sec w ROUTE_STOP_STARTS r + p) (stop_word_in l hr hp refl))

  pub stop_word : s < size w CALL_STARTS
  stop_word = omega (arith, stop_in)

  pub stop_entry : Entry w CALL_STARTS s
  stop_entry = record { section = omega arith; next = omega (arith, stop_in); rise = l.call_starts.rise s stop_in }

  module _ {a n : ℕ} (ea : a ≡ sec w CALL_STARTS s) (en : n ≡ count w CALL_STARTS s) where
    end : a + n ≡ sec w CALL_STARTS (s + 1)
    unfolding count
    end = omega (arith, l.call_starts.rise s stop_in)

    pub calls_room : a + n ≤ rows w CALLS CALL_WORDS
    calls_room = omega (arith, end, starts_top l.call_starts (s + 1) (omega (arith, stop_in)))

    pub call_room : (i : ℕ) → i < n → a + i < rows w CALLS CALL_WORDS
    call_room i h = omega (arith, calls_room)

    module _ (u : calls_rise w ≡ true) where
      apart : (x y : ℕ) → x < y → y < n → call_route w (a + x) < call_route w (a + y)
      apart x y h g = route_later w s u stop_in (a + x) (a + y) (omega arith) (omega arith) (omega (arith, end))

      pub calls_rising : Rising (reached w a r) n
      unfolding reached
      calls_rising = record { rising = down }
        where
          down : (i j : ℕ) → i ≤ j → j < n → leb r (call_route w (a + j)) ≡ false → leb r (call_route w (a + i)) ≡ false
          down i j h g e =
              let far : call_route w (a + j) < r = leb-false r (call_route w (a + j)) e in
              split (ltb i j)
              (λ q. lt-leb r (call_route w (a + i)) (omega (arith, apart i j (ltb-true i j q) g)))
              (λ q. let same : i ≡ j = omega (arith, ltb-false i j q) in rw same e)

      rows_is : called w r p ≡ some (calls w r p) a (a + n)
      unfolding called
      rows_is = rw (← es, ← ea, ← end)

      module _ {i : ℕ} (b : Bracket (reached w a r) n i i) where
        -- the one call that can name the route is row a + i
        row_is : (x : ℕ) → a ≤ x → x < a + n → call_route w x ≡ r → x ≡ a + i
        unfolding reached
        row_is x from to e =
            let k = x - a in
            let there : a + k ≡ x = omega arith in
            let route : call_route w (a + k) ≡ r = rw there e in
            split (ltb k i)
            (λ q.
            let before : call_route w (a + k) < r = leb-false r (call_route w (a + k)) (b.below k (ltb-true k i q)) in
            absurd (omega arith))
            (λ q.
            let up : i ≤ k = ltb-false k i q in
            split (ltb i k)
            (λ o.
            let past : r ≤ call_route w (a + i) = leb-true r (call_route w (a + i)) (b.above (omega arith)) in
            absurd (omega (arith, apart i k (ltb-true i k o) (omega arith))))
            (λ o. omega (arith, ltb-false i k o)))

        here : called w r p ≡ true → (i < n) × (calls w r p (a + i) ≡ true)
        unfolding calls
        here e =
            let x = some_shown (calls w r p) a (a + n) (sym rows_is ∙ e) in
            let to = x.to in
            let route = eqb-true (call_route w x.at) r (and_left _ _ (and_left _ _ x.passes)) in
            let is : x.at ≡ a + i = row_is x.at x.from x.to route in
            (omega arith, rw is at x.passes)

        pub called_none : n ≤ i → ltb i n ≡ called w r p
        called_none h =
            le-ltb i n h ∙ split (called w r p) (λ e. let in_range_lem = (here e).0 in absurd (omega arith)) (λ e. sym e)

        pub called_there : {ok : Bool} → i < n → ok ≡ calls w r p (a + i) → ok ≡ called w r p
        called_there {ok} h is =
            same_test ok (called w r p)
            (λ e.
            rows_is
            ∙ some_so (calls w r p) a (a + n)
            (record { at = a + i; from = omega arith; to = omega arith; passes = sym is ∙ e }))
            (λ e. is ∙ (here e).1)
