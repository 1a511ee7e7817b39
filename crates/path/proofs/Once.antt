-- Legs that are put as they are found: each byte of the journey is put once, no other byte is, and what stands there is the journey in
-- riding order. The promises stand at the end, under "What is promised".
-- Assumes nothing.
use Prim.Native.Nat.{ℕ, ◌+◌, ◌≤◌, ◌<◌}
use mathlib.Core.Path.{◌≡◌, refl, sym, ap, subst, ◌∙◌}
use mathlib.Core.Bool.{cond, ◌&&◌}
use mathlib.Core.List.{List, [], ◌∷◌, ◌++◌, reverse, reverse-cons}
use native.Mathlib.Omega.{arith}
use native.Mathlib.Nat.{zero-add, add-zero}
use lib.ListN.{length, get_or, drop, take-append-drop}
use lib.Dec.{leb, ltb}
use borrow.Author.Tests.{le-leb, lt-leb, lt-ltb, le-ltb, leb-true, leb-false, ltb-true, ltb-false}
use Rattle.base.specs.Each.{Each, nil, cons}
use Rattle.base.specs.Put.{with_bytes}
use Rattle.base.proofs.Choice.{split}
use Rattle.base.proofs.Put.{put_length, put_before, put_behind, put_first, put_next}
use Rattle.model.specs.declared.Direction.{Direction}
use Rattle.model.specs.declared.Direction.TheVariants.{Departure, Arrival}
use Rattle.model.specs.declared.Leg.{Leg}
use Rattle.model.specs.Back.{in_order}
use Rattle.model.specs.Bytes.{write_leg, write, leg_size, size_of}
use Rattle.model.proofs.ReadBack.{leg_length}
use Rattle.path.specs.Once.{Put, InBuffer, ridden_before, places_of, put_all, placed_back, covers, times_put, FromEnd, none, next}
use Rattle.path.proofs.Order.{write_last, order_none, order_size}

-- ---- how often a byte is put
-- 1 where i stands from a up to below e
abbrev one_in : ℕ → ℕ → ℕ → ℕ
one_in a e i = cond (leb a i && ltb i e) 1 0

module _ (a e i : ℕ) where
  in_low : i < a → one_in a e i ≡ 0
  in_low h = rw (lt-leb a i h) refl

  in_high : e ≤ i → one_in a e i ≡ 0
  in_high h = split (leb a i) (λ t. rw (t, le-ltb i e h) refl) (λ f. rw f refl)

  in_one : a ≤ i → i < e → one_in a e i ≡ 1
  in_one h k = rw (le-leb a i h, lt-ltb i e k) refl

-- two stretches that meet are one
meet : (a m e i : ℕ) → a ≤ m → m ≤ e → one_in a m i + one_in m e i ≡ one_in a e i
meet a m e i h k = split (ltb i m) (λ t. below (ltb-true i m t)) (λ f. above (ltb-false i m f))
  where
    below : i < m → one_in a m i + one_in m e i ≡ one_in a e i
    below l =
        let right = in_low m e i l in
        split (leb a i)
        (λ t. let u = leb-true a i t in omega (arith, right, in_one a m i u l, in_one a e i u (omega arith)))
        (λ f. let u = leb-false a i f in omega (arith, right, in_low a m i u, in_low a e i u))

    above : m ≤ i → one_in a m i + one_in m e i ≡ one_in a e i
    above l =
        let left = in_high a m i l in
        split (ltb i e)
        (λ t. let u = ltb-true i e t in omega (arith, left, in_one m e i l u, in_one a e i (omega arith) u))
        (λ f. let u = ltb-false i e f in omega (arith, left, in_high m e i u, in_high a e i u))

-- ---- a leg of n bytes, and `left` bytes of legs left to find: together they take n + left bytes from `start` on
abbrev start : Direction → ℕ → ℕ
start d found = ridden_before d found 0

module _ (n left : ℕ) where
  -- byte i is one of them where it is the leg's, or one of those that are left, and never both
  apart : (d : Direction) (found i : ℕ)
      → one_in (ridden_before d found left) (ridden_before d found left + n) i + one_in (start d (found + n)) (start d (found + n) + left) i
      ≡ one_in (start d found) (start d found + (n + left)) i
  apart Departure found i =
      let e : 0 + (n + left) ≡ left + n = omega arith in
      rw (zero-add left, e) (omega (arith, meet 0 left (left + n) i (omega arith) (omega arith)))
  apart Arrival found i =
      let e : found + (n + left) ≡ found + n + left = omega arith in
      rw e (meet found (found + n) (found + n + left) i (omega arith) (omega arith))

  leg_in : (d : Direction) (found : ℕ) → ridden_before d found left + n ≤ start d found + (n + left)
  leg_in Departure found = omega arith
  leg_in Arrival found = omega arith

  rest_in : (d : Direction) (found : ℕ) → start d (found + n) + left ≤ start d found + (n + left)
  rest_in Departure found = omega arith
  rest_in Arrival found = omega arith

-- the leg put to its place, and then those that are left as one part, are all of them as one part
joined : (d : Direction) (found : ℕ) (g : Leg) (gs : List Leg) (b : List ℕ) → start d found + (leg_size g.kind + size_of gs) ≤ length b
    → with_bytes (with_bytes b (ridden_before d found (size_of gs)) (write_leg g)) (start d (found + leg_size g.kind)) (write (in_order d gs))
    ≡ with_bytes b (start d found) (write (in_order d (g ∷ gs)))
unfolding in_order write
joined Departure found g gs b h =
    let p = write (reverse gs) in
    let long : size_of gs ≡ 0 + length p = omega (arith, order_size Departure gs) in
    let last : write (reverse (g ∷ gs)) ≡ p ++ write_leg g = ap write (reverse-cons g gs) ∙ write_last (reverse gs) g in
    rw (long, last) (put_first b 0 p (omega (arith, long)) (write_leg g))
joined Arrival found g gs b h =
    let long : found + leg_size g.kind ≡ found + length (write_leg g) = omega (arith, leg_length g) in
    rw long (put_next b found (write_leg g) (omega (arith, leg_length g)) (write gs))

-- ---- all legs
module _ (d : Direction) where
  times : (found : ℕ) (gs : List Leg) (i : ℕ) → times_put (places_of d found gs) i ≡ one_in (start d found) (start d found + size_of gs) i
  unfolding places_of times_put covers size_of
  times found [] i =
      let a = start d found in
      sym (split (ltb i a) (λ t. in_low a (a + 0) i (ltb-true i a t)) (λ f. in_high a (a + 0) i (omega (arith, ltb-false i a f))))
  times found (g ∷ gs) i =
      let n = leg_size g.kind in
      rw (leg_length g, times (found + n) gs i) (apart n (size_of gs) d found i)

  put_none : (b : List ℕ) (a : ℕ) → with_bytes b a (write (in_order d [])) ≡ b
  unfolding with_bytes
  put_none b a = rw (order_none d, add-zero a) (take-append-drop a b)

  all_put : (found : ℕ) (gs : List Leg) (b : List ℕ) → start d found + size_of gs ≤ length b
      → put_all (places_of d found gs) b ≡ with_bytes b (start d found) (write (in_order d gs))
  unfolding places_of put_all size_of
  all_put found [] b h = sym (put_none b (start d found))
  all_put found (g ∷ gs) b h =
      let n = leg_size g.kind in
      let at = ridden_before d found (size_of gs) in
      let long = put_length b at (write_leg g) (omega (arith, h, leg_length g, leg_in n (size_of gs) d found)) in
      all_put (found + n) gs (with_bytes b at (write_leg g)) (omega (arith, h, long, rest_in n (size_of gs) d found)) ∙ joined d found g gs b h

  within : (found : ℕ) (gs : List Leg) (room : ℕ) → start d found + size_of gs ≤ room → Each (InBuffer room) (places_of d found gs)
  unfolding places_of size_of
  within found [] room h = nil
  within found (g ∷ gs) room h =
      let n = leg_size g.kind in
      let l : ridden_before d found (size_of gs) + length (write_leg g) ≤ room =
      omega (arith, h, leg_length g, leg_in n (size_of gs) d found) in
      cons l (within (found + n) gs room (omega (arith, h, rest_in n (size_of gs) d found)))

  -- before the first leg nothing is ridden
  none_before : start d 0 ≡ 0
  none_before = go d
    where
      go : (d : Direction) → start d 0 ≡ 0
      go Departure = refl
      go Arrival = refl

-- ---- what is not counted
uncovered : (p : Put) (b : List ℕ) (i : ℕ) → InBuffer (length b) p → covers p i ≡ 0
    → get_or (with_bytes b p.at (write_leg p.leg)) i 0 ≡ get_or b i 0
unfolding covers
uncovered p b i h z =
    let a = p.at in
    let e = a + length (write_leg p.leg) in
    split (leb a i)
    (λ t.
    split (ltb i e)
    (λ u. absurd (omega (arith, z, in_one a e i (leb-true a i t) (ltb-true i e u))))
    (λ u. put_behind b a (write_leg p.leg) h i (ltb-false i e u)))
    (λ f. put_before b a (write_leg p.leg) h i (leb-false a i f))

-- ---- What is promised

-- "put every leg at its final place": the legs, each put as it is found, are the journey in riding order; bytes past it stay
pub placed_once : (d : Direction) (gs : List Leg) (b : List ℕ) → size_of gs ≤ length b
    → placed_back d gs b ≡ write (in_order d gs) ++ drop (size_of gs) b
unfolding placed_back with_bytes
placed_once d gs b h =
    let z = none_before d in
    all_put d 0 gs b (omega (arith, z, h)) ∙ rw (z, zero-add _, order_size d gs)

-- "Write each leg once": every byte below the journey's length belongs to one leg and is put once, and no other byte is put
pub places_apart : (d : Direction) (gs : List Leg) (i : ℕ) → times_put (places_of d 0 gs) i ≡ cond (ltb i (size_of gs)) 1 0
places_apart d gs i = times d 0 gs i ∙ rw (none_before d, zero-add (size_of gs), le-leb 0 i (omega arith))

-- no leg is put past the buffer
pub places_within : (d : Direction) (gs : List Leg) (room : ℕ) → size_of gs ≤ room → Each (InBuffer room) (places_of d 0 gs)
places_within d gs room h = within d 0 gs room (omega (arith, none_before d, h))

-- a count of 0 says that the byte stays as it was, whatever is put
pub uncounted_stays : (ps : List Put) (b : List ℕ) (i : ℕ) → Each (InBuffer (length b)) ps → times_put ps i ≡ 0
    → get_or (put_all ps b) i 0 ≡ get_or b i 0
unfolding times_put put_all
uncounted_stays [] b i nil z = refl
uncounted_stays (p ∷ ps) b i (cons l h) z =
    let y = with_bytes b p.at (write_leg p.leg) in
    let long : length y ≡ length b = put_length b p.at (write_leg p.leg) l in
    uncounted_stays ps y i (subst (λ (room : ℕ). Each (InBuffer room) ps) (sym long) h) (omega (arith, z))
    ∙ uncovered p b i l (omega (arith, z))

-- "For a departure query the legs come out last first": each ends where the leg found before it begins, and the first that is found ends
-- the journey
pub last_first : (gs : List Leg) → FromEnd (size_of gs) (places_of Departure 0 gs)
unfolding places_of size_of
last_first gs = go 0 gs
  where
    go : (found : ℕ) (gs : List Leg) → FromEnd (size_of gs) (places_of Departure found gs)
    go found [] = none
    go found (g ∷ gs) =
        let e : leg_size g.kind + size_of gs ≡ size_of gs + length (write_leg g) = omega (arith, leg_length g) in
        rw e (next (go (found + leg_size g.kind) gs))
