-- A place of a query: whether it exists, whether it is barren, what is written of it.
use Prim.Native.Nat.{ℕ, suc, ◌+◌, ◌-◌, ◌≤◌}
use mathlib.Core.Path.{◌≡◌, refl, sym, ap, ◌∙◌}
use mathlib.Core.Bool.{false}
use mathlib.Core.List.{List, [], ◌∷◌, ◌++◌, append-nil}
use native.Mathlib.Omega.{arith}
use lib.Dec.{eqb}
use lib.ListN.{length, take, drop, replicate, length-append, length-drop, drop_of_length-le}
use lib.Seq.{take_at, drop-drop, length-take-le}
use borrow.Author.Tests.{ne_eqb}
use borrow.Rule.Slice.PartMut.{mid_of, put_mid, mid_len}
use Rattle.model.specs.declared.Location.{Location}
use Rattle.model.specs.declared.Location.TheVariants.{Stop, Area}
use Rattle.model.specs.Tables.{Net}
use Rattle.model.specs.Places.{barren, unserved, stops_of_area}
use Rattle.model.specs.Left.{placed}
use Rattle.raptor_query.specs.Areas.{area_part}

none_served : (ss : List ℕ) → eqb (length ss) 0 ≡ unserved ss
unfolding unserved
none_served [] = refl
none_served (s ∷ ss) = ne_eqb (suc (length ss)) 0 (λ e. omega arith)

module _ (n : Net) {l : Location} where
  pub stop_not_barren : {s : ℕ} → l ≡ Stop s → false ≡ barren n l
  unfolding barren
  stop_not_barren e = rw e

  pub area_barren : {a k : ℕ} → l ≡ Area a → k ≡ length (stops_of_area n a) → eqb k 0 ≡ barren n l
  unfolding barren
  area_barren {a} e f = rw (e, f) (none_served (stops_of_area n a))

  -- what is written
  pub stop_written : {s : ℕ} {after : List ℕ} (before : List ℕ) → l ≡ Stop s → length before ≡ n.stops → after ≡ replicate (length before) 0
      → after ≡ placed n l
  unfolding placed
  stop_written before e f g = rw e (g ∙ ap (λ (k : ℕ). replicate k 0) f)

  pub stop_none : {s : ℕ} → l ≡ Stop s → 0 ≡ length (area_part n l)
  unfolding area_part
  stop_none e = rw e

  pub area_written : {a : ℕ} {after : List ℕ} → l ≡ Area a → after ≡ placed n (Area a) → after ≡ placed n l
  area_written e f = rw e f

  pub area_all : {a k : ℕ} → l ≡ Area a → k ≡ length (stops_of_area n a) → k ≡ length (area_part n l)
  unfolding area_part
  area_all e f = rw e f

-- ---- the two halves of the places

module _ (half : ℕ) (l : List ℕ) (long : length l ≡ half + half) where
  pub half_length : half ≡ length (take half l)
  half_length = sym (length-take-le half l (omega arith))

  pub first_half : {stops : ℕ} → half ≡ stops → length (take half l) ≡ stops
  first_half e = sym half_length ∙ e

  module _ (y : List ℕ) (lent : length y ≡ length (take half l)) where
    e : length y ≡ half
    e = lent ∙ sym half_length

    whole : length (y ++ drop half l) ≡ half + half
    whole = omega (arith, e, length-append y (drop half l), length-drop half l)

    pub second_half : {stops : ℕ} → half ≡ stops → length (mid_of half (length (y ++ drop half l) - half) (y ++ drop half l)) ≡ stops
    second_half f =
        mid_len half (length (y ++ drop half l)) (y ++ drop half l) (omega arith) ∙ (let g : length (y ++ drop half l) - half ≡ half = omega (arith, whole) in g) ∙ f

    -- the second half behind the first
    pub halves : {z a b : List ℕ} → y ≡ a → z ≡ b → put_mid half (length (y ++ drop half l) - half) (y ++ drop half l) z ≡ a ++ b
    halves {z} {a} {b} f g =
        let xs = y ++ drop half l in
        let past : length xs ≤ half + (length xs - half) = omega arith in
        ap (λ (x : List ℕ). take half xs ++ (z ++ x)) (drop-drop (length xs - half) half xs ∙ drop_of_length-le xs past)
        ∙ ap (λ (x : List ℕ). take half xs ++ x) (append-nil z)
        ∙ ap (λ (x : List ℕ). x ++ z) (take_at y (drop half l) half e)
        ∙ ap (λ (x : List ℕ). x ++ z) f
        ∙ ap (λ (x : List ℕ). a ++ x) g
