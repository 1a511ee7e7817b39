-- A text written part by part: what is written so far is its front, and what is left its rest.
-- Assumes nothing.
use Prim.Native.Nat.{ℕ, ◌+◌, ◌^◌, ◌≤◌, ◌<◌}
use mathlib.Core.Path.{◌≡◌, refl, sym, ap, ◌∙◌}
use mathlib.Core.List.{List, [], ◌∷◌, ◌++◌, append_assoc, append-nil}
use native.Mathlib.Omega.{arith}
use lib.ListN.{length, set, take, drop, length-append, length-drop, take-append-drop}
use lib.Seq.{length-take-le, take_all, take_at, drop_at, drop-append-add, drop-drop}
use Rattle.base.specs.Put.{with_bytes}
use Rattle.base.proofs.Put.{put_then, put_one, put_length}
use Rattle.gtfs_write.specs.Written.{cell}

pub record Filled (text b₀ b : List ℕ) (at : ℕ) (rest : List ℕ) : Type 0 where
  pub room : length text ≤ length b₀
  pub inside : at ≤ length text
  pub long : length b ≡ length b₀
  left : drop at text ≡ rest
  so_far : b ≡ with_bytes b₀ 0 (take at text)

module _ {text b₀ b : List ℕ} {at : ℕ} where
  -- what is left is as long as there is to write
  pub filled_left : {rest : List ℕ} → Filled text b₀ b at rest → at + length rest ≡ length text
  filled_left f = omega (arith, length-drop at text, ap length f.left, f.inside)

  pub filled_room : (p rest : List ℕ) → Filled text b₀ b at (p ++ rest) → at + length p ≤ length b
  filled_room p rest f = omega (arith, filled_left f, length-append p rest, f.long, f.room)

  pub filled_next : (p rest : List ℕ) {x : List ℕ} {e : ℕ} → Filled text b₀ b at (p ++ rest) → e ≡ at + length p → x ≡ with_bytes b at p
      → Filled text b₀ x e rest
  filled_next p rest {x} {e} f q r =
      let d = take at text in
      let dl : length d ≡ at = length-take-le at text f.inside in
      let zero_dl : at ≡ 0 + length d = omega arith in
      let all : (d ++ p) ++ rest ≡ text =
      append_assoc d p rest ∙ ap (λ (t : List ℕ). d ++ t) (sym f.left) ∙ take-append-drop at text in
      let l : length (d ++ p) ≡ e = omega (arith, length-append d p) in
      let t : take e text ≡ d ++ p = ap (λ (v : List ℕ). take e v) (sym all) ∙ take_at (d ++ p) rest e l in
      record {
        room = f.room;
        inside = omega (arith, filled_left f, length-append p rest);
        long = ap length r ∙ put_length b at p (filled_room p rest f) ∙ f.long;
        left = ap (λ (v : List ℕ). drop e v) (sym all) ∙ drop_at (d ++ p) rest e l;
        so_far = rw t (put_then b₀ 0 d p (omega (arith, f.room, f.inside)) f.so_far (r ∙ ap (λ (i : ℕ). with_bytes b i p) zero_dl));
      }

  pub filled_end : Filled text b₀ b at [] → b ≡ with_bytes b₀ 0 text
  filled_end f = f.so_far ∙ ap (λ (t : List ℕ). with_bytes b₀ 0 t) (take_all at text (omega (arith, filled_left f)))

-- ---- a text whose front stands there already
at_front : (b t : List ℕ) → with_bytes b 0 t ≡ t ++ drop (length t) b
unfolding with_bytes
at_front b t = let e : 0 + length t ≡ length t = omega arith in rw e

module _ (p b : List ℕ) where
  behind : (q : List ℕ) → drop (length (p ++ q)) (with_bytes b 0 p) ≡ drop (length (p ++ q)) b
  behind q = rw (at_front b p, length-append p q) (drop-append-add p (drop (length p) b) (length q) ∙ drop-drop (length q) (length p) b)

  -- the front is written once more, and nothing changes
  over : (q : List ℕ) → with_bytes (with_bytes b 0 p) 0 (p ++ q) ≡ with_bytes b 0 (p ++ q)
  over q = at_front (with_bytes b 0 p) (p ++ q) ∙ ap (λ (t : List ℕ). (p ++ q) ++ t) (behind q) ∙ sym (at_front b (p ++ q))

  pub filled_head : (rest : List ℕ) {x : List ℕ} {at : ℕ} → at ≡ length p → length (p ++ rest) ≤ length b → x ≡ with_bytes b 0 p
      → Filled (p ++ rest) x x at rest
  filled_head rest {x} {at} e h f =
      let l = length-append p rest in
      let t : take at (p ++ rest) ≡ p = take_at p rest at (sym e) in
      let o : with_bytes (with_bytes b 0 p) 0 (p ++ []) ≡ with_bytes b 0 (p ++ []) = over [] in
      let again : with_bytes (with_bytes b 0 p) 0 p ≡ with_bytes b 0 p = rw (append-nil p) at o in
      record {
        room = omega (arith, ap length f ∙ put_length b 0 p (omega (arith, l)));
        inside = omega (arith, l);
        long = refl;
        left = drop_at p rest at (sym e);
        so_far = f ∙ sym again ∙ ap (λ (y : List ℕ). with_bytes y 0 p) (sym f) ∙ ap (λ (y : List ℕ). with_bytes x 0 y) (sym t);
      }

  pub filled_over : (rest : List ℕ) {x y : List ℕ} → x ≡ with_bytes b 0 p → y ≡ with_bytes x 0 (p ++ rest) → y ≡ with_bytes b 0 (p ++ rest)
  filled_over rest f g = g ∙ ap (λ (x : List ℕ). with_bytes x 0 (p ++ rest)) f ∙ over rest

-- ---- two parts that meet
module _ (at : ℕ) (p q : List ℕ) where
  pub meet_first : {n : ℕ} → at + length (p ++ q) ≤ n → at + length p ≤ n
  meet_first h = omega (arith, length-append p q)

  module _ {e : ℕ} (f : e ≡ at + length p) where
    pub meet_second : {m n : ℕ} → at + length (p ++ q) ≤ n → m ≡ n → e + length q ≤ m
    meet_second h l = omega (arith, length-append p q)

    pub meet_end : {g : ℕ} → g ≡ e + length q → g ≡ at + length (p ++ q)
    meet_end h = omega (arith, length-append p q)

    pub meet_put : (b : List ℕ) {x y : List ℕ} → at + length (p ++ q) ≤ length b → x ≡ with_bytes b at p → y ≡ with_bytes x e q
        → y ≡ with_bytes b at (p ++ q)
    meet_put b {x} h j k = put_then b at p q (meet_first h) j (k ∙ ap (λ (i : ℕ). with_bytes x i q) f)

-- ---- a text and the byte behind it
pub cell_length : (t : List ℕ) (end : ℕ) → length (cell t end) ≡ length t + 1
unfolding cell
cell_length t end = length-append t (end ∷ [])

module _ (b : List ℕ) (at : ℕ) (t : List ℕ) (end : ℕ) (k : at + length (cell t end) ≤ length b) where
  pub cell_asks : at + length t ≤ length b
  cell_asks = omega (arith, cell_length t end)

  module _ {e : ℕ} (q : e ≡ at + length t) where
    pub cell_end : e + 1 ≡ at + length (cell t end)
    cell_end = omega (arith, cell_length t end)

    pub cell_room : (x : List ℕ) → length x ≡ length b → e < length x
    cell_room x l = omega (arith, cell_length t end)

    pub cell_fits : (x : List ℕ) → length x ≡ length b → length x < 2 ^ 64 → e + 1 < 2 ^ 64
    cell_fits x l m = omega (arith, cell_length t end)

    pub cell_put : {x : List ℕ} → x ≡ with_bytes b at t → set x e end ≡ with_bytes b at (cell t end)
    unfolding cell
    cell_put {x} r =
        let l : length x ≡ length b = ap length r ∙ put_length b at t cell_asks in
        put_then b at t (end ∷ []) cell_asks r
        (put_one x e end (omega (arith, cell_length t end)) ∙ ap (λ (i : ℕ). with_bytes x i (end ∷ [])) q)
