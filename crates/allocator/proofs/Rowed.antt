-- Rows of parents: what is written is read back, and six stores write a row.
-- Assumes nothing.
use mathlib.Core.Path.{◌≡◌, refl, ◌∙◌}
use mathlib.Core.List.{List, [], ◌∷◌, append_assoc}
use Rattle.std.specs.Prelude.{Option, None, Some}
use Prim.Native.Nat.{ℕ, suc, ◌+◌, ◌≤◌}
use native.Mathlib.Omega.{arith}
use lib.ListN.{length, set, take, drop}
use lib.Seq.{sets-eq}
use Rattle.model.specs.declared.Leg.{Leg}
use Rattle.model.specs.declared.LegType.{LegType}
use Rattle.model.specs.declared.LegType.TheVariants.{Transit, Transfer, Walk}
use Rattle.allocator.specs.Sections.{overlaid}
use Rattle.allocator.specs.Rows.{row_kind, row_trip, leg_row, encoded, row_leg, decoded}

read_back : (c : LegType) (a b d e : ℕ) →
    decoded (row_kind c ∷ a ∷ b ∷ row_trip c ∷ d ∷ e ∷ [])
    ≡ Some (record { from = a; to = b; departure = record { 0 = d }; arrival = record { 0 = e }; kind = c })
unfolding decoded row_leg row_kind row_trip
read_back (Transit v) a b d e = refl
read_back Transfer a b d e = refl
read_back Walk a b d e = refl

pub decode_encode : (p : Option Leg) → decoded (encoded p) ≡ p
unfolding encoded leg_row decoded
decode_encode None = refl
decode_encode (Some g) = read_back g.kind g.from g.to g.departure.0 g.arrival.0

pub encoded_length : (p : Option Leg) → length (encoded p) ≡ 6
unfolding encoded leg_row
encoded_length None = refl
encoded_length (Some g) = refl

-- six stores in a row write a row
pub six_stores : (ws : List ℕ) (i a b c d e f : ℕ) → i + 6 ≤ length ws
    → set (set (set (set (set (set ws i a) (i + 1) b) (i + 2) c) (i + 3) d) (i + 4) e) (i + 5) f
    ≡ overlaid i (a ∷ b ∷ c ∷ d ∷ e ∷ f ∷ []) ws
unfolding overlaid
six_stores ws i a b c d e f h =
    let i₁ : i + 1 ≡ suc i = omega arith in
    let i₂ : i + 2 ≡ suc (suc i) = omega arith in
    let i₃ : i + 3 ≡ suc (suc (suc i)) = omega arith in
    let i₄ : i + 4 ≡ suc (suc (suc (suc i))) = omega arith in
    let i₅ : i + 5 ≡ suc (suc (suc (suc (suc i)))) = omega arith in
    let row = a ∷ b ∷ c ∷ d ∷ e ∷ f ∷ [] in
    rw (i₁, i₂, i₃, i₄, i₅) (sets-eq row ws i h) ∙ append_assoc (take i ws) row (drop (i + 6) ws)

-- the words of a leg, as the code finds them
pub leg_stores : (ws : List ℕ) (i k v : ℕ) (g : Leg) → i + 6 ≤ length ws → k ≡ row_kind g.kind → v ≡ row_trip g.kind
    → set (set (set (set (set (set ws i k) (i + 1) g.from) (i + 2) g.to) (i + 3) v) (i + 4) g.departure.0) (i + 5)
    g.arrival.0
    ≡ overlaid i (leg_row g) ws
unfolding leg_row
leg_stores ws i k v g h e f = six_stores ws i k g.from g.to v g.departure.0 g.arrival.0 h ∙ rw (e, f)
