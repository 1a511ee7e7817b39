-- The six words of a leg tell the leg.
use Prim.Native.Nat.{ℕ}
use mathlib.Core.Path.{◌≡◌, refl, ap}
use mathlib.Core.List.{List}
use native.Mathlib.Omega.{arith}
use Rattle.model.specs.declared.Leg.{Leg}
use Rattle.model.specs.declared.LegType.{LegType}
use Rattle.model.specs.declared.LegType.TheVariants.{Transit, Transfer, Walk}
use Rattle.model.specs.Bytes.{kind_byte}
use Rattle.kiosk_words.specs.Words.{trip_word, leg_told_in}

-- one kind and one trip word are one kind of leg
same_kind : (a b : LegType) → kind_byte a ≡ kind_byte b → trip_word a ≡ trip_word b → a ≡ b
unfolding kind_byte
same_kind (Transit v) (Transit w) e f = ap Transit f
same_kind (Transit v) Transfer e f = absurd (omega arith)
same_kind (Transit v) Walk e f = absurd (omega arith)
same_kind Transfer (Transit w) e f = absurd (omega arith)
same_kind Transfer Transfer e f = refl
same_kind Transfer Walk e f = absurd (omega arith)
same_kind Walk (Transit w) e f = absurd (omega arith)
same_kind Walk Transfer e f = absurd (omega arith)
same_kind Walk Walk e f = refl

-- two legs that are told alike are one leg
pub told_apart : (g h : Leg) (l : List ℕ) → leg_told_in g l ≡ leg_told_in h l → g ≡ h
unfolding leg_told_in
told_apart g h l e =
    let kind : g.kind ≡ h.kind = same_kind g.kind h.kind (cc) (cc) in
    let from : g.from ≡ h.from = cc in
    let to : g.to ≡ h.to = cc in
    let departure : g.departure.0 ≡ h.departure.0 = cc in
    let arrival : g.arrival.0 ≡ h.arrival.0 = cc in
    λ k. record {
      from = from k;
      to = to k;
      departure = record { 0 = departure k };
      arrival = record { 0 = arrival k };
      kind = kind k;
    }
