-- "Journeys are written to bytes and read back unchanged", for a caller who walks the bytes by `kiosk_leg`.
use Prim.Native.Nat.{ℕ, ◌+◌}
use mathlib.Core.Path.{◌≡◌, refl, sym, ◌∙◌, subst}
use mathlib.Core.List.{List, [], ◌∷◌}
use native.Mathlib.Omega.{arith}
use lib.ListN.{get_or, take, drop}
use Rattle.std.specs.Prelude.{Ok}
use Rattle.model.specs.declared.Found.{Found}
use Rattle.model.specs.declared.Leg.{Leg}
use Rattle.model.specs.declared.Query.{Query}
use Rattle.model.specs.Answer.{legs_of}
use Rattle.model.specs.Bytes.{legs, read, leg_size}
use Rattle.repository.specs.NetOf.{net_of}
use Rattle.raptor.specs.Lent.{Lent}
use Rattle.raptor.specs.Solved.{Solved}
use Rattle.raptor.proofs.Promises.{reads_back}
use Rattle.journey.specs.Reading.{leg_from}
use Rattle.journey.specs.Legs.{LegsFrom, over as no_more, next as one_more}
use Rattle.journey.proofs.Legs.{legs_from}
use Rattle.journey.proofs.Written.{least_size}
use Rattle.kiosk_words.proofs.Legs.{told_apart}
use Rattle.kiosk_c.specs.Face.{Faced}
use Rattle.kiosk_c.specs.Legs.{FaceLegsFrom, over, next}
use Rattle.kiosk_c.proofs.Reading.{whole_number, whole_left, end_number, end_left}
use Rattle.kiosk_c.proofs.Found.{faced_found}

-- what the program's reader gives, `kiosk_leg` tells
told : {b : List ℕ} {at : ℕ} {gs : List Leg} → LegsFrom b at gs → FaceLegsFrom b at gs
told {b} {at} (no_more e) = over (λ leg h. (sym (end_number (leg_from b at) leg h refl e), sym (end_left (leg_from b at) leg h refl e)))
told {b} {at} (one_more g e r) =
    next g (λ leg h. (sym (whole_number (leg_from b at) leg h refl e refl), sym (whole_left (leg_from b at) leg h refl e refl))) (told r)

-- bytes that are read as the legs gs are walked as gs
pub face_legs_from : (b : List ℕ) (gs : List Leg) → read b ≡ legs gs → FaceLegsFrom b 0 gs
face_legs_from b gs e = told (legs_from b gs e)

-- no bytes are walked as two lists of legs: at each offset six words of one leg are told, or the end
module _ (b : List ℕ) where
  abbrev six : List ℕ
  six = 0 ∷ 0 ∷ 0 ∷ 0 ∷ 0 ∷ 0 ∷ []

  pub walk_unique : {at : ℕ} {gs hs : List Leg} → FaceLegsFrom b at gs → FaceLegsFrom b at hs → gs ≡ hs
  walk_unique (over e) (over f) = refl
  walk_unique (over e) (next h f s) = absurd (omega (arith, (e six (omega arith)).0, (f six (omega arith)).0, least_size h.kind))
  walk_unique (next g e r) (over f) = absurd (omega (arith, (e six (omega arith)).0, (f six (omega arith)).0, least_size g.kind))
  walk_unique {at} (next g e r) (next {gs = hs} h f s) =
      let one : g ≡ h = told_apart g h six (sym (e six (omega arith)).1 ∙ (f six (omega arith)).1) in
      let rest = walk_unique r (subst (λ (v : Leg). FaceLegsFrom b (at + leg_size v.kind) hs) (sym one) s) in
      cc

-- where `kiosk_solve` gives 0, as many bytes of the journey as its answer's length says are walked as the legs of the search
module _ (w : List ℕ) (q : Query) (before : Lent) (a : List ℕ) where
  walked : {after : Lent} {a' : List ℕ} {f : Found} → Solved w q before (Ok f) after
      → a' ≡ 0 ∷ f.time.0 ∷ f.stop ∷ f.round ∷ f.length ∷ drop 5 a → FaceLegsFrom (take (get_or a' 4 0) after.journey) 0 (legs_of (net_of w) q)
  walked {after} {f = f} h e = rw e (face_legs_from (take f.length after.journey) (legs_of (net_of w) q) (reads_back w q before h refl))

  pub faced_legs : {r : ℕ} {after : Lent} {a' : List ℕ} → Faced w q before a r after a' → r ≡ 0
      → FaceLegsFrom (take (get_or a' 4 0) after.journey) 0 (legs_of (net_of w) q)
  faced_legs f e = let g = faced_found w q before a f e in walked g.1 g.2
