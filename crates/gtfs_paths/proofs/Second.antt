-- The number of a second text, once the first has its own.
-- Assumes nothing.
use Prim.Native.Nat.{ℕ, zero, suc, ◌+◌, ◌≤◌, ◌<◌}
use mathlib.Core.Path.{◌≡◌, sym, ap, ◌∙◌}
use mathlib.Core.Bool.{Bool, true, false, cond}
use mathlib.Core.List.{List, [], ◌∷◌, ◌++◌}
use native.Mathlib.Omega.{arith}
use lib.ListN.{length, get_or, length-append, get_or-append}
use lib.Seq.{get_or-append_seam}
use Rattle.csv_text.specs.Part.{part}
use Rattle.csv_text.specs.Texts.{same_text}
use Rattle.columns.specs.declared.Span.{Span}
use Rattle.columns.specs.Picks.{text_at}
use Rattle.names.specs.Names.{place_among}
use Rattle.names.specs.declared.Shelf.{Shelf}
use Rattle.names.specs.Book.{Book, names_in}
use Rattle.names.proofs.Booking.{booked_count, place_same}
use Rattle.feed.specs.Feed.{known_as, named, number_by, number_of}
use Rattle.feed.proofs.Naming.{known_most, number_least}
use Rattle.gtfs_rows.proofs.Named.{with_named, with_old, with_next}
use Rattle.gtfs_rows.proofs.Naming.{booked_here}

-- among the names and one behind them
known_more : (names : List (List ℕ)) (t u : List ℕ)
    → known_as (names ++ (t ∷ [])) u ≡ cond (same_text u t) (suc (length names)) (known_as names u)
unfolding known_as place_among
known_more names t u =
    let n : length (names ++ (t ∷ [])) ≡ suc (length names) = length-append names (t ∷ []) ∙ omega arith in
    let here : get_or (names ++ (t ∷ [])) (length names) [] ≡ t = get_or-append_seam names t [] [] in
    let rest : place_among (λ i. get_or (names ++ (t ∷ [])) i []) u (length names) ≡ place_among (λ i. get_or names i []) u (length names) =
    place_same (λ i. get_or (names ++ (t ∷ [])) i []) (λ i. get_or names i []) u (length names) (λ i h. get_or-append names (t ∷ []) [] i h) in
    rw (n, here, rest)

module _ (names : List (List ℕ)) (t u : List ℕ) {from to : ℕ} (ef : from ≡ number_of names t) (et : to ≡ number_of names u) where
  named_old : from < length names → named names t ≡ names
  named_old h = sym (with_named names t from ef) ∙ with_old names t from h

  named_new : length names ≤ from → named names t ≡ names ++ (t ∷ [])
  named_new h = sym (with_named names t from ef) ∙ with_next names t from (omega (arith, ef, number_least names t))

  after_old : from < length names → to ≡ number_of (named names t) u
  after_old h = rw (named_old h) et

  after_same : length names ≤ from → same_text u t ≡ true → from ≡ number_of (named names t) u
  unfolding number_of number_by
  after_same h s = rw (named_new h, known_more names t u, s) (omega (arith, ef, number_least names t))

  after_known : length names ≤ from → same_text u t ≡ false → to < length names → to ≡ number_of (named names t) u
  unfolding number_of number_by
  after_known h s l = rw (named_new h, known_more names t u, s) (go (known_as names u) et)
    where
      go : (k : ℕ) → to ≡ number_by names k → to ≡ number_by (names ++ (t ∷ [])) k
      go zero e = absurd (omega arith)
      go (suc j) e = e

  after_both : length names ≤ from → same_text u t ≡ false → length names ≤ to → length names + 1 ≡ number_of (named names t) u
  unfolding number_of number_by
  after_both h s l = rw (named_new h, known_more names t u, s) (go (known_as names u) (known_most names u) et)
    where
      go : (k : ℕ) → k ≤ length names → to ≡ number_by names k → length names + 1 ≡ number_by (names ++ (t ∷ [])) k
      go zero m e = sym (length-append names (t ∷ []))
      go (suc j) m e = absurd (omega arith)

-- as the code goes
module _ {first second : List ℕ} {shelf : Shelf} {w : List ℕ} (b : Book first second shelf w) (near far : Span) {from to : ℕ}
    (ef : from ≡ number_of (names_in first second shelf w) (text_at second near))
    (et : to ≡ number_of (names_in first second shelf w) (text_at second far)) where
  long : shelf.count ≡ length (names_in first second shelf w)
  long = booked_count (booked_here b)

  pub second_old : from < shelf.count → to ≡ number_of (named (names_in first second shelf w) (text_at second near)) (text_at second far)
  second_old h = after_old (names_in first second shelf w) (text_at second near) (text_at second far) ef et (omega (arith, long))

  module _ {s : Bool} (es : s ≡ same_text (part far.from far.to second) (part near.from near.to second)) (h : shelf.count ≤ from) where
    same_is : s ≡ same_text (text_at second far) (text_at second near)
    unfolding text_at
    same_is = es

    pub second_same : s ≡ true → from ≡ number_of (named (names_in first second shelf w) (text_at second near)) (text_at second far)
    second_same e =
        after_same (names_in first second shelf w) (text_at second near) (text_at second far) ef et (omega (arith, long)) (sym same_is ∙ e)

    pub second_known : s ≡ false → to < shelf.count → to ≡ number_of (named (names_in first second shelf w) (text_at second near)) (text_at second far)
    second_known e l =
        after_known (names_in first second shelf w) (text_at second near) (text_at second far) ef et (omega (arith, long)) (sym same_is ∙ e)
        (omega (arith, long))

    pub second_new : s ≡ false → shelf.count ≤ to
        → shelf.count + 1 ≡ number_of (named (names_in first second shelf w) (text_at second near)) (text_at second far)
    second_new e l =
        ap (λ (n : ℕ). n + 1) long
        ∙ after_both (names_in first second shelf w) (text_at second near) (text_at second far) ef et (omega (arith, long)) (sym same_is ∙ e)
        (omega (arith, long))
