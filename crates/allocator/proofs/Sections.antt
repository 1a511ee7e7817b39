-- A section of a list, read through the whole and through what is written over the list.
-- Assumes nothing.
use mathlib.Core.Path.{◌≡◌, sym, ap, ◌∙◌}
use mathlib.Core.List.{List, ◌++◌}
use Prim.Native.Nat.{ℕ, ◌+◌, ◌-◌, ◌≤◌, ◌<◌}
use native.Mathlib.Nat.{zero-add, add-zero, add_assoc}
use native.Mathlib.Omega.{arith}
use lib.ListN.{length, get_or, set, take, drop, replicate, length-append, length-take, length-drop, length-set, length-replicate}
use lib.ListN.{get_or-replicate, get_or-append}
use lib.Seq.{length-take-le, get_or-take, get_or-drop, get_or-append-add, get_or-set_other, drop-set-add, take-set-lt, ext_get_or}
use Rattle.allocator.specs.Sections.{sect, overlaid}

-- ---- reading
module _ (start count : ℕ) (ws : List ℕ) where
  pub sect_get : (i : ℕ) → i < count → get_or (sect start count ws) i 0 ≡ get_or ws (start + i) 0
  unfolding sect
  sect_get i h = rw (get_or-take, get_or-drop)

  pub sect_length : start + count ≤ length ws → length (sect start count ws) ≡ count
  unfolding sect
  sect_length h = simp (length-take, length-drop) (omega arith)

-- two sections with the same elements
pub same_sect : (a c b : ℕ) (ws' ws : List ℕ) → a + b ≤ length ws' → c + b ≤ length ws
    → ((i : ℕ) → i < b → get_or ws' (a + i) 0 ≡ get_or ws (c + i) 0) → sect a b ws' ≡ sect c b ws
same_sect a c b ws' ws g h e =
    let long = sect_length a b ws' g in
    ext_get_or 0 (sect a b ws') (sect c b ws) (long ∙ sym (sect_length c b ws h))
    (λ i l.
    let k : i < b = omega arith in
    sect_get a b ws' i k ∙ e i k ∙ sym (sect_get c b ws i k))

-- a section of a section
pub sect_sect : (start count : ℕ) (ws : List ℕ) (a b : ℕ) → start + count ≤ length ws → a + b ≤ count
    → sect a b (sect start count ws) ≡ sect (start + a) b ws
sect_sect start count ws a b g h =
    let long = sect_length start count ws g in
    same_sect a (start + a) b (sect start count ws) ws (omega arith) (omega arith)
    (λ i k. sect_get start count ws (a + i) (omega arith) ∙ ap (λ (x : ℕ). get_or ws x 0) (sym (add_assoc start a i)))

pub sect_whole : (ws : List ℕ) (count : ℕ) → count ≡ length ws → sect 0 count ws ≡ ws
sect_whole ws count e =
    let long = sect_length 0 count ws (omega arith) in
    ext_get_or 0 (sect 0 count ws) ws (long ∙ e)
    (λ i l. sect_get 0 count ws i (omega arith) ∙ ap (λ (x : ℕ). get_or ws x 0) (zero-add i))

pub sect_replicate : (a b count v : ℕ) → a + b ≤ count → sect a b (replicate count v) ≡ replicate b v
sect_replicate a b count v h =
    let all = length-replicate count v in
    let long = sect_length a b (replicate count v) (omega arith) in
    ext_get_or 0 (sect a b (replicate count v)) (replicate b v) (long ∙ sym (length-replicate b v))
    (λ i l.
    let k : i < b = omega arith in
    let j : a + i < count = omega arith in
    sect_get a b (replicate count v) i k ∙ get_or-replicate count (a + i) v 0 j ∙ sym (get_or-replicate b i v 0 k))

-- ---- a list written over another
module _ (start : ℕ) (xs ws : List ℕ) (fits : start + length xs ≤ length ws) where
  front : length (take start ws) ≡ start
  front = length-take-le start ws (omega arith)

  pub put_length : length (overlaid start xs ws) ≡ length ws
  unfolding overlaid
  put_length = let f = front in simp (length-append, length-drop) (omega arith)

  pub put_before : (i : ℕ) → i < start → get_or (overlaid start xs ws) i 0 ≡ get_or ws i 0
  unfolding overlaid
  put_before i h =
      let f = front in
      get_or-append (take start ws) (xs ++ drop (start + length xs) ws) 0 i (omega arith) ∙ get_or-take start ws i 0 h

  put_at : (i : ℕ) → i < length xs → get_or (overlaid start xs ws) (start + i) 0 ≡ get_or xs i 0
  unfolding overlaid
  put_at i h =
      let rest = drop (start + length xs) ws in
      ap (λ (x : ℕ). get_or (take start ws ++ (xs ++ rest)) (x + i) 0) (sym front)
      ∙ get_or-append-add (take start ws) (xs ++ rest) i 0
      ∙ get_or-append xs rest 0 i h

  pub put_behind : (i : ℕ) → start + length xs ≤ i → get_or (overlaid start xs ws) i 0 ≡ get_or ws i 0
  unfolding overlaid
  put_behind i h =
      let rest = drop (start + length xs) ws in
      let k = i - (start + length xs) in
      let there : i ≡ start + (length xs + k) = omega arith in
      let back : start + length xs + k ≡ i = omega arith in
      ap (λ (x : ℕ). get_or (take start ws ++ (xs ++ rest)) x 0) there
      ∙ ap (λ (x : ℕ). get_or (take start ws ++ (xs ++ rest)) (x + (length xs + k)) 0) (sym front)
      ∙ get_or-append-add (take start ws) (xs ++ rest) (length xs + k) 0
      ∙ get_or-append-add xs rest k 0
      ∙ get_or-drop (start + length xs) ws k 0
      ∙ ap (λ (x : ℕ). get_or ws x 0) back

  -- what was written is read there
  pub put_sect : (k b : ℕ) → k + b ≤ length xs → sect (start + k) b (overlaid start xs ws) ≡ sect k b xs
  put_sect k b h =
      let long = put_length in
      same_sect (start + k) k b (overlaid start xs ws) xs (omega arith) h
      (λ i l. ap (λ (x : ℕ). get_or (overlaid start xs ws) x 0) (add_assoc start k i) ∙ put_at (k + i) (omega arith))

-- ---- a list that changed only from `start` on, at most `count` elements of it
pub record Only (start count : ℕ) (ws ws' : List ℕ) : Type 0 where
  pub long : length ws' ≡ length ws
  pub before : (i : ℕ) → i < start → get_or ws' i 0 ≡ get_or ws i 0
  pub behind : (i : ℕ) → start + count ≤ i → get_or ws' i 0 ≡ get_or ws i 0

pub only_set : (start count : ℕ) (ws : List ℕ) (i v : ℕ) → i < count → Only start count ws (set ws (start + i) v)
only_set start count ws i v h = record {
  long = length-set ws (start + i) v;
  before = λ j l. get_or-set_other ws (start + i) j v 0 (λ e. absurd (omega arith));
  behind = λ j l. get_or-set_other ws (start + i) j v 0 (λ e. absurd (omega arith));
}

pub only_put : (start count : ℕ) (ws : List ℕ) (k : ℕ) (xs : List ℕ) → k + length xs ≤ count → start + count ≤ length ws
    → Only start count ws (overlaid (start + k) xs ws)
only_put start count ws k xs h g =
    let f : start + k + length xs ≤ length ws = omega arith in
    record {
      long = put_length (start + k) xs ws f;
      before = λ j l. put_before (start + k) xs ws f j (omega arith);
      behind = λ j l. put_behind (start + k) xs ws f j (omega arith);
    }

-- a whole section is written
module _ (start count : ℕ) (ws xs : List ℕ) (long : length xs ≡ count) (fits : start + count ≤ length ws) where
  pub only_whole : Only start count ws (overlaid start xs ws)
  only_whole =
      let f : start + length xs ≤ length ws = omega arith in
      record {
        long = put_length start xs ws f;
        before = λ j l. put_before start xs ws f j l;
        behind = λ j l. put_behind start xs ws f j (omega arith);
      }

  pub sect_whole_put : sect start count (overlaid start xs ws) ≡ xs
  sect_whole_put =
      let all : count ≡ length xs = omega arith in
      ap (λ (x : ℕ). sect x count (overlaid start xs ws)) (sym (add-zero start))
      ∙ put_sect start xs ws (omega arith) 0 count (omega arith)
      ∙ sect_whole xs count all

module _ {start count : ℕ} {ws ws' : List ℕ} (c : Only start count ws ws') where
  pub sect_before : (a b : ℕ) → a + b ≤ start → a + b ≤ length ws → sect a b ws' ≡ sect a b ws
  sect_before a b h g =
      let long = c.long in
      same_sect a a b ws' ws (omega arith) g (λ i l. c.before (a + i) (omega arith))

  pub sect_behind : (a b : ℕ) → start + count ≤ a → a + b ≤ length ws → sect a b ws' ≡ sect a b ws
  sect_behind a b h g =
      let long = c.long in
      same_sect a a b ws' ws (omega arith) g (λ i l. c.behind (a + i) (omega arith))

-- an element of the section
pub set_sect : (start count : ℕ) (ws : List ℕ) (i v : ℕ) → i < count
    → sect start count (set ws (start + i) v) ≡ set (sect start count ws) i v
unfolding sect
set_sect start count ws i v h = rw (drop-set-add, take-set-lt)
