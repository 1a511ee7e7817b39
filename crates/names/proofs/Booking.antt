-- What a reader says of a lent book, as names are added; and that its names are found as they stand in the list.
-- Assumes nothing.
use Prim.Native.Nat.{ℕ, zero, suc, ◌+◌, ◌-◌, ◌*◌, ◌≤◌, ◌<◌}
use mathlib.Core.Path.{◌≡◌, refl, sym, ap, ◌∙◌}
use mathlib.Core.List.{List, [], ◌∷◌, ◌++◌}
use native.Mathlib.Omega.{arith}
use native.Mathlib.Numerals.{add-one}
use native.Mathlib.Nat.{zero-add}
use lib.ListN.{length, get_or, drop}
use lib.Seq.{drop-drop}
use borrow.Author.Tests.{lt-ltb, le-ltb}
use Rattle.base.specs.Tab.{tab}
use Rattle.base.proofs.Tab.{tab_length, tab_at, tab_more, tab_same}
use Rattle.names.specs.Names.{place_among}
use Rattle.names.specs.declared.Shelf.{Shelf}
use Rattle.names.specs.Book.{slot_of, last_in, file_of, name_at, names_in, one_more, Book, Added, Empty}
use Rattle.names.specs.Booked.{Booked, SameBook}
use Rattle.names.proofs.Adding.{last_same}

-- a cleared book
pub booked_none : (first second : List ℕ) (cut : ℕ) {cap : ℕ} {w w' : List ℕ} → Empty cap w w'
    → Booked first second (record { cap = cap; split = cut; count = 0 }) w w' []
unfolding last_in names_in tab
booked_none first second cut {cap} {w} {w'} e =
    let z : cap + 3 * 0 ≡ cap = omega arith in
    record {
      book = record {
        few = omega arith;
        room = e.room;
        ordered = λ i h. absurd (omega arith);
        inside = λ i h. absurd (omega arith);
        heads = λ b h. e.none b h;
        nexts = λ i h. absurd (omega arith);
      };
      texts = refl;
      long = e.long;
      past = rw z e.past;
    }

pub place_same : (f g : ℕ → List ℕ) (t : List ℕ) (n : ℕ) → ((i : ℕ) → i < n → f i ≡ g i) → place_among f t n ≡ place_among g t n
unfolding place_among
place_same f g t zero h = refl
place_same f g t (suc n) h =
    let z = place_same f g t n (λ i l. h i (omega arith)) in
    rw (h n (omega arith), z)

-- what is the same behind i is so behind any later j
pub past_on : (v w : List ℕ) (i j : ℕ) → i ≤ j → drop i v ≡ drop i w → drop j v ≡ drop j w
past_on v w i j h e =
    let z : i + (j - i) ≡ j = omega arith in
    rw (← z) (sym (drop-drop (j - i) i v) ∙ ap (drop (j - i)) e ∙ drop-drop (j - i) i w)

names_more : {first second : List ℕ} {shelf : Shelf} {w w' t : List ℕ} → Added first second shelf w w' t
    → names_in first second (one_more shelf) w' ≡ names_in first second shelf w ++ (t ∷ [])
unfolding names_in name_at
names_more {first} {second} {shelf} {w} {w'} {t} a =
    ap (λ (n : ℕ). tab (name_at first second shelf w') n 0) (add-one shelf.count)
    ∙ tab_more (name_at first second shelf w') shelf.count 0
    ∙ rw (tab_same (name_at first second shelf w') (name_at first second shelf w) shelf.count 0 (λ k h. a.old k (omega arith)), zero-add, a.new)

module _ {first second : List ℕ} {shelf : Shelf} {w w' : List ℕ} {names : List (List ℕ)} (k : Booked first second shelf w w' names) where
  -- as many names as are counted
  pub booked_count : shelf.count ≡ length names
  unfolding names_in
  booked_count = sym (tab_length (name_at first second shelf w') shelf.count 0) ∙ ap length k.texts

  -- name i is the one in the list
  pub booked_name : (i : ℕ) → i < shelf.count → name_at first second shelf w' i ≡ get_or names i []
  unfolding names_in
  booked_name i h =
      sym (tab_at (name_at first second shelf w') shelf.count i [] h) ∙ ap (λ (l : List (List ℕ)). get_or l i []) k.texts

  -- a text is found where it stands in the list
  pub found_known : (t : List ℕ)
      → place_among (name_at first second shelf w') t shelf.count ≡ place_among (λ i. get_or names i []) t (length names)
  found_known t =
      place_same (name_at first second shelf w') (λ i. get_or names i []) t shelf.count booked_name
      ∙ ap (place_among (λ (i : ℕ). get_or names i []) t) booked_count

  -- one name more
  pub booked_more : {w'' t : List ℕ} → Book first second (one_more shelf) w'' → Added first second shelf w' w'' t
      → Booked first second (one_more shelf) w w'' (names ++ (t ∷ []))
  booked_more {w''} {t} b a = record {
    book = b;
    texts = names_more a ∙ ap (λ (l : List (List ℕ)). l ++ (t ∷ [])) k.texts;
    long = a.long ∙ k.long;
    past = a.past ∙ past_on w' w (shelf.cap + 3 * shelf.count) (shelf.cap + 3 * (shelf.count + 1)) (omega arith) k.past;
  }

-- the same names, put into the same words, leave the same book
pub booked_same : {first second : List ℕ} {shelf : Shelf} {w v v' : List ℕ} {names : List (List ℕ)} → Booked first second shelf w v names
    → Booked first second shelf w v' names → SameBook shelf v v'
booked_same {first} {second} {shelf} {w} {v} {v'} {names} k l = record {
  same_heads = λ b h. k.book.heads b h ∙ last_same shelf.cap f g b shelf.count alike ∙ sym (l.book.heads b h);
  same_nexts = λ i h. k.book.nexts i h ∙ last_same shelf.cap f g (slot_of shelf.cap (f i)) i (λ j m. alike j (omega arith))
      ∙ ap (λ (t : List ℕ). last_in shelf.cap g (slot_of shelf.cap t) i) (alike i h) ∙ sym (l.book.nexts i h);
  same_behind = k.past ∙ sym l.past;
  same_length = k.long ∙ sym l.long;
}
  where
    f : ℕ → List ℕ
    f = name_at first second shelf v

    g : ℕ → List ℕ
    g = name_at first second shelf v'

    alike : (i : ℕ) → i < shelf.count → name_at first second shelf v i ≡ name_at first second shelf v' i
    alike i h = booked_name k i h ∙ sym (booked_name l i h)

-- the second file begins: all names so far stand in the first
module _ (a b w : List ℕ) (cap n : ℕ) where
  file_turn : (i : ℕ) → i < n → file_of a b n i ≡ file_of a a 0 i
  unfolding file_of
  file_turn i h = rw (lt-ltb i n h, le-ltb i 0 (omega arith))

  abbrev early : ℕ → List ℕ
  early = name_at a a (record { cap = cap; split = 0; count = n }) w

  abbrev late : ℕ → List ℕ
  late = name_at a b (record { cap = cap; split = n; count = n }) w

  name_turn : (i : ℕ) → i < n → late i ≡ early i
  unfolding name_at
  name_turn i h = rw (file_turn i h)

  last_turn : (c q : ℕ) → q ≤ n → last_in cap early c q ≡ last_in cap late c q
  last_turn c q h = last_same cap early late c q (λ i l. sym (name_turn i (omega arith)))

  book_turn : Book a a (record { cap = cap; split = 0; count = n }) w → Book a b (record { cap = cap; split = n; count = n }) w
  book_turn k = record {
    few = k.few;
    room = k.room;
    ordered = k.ordered;
    inside = λ i h. rw (file_turn i h) (k.inside i h);
    heads = λ c h. k.heads c h ∙ last_turn c n (omega arith);
    nexts = λ i h. k.nexts i h ∙ last_turn (slot_of cap (early i)) i (omega arith)
        ∙ ap (λ (t : List ℕ). last_in cap late (slot_of cap t) i) (sym (name_turn i h));
  }

  names_turn : names_in a b (record { cap = cap; split = n; count = n }) w ≡ names_in a a (record { cap = cap; split = 0; count = n }) w
  unfolding names_in
  names_turn = tab_same late early n 0 (λ i h. name_turn i (omega arith))

pub booked_turn : {a : List ℕ} (b : List ℕ) {cap n : ℕ} {w w' : List ℕ} {names : List (List ℕ)}
    → Booked a a (record { cap = cap; split = 0; count = n }) w w' names → Booked a b (record { cap = cap; split = n; count = n }) w w' names
booked_turn {a} b {cap} {n} {w} {w'} k = record {
  book = book_turn a b w' cap n k.book;
  texts = names_turn a b w' cap n ∙ k.texts;
  long = k.long;
  past = k.past;
}
