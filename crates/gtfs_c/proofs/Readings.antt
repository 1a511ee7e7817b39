-- What is told of a reading, and what is left.
-- Assumes nothing.
use Prim.Native.Nat.{ℕ, ◌≤◌, ◌<◌}
use mathlib.Core.Path.{◌≡◌, refl, subst}
use mathlib.Core.List.{List, [], ◌∷◌}
use native.Mathlib.Omega.{arith}
use lib.ListN.{length}
use borrow.Author.Tests.{le-leb, lt-leb}
use Rattle.base.specs.Put.{with_bytes}
use Rattle.base.proofs.Put.{put_then}
use Rattle.gtfs_read.specs.declared.Told.{Told}
use Rattle.gtfs_read.specs.Reads.{LentFeed, feed_room, ending_number, ending_line, ending_file, told_feed, Reads}
use Rattle.gtfs_c.specs.FeedFace.{reading_words, reading_short, FeedFaced}

pub eight_told : (l : List ℕ) (t : Told) {n k f : ℕ} {x y : List ℕ} → 8 ≤ length l → n ≡ ending_number t.ending → k ≡ ending_line t.ending
    → f ≡ ending_file t.ending → x ≡ with_bytes l 0 (n ∷ k ∷ f ∷ t.stops ∷ []) → y ≡ with_bytes x 4 (t.split ∷ t.trips ∷ t.times ∷ t.transfers ∷ [])
    → y ≡ with_bytes l 0 (reading_words t)
unfolding reading_words
eight_told l t {n} {k} {f} h p q r d e =
    rw (← p, ← q, ← r) (put_then l 0 (n ∷ k ∷ f ∷ t.stops ∷ []) (t.split ∷ t.trips ∷ t.times ∷ t.transfers ∷ []) (omega arith) d e)

-- ---- with fewer than eight words
module _ (a b : List ℕ) (l : LentFeed) (told : List ℕ) where
  pub too_few : {r : ℕ} → length told < 8 → r ≡ reading_short a b → FeedFaced a b l told r l told
  too_few h e = record {
    number = rw (lt-leb 8 (length told) h) e;
    tells = rw (lt-leb 8 (length told) h);
    reads = λ g. absurd (omega arith);
    untouched = λ g. refl;
  }

  -- ---- with all eight
  pub feed_faced : {t : Told} {r : ℕ} {l' : LentFeed} {told' : List ℕ} → 8 ≤ length told → Reads a b l t l' → r ≡ ending_number t.ending
      → told' ≡ with_bytes told 0 (reading_words t) → FeedFaced a b l told r l' told'
  feed_faced {t} {r} {l'} {told'} h x e f =
      let q : t ≡ told_feed (feed_room l) a b = x.said in
      record {
        number = rw (le-leb 8 (length told) h, ← q) e;
        tells = rw (le-leb 8 (length told) h, ← q) f;
        reads = λ g. subst (λ (u : Told). Reads a b l u l') q x;
        untouched = λ g. absurd (omega arith);
      }
