-- What is answered: by how the second file ends, for a file that is too long, and in all.
-- Assumes nothing.
use Prim.Native.Nat.{ℕ, ◌≤◌, ◌<◌}
use mathlib.Core.Path.{◌≡◌, refl, sym, ◌∙◌}
use mathlib.Core.Bool.{true, false, true≢false}
use mathlib.Core.List.{List}
use lib.ListN.{length}
use borrow.Author.Tests.{lt-ltb, le-ltb}
use Rattle.feed.specs.declared.Room.{Room}
use Rattle.feed.specs.Reading.{read_feed}
use Rattle.gtfs_read.specs.declared.Told.{Told}
use Rattle.gtfs_read.specs.Reads.{LentFeed, lent_feed, feed_room, is_too_long, told_by, split_of, refused_long, told_feed, Left, Reads}

-- ---- in all
module _ (a b : List ℕ) where
  none_long : length a ≤ 4_294_967_295 → length b ≤ 4_294_967_295 → is_too_long a b ≡ false
  unfolding is_too_long
  none_long h k = rw (le-ltb 4_294_967_295 (length a) h, le-ltb 4_294_967_295 (length b) k)

  -- a file is too long
  pub first_long : 4_294_967_295 < length a → is_too_long a b ≡ true
  unfolding is_too_long
  first_long h = rw (lt-ltb 4_294_967_295 (length a) h)

  pub second_long : length a ≤ 4_294_967_295 → 4_294_967_295 < length b → is_too_long a b ≡ true
  unfolding is_too_long
  second_long h k = rw (le-ltb 4_294_967_295 (length a) h, lt-ltb 4_294_967_295 (length b) k)

  pub reads_long : (l : LentFeed) {r : Told} → is_too_long a b ≡ true → r ≡ refused_long → Reads a b l r l
  unfolding told_feed
  reads_long l e o = record {
    said = o ∙ rw e;
    read = λ z. absurd (true≢false (sym e ∙ z));
    refused = λ z. refl;
  }

  -- both files are read
  pub reads_both : (x y s t x' y' s' t' : List ℕ) (room : Room) {r : Told} → length a ≤ 4_294_967_295 → length b ≤ 4_294_967_295
      → room ≡ feed_room (lent_feed x y s t) → r ≡ told_by (split_of room a) (read_feed room a b)
      → Left room a b (read_feed room a b) (lent_feed x y s t) (lent_feed x' y' s' t')
      → Reads a b (lent_feed x y s t) r (lent_feed x' y' s' t')
  unfolding told_feed
  reads_both x y s t x' y' s' t' room h k e o l = record {
    said = o ∙ rw (none_long h k, e);
    read = λ z. rw (← e) l;
    refused = λ z. absurd (true≢false (sym z ∙ none_long h k));
  }
