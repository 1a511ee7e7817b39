-- What a writer that answers with bytes has found and left: rows in order, and their text at the front of the buffer.
-- Assumes nothing.
use Prim.Native.Nat.{ℕ, zero, suc, ◌+◌, ◌≤◌}
use mathlib.Core.Path.{◌≡◌, refl, ap}
use mathlib.Core.Bool.{Bool, true, false}
use mathlib.Core.List.{List}
use native.Mathlib.Omega.{arith}
use lib.Dec.{leb}
use lib.ListN.{length, take}
use borrow.Author.Tests.{leb-true, leb-false}
use Rattle.base.proofs.Choice.{split}
use Rattle.base.proofs.Put.{put_upto}
use Rattle.std.specs.Prelude.{Result, Ok, Err}
use Rattle.gtfs_write.specs.declared.Unwritten.{Unwritten}
use Rattle.gtfs_write.specs.declared.Unwritten.TheVariants.{Shape, Listing, Moments, Transfers, Full}
use Rattle.gtfs_write.specs.Refusing.{by_number}
use Rattle.gtfs_write.specs.Written.{whole_rows, Whole, answered, held_after}
use Rattle.gtfs_write.proofs.Tests.{whole_rows_lem}
use Rattle.gtfs_promises.specs.Tables.{IfRoom, room_enough, room_short}

-- so many bytes; one more than the number of a refusal
bytes_of : Result ℕ ℕ → ℕ
bytes_of (Ok n) = n
bytes_of (Err k) = 0

refused_by : Result ℕ ℕ → ℕ
refused_by (Ok n) = 0
refused_by (Err k) = suc k

-- an answer by its number is that answer
ok_numbered : (r : Result ℕ Unwritten) {n : ℕ} → by_number r ≡ Ok n → r ≡ Ok n
unfolding bytes_of
ok_numbered (Ok m) e = ap (λ k. Ok k) (ap bytes_of e)
ok_numbered (Err Shape) e = cc
ok_numbered (Err Listing) e = cc
ok_numbered (Err Moments) e = cc
ok_numbered (Err Transfers) e = cc
ok_numbered (Err Full) e = cc

full_numbered : (r : Result ℕ Unwritten) → by_number r ≡ Err 15 → r ≡ Err Full
unfolding refused_by
full_numbered (Ok m) e = cc
full_numbered (Err Shape) e = let z : ◌≡◌ {A = ℕ} 2 16 = ap refused_by e in absurd (omega arith)
full_numbered (Err Listing) e = let z : ◌≡◌ {A = ℕ} 3 16 = ap refused_by e in absurd (omega arith)
full_numbered (Err Moments) e = let z : ◌≡◌ {A = ℕ} 4 16 = ap refused_by e in absurd (omega arith)
full_numbered (Err Transfers) e = let z : ◌≡◌ {A = ℕ} 6 16 = ap refused_by e in absurd (omega arith)
full_numbered (Err Full) e = refl

-- an answer of bytes
pub record Accepts (rows : Bool) (fault size room n : ℕ) : Type 0 where
  pub all_rows : rows ≡ true
  pub no_fault : fault ≡ 0
  pub bytes : n ≡ size
  pub fits : size ≤ room

pub accepted : (rows : Bool) (fault size room : ℕ) {n : ℕ} → Ok n ≡ answered rows fault size room → Accepts rows fault size room n
unfolding answered refused_by bytes_of
accepted false fault size room e = let z : ◌≡◌ {A = ℕ} 0 2 = ap refused_by e in absurd (omega arith)
accepted true (suc k) size room e = let z : ◌≡◌ {A = ℕ} 0 (suc (suc k)) = ap refused_by e in absurd (omega arith)
accepted true zero size room {n} e =
    split (leb size room)
    (λ t. record { all_rows = refl; no_fault = refl; bytes = ap bytes_of (rw t at e); fits = leb-true size room t })
    (λ t. let z : ◌≡◌ {A = ℕ} 0 16 = ap refused_by (rw t at e) in absurd (omega arith))

-- rows without a fault
pub if_room : (rows : Bool) (fault room : ℕ) (text : List ℕ) (r : Result ℕ Unwritten) → by_number r ≡ answered rows fault (length text) room → rows ≡ true
    → fault ≡ 0 → IfRoom text room r
unfolding answered
if_room rows fault room text r e h z =
    split (leb (length text) room)
    (λ t. rw (ok_numbered r (rw (h, z, t) at e)) (room_enough (leb-true (length text) room t)))
    (λ t. rw (full_numbered r (rw (h, z, t) at e)) (room_short (leb-false (length text) room t)))

-- the text that stands in the buffer
pub text_held : (n : ℕ) (out text : List ℕ) {out' : List ℕ} → n ≡ length text → length text ≤ length out → out' ≡ held_after {E = Unwritten} (Ok n) out text
    → take n out' ≡ text
unfolding held_after
text_held n out text z h e =
    let to : n ≡ 0 + length text = omega arith in
    rw (to, e) (put_upto out 0 text (omega arith))

pub whole_of : (most : ℕ) (w : List ℕ) → whole_rows most w ≡ true → Whole most w
whole_of most w e = whole_rows_lem most w refl e
