-- The first transfer that is at fault, found row by row.
-- Assumes nothing.
use Prim.Native.Nat.{ℕ, zero, suc, ◌+◌, ◌/◌, ◌≤◌, ◌<◌}
use mathlib.Core.Path.{◌≡◌, refl, sym, ◌∙◌}
use mathlib.Core.Bool.{true}
use mathlib.Core.List.{List, [], ◌∷◌}
use native.Mathlib.Omega.{arith}
use lib.ListN.{length, get_or, drop}
use Rattle.feed.specs.declared.Room.{Room}
use Rattle.feed.specs.Feed.{TransferRow}
use Rattle.feed.specs.Orderly.{seen_after, stop_fits, transfer_fault, after_transfer, transfers_fault}
use Rattle.feed.specs.Rows.{transfer_with, transfer_rows_in}
use Rattle.feed.proofs.Faultless.{stop_inside, TransferRight, transfer_right}
use Rattle.gtfs_write.specs.Written.{LIMITS}
use Rattle.gtfs_write.proofs.Places.{row_by, rows_next, rows_none}
use Rattle.gtfs_write.proofs.Answers.{refusal_some, handed_on}
use Rattle.std.specs.Prelude.{Result, IsErr, IsErrAnd}
use Rattle.std.specs.Simd.{first_chunks}
use Rattle.gtfs_write.specs.declared.Unwritten.{Unwritten}
use Rattle.gtfs_write.specs.Refusing.{unwritten_number, fault_of}

-- ---- a stop that fits
pub stop_small : (stops s : ℕ) → true ≡ stop_fits LIMITS stops s → s < 4_294_967_295
stop_small stops s e = omega (arith, stop_inside LIMITS stops s (sym e))

-- ---- the rows in turn
first_fault : (room : Room) (s : ℕ) (r : TransferRow) (rs : List TransferRow) (k : ℕ) → k ≡ transfer_fault room s r → 0 < k
    → k ≡ transfers_fault room s (r ∷ rs)
unfolding transfers_fault
first_fault room s r rs zero e h = absurd (omega arith)
first_fault room s r rs (suc k) e h = rw (← e, transfers_fault)

no_fault : (room : Room) (s : ℕ) (r : TransferRow) (rs : List TransferRow) → transfer_fault room s r ≡ 0
    → transfers_fault room s (r ∷ rs) ≡ transfers_fault room (after_transfer s r) rs
unfolding transfers_fault
no_fault room s r rs e = rw (e, transfers_fault)

-- what is left leads where all leads
pub record Faulting (w : List ℕ) (stops seen k : ℕ) : Type 0 where
  rest : transfers_fault LIMITS seen (drop k (transfer_rows_in w)) ≡ transfers_fault LIMITS stops (transfer_rows_in w)

pub faulting_start : (w : List ℕ) (stops : ℕ) → Faulting w stops stops 0
faulting_start w stops = record { rest = refl }

module _ {w : List ℕ} {stops seen k : ℕ} (f : Faulting w stops seen k) {rows : List (List ℕ)} (cut : rows ≡ first_chunks 4 (length w / 4) w) where
  pub faulting_end : length rows ≤ k → 0 ≡ transfers_fault LIMITS stops (transfer_rows_in w)
  unfolding transfer_rows_in transfers_fault
  faulting_end h = sym (rw (rows_none transfer_with w cut k h)) ∙ f.rest

  module _ (h : k < length rows) where
    cut_next : drop k (transfer_rows_in w) ≡ row_by transfer_with (get_or rows k []) ∷ drop (k + 1) (transfer_rows_in w)
    unfolding transfer_rows_in
    cut_next = rows_next transfer_with w cut k h

    pub fault_found : (u : Unwritten) → unwritten_number u ≡ transfer_fault LIMITS seen (row_by transfer_with (get_or rows k []))
        → {A : Type 0} (r : Result A Unwritten) → IsErr r × IsErrAnd r (λ e. e ≡ u) → fault_of r ≡ transfers_fault LIMITS stops (transfer_rows_in w)
    fault_found u e r g =
        let q : unwritten_number u ≡ transfers_fault LIMITS seen (drop k (transfer_rows_in w)) =
        rw cut_next
        (first_fault LIMITS seen (row_by transfer_with (get_or rows k [])) (drop (k + 1) (transfer_rows_in w)) (unwritten_number u) e (refusal_some u)) in
        rw (handed_on r g) (q ∙ f.rest)

    module _ (e : 0 ≡ transfer_fault LIMITS seen (row_by transfer_with (get_or rows k []))) where
      right : TransferRight LIMITS seen (row_by transfer_with (get_or rows k []))
      right = transfer_right LIMITS seen (row_by transfer_with (get_or rows k [])) (sym e)

      pub from_small : get_or (get_or rows k []) 0 0 < 4_294_967_295
      unfolding transfer_with
      from_small = omega (arith, stop_inside LIMITS seen (get_or (get_or rows k []) 0 0) right.from_fits)

      pub to_small : get_or (get_or rows k []) 1 0 < 4_294_967_295
      unfolding transfer_with
      to_small = omega (arith, stop_inside LIMITS (seen_after seen (get_or (get_or rows k []) 0 0)) (get_or (get_or rows k []) 1 0) right.to_fits)

      pub faulting_next : {m : ℕ} → m ≡ after_transfer seen (row_by transfer_with (get_or rows k [])) → Faulting w stops m (k + 1)
      faulting_next {m} p =
          let c : transfers_fault LIMITS seen (drop k (transfer_rows_in w)) ≡ transfers_fault LIMITS m (drop (k + 1) (transfer_rows_in w)) =
          rw (cut_next, p) (no_fault LIMITS seen (row_by transfer_with (get_or rows k [])) (drop (k + 1) (transfer_rows_in w)) (sym e)) in
          record { rest = sym c ∙ f.rest }
