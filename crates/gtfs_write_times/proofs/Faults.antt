-- The first row of stop times that is at fault, found row by row.
-- Assumes nothing.
use Prim.Native.Nat.{ℕ, zero, suc, ◌+◌, ◌/◌, ◌≤◌, ◌<◌}
use mathlib.Core.Path.{◌≡◌, refl, sym, ◌∙◌}
use mathlib.Core.List.{List, [], ◌∷◌}
use native.Mathlib.Omega.{arith}
use lib.ListN.{length, get_or, drop}
use Rattle.feed.specs.declared.Room.{Room}
use Rattle.feed.specs.Feed.{TimeRow}
use Rattle.feed.specs.Orderly.{Seen, none_seen, seen_after, time_fault, after_time, times_fault}
use Rattle.feed.specs.Rows.{time_with, time_rows_in}
use Rattle.feed.proofs.Faultless.{stop_inside, trip_inside, TimeRight, time_right}
use Rattle.gtfs_write.specs.Written.{LIMITS}
use Rattle.gtfs_write.proofs.Places.{row_by, rows_next, rows_none}
use Rattle.gtfs_write.proofs.Answers.{refusal_some, handed_on}
use Rattle.std.specs.Prelude.{Result, IsErr, IsErrAnd}
use Rattle.std.specs.Simd.{first_chunks}
use Rattle.gtfs_write.specs.declared.Unwritten.{Unwritten}
use Rattle.gtfs_write.specs.Refusing.{unwritten_number, fault_of}
use Rattle.gtfs_write_times.specs.WrittenTimes.{seen_so}

-- ---- the rows in turn
first_fault : (room : Room) (s : Seen) (r : TimeRow) (rs : List TimeRow) (k : ℕ) → k ≡ time_fault room s r → 0 < k
    → k ≡ times_fault room s (r ∷ rs)
unfolding times_fault
first_fault room s r rs zero e h = absurd (omega arith)
first_fault room s r rs (suc k) e h = rw (← e, times_fault)

no_fault : (room : Room) (s : Seen) (r : TimeRow) (rs : List TimeRow) → time_fault room s r ≡ 0
    → times_fault room s (r ∷ rs) ≡ times_fault room (after_time s r) rs
unfolding times_fault
no_fault room s r rs e = rw (e, times_fault)

-- what is left leads where all leads
pub record Faulting (w : List ℕ) (stops trips k : ℕ) : Type 0 where
  rest : times_fault LIMITS (seen_so stops trips) (drop k (time_rows_in w)) ≡ times_fault LIMITS none_seen (time_rows_in w)

pub faulting_start : (w : List ℕ) → Faulting w 0 0 0
faulting_start w = record { rest = refl }

module _ {w : List ℕ} {stops trips k : ℕ} (f : Faulting w stops trips k) {rows : List (List ℕ)} (cut : rows ≡ first_chunks 4 (length w / 4) w) where
  pub faulting_end : length rows ≤ k → 0 ≡ times_fault LIMITS none_seen (time_rows_in w)
  unfolding time_rows_in times_fault
  faulting_end h = sym (rw (rows_none time_with w cut k h)) ∙ f.rest

  module _ (h : k < length rows) where
    cut_next : drop k (time_rows_in w) ≡ row_by time_with (get_or rows k []) ∷ drop (k + 1) (time_rows_in w)
    unfolding time_rows_in
    cut_next = rows_next time_with w cut k h

    pub fault_found : (u : Unwritten) → unwritten_number u ≡ time_fault LIMITS (seen_so stops trips) (row_by time_with (get_or rows k []))
        → {A : Type 0} (r : Result A Unwritten) → IsErr r × IsErrAnd r (λ e. e ≡ u) → fault_of r ≡ times_fault LIMITS none_seen (time_rows_in w)
    fault_found u e r g =
        let q : unwritten_number u ≡ times_fault LIMITS (seen_so stops trips) (drop k (time_rows_in w)) =
        rw cut_next
        (first_fault LIMITS (seen_so stops trips) (row_by time_with (get_or rows k [])) (drop (k + 1) (time_rows_in w)) (unwritten_number u) e
        (refusal_some u)) in
        rw (handed_on r g) (q ∙ f.rest)

    module _ (e : 0 ≡ time_fault LIMITS (seen_so stops trips) (row_by time_with (get_or rows k []))) where
      right : TimeRight LIMITS (seen_so stops trips) (row_by time_with (get_or rows k []))
      right = time_right LIMITS (seen_so stops trips) (row_by time_with (get_or rows k [])) (sym e)

      pub stop_small : get_or (get_or rows k []) 1 0 < 4_294_967_295
      unfolding time_with
      stop_small = omega (arith, stop_inside LIMITS stops (get_or (get_or rows k []) 1 0) right.stop_fits_lem)

      pub trip_small : get_or (get_or rows k []) 0 0 < 4_294_967_295
      unfolding time_with
      trip_small = omega (arith, trip_inside LIMITS trips (get_or (get_or rows k []) 0 0) right.trip_fits_lem)

      pub faulting_next : {m n : ℕ} → m ≡ seen_after stops (get_or (get_or rows k []) 1 0) → n ≡ seen_after trips (get_or (get_or rows k []) 0 0)
          → Faulting w m n (k + 1)
      unfolding after_time time_with
      faulting_next {m} {n} p q =
          let c : times_fault LIMITS (seen_so stops trips) (drop k (time_rows_in w)) ≡ times_fault LIMITS (seen_so m n) (drop (k + 1) (time_rows_in w)) =
          rw (cut_next, p, q) (no_fault LIMITS (seen_so stops trips) (row_by time_with (get_or rows k [])) (drop (k + 1) (time_rows_in w)) (sym e)) in
          record { rest = sym c ∙ f.rest }
