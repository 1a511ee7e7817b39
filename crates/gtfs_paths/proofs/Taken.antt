-- A line whose row is taken or refused: what it needs, and what it leaves.
-- Assumes nothing.
use Prim.Native.Nat.{ℕ, ◌*◌}
use mathlib.Core.Path.{◌≡◌, refl, sym, ◌∙◌}
use mathlib.Core.List.{List, [], ◌∷◌}
use native.Mathlib.Omega.{arith}
use lib.ListN.{length}
use Rattle.base.specs.Put.{with_bytes}
use Rattle.columns.specs.Picks.{text_at}
use Rattle.names.specs.Book.{names_in}
use Rattle.names.specs.Booked.{Booked}
use Rattle.names.proofs.Booking.{booked_count}
use Rattle.feed.specs.declared.Room.{Room}
use Rattle.feed.specs.declared.TransferSpans.{TransferSpans}
use Rattle.gtfs_rows.specs.Named.{names_with}
use Rattle.gtfs_rows.proofs.Naming.{booked_here}
use Rattle.gtfs_paths.specs.declared.PathsReached.{PathsReached}
use Rattle.gtfs_paths.specs.declared.PathNumbers.{PathNumbers}
use Rattle.std.specs.Prelude.{Option, None, Some}
use Rattle.gtfs_paths.specs.Taking.{path_plan, path_shelf, after_path, PathEnters, PathTakeable, path_in, path_took_by, PathTakes}
use Rattle.gtfs_paths.proofs.Taking.{Fits, plan_fits}

module _ {first second : List ℕ} {room : Room} {at : PathsReached} {v : TransferSpans} {p s : List ℕ}
    (h : PathTakeable first second room at v p s) {d : Option PathNumbers}
    (y : d ≡ path_plan room (names_in first second (path_shelf room at) s) at.transfers (text_at second v.from) (text_at second v.to)) where
  is_in : path_in first second room at v s ≡ d
  unfolding path_in
  is_in = sym y

  pub plan_enters : (e : PathNumbers) → d ≡ Some e → PathEnters first second room at (record { from = e.from; to = e.to; line = v }) p s
  plan_enters e z =
      let n : at.stops ≡ length (names_in first second (path_shelf room at) s) = booked_count (booked_here h.book) in
      let w : Fits room (names_in first second (path_shelf room at) s) at.transfers (Some e) =
      rw (sym y ∙ z) at (plan_fits room (names_in first second (path_shelf room at) s) at.transfers (text_at second v.from) (text_at second v.to)) in
      record {
        named_both = record {
          book = h.book;
          near_text = h.near_text;
          far_text = h.far_text;
          short = h.short;
          turned = h.turned;
          near_next = omega (arith, w.0, n);
          far_next = rw n w.1;
          near_fits = w.2;
          far_fits = w.3;
        };
        row_fits = w.4;
        rows = h.rows;
        row_next = h.row_next;
      }

  pub took_kept : (e : PathNumbers) → d ≡ Some e → {r : Option PathsReached} (at' : PathsReached) {p' s' : List ℕ} → r ≡ Some at'
      → at' ≡ after_path at (record { from = e.from; to = e.to; line = v })
      → p' ≡ with_bytes p (4 * at.transfers) (e.from ∷ e.to ∷ v.kind ∷ v.span ∷ [])
      → Booked first second (path_shelf room at') s s'
      (names_with (names_with (names_in first second (path_shelf room at) s) e.from (text_at second v.from)) e.to (text_at second v.to))
      → PathTakes first second room at v r p s p' s'
  unfolding path_took_by
  took_kept e z at' q a ps ss = record { said = q ∙ rw (is_in, z, ← a); left = rw (is_in, z, ← a) (ps, ss) }

  pub took_full : d ≡ None → (r : Option PathsReached) → r ≡ None → PathTakes first second room at v r p s p s
  unfolding path_took_by
  took_full z r e = record { said = rw (is_in, z, e); left = rw (is_in, z) (refl, refl) }
