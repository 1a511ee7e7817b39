-- A table that is filled row by row, a row for each line of a file: the words that stand in it, and where the next line begins.
-- Assumes nothing.
use Prim.Native.Nat.{ℕ, ◌+◌, ◌*◌, ◌≤◌, ◌<◌}
use mathlib.Core.Path.{◌≡◌, refl, ap, ◌∙◌}
use mathlib.Core.List.{List, [], ◌++◌}
use native.Mathlib.Omega.{arith}
use lib.ListN.{length, length-append}
use Rattle.base.specs.Put.{with_bytes}
use Rattle.base.proofs.Put.{put_then, put_length}
use Rattle.csv_text.specs.declared.TextLine.{TextLine}
use Rattle.csv_text.specs.Read.{LineAt}

-- n rows, of the words `put`, stand in x, which was x₀ and has room for `most`; the next line of b begins at i
pub record Filling (b : List ℕ) (most : ℕ) (x₀ : List ℕ) (i n : ℕ) (put x : List ℕ) : Type 0 where
  pub held : x ≡ with_bytes x₀ 0 put
  pub rows : length put ≡ 4 * n
  pub few : n ≤ most
  pub room : 4 * most ≤ length x₀
  pub inside : i ≤ length b + 1
  pub passed : n + 1 ≤ i
  pub short : length b ≤ 4_294_967_295

pub filling_start : {b : List ℕ} {most : ℕ} {x : List ℕ} {i : ℕ} → 4 * most ≤ length x → 1 ≤ i → i ≤ length b + 1 → length b ≤ 4_294_967_295
    → Filling b most x i 0 [] x
unfolding with_bytes
filling_start r p k s = record { held = refl; rows = refl; few = omega arith; room = r; inside = k; passed = p; short = s }

module _ {b : List ℕ} {most : ℕ} {x₀ : List ℕ} {i n : ℕ} {put x : List ℕ} (f : Filling b most x₀ i n put x) where
  fits : 0 + length put ≤ length x₀
  fits = omega (arith, f.rows, f.few, f.room)

  pub filling_length : length x ≡ length x₀
  filling_length = ap length f.held ∙ put_length x₀ 0 put fits

  -- each line before this one but the header is a row, so its number fits 32 bits
  pub number_fits : i < length b → n + 2 ≤ 4_294_967_295
  number_fits h = omega (arith, f.passed, f.short)

  -- the line's row behind the others
  pub row_more : {l : TextLine} → LineAt b i l → n < most → (row : List ℕ) → length row ≡ 4 → {x' : List ℕ} → x' ≡ with_bytes x (4 * n) row
      → Filling b most x₀ l.next (n + 1) (put ++ row) x'
  row_more m h row four e =
      let place : 4 * n ≡ 0 + length put = omega (arith, f.rows) in
      record {
        held = put_then x₀ 0 put row fits f.held (e ∙ ap (λ (k : ℕ). with_bytes x k row) place);
        rows = omega (arith, length-append put row, f.rows);
        few = omega arith;
        room = f.room;
        inside = m.within;
        passed = omega (arith, m.further, f.passed);
        short = f.short;
      }
