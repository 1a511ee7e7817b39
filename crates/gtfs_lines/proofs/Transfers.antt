-- A row of transfers.txt: its type and its span, and its values from the texts that are picked.
-- Assumes nothing.
use Prim.Native.Nat.{ℕ, ◌≤◌, ◌<◌}
use mathlib.Core.Path.{◌≡◌, refl, sym, ap, ◌∙◌}
use mathlib.Core.Bool.{cond}
use Rattle.std.specs.Prelude.{Option, None, Some}
use mathlib.Core.List.{List, [], ◌∷◌}
use lib.Dec.{leb}
use lib.ListN.{length}
use borrow.Author.Tests.{eq-eqb, ne_eqb, le-leb, lt-leb, lt-ltb, le-ltb}
use Rattle.csv_text.specs.There.{if_there}
use Rattle.csv_text.specs.Part.{part}
use Rattle.csv_text.specs.Fields.{fields}
use Rattle.csv_text.proofs.Parts.{part_step, part_none}
use Rattle.columns.specs.declared.Span.{Span}
use Rattle.columns.specs.declared.Picked.{Picked}
use Rattle.columns.specs.Picks.{Five, five_of, five_in, text_at, picked_in}
use Rattle.numbers.specs.Decimal.{decimal}
use Rattle.feed.specs.declared.TransferColumns.{TransferColumns}
use Rattle.feed.specs.Transfers.{UNSTATED, kind_of, span_of, transfer_values, transfer_line}
use Rattle.gtfs_lines.specs.Values.{formed, transfer_in}
use Rattle.gtfs_lines.proofs.Forms.{formed_then}

-- ---- its type
pub kind_empty : (b : List ℕ) (s : Span) → s.to ≤ s.from → Some 0 ≡ kind_of (text_at b s)
unfolding text_at kind_of
kind_empty b s h = rw (part_none b s.from s.to h)

module _ (b : List ℕ) (s : Span) (h : s.from < s.to) (k : s.to ≤ length b) where
  kind_of_lem : kind_of (text_at b s) ≡ if_there (decimal (part s.from s.to b)) (λ k. cond (leb k 5) (Some k) None)
  unfolding text_at kind_of
  kind_of_lem = rw (part_step b s.from s.to h k)

  pub kind_bad : None ≡ decimal (part s.from s.to b) → None ≡ kind_of (text_at b s)
  unfolding if_there
  kind_bad e = rw (kind_of_lem, ← e)

  module _ {v : ℕ} (e : Some v ≡ decimal (part s.from s.to b)) where
    pub kind_high : 5 < v → None ≡ kind_of (text_at b s)
    unfolding if_there
    kind_high l = rw (kind_of_lem, ← e, lt-leb v 5 l)

    pub kind_right : v ≤ 5 → Some v ≡ kind_of (text_at b s)
    unfolding if_there
    kind_right l = rw (kind_of_lem, ← e, le-leb v 5 l)

-- ---- its span
pub span_unstated : (k : ℕ) (t : List ℕ) → (k ≡ 2 → ⊥) → Some 4294967295 ≡ span_of k t
unfolding span_of
span_unstated k t e = rw (ne_eqb k 2 e)

module _ (b : List ℕ) (k : ℕ) (s : Span) (c : k ≡ 2) where
  pub span_bad : None ≡ decimal (part s.from s.to b) → None ≡ span_of k (text_at b s)
  unfolding span_of text_at if_there
  span_bad e = rw (eq-eqb k 2 c, ← e)

  module _ {v : ℕ} (e : Some v ≡ decimal (part s.from s.to b)) where
    pub span_high : 4294967295 ≤ v → None ≡ span_of k (text_at b s)
    unfolding span_of text_at if_there
    span_high l = rw (eq-eqb k 2 c, ← e, le-ltb v UNSTATED l)

    pub span_right : v < 4294967295 → Some v ≡ span_of k (text_at b s)
    unfolding span_of text_at if_there
    span_right l = rw (eq-eqb k 2 c, ← e, lt-ltb v UNSTATED l)

-- ---- the line
transfers_wanted : TransferColumns → List ℕ
transfers_wanted c = c.from ∷ c.to ∷ c.kind ∷ c.span ∷ c.count ∷ []

by_five : (c : TransferColumns) (o : Option (List (List ℕ)))
    → if_there o (transfer_values c) ≡ if_there (five_in (transfers_wanted c) o) (formed transfer_in c.count)
unfolding transfers_wanted five_in five_of if_there formed transfer_in transfer_values
by_five c None = refl
by_five c (Some ts) = refl

pub transfer_is : (b : List ℕ) (c : TransferColumns) (l : List ℕ) (r : Option Picked)
    → picked_in b r ≡ if_there (five_in (c.from ∷ c.to ∷ c.kind ∷ c.span ∷ c.count ∷ []) (fields l)) (formed Some c.count)
    → transfer_line c l ≡ if_there (picked_in b r) transfer_in
unfolding transfer_line transfers_wanted
transfer_is b c l r q =
    by_five c (fields l) ∙ formed_then transfer_in c.count (five_in (transfers_wanted c) (fields l)) ∙ ap (λ (o : Option Five). if_there o transfer_in) (sym q)
