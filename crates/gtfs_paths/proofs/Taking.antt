-- The plan of a row is what request 1 does with its line; and a row that is entered.
-- Assumes nothing.
use Prim.Native.Nat.{ℕ, ◌+◌, ◌≤◌, ◌<◌}
use mathlib.Core.Path.{◌≡◌, refl, sym, ap, ◌∙◌}
use mathlib.Core.Bool.{true, false}
use Rattle.std.specs.Prelude.{Option, None, Some}
use mathlib.Core.List.{List}
use native.Mathlib.Omega.{arith}
use lib.Dec.{ltb, leb, eqb}
use lib.ListN.{length}
use borrow.Author.Tests.{ltb-true, ltb-false, le-leb, lt-leb, eqb-true, eqb-false}
use Rattle.base.proofs.Choice.{split}
use Rattle.columns.specs.declared.Span.{Span}
use Rattle.columns.specs.Picks.{text_at}
use Rattle.names.specs.Book.{names_in}
use Rattle.names.specs.Booked.{Booked}
use Rattle.feed.specs.declared.Room.{Room}
use Rattle.feed.specs.Feed.{Feed, named, number_of}
use Rattle.feed.specs.Transfers.{TransferLine, take_transfer}
use Rattle.feed.specs.Orderly.{seen_after}
use Rattle.gtfs_rows.specs.Named.{names_with}
use Rattle.feed.proofs.Naming.{seen_least, number_least, named_length}
use Rattle.gtfs_rows.proofs.Named.{with_named}
use Rattle.gtfs_rows.proofs.Naming.{booked_on}
use Rattle.gtfs_paths.specs.declared.PathsReached.{PathsReached}
use Rattle.gtfs_paths.specs.declared.PathEntry.{PathEntry}
use Rattle.gtfs_paths.specs.declared.PathNumbers.{PathNumbers}
use Rattle.gtfs_paths.specs.Taking.{path_by, path_plan, with_transfer, after_path}

-- ---- how many have appeared
seen_fits : (n i cap : ℕ) → i ≤ n → n ≤ cap → i < cap → seen_after n i ≤ cap
unfolding seen_after
seen_fits n i cap h k l = split (eqb i n) (λ e. rw e (omega (arith, eqb-true i n e))) (λ e. rw e k)

seen_over : (n i cap : ℕ) → i ≤ n → n ≤ cap → cap ≤ i → cap < seen_after n i
unfolding seen_after
seen_over n i cap h k l =
    split (eqb i n) (λ e. rw e (omega arith)) (λ e. let z = eqb-false i n e in absurd (z (omega arith)))

-- ---- the plan
-- of a row that is taken: each number is known or the next, and there is room
abbrev pub Fits : Room → List (List ℕ) → ℕ → Option PathNumbers → Type 0
Fits room names rows (Some n) =
    (n.from ≤ length names) × (n.to ≤ seen_after (length names) n.from) × (n.from < room.stops) × (n.to < room.stops) × (rows < room.transfers)
Fits room names rows None = Unit {0}

pub plan_fits : (room : Room) (names : List (List ℕ)) (rows : ℕ) (t u : List ℕ) → Fits room names rows (path_plan room names rows t u)
unfolding path_plan path_by
plan_fits room names rows t u =
    let i = number_of names t in
    let j = number_of (named names t) u in
    let c : i ≤ length names = number_least names t in
    let d : j ≤ length (named names t) = number_least (named names t) u in
    split (ltb i room.stops)
    (λ p.
    split (ltb j room.stops)
    (λ q.
    split (ltb rows room.transfers)
    (λ r.
    rw (p, q, r)
    (c, omega (arith, named_length names t), ltb-true i room.stops p, ltb-true j room.stops q, ltb-true rows room.transfers r))
    (λ r. rw (p, q, r) tt))
    (λ q. rw (p, q) tt))
    (λ p. rw p tt)

-- of a feed that takes a line or has no room
abbrev pub Plans : Room → TransferLine → Feed → Option Feed → Option PathNumbers → Type 0
Plans room l f o (Some n) = o ≡ Some (with_transfer f l n.from n.to)
Plans room l f o None = o ≡ None

pub plan_right : (room : Room) (l : TransferLine) (f : Feed) → length f.stops ≤ room.stops
    → Plans room l f (take_transfer room l f) (path_plan room f.stops (length f.transfers) l.from l.to)
unfolding take_transfer path_plan path_by with_transfer
plan_right room l f few =
    let ns = f.stops in
    let t = l.from in
    let u = l.to in
    let i = number_of ns t in
    let near = named ns t in
    let j = number_of near u in
    let far = named near u in
    let cap = room.stops in
    let m = length f.transfers in
    let a : length near ≡ seen_after (length ns) i = sym (named_length ns t) in
    let b : length far ≡ seen_after (length near) j = sym (named_length near u) in
    let c : i ≤ length ns = number_least ns t in
    let d : j ≤ length near = number_least near u in
    let e₁ : names_with ns i t ≡ near = with_named ns t i refl in
    let e₂ : names_with near j u ≡ far = with_named near u j refl in
    split (ltb i cap)
    (λ p.
    let g : length near ≤ cap = omega (arith, a, seen_fits (length ns) i cap c few (ltb-true i cap p)) in
    split (ltb j cap)
    (λ q.
    let h : leb (length far) cap ≡ true = le-leb (length far) cap (omega (arith, b, seen_fits (length near) j cap d g (ltb-true j cap q))) in
    split (ltb m room.transfers) (λ r. rw (p, q, r, h, e₁, e₂) refl) (λ r. rw (p, q, r, h) refl))
    (λ q.
    let h : leb (length far) cap ≡ false = lt-leb (length far) cap (omega (arith, b, seen_over (length near) j cap d g (ltb-false j cap q))) in
    rw (p, q, h) refl))
    (λ p.
    let h : leb (length far) cap ≡ false =
    lt-leb (length far) cap (omega (arith, a, b, seen_over (length ns) i cap c few (ltb-false i cap p), seen_least (length near) j)) in
    rw (p, h) refl)

-- ---- a row that is entered: both names
pub both_booked : {first second : List ℕ} {cap cut n m : ℕ} {w w' w'' : List ℕ} {names : List (List ℕ)} (to : ℕ) (far : Span)
    → Booked first second (record { cap = cap; split = cut; count = n }) w w' names → m ≡ seen_after n to
    → Booked first second (record { cap = cap; split = cut; count = m }) w' w''
    (names_with (names_in first second (record { cap = cap; split = cut; count = n }) w') to (text_at second far))
    → Booked first second (record { cap = cap; split = cut; count = m }) w w'' (names_with names to (text_at second far))
both_booked {n = n} {m} to far k e l = booked_on k (rw k.texts at l) (omega (arith, e, seen_least n to))

-- the first is in the book when the second is put there
pub turned_on : (n from : ℕ) {m cut : ℕ} → m ≡ seen_after n from → cut ≤ n → cut ≤ m
turned_on n from e h = omega (arith, e, seen_least n from)

pub far_next : (n from : ℕ) {m to : ℕ} → m ≡ seen_after n from → to ≤ seen_after n from → to ≤ m
far_next n from e h = omega (arith, e)

pub counted_both : (n from to : ℕ) {m k : ℕ} → m ≡ seen_after n from → k ≡ seen_after m to → k ≡ seen_after (seen_after n from) to
counted_both n from to e f = f ∙ ap (λ (i : ℕ). seen_after i to) e

pub after_path_lem : (at : PathsReached) (e : PathEntry) {n : ℕ} → n ≡ seen_after (seen_after at.stops e.from) e.to
    → record { split = at.split; stops = n; transfers = at.transfers + 1 } ≡ after_path at e
unfolding after_path
after_path_lem at e q = rw q
