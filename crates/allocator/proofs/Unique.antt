-- Two results of one operation on the workspace are equal, word for word: what `Does` says leaves one workspace, and so do a state that is
-- named, `Tidy` and the length that a lent slice keeps. One law for all operations: f is what the operation's contract names.
-- Assumes nothing.
use mathlib.Core.Path.{◌≡◌, sym, ◌∙◌}
use mathlib.Core.List.{List}
use Prim.Native.Nat.{ℕ}
use lib.ListN.{length}
use Rattle.std.specs.Borrow.{MutBor}
use Rattle.model.specs.Work.{Work}
use Rattle.allocator.specs.Layout.{Sized, view}
use Rattle.allocator.specs.Tidy.{Tidy}
use Rattle.allocator.specs.Does.{Does, Usable}
use Rattle.allocator.specs.Operations.{unmarked}
use Rattle.allocator.specs.Workspace.{state, Over, Becomes}
use Rattle.allocator.specs.declared.Workspace.{Workspace}
use Rattle.allocator.proofs.Became.{words_sized, marks_sized}
use Rattle.allocator.proofs.Same.{same_words}

-- the slices held ws and ms when they were lent, and hold ws' and ms' now: the state x
pub record Leaves (stops routes : ℕ) (ws ms : List ℕ) (x : Work) (ws' ms' : List ℕ) : Type 0 where
  pub is : view stops routes ws' ms' ≡ x
  pub tidy : Tidy stops routes ws' ms'
  pub words_long : length ws' ≡ length ws
  pub marks_long : length ms' ≡ length ms

module _ {stops routes : ℕ} {ws ms : List ℕ} (z : Sized stops routes ws ms) where
  pub leaves_sized : {x : Work} {ws' ms' : List ℕ} → Leaves stops routes ws ms x ws' ms' → Sized stops routes ws' ms'
  leaves_sized h = marks_sized (words_sized z h.words_long) h.marks_long

  pub leaves_unique : {x : Work} {ws' ms' ws'' ms'' : List ℕ} → Leaves stops routes ws ms x ws' ms' → Leaves stops routes ws ms x ws'' ms''
      → (ws' ≡ ws'') × (ms' ≡ ms'')
  leaves_unique {x} {ws'} {ms'} {ws''} {ms''} a b =
      same_words stops routes ws' ms' ws'' ms'' (leaves_sized a) (leaves_sized b) a.tidy b.tidy (a.is ∙ sym b.is)

pub becomes_does : {f : Work → Work} {w w' : Workspace} → Becomes f w w'
    → Does w.stops w.routes f w.words.now w.marks.now w'.words.now w'.marks.now
becomes_does {w' = w'} b = record {
  holds = rw (b.same.stops_same, b.same.routes_same) at b.holds;
  usable = rw (b.same.stops_same, b.same.routes_same) at w'.usable;
}

pub does_unique : {stops routes : ℕ} (f : Work → Work) {ws ms ws' ms' ws'' ms'' : List ℕ} → Does stops routes f ws ms ws' ms'
    → Does stops routes f ws ms ws'' ms''
    → (ws' ≡ ws'') × (ms' ≡ ms'')
does_unique {stops} {routes} f {ws} {ms} {ws'} {ms'} {ws''} {ms''} a b =
    same_words stops routes ws' ms' ws'' ms'' a.usable.sized b.usable.sized a.usable.tidy b.usable.tidy
    (a.holds ∙ sym b.holds)

-- so no second result of `clear_marks`: a mark beyond the last stop cannot stay
pub clear_marks_unique : {stops routes : ℕ} {ws ms ws' ms' ws'' ms'' : List ℕ} → Does stops routes (unmarked stops) ws ms ws' ms'
    → Does stops routes (unmarked stops) ws ms ws'' ms''
    → (ws' ≡ ws'') × (ms' ≡ ms'')
clear_marks_unique {stops} a b = does_unique (unmarked stops) a b

-- the same of a workspace as a value: what an operation on it may leave is one thing
pub becomes_unique : (f : Work → Work) {w w' w'' : Workspace} → Becomes f w w' → Becomes f w w''
    → (w'.words.now ≡ w''.words.now) × (w'.marks.now ≡ w''.marks.now)
becomes_unique f a b = does_unique f (becomes_does a) (becomes_does b)

-- so no second workspace that `clear_marks` leaves, of whose contract this is the clause
pub clear_marks_once : {w w' w'' : Workspace} → Becomes (unmarked w.stops) w w' → Becomes (unmarked w.stops) w w''
    → (w'.words.now ≡ w''.words.now) × (w'.marks.now ≡ w''.marks.now)
clear_marks_once {w} a b = becomes_unique (unmarked w.stops) a b

-- and what `Workspace::new` makes of the words and marks that it is lent is one thing
pub over_unique : {words marks : MutBor (List ℕ)} {stops routes : ℕ} {x : Work} {w w' : Workspace}
    → state w ≡ x → Over words marks stops routes w
    → state w' ≡ x → Over words marks stops routes w'
    → (w.words.now ≡ w'.words.now) × (w.marks.now ≡ w'.marks.now)
over_unique {stops = stops} {routes = routes} {x = x} {w = w} {w' = w'} e o e' o' =
    let u : Usable stops routes w.words.now w.marks.now = rw (o.stops_same, o.routes_same) at w.usable in
    let u' : Usable stops routes w'.words.now w'.marks.now = rw (o'.stops_same, o'.routes_same) at w'.usable in
    let v : view stops routes w.words.now w.marks.now ≡ x = rw (o.stops_same, o.routes_same) at e in
    let v' : view stops routes w'.words.now w'.marks.now ≡ x = rw (o'.stops_same, o'.routes_same) at e' in
    same_words stops routes w.words.now w.marks.now w'.words.now w'.marks.now u.sized u'.sized u.tidy u'.tidy (v ∙ sym v')
