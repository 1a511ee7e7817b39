-- `marks::next_mark` meets its contract: the word of `from` from there on, and then whole words.
-- Assumes nothing.
use mathlib.Core.Path.{refl}
use Prim.Native.Nat.{◌+◌, ◌*◌, ◌/◌, ◌%◌, ◌^◌}
use native.Mathlib.Nat.{div-add-mod', div-one, add-zero, le_refl}
use native.Mathlib.Omega.{arith}
use lib.ListN.{get_or}
use lib.Count.{count_trailing_zeros}
use Rattle.marks.specs.Marks.{marked}
use Rattle.marks.proofs.Chosen.{clear_join, clear_less, clear_empty, first_none}
use Rattle.marks.proofs.Words.{First, word_first, word_clear, answer_at, answer_none}
use Rattle.marks.proofs.next_mark.Goals as goal
use Rattle.marks.proofs.next_mark.Goals.{Then-rest-ne0, Then-word-ne0}

-- the word of `from` has a mark from there on
here : (c : Then-rest-ne0) →
    let a = c.args in
    let word = get_or a.marks.now (a.from / 64) 0 in
    First a.marks.now a.from (a.from % 64) (count_trailing_zeros 64 (word / 2 ^ (a.from % 64)))
here c =
    let a = c.args in
    let i = a.from / 64 in
    let k = a.from % 64 in
    let fits = (c.shared_slice_known-1.given i).fits in
    word_first a.marks.now a.from i k _ (div-add-mod' a.from 64) refl c.if-rest-ne0.true fits

-- a later word has a mark
later : (c : Then-word-ne0) →
    let l = c.args.marks.now in
    First l (c.loop-w.w * 64) 0 (count_trailing_zeros 64 (get_or l c.loop-w.w 0))
later c =
    let l = c.args.marks.now in
    let w = c.loop-w.w in
    let fits = (c.shared_slice_known-in-loop-w-1.given w).fits in
    word_first l (w * 64) w 0 (get_or l w 0) (add-zero (w * 64)) (div-one (get_or l w 0)) c.if-word-ne0.true fits

pub returns-then-limit-from : goal.returns-then-limit-from
returns-then-limit-from c =
    let a = c.args in
    let f = marked a.marks.now in
    first_none f a.from a.limit (clear_empty f a.from a.limit c.if-limit-from.true)

pub overflow_add-s : goal.overflow_add-s
overflow_add-s c = omega (arith, (here (goal.at.overflow_add-s c).Then-rest-ne0).inside)

pub returns-then-s-limit : goal.returns-then-s-limit
returns-then-s-limit c =
    let a = c.args in
    let l = a.marks.now in
    let same = le_refl a.from in
    let none = clear_empty (marked l) a.from a.from same in
    answer_at l a.from a.limit a.from (a.from % 64) _ none (here (goal.at.returns-then-s-limit c).Then-rest-ne0) same c.if-s-limit.true

pub returns-else-s-limit : goal.returns-else-s-limit
returns-else-s-limit c =
    let a = c.args in
    let l = a.marks.now in
    let none = clear_empty (marked l) a.from a.from (le_refl a.from) in
    answer_none l a.from a.limit a.from (a.from % 64) _ none (here (goal.at.returns-else-s-limit c).Then-rest-ne0) c.if-s-limit.false

pub loop-w-init : goal.loop-w-init
loop-w-init c =
    let a = c.args in
    let l = a.marks.now in
    let w = a.from / 64 in
    let none = word_clear l a.from w (a.from % 64) _ (div-add-mod' a.from 64) refl c.if-rest-ne0.false in
    (omega arith, clear_less (marked l) a.from (w * 64 + 64) ((w + 1) * 64) (omega arith) none)

pub returns-then-s-limit-2 : goal.returns-then-s-limit-2
returns-then-s-limit-2 c =
    let a = c.args in
    let inv = c.loop-w.invariant in
    let first = later (goal.at.returns-then-s-limit-2 c).Then-word-ne0 in
    answer_at a.marks.now a.from a.limit (c.loop-w.w * 64) 0 _ inv.1 first inv.0 c.if-s-limit-2.true

pub returns-else-s-limit-2 : goal.returns-else-s-limit-2
returns-else-s-limit-2 c =
    let a = c.args in
    let first = later (goal.at.returns-else-s-limit-2 c).Then-word-ne0 in
    answer_none a.marks.now a.from a.limit (c.loop-w.w * 64) 0 _ c.loop-w.invariant.1 first c.if-s-limit-2.false

pub loop-w-preserved : goal.loop-w-preserved
loop-w-preserved c =
    let a = c.args in
    let l = a.marks.now in
    let w = c.loop-w.w in
    let none = word_clear l (w * 64) w 0 (get_or l w 0) (add-zero (w * 64)) (div-one (get_or l w 0)) c.if-word-ne0.false in
    let next = clear_less (marked l) (w * 64) (w * 64 + 64) ((w + 1) * 64) (omega arith) none in
    (omega arith, clear_join (marked l) a.from (w * 64) ((w + 1) * 64) c.loop-w.invariant.1 next)

pub returns : goal.returns
returns c =
    let a = c.args in
    let f = marked a.marks.now in
    first_none f a.from a.limit (clear_less f a.from (c.loop-w.w * 64) a.limit (omega arith) c.loop-w.invariant.1)
