-- `shared::whole_above` meets its contract: the cut number, and one more where it is below q.
-- Assumes nothing.
use Rattle.std.proofs.Common.{arith}
use Rattle.shared.proofs.Fraction.{fraction}
use Rattle.shared.proofs.Cut.{cut_small, cut_float, cut_more, cut_same}
use Rattle.shared.proofs.whole_above.Goals as goal

pub truncating_f32_to_u64-n-requires : goal.truncating_f32_to_u64-n-requires
truncating_f32_to_u64-n-requires c =
    let f = fraction c.args.q c.requires.fact_1 c.requires.fact_2 in
    record { lower_bound = f.after_minus_one; upper_bound = f.before_end }

pub overflow_cast-n : goal.overflow_cast-n
overflow_cast-n c =
    let s = c in
    omega (arith, cut_small s.args.q s.requires.fact_1 s.requires.fact_2 _ c.truncating_f32_to_u64-n.ensures)

pub int_to_float-n : goal.int_to_float-n
int_to_float-n c =
    let s = c in
    cut_float s.args.q s.requires.fact_1 s.requires.fact_2 _ c.truncating_f32_to_u64-n.ensures

pub overflow_add-result : goal.overflow_add-result
overflow_add-result c =
    let s = c in
    omega (arith, cut_small s.args.q s.requires.fact_1 s.requires.fact_2 _ c.truncating_f32_to_u64-n.ensures)

pub returns-then-n-q : goal.returns-then-n-q
returns-then-n-q c =
    let s = c in
    cut_more s.args.q s.requires.fact_1 s.requires.fact_2 _ c.truncating_f32_to_u64-n.ensures c.if-n-q.true

pub returns-else-n-q : goal.returns-else-n-q
returns-else-n-q c =
    let s = c in
    cut_same s.args.q s.requires.fact_1 s.requires.fact_2 _ c.truncating_f32_to_u64-n.ensures c.if-n-q.false
