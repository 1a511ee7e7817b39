-- `names::find` meets its contract: the names of one slot are looked at, the last one first.
-- Assumes nothing.
use borrow.Author.Rules.{rules}
use Rattle.csv_text.specs.Part.{part}
use Rattle.names.proofs.Chasing.{none_found, chase_start, chase_known, chase_found, chase_on, chase_less, chase_none}
use Rattle.names.proofs.find.Goals as goal

pub returns-then-shelf-eq0 : goal.returns-then-shelf-eq0
returns-then-shelf-eq0 c = search (rules, none_found)

pub loop-p-init : goal.loop-p-init
unfolding part
loop-p-init c = search (rules, chase_start)

pub is_name-requires-clause-i_lt_count : goal.is_name-requires-clause-i_lt_count
is_name-requires-clause-i_lt_count c = search (rules, chase_known)

pub returns-then-is_name : goal.returns-then-is_name
returns-then-is_name c = search (rules, chase_found)

pub loop-p-smaller : goal.loop-p-smaller
loop-p-smaller c = search (rules, chase_less)

pub loop-p-preserved : goal.loop-p-preserved
loop-p-preserved c = search (rules, chase_on)

pub returns : goal.returns
returns c = search (rules, chase_none)
