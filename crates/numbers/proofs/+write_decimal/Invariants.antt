-- `numbers::write_decimal` calls itself on the tenth part.
use Rattle.numbers.proofs.+write_decimal.Given as goal

abbrev pub decreases-write_decimal : goal.decreases-write_decimal
decreases-write_decimal l = l.n
