-- `numbers::decimal_size` calls itself on the tenth part.
use Rattle.numbers.proofs.+decimal_size.Given as goal

abbrev pub decreases-decimal_size : goal.decreases-decimal_size
decreases-decimal_size l = l.n
