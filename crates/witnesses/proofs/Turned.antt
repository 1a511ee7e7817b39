-- An order of the updates other than document 01's: those of each half-round come last first.
use mathlib.Core.List.Permᴰ
use mathlib.Core.List.{reverse}
use Rattle.model.specs.Round.{Order, Fair}

unfoldable pub turned : Order
turned k h ps = reverse ps

pub turned_fair : Fair turned
unfolding turned
turned_fair k h ps = Permᴰ.reverse ps
