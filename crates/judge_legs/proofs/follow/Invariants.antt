-- `follow`: the bytes that are left, from where the legs have led, lead where all of them do.
use Rattle.std.proofs.Common.{◌-◌, length}
use Rattle.model.specs.Bytes.{read}
use Rattle.repository.specs.NetOf.{net_of}
use Rattle.judge_legs.specs.Reading.{follow_on}
use Rattle.judge_legs.proofs.Steps.{Following}
use Rattle.judge_legs.proofs.follow.Given as goal

abbrev pub invariant-loop-leg : goal.invariant-loop-leg
invariant-loop-leg l = Following (net_of l.tables) l.walking (follow_on (net_of l.tables) l.walking (read l.bytes) l.initial.led) l.legs l.led

abbrev pub decreases-loop-leg : goal.decreases-loop-leg
decreases-loop-leg l = length l.legs.bytes.now - l.legs.at
