-- What footpaths are made from: the labels and marks that the rides of the round left, and what is known of these.
use Rattle.std.specs.Prelude.{ℕ, ◌*◌, ◌≤◌, ◌<◌, List, get_or}
use Rattle.base.specs.Each.{Each}
use Rattle.model.specs.declared.Direction.{Direction}
use Rattle.model.specs.declared.LegType.{LegType}
use Rattle.model.specs.Limits.{LAST_MOMENT}
use Rattle.model.specs.Tables.{Foot}
use Rattle.model.specs.Lists.{set_in}
use Rattle.model.specs.Legs.{leg_of}
use Rattle.model.specs.Footpaths.{walked}
use Rattle.model.specs.Work.{Work}
use Rattle.explorer.specs.declared.Round.{Round}
use Rattle.explorer.specs.Fixed.{InRound}
use Rattle.explorer.specs.Fused.{offered}
use Rattle.explorer_footpaths.specs.declared.Foothold.{Foothold}

-- a moment of the timetable
pub record Label (x : ℕ) : Type 0 where
  pub some : 0 < x
  pub most : x ≤ LAST_MOMENT

-- of so many stops: no label that is held is above the timetable's moments, and every stop whose mark is held has one. The
-- model promises both: `ridden_footing` of proofs/Footing.antt
pub record Footing (stops : ℕ) (w : Work) : Type 0 where
  pub most : (s : ℕ) → s < stops → get_or w.held s 0 ≤ LAST_MOMENT
  pub marked : Each (λ s. (s < stops) × (0 < get_or w.held s 0)) (set_in 0 w.held_mark)

-- stop s, which its label x lets a footpath leave in a round over the tables w, of so many stops and routes
pub record Leaving (w : List ℕ) (stops routes : ℕ) (round : Round) (s x : ℕ) : Type 0 where
  pub in_round : InRound w stops routes round
  pub stop : s < stops
  pub label : Label x

-- a footpath of kind c from stop s, whose label is x
unfoldable pub foot_from : Direction → ℕ → ℕ → ℕ → LegType → ℕ → ℕ → Foot → Work → Work
foot_from d stops k target c s x f w =
    offered d (k * stops) target f.to (walked d x f.span) (leg_of d c s x f.to (walked d x f.span)) w

-- the same in a round, from a foothold, where there are so many stops
abbrev pub foot_by : ℕ → Round → LegType → Foothold → Foot → Work → Work
foot_by stops round c from = foot_from round.direction stops round.number round.target.0 c from.stop from.label.0
