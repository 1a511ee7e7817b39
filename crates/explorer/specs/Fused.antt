-- The half-rounds as the program does them: each proposal is applied as it is made, and tested against the best moment of then. `fused` of
-- proofs/Fused.antt says that this is the model's: all proposals made from the state before, then applied in order.
use Rattle.std.specs.Prelude.{ℕ, ◌*◌, Bool, cond, Option, Some, None, List, [], ◌∷◌, get_or}
use Rattle.model.specs.declared.Direction.{Direction}
use Rattle.model.specs.declared.Leg.{Leg}
use Rattle.model.specs.declared.LegType.{LegType}
use Rattle.model.specs.declared.LegType.TheVariants.{Transit, Transfer, Walk}
use Rattle.model.specs.Tables.{Foot, Net}
use Rattle.model.specs.Lists.{set_in}
use Rattle.model.specs.Moments.{ahead}
use Rattle.model.specs.Legs.{leg_of}
use Rattle.model.specs.Rides.{Aboard, reach, leave, board, course}
use Rattle.model.specs.Footpaths.{walked}
use Rattle.model.specs.Work.{Work}
use Rattle.allocator.specs.Operations.{applied}

-- a proposal for stop s at m by leg g, where the target has seen `target`
unfoldable pub offered : Direction → ℕ → ℕ → ℕ → ℕ → Leg → Work → Work
offered d row target s m g w = cond (ahead d m target) (applied d row s m g w) w

module _ (d : Direction) (n : Net) (k target : ℕ) where
  -- who is aboard at position p of route r gets off there
  unfoldable pub alight_work : ℕ → ℕ → Option Aboard → Work → Work
  alight_work r p None w = w
  alight_work r p (Some a) w =
      offered d (k * n.stops) target (n.stop_at r p) (reach d n a.trip p)
      (leg_of d (Transit a.trip) (n.stop_at r a.since) (leave d n a.trip a.since) (n.stop_at r p) (reach d n a.trip p)) w

  unfoldable pub scan_work : ℕ → List ℕ → Option Aboard → Work → Work
  scan_work r [] a w = w
  scan_work r (p ∷ ps) a w = scan_work r ps (board d n w.prev r p a) (alight_work r p a w)

  unfoldable pub route_work : ℕ → Work → Work
  route_work r w = scan_work r (course d n r (get_or w.active r 0)) None w

  unfoldable pub routes_work : List ℕ → Work → Work
  routes_work [] w = w
  routes_work (r ∷ rs) w = routes_work rs (route_work r w)

  -- the rides of a round
  unfoldable pub rides_work : Work → Work
  rides_work w = routes_work (set_in 0 w.mask) w

  -- a footpath of kind c from stop s, where the rides' label is held
  unfoldable pub foot_work : LegType → ℕ → Foot → Work → Work
  foot_work c s f w =
      let x = get_or w.held s 0 in
      offered d (k * n.stops) target f.to (walked d x f.span) (leg_of d c s x f.to (walked d x f.span)) w

  unfoldable pub paths_work : LegType → ℕ → List Foot → Work → Work
  paths_work c s [] w = w
  paths_work c s (f ∷ fs) w = paths_work c s fs (foot_work c s f w)

  -- the footpaths from stop s
  unfoldable pub stop_work : Bool → ℕ → Work → Work
  stop_work walking s w = let u = paths_work Transfer s (n.transfers s) w in cond walking (paths_work Walk s (n.walks s) u) u

  unfoldable pub stops_work : Bool → List ℕ → Work → Work
  stops_work walking [] w = w
  stops_work walking (s ∷ ss) w = stops_work walking ss (stop_work walking s w)

  -- the footpaths of a round, from the labels and marks that are held
  unfoldable pub feet_work : Bool → Work → Work
  feet_work walking w = stops_work walking (set_in 0 w.held_mark) w
