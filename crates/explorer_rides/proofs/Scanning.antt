-- A scan on its way along a route: the positions that are left lead, from the state of now, where all of them lead.
use Prim.Native.Nat.{ℕ, zero, suc, ◌+◌, ◌-◌, ◌*◌, ◌<◌}
use mathlib.Core.Path.{◌≡◌, refl, sym, ap, ◌∙◌}
use mathlib.Core.Bool.{cond}
use mathlib.Core.List.{List, [], ◌∷◌}
use native.Mathlib.Omega.{arith}
use native.Mathlib.Numerals.{add-one}
use lib.Dec.{eqb}
use lib.ListN.{length, get_or}
use borrow.Author.Tests.{eq-eqb, ne_eqb, eqb-true, eqb-false}
use Rattle.base.proofs.Choice.{split}
use Rattle.shared.specs.declared.Time.{Time}
use Rattle.std.specs.Prelude.{None}
use Rattle.model.specs.declared.Direction.{Direction}
use Rattle.model.specs.declared.Direction.TheVariants.{Departure, Arrival}
use Rattle.model.specs.Lists.{upto, downto}
use Rattle.model.specs.Tables.{Net}
use Rattle.model.specs.Moments.{MAX}
use Rattle.model.specs.Rides.{board, course}
use Rattle.repository.specs.NetOf.{net_of}
use Rattle.repository.specs.Laid.{Laid}
use Rattle.allocator.specs.Workspace.{state, SameSlices, Becomes}
use Rattle.allocator.specs.declared.Workspace.{Workspace}
use Rattle.allocator.proofs.Becoming.{same_self, same_then}
use Rattle.explorer.specs.Fixed.{Fixed}
use Rattle.explorer.proofs.Fixed.{fixed_same}
use Rattle.explorer.specs.declared.Round.{Round}
use Rattle.explorer.specs.Fused.{alight_work, scan_work}
use Rattle.explorer_rides.specs.declared.Ride.{Ride}
use Rattle.explorer_rides.specs.Riding.{aboard, Seated, Riding, Rideable, OnRoute}
use Rattle.explorer_rides.specs.Course.{past_of, next_of}
use Rattle.explorer_rides.proofs.Seats.{aboard_off, stop_room, call_at, call_in}

-- ---- where the code ends and goes on
module _ {d : Direction} (end : ℕ) where
  pub past_departure : d ≡ Departure → end ≡ past_of d end
  unfolding past_of
  past_departure e = rw e

  pub past_arrival : d ≡ Arrival → MAX ≡ past_of d end
  unfolding past_of
  past_arrival e = rw e

module _ {d : Direction} (p : ℕ) where
  pub next_departure : d ≡ Departure → p + 1 ≡ next_of d p
  unfolding next_of
  next_departure e = rw e

  pub next_first : d ≡ Arrival → p ≡ 0 → MAX ≡ next_of d p
  unfolding next_of
  next_first e f = rw (e, f)

  pub next_arrival : d ≡ Arrival → (p ≡ 0 → ⊥) → p - 1 ≡ next_of d p
  unfolding next_of
  next_arrival e real = rw e (below p real)
    where
      below : (p : ℕ) → (p ≡ 0 → ⊥) → p - 1 ≡ next_of Arrival p
      below zero real = absurd (real refl)
      below (suc p) real = omega arith

-- ---- the positions that are left at p
unfoldable pub positions_left : Direction → Net → ℕ → ℕ → List ℕ
positions_left Departure n r p = upto (n.positions r - p) p
positions_left Arrival n r p = cond (eqb p MAX) [] (downto p)

-- there is one, or the scan is past its last
pub record Within (d : Direction) (n : Net) (r p : ℕ) : Type 0 where
  pub within : (p ≡ past_of d (n.positions r) → ⊥) → p < n.positions r

past_all : (d : Direction) (n : Net) (r p : ℕ) → p ≡ past_of d (n.positions r) → positions_left d n r p ≡ []
unfolding positions_left past_of upto
past_all Departure n r p e = let none : n.positions r - p ≡ 0 = omega (arith, e) in rw none
past_all Arrival n r p e = rw (eq-eqb p MAX e)

module _ (n : Net) (r : ℕ) (few : n.positions r < MAX) where
  from_mark : (d : Direction) (p : ℕ) → p < n.positions r → positions_left d n r p ≡ course d n r p
  unfolding positions_left course
  from_mark Departure p l = refl
  from_mark Arrival p l = rw (ne_eqb p MAX (λ e. omega (arith, e)))

  first_left : (d : Direction) (p : ℕ) → p < n.positions r → positions_left d n r p ≡ p ∷ positions_left d n r (next_of d p)
  unfolding positions_left next_of upto downto
  first_left Departure p l = let more : n.positions r - p ≡ suc (n.positions r - (p + 1)) = omega (arith, l) in rw (more, add-one)
  first_left Arrival zero l = refl
  first_left Arrival (suc p) l = rw (ne_eqb (suc p) MAX (λ e. omega (arith, e)), ne_eqb p MAX (λ e. omega (arith, e)))

  next_within : (d : Direction) (p : ℕ) → p < n.positions r → Within d n r (next_of d p)
  unfolding next_of past_of
  next_within Departure p l = record {
    within = λ real.
        split (eqb (p + 1) (n.positions r)) (λ e. absurd (real (eqb-true (p + 1) (n.positions r) e)))
        (λ e. let other = eqb-false (p + 1) (n.positions r) e in omega (arith, l, other));
  }
  next_within Arrival zero l = record { within = λ real. absurd (real refl) }
  next_within Arrival (suc p) l = record { within = λ real. omega arith }

-- ---- what stands fixed, for who asks
module _ {w stops : List ℕ} {round : Round} {r : ℕ} (h : Rideable w round r stops) where
  pub known_riding : Riding w round r stops
  known_riding = h.known tt

  pub known_laid : Laid w
  known_laid = known_riding.searchable.laid

  pub known_route : r < (net_of w).routes
  known_route = known_riding.route

  pub known_room : {q : ℕ} → q < (net_of w).positions r → q < length stops
  known_room l = stop_room known_riding l

  pub known_stop : {many routes : ℕ} {q : ℕ} → Fixed w many routes → q < (net_of w).positions r → get_or stops q 0 < many
  known_stop {q = q} f l = call_in {here = record { route = r; position = q; stop = get_or stops q 0; label = record { 0 = 0 } }} f (call_at known_riding l)

  pub known_call : {q : ℕ} {x : Time} → q < (net_of w).positions r
      → OnRoute w (record { route = r; position = q; stop = get_or stops q 0; label = x })
  known_call l = call_at known_riding l

  few_positions : (net_of w).positions r < MAX
  unfolding net_of
  few_positions = omega (arith, known_laid.positions_limit r known_route)

  pub known_fits : {q : ℕ} → q < (net_of w).positions r → q < 18_446_744_073_709_551_616
  known_fits l = omega (arith, few_positions)

  pub known_scaled : {q : ℕ} → q < (net_of w).positions r → q * 4 < 18_446_744_073_709_551_616
  known_scaled l = omega (arith, few_positions)

  pub known_next : {q : ℕ} → q < (net_of w).positions r → q < MAX
  known_next l = omega (arith, few_positions)

  -- the scan goes on at p
  module _ {p end past : ℕ} (e : end ≡ (net_of w).positions r) (f : past ≡ past_of round.direction end) where
    pub on_way : Within round.direction (net_of w) r p → (p ≡ past → ⊥) → p < (net_of w).positions r
    on_way z real = z.within (λ g. real (g ∙ sym (rw e at f)))

    pub left_end : p ≡ past → positions_left round.direction (net_of w) r p ≡ []
    left_end g = past_all round.direction (net_of w) r p (g ∙ rw e at f)

  module _ {p : ℕ} (l : p < (net_of w).positions r) where
    pub left_start : positions_left round.direction (net_of w) r p ≡ course round.direction (net_of w) r p
    left_start = from_mark (net_of w) r few_positions round.direction p l

    pub within_start : Within round.direction (net_of w) r p
    within_start = record { within = λ _. l }

    module _ {q : ℕ} (e : q ≡ next_of round.direction p) where
      pub left_on : positions_left round.direction (net_of w) r p ≡ p ∷ positions_left round.direction (net_of w) r q
      left_on = rw e (first_left (net_of w) r few_positions round.direction p l)

      pub left_less : length (positions_left round.direction (net_of w) r q) < length (positions_left round.direction (net_of w) r p)
      left_less = omega (arith, ap (λ (x : List ℕ). length x) left_on)

      pub within_on : Within round.direction (net_of w) r q
      within_on = rw e (next_within (net_of w) r few_positions round.direction p l)

-- the workspace `first` became `space`, which lies over the same words and marks
module _ (w : List ℕ) (round : Round) (r : ℕ) (whole : List ℕ) (first : Workspace) where
  pub record Along (space : Workspace) (ride : Ride) (ps : List ℕ) : Type 0 where
    pub rest : scan_work round.direction (net_of w) round.number round.target.0 r ps (aboard ride) (state space)
        ≡ scan_work round.direction (net_of w) round.number round.target.0 r whole None (state first)
    pub same : SameSlices first space
    pub seated : Seated w r ride

module _ {w : List ℕ} {round : Round} {r : ℕ} {whole : List ℕ} {first : Workspace} where
  pub along_start : {ps : List ℕ} → ps ≡ whole
      → Along w round r whole first first (record { trip = 0; since = 0; row = 0; place = MAX }) ps
  along_start e = record {
    rest = rw (e, aboard_off (record { trip = 0; since = 0; row = 0; place = MAX }) refl);
    same = same_self;
    seated = record { seat = λ real. absurd (real refl) };
  }

  module _ {space : Workspace} {ps : List ℕ} {a : Ride} (h : Along w round r whole first space a ps) where
    pub along_step : {space' : Workspace} {qs : List ℕ} {b : Ride} {p : ℕ} → ps ≡ p ∷ qs
        → Becomes (alight_work round.direction (net_of w) round.number round.target.0 r p (aboard a)) space space'
        → aboard b ≡ board round.direction (net_of w) (state space).prev r p (aboard a) → Seated w r b
        → Along w round r whole first space' b qs
    unfolding scan_work
    along_step e f i z = record {
      rest = rw (f.holds, i) (rw e at h.rest);
      same = same_then h.same f.same;
      seated = z;
    }

    pub along_end : ps ≡ [] → Becomes (scan_work round.direction (net_of w) round.number round.target.0 r whole None) first space
    unfolding scan_work
    along_end e = record { holds = rw e at h.rest; same = h.same }

    pub along_fixed : Fixed w first.stops first.routes → Fixed w space.stops space.routes
    along_fixed f = fixed_same h.same f
