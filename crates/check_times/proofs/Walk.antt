-- The walk of numbers 3 and 4, "routes, then positions, then trips", for any test: its three loops on their way, and
-- what the whole shows.
use Prim.Native.Nat.{ℕ, ◌+◌, ◌≤◌, ◌<◌}
use mathlib.Core.Path.{◌≡◌, sym, ◌∙◌}
use mathlib.Core.Bool.{Bool, true, false}
use native.Mathlib.Omega.{arith}
use Rattle.base.specs.All.{all, So}
use Rattle.base.proofs.All.{so_start, so_on, so_fails, so_passes, all_at}
use Rattle.model.specs.Tables.{Net}
use Rattle.repository.specs.Checked.{walk}
use Rattle.repository.proofs.All.{all_so}

module _ (n : Net) (from : ℕ) (f : ℕ → ℕ → ℕ → Bool) where
  -- the test of a position, and of a route
  unfoldable pub at_position : ℕ → ℕ → Bool
  at_position r p = all (f r p) from (n.trips r)

  unfoldable pub at_route : ℕ → Bool
  unfolding at_position
  at_route r = all (at_position r) 0 (n.positions r)

  pub record OnRoutes (m r : ℕ) : Type 0 where
    pub routes : So at_route 0 n.routes r
    pub count : m ≡ n.routes

  pub record OnPositions (m r end p : ℕ) : Type 0 where
    pub outer : OnRoutes m r
    pub below : r < m
    pub positions : So (at_position r) 0 (n.positions r) p
    pub count : end ≡ n.positions r

  pub record OnTrips (m r end p many i : ℕ) : Type 0 where
    pub outer : OnPositions m r end p
    pub below : p < end
    pub trips : So (f r p) from (n.trips r) i
    pub count : many ≡ n.trips r

module _ {n : Net} {from : ℕ} {f : ℕ → ℕ → ℕ → Bool} where
  pub routes_start : {m : ℕ} → m ≡ n.routes → OnRoutes n from f m 0
  routes_start e = record { routes = so_start; count = e }

  module _ {m r : ℕ} where
    pub routes_end : {ok : Bool} → OnRoutes n from f m r → m ≤ r → ok ≡ true → ok ≡ walk n from f
    unfolding walk at_route at_position
    routes_end h g e = e ∙ sym (so_passes h.routes (omega arith))

    module _ {end : ℕ} where
      pub positions_start : OnRoutes n from f m r → r < m → end ≡ n.positions r → OnPositions n from f m r end 0
      positions_start h g e = record { outer = h; below = g; positions = so_start; count = e }

      module _ {p : ℕ} where
        pub positions_end : OnPositions n from f m r end p → end ≤ p → OnRoutes n from f m (r + 1)
        unfolding at_route
        positions_end h g =
            let passed = so_passes h.positions (omega arith) in
            record { routes = so_on h.outer.routes (omega arith) passed; count = h.outer.count }

        module _ {many : ℕ} where
          pub trips_start : OnPositions n from f m r end p → p < end → many ≡ n.trips r
              → OnTrips n from f m r end p many from
          trips_start h g e = record { outer = h; below = g; trips = so_start; count = e }

          module _ {i : ℕ} (h : OnTrips n from f m r end p many i) where
            pub trips_end : many ≤ i → OnPositions n from f m r end (p + 1)
            unfolding at_position
            trips_end g = record {
              outer = h.outer.outer;
              below = h.outer.below;
              positions = so_on h.outer.positions (omega arith) (so_passes h.trips (omega arith));
              count = h.outer.count;
            }

            module _ {ok : Bool} (g : i < many) (e : ok ≡ f r p i) where
              pub trips_on : ok ≡ true → OnTrips n from f m r end p many (i + 1)
              trips_on t = record {
                outer = h.outer;
                below = h.below;
                trips = so_on h.trips (omega arith) (sym e ∙ t);
                count = h.count;
              }

              -- "stops from inside at the first fault"
              pub fault : ok ≡ false → false ≡ walk n from f
              unfolding walk at_route at_position
              fault t =
                  sym
                  (so_fails h.outer.outer.routes (omega arith)
                  (so_fails h.outer.positions (omega arith) (so_fails h.trips (omega arith) (sym e ∙ t))))

-- the whole and its parts
module _ (n : Net) (from : ℕ) (f : ℕ → ℕ → ℕ → Bool) where
  -- a trip's place at a position of a route
  abbrev Each : Type 0
  Each = (r p i : ℕ) → r < n.routes → p < n.positions r → from ≤ i → i < n.trips r → f r p i ≡ true

  pub walk_at : walk n from f ≡ true → Each
  unfolding walk at_route at_position
  walk_at e r p i gr gp l gi =
      let route = all_at (at_route n from f) 0 n.routes e r (omega arith) gr in
      let position = all_at (at_position n from f r) 0 (n.positions r) route p (omega arith) gp in
      all_at (f r p) from (n.trips r) position i l gi

  pub walk_so : Each → walk n from f ≡ true
  unfolding walk at_route at_position
  walk_so h =
      all_so (at_route n from f) 0 n.routes
      (λ r _ gr.
      all_so (at_position n from f r) 0 (n.positions r)
      (λ p _ gp. all_so (f r p) from (n.trips r) (λ i l gi. h r p i gr gp l gi)))
