-- The stops of routes are there, and so are stations.
use Prim.Native.Nat.{ℕ, ◌+◌, ◌<◌}
use mathlib.Core.Path.{◌≡◌, sym, ◌∙◌}
use mathlib.Core.Logic.{⊎_elim}
use Rattle.std.specs.Prelude.{None, Some}
use mathlib.Core.List.{List}
use native.Mathlib.Omega.{arith}
use borrow.Author.Tests.{eq-eqb, ne_eqb}
use Rattle.model.specs.Moments.{MAX}
use Rattle.repository.specs.Sections.{sec, stops, STATIONS, ROUTE_STOP_STARTS}
use Rattle.repository.specs.NetOf.{count, station_of, net_of}
use Rattle.repository.specs.Accepted.{Accepted}
use Rattle.repository.specs.Readable.{Searchable}
use Rattle.repository.proofs.Rooms.{stop_of_route}

pub stop_known : {w : List ℕ} {r p s : ℕ} → Searchable w → r < (net_of w).routes → p < (net_of w).positions r
    → s ≡ (net_of w).stop_at r p
    → s < (net_of w).stops
unfolding net_of count
stop_known {w} {r} {p} h i l e =
    let t = stop_of_route h.laid i in
    rw e (h.indexed.stop_in (sec w ROUTE_STOP_STARTS r + p) (omega (arith, t.within, t.entry.rise)))

module _ {w : List ℕ} {s : ℕ} (h : Accepted w) (i : s < (net_of w).stops) where
  pub station_in : {p : ℕ} → (net_of w).station s ≡ Some p → p < (net_of w).stops
  unfolding net_of station_of
  station_in {p} e = ⊎_elim (λ m. absurd (no_station m)) station (h.listed.station_in s i)
    where
      no_station : sec w STATIONS s ≡ MAX → ⊥
      no_station m =
          let none_some : None ≡ Some p = sym (rw (eq-eqb _ _ m)) ∙ e in
          let z : ◌≡◌ {A = ℕ} 0 1 = cc in
          omega arith

      station : sec w STATIONS s < stops w → p < stops w
      station l =
          let other : sec w STATIONS s ≡ MAX → ⊥ = λ m. omega (arith, h.laid.stops_limit) in
          let same : Some (sec w STATIONS s) ≡ Some p = sym (rw (ne_eqb _ _ other)) ∙ e in
          let q : sec w STATIONS s ≡ p = cc in
          omega arith

  pub station_known : {p : ℕ} → Some p ≡ (net_of w).station s → p < (net_of w).stops
  station_known e = station_in (sym e)
