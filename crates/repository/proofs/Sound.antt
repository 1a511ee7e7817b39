-- Searchable tables hold a sound network, and accepted tables sound places: what demand 3 asks of the tables.
use Prim.Native.Nat.{ℕ, ◌+◌, ◌<◌}
use mathlib.Core.Path.{refl, ap}
use mathlib.Core.List.Memᴰ
use mathlib.Core.List.{List, Memᴰ}
use native.Mathlib.Omega.{arith}
use Rattle.model.specs.declared.LegType.{LegType}
use Rattle.model.specs.declared.LegType.TheVariants.{Transit, Transfer, Walk}
use Rattle.model.specs.Tables.{Foot}
use Rattle.model.specs.Journey.{listed_under}
use Rattle.model.specs.Sound.{Sound, SoundPlaces}
use Rattle.repository.specs.Sections.{sec, CHILD_STARTS, CHILDREN, AREA_STARTS, AREA_STOPS}
use Rattle.repository.specs.NetOf.{count, list_of, transfer_row, walk_row, net_of}
use Rattle.repository.specs.Accepted.{Accepted}
use Rattle.repository.specs.Readable.{Searchable}
use Rattle.repository.specs.Rows.{transfers, walks, rest}
use Rattle.repository.proofs.Rooms.{stop_of_area}
use Rattle.repository.proofs.Lists.{transfers_are, walks_are, rest_said}
use Rattle.repository.proofs.Ranges.{of_stop, row_known, transfer_known, walk_known}
use Rattle.repository.proofs.Stops.{stop_known, station_in}
use Rattle.repository.proofs.Exact.{routes_contain}
use Rattle.repository.proofs.Asked.{accepted_searchable}

module _ {w : List ℕ} (h : Searchable w) where
  transfers_in : (s : ℕ) (f : Foot) → s < (net_of w).stops → Memᴰ f ((net_of w).transfers s) → f.to < (net_of w).stops
  transfers_in s f i m =
      let y = rest_said (transfer_row w) _ _ (rw (transfers_are w s refl refl) at m) in
      transfer_known h (of_stop transfers i refl y.from refl y.past) (ap (λ (g : Foot). g.to) y.says)

  walks_in : (s : ℕ) (f : Foot) → s < (net_of w).stops → Memᴰ f ((net_of w).walks s) → f.to < (net_of w).stops
  walks_in s f i m =
      let y = rest_said (walk_row w) _ _ (rw (walks_are w s refl refl) at m) in
      walk_known h (row_known walks h.laid (of_stop walks i refl y.from refl y.past))
      (ap (λ (g : Foot). g.to) y.says)

  feet_in : (c : LegType) (s : ℕ) (f : Foot) → s < (net_of w).stops → Memᴰ f (listed_under (net_of w) c s)
      → f.to < (net_of w).stops
  feet_in (Transit v) s f i m = absurd (Memᴰ.not-nil m)
  feet_in Transfer s f i m = transfers_in s f i m
  feet_in Walk s f i m = walks_in s f i m

module _ {w : List ℕ} (h : Accepted w) where
  pub children_in : (s c : ℕ) → s < (net_of w).stops → Memᴰ c ((net_of w).children s) → c < (net_of w).stops
  unfolding net_of list_of count rest
  children_in s c i m =
      let y = rest_said (sec w CHILDREN) (sec w CHILD_STARTS s) (sec w CHILD_STARTS (s + 1)) m in
      rw y.says (h.listed.child_in s y.row i (record { from = y.from; to = y.past }))

  pub areas_in : (a s : ℕ) → a < (net_of w).areas → Memᴰ s ((net_of w).area_stops a) → s < (net_of w).stops
  unfolding net_of list_of count rest
  areas_in a s i m =
      let y = rest_said (sec w AREA_STOPS) (sec w AREA_STARTS a) (sec w AREA_STARTS (a + 1)) m in
      rw y.says (h.listed.area_in y.row (omega (arith, y.past, (stop_of_area h.laid i).within)))

pub searchable_sound : {w : List ℕ} → Searchable w → Sound (net_of w)
searchable_sound h = record {
  stops_in = λ r p i l. stop_known h i l refl;
  routes_in = λ s r i m. (routes_contain h i r m).route;
  feet_in = feet_in h;
  from_one = h.timed.from_one;
  to_million = h.timed.to_million;
  stays = h.timed.stays;
  moves = h.timed.moves;
}

pub accepted_sound : {w : List ℕ} → Accepted w → Sound (net_of w)
accepted_sound h = searchable_sound (accepted_searchable h)

pub accepted_sound_places : {w : List ℕ} → Accepted w → SoundPlaces (net_of w)
accepted_sound_places h = record { station_in = λ s p i e. station_in h i e; children_in = children_in h; areas_in = areas_in h }
