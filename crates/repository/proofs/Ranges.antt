-- Searchable tables name nothing that is not there: each number that a reader returns is in range for the next.
use Prim.Native.Nat.{ℕ, ◌≤◌, ◌<◌}
use mathlib.Core.Path.{◌≡◌}
use mathlib.Core.Bool.{false}
use mathlib.Core.Logic.{◌⊎◌, inl, inr}
use mathlib.Core.List.{List}
use native.Mathlib.Omega.{arith}
use lib.Dec.{eqb}
use borrow.Author.Tests.{eqb-false}
use Rattle.base.proofs.Choice.{split}
use Rattle.shared.proofs.Span.{span_most}
use Rattle.model.specs.Moments.{MAX}
use Rattle.model.specs.Spans.{transfer_span, walk_span}
use Rattle.model.specs.Limits.{MOST_STOPS, MOST_ROUTES, LONGEST_SPAN}
use Rattle.repository.specs.Sections.{stops, call_route, call_first, transfer_stated}
use Rattle.repository.specs.NetOf.{transfer_row, walk_row, net_of}
use Rattle.repository.specs.Laid.{Laid}
use Rattle.repository.specs.Accepted.{Under}
use Rattle.repository.specs.Readable.{Searchable}
use Rattle.repository.specs.Rows.{Listing, calls, transfers, walks, starts_of, wide_of, first_row, past_row, row_count}
use Rattle.repository.specs.Rows.{OfStop}
use Rattle.repository.proofs.Rooms.{past_in}

-- ---- the limits, as far as the network shows them

module _ {w : List ℕ} (h : Laid w) where
  pub stops_few : (net_of w).stops ≤ MOST_STOPS
  unfolding net_of
  stops_few = h.stops_limit

  pub routes_few : (net_of w).routes ≤ MOST_ROUTES
  unfolding net_of
  routes_few = h.routes_limit

-- ---- rows of a stop

pub of_stop : (l : Listing) {w : List ℕ} {s a b j : ℕ} → s < (net_of w).stops → a ≡ first_row l w s → a ≤ j
    → b ≡ past_row l w s → j < b
    → OfStop l w s j
of_stop l i e f g h = record { stop = i; from = omega arith; past = omega arith }

pub under : (l : Listing) {w : List ℕ} {s j : ℕ} → OfStop l w s j → Under w (starts_of l) s j
unfolding first_row past_row
under l o = record { from = o.from; to = o.past }

pub row_known : (l : Listing) {w : List ℕ} {s j : ℕ} → Laid w → OfStop l w s j → j < row_count l w
row_known l h o = omega (arith, o.past, past_in l h o.stop)

module _ {w : List ℕ} {s j : ℕ} (h : Searchable w) (o : OfStop calls w s j) where
  stop_in : s < stops w
  unfolding net_of
  stop_in = o.stop

  pub route_known : {r : ℕ} → r ≡ call_route w j → r < (net_of w).routes
  unfolding net_of starts_of
  route_known e = rw e (h.indexed.call_route_lem s j stop_in (under calls o))

  pub position_known : {r p : ℕ} → r ≡ call_route w j → p ≡ call_first w j → p < (net_of w).positions r
  unfolding net_of starts_of
  position_known e f = rw (e, f) (h.indexed.call_first_in s j stop_in (under calls o))

-- ---- footpaths: where they lead, and how long they take

pub transfer_known : {w : List ℕ} {s j u : ℕ} → Searchable w → OfStop transfers w s j → u ≡ (transfer_row w j).to
    → u < (net_of w).stops
unfolding net_of transfer_row starts_of
transfer_known {s = s} {j = j} h o e = rw e (h.indexed.transfer_to_lem s j o.stop (under transfers o))

pub walk_known : {w : List ℕ} {j u : ℕ} → Searchable w → j < row_count walks w → u ≡ (walk_row w j).to → u < (net_of w).stops
unfolding net_of walk_row row_count starts_of wide_of
walk_known {j = j} h i e = rw e (h.indexed.walk_to_lem j i)

pub transfer_short : {w : List ℕ} {j x : ℕ} → Searchable w → j < row_count transfers w → x ≡ (transfer_row w j).span
    → x ≤ LONGEST_SPAN
unfolding transfer_row transfer_span row_count starts_of wide_of
transfer_short {w} {j} h i e =
    split (eqb (transfer_stated w j) MAX)
    (λ t. rw (e, t) (omega (arith, span_most _ (h.measured.transfers j i))))
    (λ t. rw (e, t) (stated t (h.measured.spans j i)))
  where
    stated : eqb (transfer_stated w j) MAX ≡ false → (transfer_stated w j ≡ MAX) ⊎ (transfer_stated w j ≤ LONGEST_SPAN)
        → transfer_stated w j ≤ LONGEST_SPAN
    stated t (inl same) = absurd (eqb-false _ _ t same)
    stated t (inr l) = l

pub walk_short : {w : List ℕ} {j x : ℕ} → Searchable w → j < row_count walks w → x ≡ (walk_row w j).span → x ≤ LONGEST_SPAN
unfolding walk_row walk_span row_count starts_of wide_of
walk_short {j = j} h i e = rw e (omega (arith, span_most _ (h.measured.walks j i)))
