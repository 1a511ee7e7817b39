-- The rows are those of the lines that were taken, and a number keeps its name while the reading goes on.
-- Assumes nothing.
use Prim.Native.Nat.{ℕ, ◌-◌}
use mathlib.Core.Path.{◌≡◌, refl, sym, ap, subst, ◌∙◌}
use Rattle.std.specs.Prelude.{Some}
use mathlib.Core.List.{List, [], ◌∷◌, ◌++◌, append-nil, append_assoc}
use native.Mathlib.Omega.{arith}
use lib.ListN.{length, length-append, get_or-append}
use lib.Seq.{append_snoc, get_or-append_seam}
use Rattle.feed.specs.declared.Room.{Room}
use Rattle.feed.specs.declared.TimesColumns.{TimesColumns}
use Rattle.feed.specs.declared.TransferColumns.{TransferColumns}
use Rattle.feed.specs.Feed.{TimeRow, TransferRow, Feed, empty_feed, named_by, named, number_by, number_of}
use Rattle.feed.specs.Times.{TimeLine, kept, take_time}
use Rattle.feed.specs.Transfers.{TransferLine, take_transfer}
use Rattle.feed.specs.Refused.{TimesTaken, no_times, times_more, TransfersTaken, no_transfers, transfers_more}
use Rattle.feed.specs.Speaking.{NameOf, SaysTime, TimesSay, no_time, one_time, SaysTransfer, TransfersSay, no_transfer, one_transfer}
use Rattle.feed.proofs.Naming.{known_either, known_below, known_is, named_either}
use Rattle.feed.proofs.Taking.{take_cases, time_row, Entered, entered_is, transfer_row, transfer_entered}
use Rattle.feed.proofs.Reasons.{last_some, last_at}

-- ---- a list of names that goes on
record Longer (old new : List (List ℕ)) : Type 0 where
  more : List (List ℕ)
  is : new ≡ old ++ more

longer_same : (names : List (List ℕ)) → Longer names names
longer_same names = record { more = []; is = sym (append-nil names) }

longer_by : (names : List (List ℕ)) (t : List ℕ) → Longer names (names ++ (t ∷ []))
longer_by names t = record { more = t ∷ []; is = refl }

longer_on : {a b c : List (List ℕ)} → Longer a b → Longer b c → Longer a c
longer_on {a} l m = record { more = l.more ++ m.more; is = m.is ∙ rw l.is (append_assoc a l.more m.more) }

longer_named : (names : List (List ℕ)) (t : List ℕ) → Longer names (named names t)
longer_named names t = named_either names t (λ e. rw e (longer_same names)) (λ u e. rw e (longer_by names t))

-- a number keeps its name
names_still : {old new : List (List ℕ)} {i : ℕ} {t : List ℕ} → Longer old new → NameOf old i t → NameOf new i t
names_still {old} {new} {i} l n =
    rw l.is
    (record {
      known = omega (arith, n.known, length-append old l.more);
      is = get_or-append old l.more [] i n.known ∙ n.is;
    })

-- the number of a name
names_number : (names : List (List ℕ)) (t : List ℕ) → NameOf (named names t) (number_of names t) t
unfolding named named_by number_of number_by
names_number names t =
    known_either names t
    (λ i e. rw e (record { known = known_below names t i e; is = known_is names t i e }))
    (λ e. rw e (record { known = omega (arith, length-append names (t ∷ [])); is = get_or-append_seam names t [] [] }))

-- ---- stop_times.txt
-- from one feed to a later one
record Onward (f g : Feed) : Type 0 where
  stops : Longer f.stops g.stops
  trips : Longer f.trips g.trips

onward : {f g h : Feed} → Onward f g → Onward g h → Onward f h
onward a b = record { stops = longer_on a.stops b.stops; trips = longer_on a.trips b.trips }

time_still : {f g : Feed} {x : TimeLine} {r : TimeRow} → Onward f g → SaysTime f x r → SaysTime g x r
time_still w s = record {
  trip = names_still w.trips s.trip;
  stop = names_still w.stops s.stop;
  arrival = s.arrival;
  departure = s.departure;
}

times_still : {c : TimesColumns} {f g : Feed} {ls : List (List ℕ)} {rs : List TimeRow} → Onward f g → TimesSay c f ls rs → TimesSay c g ls rs
times_still w no_time = no_time
times_still w (one_time e s t) = one_time e (time_still w s) (times_still w t)

-- one line
record Timed (x : TimeLine) (f g : Feed) : Type 0 where
  row : TimeRow
  times : g.times ≡ f.times ++ (row ∷ [])
  says : SaysTime g x row
  on : Onward f g
  transfers : g.transfers ≡ f.transfers

module _ (room : Room) (x : TimeLine) (f : Feed) where
  timed : (trips : List (List ℕ)) {g : Feed} → Entered room x trips f g → NameOf trips (length trips - 1) x.trip → Longer f.trips trips
      → Timed x f g
  timed trips w n l =
      rw (← w.now_is)
      (record {
        row = time_row room x trips f;
        times = refl;
        says = record { trip = n; stop = names_number f.stops x.stop; arrival = refl; departure = refl };
        on = record { stops = longer_named f.stops x.stop; trips = l };
        transfers = refl;
      })

  take_timed : (q : ℕ) {g : Feed} → take_time room x f q ≡ kept g → Timed x f g
  take_timed q k =
      take_cases room x f q k
      (λ v w m.
      timed f.trips (entered_is room x f.trips f m)
      (record { known = omega (arith, last_some f.trips x.trip v); is = last_at f.trips x.trip v })
      (longer_same f.trips))
      (λ v w m. let z : ◌≡◌ {A = ℕ} 0 1 = cc in absurd (omega arith))
      (λ v w m.
      let n = length-append f.trips (x.trip ∷ []) in
      let z : length (f.trips ++ (x.trip ∷ [])) - 1 ≡ length f.trips = omega arith in
      timed (f.trips ++ (x.trip ∷ [])) (entered_is room x (f.trips ++ (x.trip ∷ [])) f m)
      (record { known = omega arith; is = rw z (get_or-append_seam f.trips x.trip [] []) })
      (longer_by f.trips x.trip))
      (λ v w m. let z : ◌≡◌ {A = ℕ} 0 1 = cc in absurd (omega arith))

-- the lines that were taken
pub record TimesWent (c : TimesColumns) (ls : List (List ℕ)) (f g : Feed) : Type 0 where
  rows : List TimeRow
  times : g.times ≡ f.times ++ rows
  says : TimesSay c g ls rows
  on : Onward f g
  pub transfers : g.transfers ≡ f.transfers

pub times_went : {c : TimesColumns} {room : Room} {ls : List (List ℕ)} {f g : Feed} {q q' : ℕ} → TimesTaken c room ls f q g q' → TimesWent c ls f g
times_went (no_times {f} {q}) = record {
  rows = [];
  times = sym (append-nil f.times);
  says = no_time;
  on = record { stops = longer_same f.stops; trips = longer_same f.trips };
  transfers = refl;
}
times_went {c} {room} (times_more {l} {ls} {x} {f} {g} {f'} {q} e k t) =
    let one = take_timed room x f q k in
    let all = times_went t in
    record {
      rows = one.row ∷ all.rows;
      times = all.times ∙ ap (λ (s : List TimeRow). s ++ all.rows) one.times ∙ append_snoc f.times one.row all.rows;
      says = one_time e (time_still all.on one.says) all.says;
      on = onward one.on all.on;
      transfers = all.transfers ∙ one.transfers;
    }

-- from the start
pub times_say : {c : TimesColumns} {room : Room} {ls : List (List ℕ)} {f : Feed} {q : ℕ} → TimesTaken c room ls empty_feed 0 f q
    → TimesSay c f ls f.times
times_say {c} {room} {ls} {f} t = let w = times_went t in subst (λ (rs : List TimeRow). TimesSay c f ls rs) (sym w.times) w.says

-- ---- transfers.txt
record Walked (x : TransferLine) (f g : Feed) : Type 0 where
  row : TransferRow
  transfers : g.transfers ≡ f.transfers ++ (row ∷ [])
  says : SaysTransfer g x row
  on : Onward f g
  times : g.times ≡ f.times

take_walked : (room : Room) (x : TransferLine) (f : Feed) {g : Feed} → take_transfer room x f ≡ Some g → Walked x f g
take_walked room x f k =
    let near = named f.stops x.from in
    let l = longer_named near x.to in
    rw (← (transfer_entered room x f k).now_is)
    (record {
      row = transfer_row room x f;
      transfers = refl;
      says = record {
        from = names_still l (names_number f.stops x.from);
        to = names_number near x.to;
        kind = refl;
        span = refl;
      };
      on = record { stops = longer_on (longer_named f.stops x.from) l; trips = longer_same f.trips };
      times = refl;
    })

transfer_still : {f g : Feed} {x : TransferLine} {r : TransferRow} → Onward f g → SaysTransfer f x r → SaysTransfer g x r
transfer_still w s = record { from = names_still w.stops s.from; to = names_still w.stops s.to; kind = s.kind; span = s.span }

pub record TransfersWent (c : TransferColumns) (ls : List (List ℕ)) (f g : Feed) : Type 0 where
  rows : List TransferRow
  transfers : g.transfers ≡ f.transfers ++ rows
  says : TransfersSay c g ls rows
  on : Onward f g
  pub times : g.times ≡ f.times

pub transfers_went : {c : TransferColumns} {room : Room} {ls : List (List ℕ)} {f g : Feed} → TransfersTaken c room ls f g → TransfersWent c ls f g
transfers_went (no_transfers {f}) = record {
  rows = [];
  transfers = sym (append-nil f.transfers);
  says = no_transfer;
  on = record { stops = longer_same f.stops; trips = longer_same f.trips };
  times = refl;
}
transfers_went {c} {room} (transfers_more {l} {ls} {x} {f} {g} {f'} e k t) =
    let one = take_walked room x f k in
    let all = transfers_went t in
    record {
      rows = one.row ∷ all.rows;
      transfers =
          all.transfers ∙ ap (λ (s : List TransferRow). s ++ all.rows) one.transfers ∙ append_snoc f.transfers one.row all.rows;
      says = one_transfer e (transfer_still all.on one.says) all.says;
      on = onward one.on all.on;
      times = all.times ∙ one.times;
    }

-- behind stop_times.txt: its own rows, and those before say what they said
pub transfers_say : {c : TransferColumns} {room : Room} {ls : List (List ℕ)} {g f : Feed} → TransfersTaken c room ls g f → g.transfers ≡ []
    → TransfersSay c f ls f.transfers
transfers_say {c} {room} {ls} {g} {f} t n =
    let w = transfers_went t in
    let z : f.transfers ≡ w.rows = w.transfers ∙ ap (λ (rs : List TransferRow). rs ++ w.rows) n in
    subst (λ (rs : List TransferRow). TransfersSay c f ls rs) (sym z) w.says

pub times_say_still : {c : TransferColumns} {d : TimesColumns} {room : Room} {ls ms : List (List ℕ)} {g f : Feed} → TransfersTaken c room ls g f
    → TimesSay d g ms g.times → TimesSay d f ms f.times
times_say_still {c} {d} {room} {ls} {ms} {g} {f} t s =
    let w = transfers_went t in
    subst (λ (rs : List TimeRow). TimesSay d f ms rs) (sym w.times) (times_still w.on s)
