-- From words to an answer: on the accepted words of network N, `solve`'s contract gives N1's answer and legs, whatever was lent, and N10's. So the
-- promises on tables, on departure queries and on orders are about something.
use Prim.Native.Nat.{ℕ, suc, ◌≤◌}
use mathlib.Core.Path.{◌≡◌, refl, sym, ap, ◌∙◌, subst₂}
use mathlib.Core.Bool.{Bool, true, cond}
use mathlib.Core.List.{List, [], ◌∷◌}
use lib.Dec.{ltb}
use lib.ListN.{length, take}
use Rattle.base.specs.Each.{Each}
use Rattle.std.specs.Prelude.{Ok, Err}
use Rattle.model.specs.declared.Error.TheVariants.{TooLong}
use Rattle.model.specs.declared.Leg.{Leg}
use Rattle.model.specs.declared.Query.{Query}
use Rattle.model.specs.Bytes.{legs, write, read}
use Rattle.model.specs.Answer.{Answer, may_walk, task_of, searched, legs_by, answer, ran}
use Rattle.model.specs.Work.{SameTimes}
use Rattle.model.specs.Search.{search}
use Rattle.model.specs.Back.{trace}
use Rattle.model.specs.Journey.{Departing, Dated}
use Rattle.model.specs.AskedFor.{AskedFor}
use Rattle.model.specs.Sound.{Sound, SoundPlaces}
use Rattle.model.proofs.Examples.{N as listed_N}
use Rattle.model.proofs.Alike.{alike_answered}
use Rattle.repository.specs.Accepted.{Accepted}
use Rattle.repository.specs.NetOf.{net_of}
use Rattle.repository.proofs.Sound.{accepted_sound, accepted_sound_places}
use Rattle.check_tables.proofs.Examples.{N, N_accepted}
use Rattle.check_tables.proofs.Whole.{accepted_is}
use Rattle.allocator.specs.Layout.{view}
use Rattle.path.specs.Once.{Put, places_of, put_all, placed_back, times_put}
use Rattle.path.proofs.Examples.{first, second, third, departure_places}
use Rattle.raptor.specs.Lent.{Lent}
use Rattle.raptor.specs.Solved.{sized, Solved}
use Rattle.raptor.proofs.Promises.{journey_bytes, found_placed, found_once, reads_back, departure_journey, any_order, any_order_journey, journey_moments, too_long_journey}
use Rattle.witnesses.proofs.Turned.{turned, turned_fair}
use Rattle.witnesses.proofs.Computed.{N_alike, from_0_at_50, N1_legs, N1_searched, N1_toward, N1_found, N1_answered, N10_answered, N_places}

-- `accepted_sound` and `accepted_sound_places`, of words that are accepted
pub N_words_sound : Sound (net_of N)
N_words_sound = accepted_sound N_accepted

pub N_words_places : SoundPlaces (net_of N)
N_words_places = accepted_sound_places N_accepted

-- `alike_answered`: on N's words every query is answered as on network N as document 01 lists it
pub N_answered : (q : Query) (fault : ℕ) (fits : Bool) (room : ℕ)
    → answer fault fits (net_of N) q room ≡ answer fault fits listed_N q room
N_answered = alike_answered N_alike N_words_sound N_words_places

-- a workspace of the lengths that the words ask for (`roomy` of Computed.antt)
pub answered : (w : List ℕ) → Accepted w → (q : Query) {before : Lent} {r : Answer} {after : Lent} → Solved w q before r after
    → sized (net_of w) before ≡ true → r ≡ answer 0 true (net_of w) q (length before.journey)
answered w ok q {before} h roomy =
    h.answers
    ∙ ap (λ (c : ℕ). answer c (sized (net_of w) before) (net_of w) q (length before.journey)) ((accepted_is w).1 ok)
    ∙ ap (λ (b : Bool). answer 0 b (net_of w) q (length before.journey)) roomy

-- where N1's legs go, as they are found
abbrev pub N1_places : List Put
N1_places = record { leg = third; at = 38 } ∷ record { leg = second; at = 21 } ∷ record { leg = first; at = 0 } ∷ []

-- and a buffer of 59 bytes or more
module _ {before : Lent} {r : Answer} {after : Lent} (h : Solved N from_0_at_50 before r after)
    (roomy : sized (net_of N) before ≡ true) (enough : 59 ≤ length before.journey) where
  -- "450, round 1" at stop 4, and "59 bytes"
  pub N1_answer : r ≡ Ok (record { time = record { 0 = 450 }; stop = 4; round = 1; length = 59 })
  N1_answer = answered N N_accepted from_0_at_50 h roomy ∙ N1_answered (length before.journey) enough

  -- the first 59 bytes of the buffer are the three legs, written
  pub N1_written : take 59 after.journey ≡ write N1_legs
  N1_written = journey_bytes N from_0_at_50 before h N1_answer ∙ ap write N1_searched

  pub N1_read : read (take 59 after.journey) ≡ legs N1_legs
  N1_read = reads_back N from_0_at_50 before h N1_answer ∙ ap legs N1_searched

  N1_found_places :
      places_of (task_of (net_of N) from_0_at_50).direction 0
      (trace (net_of N) (task_of (net_of N) from_0_at_50) (searched (net_of N) from_0_at_50))
      ≡ N1_places
  N1_found_places = rw (N1_found, N1_toward) departure_places

  -- `found_placed`, applied: the last ride is put to byte 38, the transfer to 21, the first ride to 0 ..
  pub N1_placed : after.journey ≡ put_all N1_places before.journey
  unfolding placed_back
  N1_placed = found_placed N from_0_at_50 before h N1_answer ∙ ap (λ (ps : List Put). put_all ps before.journey) N1_found_places

  -- .. and `found_once`: each of the 59 bytes once, and no other
  pub N1_once : (i : ℕ) → times_put N1_places i ≡ cond (ltb i 59) 1 0
  N1_once i = sym (ap (λ (ps : List Put). times_put ps i) N1_found_places) ∙ found_once N from_0_at_50 before h N1_answer i

  -- `departure_journey`, applied: they start at stop 0 not before 50 and come to stop 4 at 450 with two rides
  pub N1_departs : Departing (net_of N) true (0 ∷ []) 50 4 450 2 N1_legs
  unfolding may_walk
  N1_departs =
      subst₂ (λ (ss : List ℕ) (gs : List Leg). Departing (net_of N) true ss 50 4 450 2 gs) N_places N1_searched
      (departure_journey N from_0_at_50 before h N1_answer refl)

  -- `any_order`, `any_order_journey` and `journey_moments`, applied to the order in which every half-round's updates come last first
  pub N1_same_times : SameTimes (view (net_of N).stops (net_of N).routes after.words after.marks) (search (net_of N) (task_of (net_of N) from_0_at_50) turned).times
  N1_same_times = any_order N from_0_at_50 before h (ap ran N1_answer) turned turned_fair

  pub N1_turned : AskedFor (net_of N) from_0_at_50 4 450 2 (legs_by (net_of N) from_0_at_50 turned)
  N1_turned = any_order_journey N from_0_at_50 before h N1_answer turned turned_fair

  pub N1_moments : Each Dated (legs_by (net_of N) from_0_at_50 turned)
  N1_moments = journey_moments N from_0_at_50 before h N1_answer turned turned_fair

-- N10, "N1 with a buffer of 58 bytes": 12, and `too_long_journey`, applied
module _ {before : Lent} {r : Answer} {after : Lent} (h : Solved N from_0_at_50 before r after)
    (roomy : sized (net_of N) before ≡ true) (short : length before.journey ≡ 58) where
  pub N10_answer : r ≡ Err (TooLong 59)
  N10_answer = answered N N_accepted from_0_at_50 h roomy ∙ ap (answer 0 true (net_of N) from_0_at_50) short ∙ N10_answered

  pub N10_journey : let aimed = (searched (net_of N) from_0_at_50).times.target in
      AskedFor (net_of N) from_0_at_50 aimed.stop aimed.time.0 (suc aimed.round) (legs_by (net_of N) from_0_at_50 turned)
  N10_journey = too_long_journey N from_0_at_50 before h N10_answer turned turned_fair
