-- Words that meet what the promises suppose: N's, whose journey N1 is right and gets a yes; N9's, which list every footpath both ways, for the
-- arrival query. Without that the search writes a journey that gets a no (`verdicts`, F3, of handheld/proofs/Worked.antt).
use Prim.Native.Nat.{ℕ, ◌≤◌}
use mathlib.Core.Path.{◌≡◌, refl, ap, ◌∙◌}
use mathlib.Core.Bool.{true}
use mathlib.Core.List.{List, [], ◌∷◌, ◌++◌}
use lib.ListN.{length, take}
use Rattle.base.specs.Tab.{tab}
use Rattle.model.specs.declared.Leg.{Leg}
use Rattle.model.specs.Spans.{transfer_span, walk_span}
use Rattle.model.specs.Lists.{upto, gather}
use Rattle.model.specs.Places.{exists, or_itself, stops_of_stop, served_of, stops_of_area, place_stops, unserved, barren}
use Rattle.model.specs.Bytes.{legs, u32, kind_byte, trip_field, write_leg, write, read, read_from, first_leg, uncut, leg_of_body, leg_at, u32_at, before, leg_size, BadAt}
use Rattle.model.specs.Answer.{Answer, may_walk, moment_of, refusal, lowest, unless}
use Rattle.repository.specs.Sections.{size, sec}
use Rattle.repository.specs.Checked.{check_of}
use Rattle.repository.specs.NetOf.{count, list_of, transfer_row, walk_row, station_of, net_of}
use Rattle.check_tables.proofs.Examples.{N, N_accepted, N9}
use Rattle.check_tables.proofs.Whole.{accepted_is}
use Rattle.raptor.specs.Lent.{Lent}
use Rattle.raptor.specs.Solved.{sized, Solved}
use Rattle.std.specs.Prelude.{true, false, Ok, Err}
use Rattle.handheld.specs.declared.NoVerdict.TheVariants.{Bad}
use Rattle.handheld.specs.Any.{any}
use Rattle.handheld.specs.Right.{is_ride, soonest, Right, Ways}
use Rattle.handheld.specs.Fitting.{leaves_at, comes_at, comes_from, fits_from, fits_trip, stands_at, fits_route, fits_ride, fits_foot, fits_path, fits_leg}
use Rattle.handheld.specs.Verdict.{is_listed, rides_with, follows, led, leg_on, follow, may_begin, may_end, at_start, comes_in, verdict}
use Rattle.handheld.specs.Judged.{Verdict, judged_as, judged}
use Rattle.witnesses.proofs.Computed.{from_0_at_50, N1_legs, to_4_by_450}
use Rattle.witnesses.proofs.N1.{N1_answer}
use Rattle.witnesses.proofs.N9.{N9_both, N9_answer}
use Rattle.judge_promises.proofs.Promises.{yes_right, no_wrong, thirteen_bad, found_gets_yes}

-- ---- on N's words, whatever journey is sent
by_words : (b : List ℕ) {v : Verdict} → judged 0 (net_of N) from_0_at_50 b ≡ v → judged (check_of N) (net_of N) from_0_at_50 b ≡ v
by_words b e = ap (λ (c : ℕ). judged c (net_of N) from_0_at_50 b) ((accepted_is N).1 N_accepted) ∙ e

-- N1's bytes get a yes; its first leg alone a no; with a byte too many a 13
pub N1_told :
    (judged (check_of N) (net_of N) from_0_at_50 (write N1_legs) ≡ Ok true)
    × (judged (check_of N) (net_of N) from_0_at_50 (take 21 (write N1_legs)) ≡ Ok false)
    × (judged (check_of N) (net_of N) from_0_at_50 (write N1_legs ++ (9 ∷ [])) ≡ Err (Bad (record { at = 59 })))
unfolding net_of count list_of sec size tab transfer_row walk_row station_of transfer_span walk_span any is_ride soonest leaves_at comes_at comes_from fits_from fits_trip stands_at fits_route fits_ride fits_foot fits_path fits_leg is_listed rides_with follows led leg_on follow may_begin may_end at_start comes_in verdict judged_as judged upto gather exists or_itself stops_of_stop served_of stops_of_area place_stops unserved barren u32 kind_byte trip_field write_leg write read read_from first_leg uncut leg_of_body leg_at u32_at before leg_size may_walk moment_of refusal lowest unless
N1_told = (by_words (write N1_legs) refl, by_words (take 21 (write N1_legs)) refl, by_words (write N1_legs ++ (9 ∷ [])) refl)

-- so there are legs that are right, legs that are not, and a bad leg (`yes_right`, `no_wrong`, `thirteen_bad`, applied)
pub N1_right : (gs : List Leg) × (read (write N1_legs) ≡ legs gs) × Right (net_of N) from_0_at_50 gs
N1_right = (yes_right N from_0_at_50 (write N1_legs) N1_told.0).2

pub N1_part_wrong : (gs : List Leg) × (read (take 21 (write N1_legs)) ≡ legs gs) × (Right (net_of N) from_0_at_50 gs → ⊥)
N1_part_wrong = (no_wrong N from_0_at_50 (take 21 (write N1_legs)) N1_told.1).2

pub N1_bad : BadAt (write N1_legs ++ (9 ∷ [])) 59
N1_bad = (thirteen_bad N from_0_at_50 (write N1_legs ++ (9 ∷ [])) N1_told.2).2

-- ---- `found_gets_yes`, applied: to N1, and to N9's arrival query, whose footpaths are listed both ways
pub N1_ways : Ways (net_of N) (may_walk from_0_at_50.walks) from_0_at_50.time
N1_ways = tt

pub N9_ways : Ways (net_of N9) (may_walk to_4_by_450.walks) to_4_by_450.time
unfolding may_walk
N9_ways = N9_both

module _ {before : Lent} {r : Answer} {after : Lent} (h : Solved N from_0_at_50 before r after)
    (roomy : sized (net_of N) before ≡ true) (enough : 59 ≤ length before.journey) where
  pub N1_gets_yes : judged (check_of N) (net_of N) from_0_at_50 (take 59 after.journey) ≡ Ok true
  N1_gets_yes = found_gets_yes N from_0_at_50 before h (N1_answer h roomy enough) N1_ways

module _ {before : Lent} {r : Answer} {after : Lent} (h : Solved N9 to_4_by_450 before r after)
    (roomy : sized (net_of N9) before ≡ true) (enough : 59 ≤ length before.journey) where
  pub N9_gets_yes : judged (check_of N9) (net_of N9) to_4_by_450 (take 59 after.journey) ≡ Ok true
  N9_gets_yes = found_gets_yes N9 to_4_by_450 before h (N9_answer h roomy enough) N9_ways
