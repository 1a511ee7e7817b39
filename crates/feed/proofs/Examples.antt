-- Worked examples of request 1 over its definitions, by computation: the two files as they stand, and what is read of them.
-- Assumes nothing.
use Prim.Native.Nat.{ℕ}
use Prim.Native.Char.{code}
use Prim.Native.String.{String, [] as «none», ◌∷◌ as ◌before◌, ◌++◌}
use mathlib.Core.Path.{◌≡◌, refl}
use mathlib.Core.List.{List, [], ◌∷◌}
use Rattle.csv_text.specs.There.{if_there}
use Rattle.csv_text.specs.Texts.{same_text}
use Rattle.csv_text.specs.Lines.{line_of, after_line, trimmed, lines_from, lines}
use Rattle.csv_text.specs.Fields.{joined, plain, quoted, field, with_field, fields_from, fields}
use Rattle.numbers.specs.Decimal.{decimal_from, decimal, digits_in, digits}
use Rattle.numbers.specs.Clock.{up_to, eight_bytes, clock, two_digits, clock_text}
use Rattle.names.specs.Names.{place_among}
use Rattle.columns.specs.Picks.{is_named, column_from, column_of}
use Rattle.feed.specs.Columns.{trip_id, arrival_time, departure_time, stop_id, stop_sequence, from_stop_id, to_stop_id, transfer_type, min_transfer_time}
use Rattle.feed.specs.Columns.{only_place, times_columns, any_place, transfer_columns}
use Rattle.feed.specs.Feed.{TimeRow, TransferRow, known_as, named_by, named, number_by, number_of}
use Rattle.feed.specs.Feed.{End, done, bad_times, bad_transfers, full, Got}
use Rattle.feed.specs.Times.{is_id, time_values, time_line, entered, is_last, take_time, times_from, times_under, read_times}
use Rattle.feed.specs.Transfers.{UNSTATED, kind_of, span_of, transfer_values, transfer_line, take_transfer, transfers_from, transfers_under}
use Rattle.feed.specs.Transfers.{read_transfers}
use Rattle.feed.specs.Reading.{without_mark, transfers_after, read_feed}
use Rattle.feed.specs.Undoubled.{undoubled}
use Rattle.feed.specs.Writing.{line_with, position_after, time_text, times_text, times_header, write_times, span_text, transfer_text}
use Rattle.feed.specs.Writing.{transfers_text, transfers_header, write_transfers}

-- a text as its bytes; all of these texts are ASCII but for the three bytes of the mark
unfoldable pub bytes : String → List ℕ
bytes «none» = []
bytes (c before s) = code c ∷ bytes s

-- both files, with so much room for stops, trips, times and transfers
unfoldable pub given : ℕ → ℕ → ℕ → ℕ → List ℕ → List ℕ → Got
unfolding if_there same_text line_of after_line trimmed lines_from lines joined plain quoted field with_field fields_from fields decimal_from decimal
    up_to eight_bytes clock place_among is_named column_from column_of trip_id arrival_time departure_time stop_id stop_sequence from_stop_id to_stop_id
    transfer_type min_transfer_time only_place times_columns any_place transfer_columns known_as named_by named number_by number_of is_id time_values time_line
    entered is_last take_time times_from times_under read_times kind_of span_of transfer_values transfer_line take_transfer transfers_from transfers_under
    read_transfers without_mark transfers_after read_feed
given s v t x a b = read_feed (record { stops = s; trips = v; times = t; transfers = x }) a b

-- with room enough
pub both : String → String → Got
unfolding given bytes
both a b = given 9 9 9 9 (bytes a) (bytes b)

-- GTFS's header lines
abbrev pub TIMES : String
TIMES = "trip_id,arrival_time,departure_time,stop_id,stop_sequence\n"

abbrev pub TRANSFERS : String
TRANSFERS = "from_stop_id,to_stop_id,transfer_type,min_transfer_time\n"

-- what is read of stop_times.txt alone, and of transfers.txt after no stop times
pub times : String → Got
unfolding both
times a = both a TRANSFERS

pub transfers : String → Got
unfolding both
transfers b = both TIMES b

-- ---- everything at once: columns in another order and one that is not known, quotes, CR LF, an empty type, a last line without its end
abbrev pub SHUFFLED : String
SHUFFLED =
    "stop_id,stop_sequence,\"trip_id\",departure_time,arrival_time,x\r\n"
    ++ "\"A, 1\",5,t,8:00:10,08:00:00,\r\n"
    ++ "\"b\"\"c\",7,t,25:00:00,24:59:59,\"q\"\r\n"
    ++ "\"A, 1\",1,u,9:00:00,9:00:00,"

abbrev pub SHUFFLED_TRANSFERS : String
SHUFFLED_TRANSFERS =
    "transfer_type,to_stop_id,from_stop_id,min_transfer_time\n"
    ++ "2,C,\"b\"\"c\",120\n"
    ++ ",D,C,junk\n"
    ++ "3,C,D,"

pub shuffled :
    both SHUFFLED SHUFFLED_TRANSFERS
    ≡ record {
      feed = record {
        stops = bytes "A, 1" ∷ bytes "b\"\"c" ∷ bytes "C" ∷ bytes "D" ∷ [];
        trips = bytes "t" ∷ bytes "u" ∷ [];
        times = record { trip = 0; stop = 0; arrival = 115_200; departure = 115_210 }
            ∷ record { trip = 0; stop = 1; arrival = 176_399; departure = 176_400 }
            ∷ record { trip = 1; stop = 0; arrival = 118_800; departure = 118_800 }
            ∷ [];
        transfers = record { from = 1; to = 2; kind = 2; span = 120 }
            ∷ record { from = 2; to = 3; kind = 0; span = UNSTATED }
            ∷ record { from = 3; to = 2; kind = 3; span = UNSTATED }
            ∷ [];
      };
      end = done;
    }
unfolding both
shuffled = refl

-- ---- "The reader adds 86,400 to each moment", and not to a span
pub midnight : (times (TIMES ++ "t,0:00:00,00:00:01,A,1\n")).feed.times ≡ record { trip = 0; stop = 0; arrival = 86_400; departure = 86_401 } ∷ []
unfolding times
midnight = refl

-- ---- "hours to 99"
pub hours : (times (TIMES ++ "t,99:59:59,99:59:59,A,1\n")).feed.times ≡ record { trip = 0; stop = 0; arrival = 446_399; departure = 446_399 } ∷ []
unfolding times
hours = refl

pub hours_past : (times (TIMES ++ "t,99:59:59,99:59:59,A,1\n" ++ "t,100:00:00,100:00:00,B,2\n")).end ≡ bad_times 3
unfolding times
hours_past = refl

pub minutes : (times (TIMES ++ "t,8:59:59,8:59:59,A,1\n" ++ "t,8:60:00,9:00:00,B,2\n")).end ≡ bad_times 3
unfolding times
minutes = refl

pub seconds : (times (TIMES ++ "t,8:59:60,9:00:00,A,1\n")).end ≡ bad_times 2
unfolding times
seconds = refl

-- nothing but digits and colons, two of each
pub short_minutes : (times (TIMES ++ "t,8:5:00,8:5:00,A,1\n")).end ≡ bad_times 2
unfolding times
short_minutes = refl

pub three_digits : (times (TIMES ++ "t,008:00:00,8:00:00,A,1\n")).end ≡ bad_times 2
unfolding times
three_digits = refl

pub space_before : (times (TIMES ++ "t, 8:00:00,8:00:00,A,1\n")).end ≡ bad_times 2
unfolding times
space_before = refl

-- quoted or not
pub quoted_time : times (TIMES ++ "t,\"8:00:00\",8:00:00,A,\"1\"\n") ≡ times (TIMES ++ "t,8:00:00,8:00:00,A,1\n")
unfolding times
quoted_time = refl

-- ---- "A missing time, in a type 2 row too, makes a bad line"
pub no_arrival : (times (TIMES ++ "t,8:00:00,8:00:00,A,1\n" ++ "t,,8:10:00,B,2\n")).end ≡ bad_times 3
unfolding times
no_arrival = refl

pub no_departure : (times (TIMES ++ "t,8:00:00,8:00:00,A,1\n" ++ "t,8:10:00,,B,2\n")).end ≡ bad_times 3
unfolding times
no_departure = refl

pub no_span : (transfers (TRANSFERS ++ "A,B,2,\n")).end ≡ bad_transfers 2
unfolding transfers
no_span = refl

-- what is left are the rows of the lines before
pub left : (times (TIMES ++ "t,8:00:00,8:00:00,A,1\n" ++ "t,,8:10:00,B,2\n" ++ "t,8:20:00,8:20:00,C,3\n")).feed
    ≡ record {
      stops = bytes "A" ∷ [];
      trips = bytes "t" ∷ [];
      times = record { trip = 0; stop = 0; arrival = 115_200; departure = 115_200 } ∷ [];
      transfers = [];
    }
unfolding times
left = refl

-- ---- "Rows of a trip stand together with rising stop_sequence"
pub rising : (times (TIMES ++ "t,8:00:00,8:00:00,A,2\n" ++ "t,8:10:00,8:10:00,B,3\n")).end ≡ done
unfolding times
rising = refl

pub equal : (times (TIMES ++ "t,8:00:00,8:00:00,A,2\n" ++ "t,8:10:00,8:10:00,B,2\n")).end ≡ bad_times 3
unfolding times
equal = refl

pub falling : (times (TIMES ++ "t,8:00:00,8:00:00,A,2\n" ++ "t,8:10:00,8:10:00,B,1\n")).end ≡ bad_times 3
unfolding times
falling = refl

-- a sequence is a number of digits, and no more than a u32 holds
pub sequence_digits : (times (TIMES ++ "t,8:00:00,8:00:00,A,007\n" ++ "t,8:10:00,8:10:00,B,4294967295\n")).end ≡ done
unfolding times
sequence_digits = refl

pub sequence_too_high : (times (TIMES ++ "t,8:00:00,8:00:00,A,4294967296\n")).end ≡ bad_times 2
unfolding times
sequence_too_high = refl

pub no_sequence : (times (TIMES ++ "t,8:00:00,8:00:00,A,\n")).end ≡ bad_times 2
unfolding times
no_sequence = refl

-- the next trip begins anew
pub another : (times (TIMES ++ "t,8:00:00,8:00:00,A,2\n" ++ "u,8:10:00,8:10:00,B,1\n")).end ≡ done
unfolding times
another = refl

pub apart : (times (TIMES ++ "t,8:00:00,8:00:00,A,1\n" ++ "u,8:00:00,8:00:00,A,1\n" ++ "t,8:10:00,8:10:00,B,2\n")).end ≡ bad_times 4
unfolding times
apart = refl

-- ---- "header line in any column order"
pub lacks_one : (times "trip_id,arrival_time,departure_time,stop_id\n").end ≡ bad_times 1
unfolding times
lacks_one = refl

pub has_twice : (times "trip_id,trip_id,arrival_time,departure_time,stop_id,stop_sequence\n").end ≡ bad_times 1
unfolding times
has_twice = refl

-- names of columns are compared byte for byte
pub space_in_name : (times (" " ++ TIMES)).end ≡ bad_times 1
unfolding times
space_in_name = refl

-- a column that is not known is passed over, and may stand twice
pub unknown : (times ("x," ++ "x," ++ TIMES ++ "p,q,t,8:00:00,8:00:00,A,1\n")).feed ≡ (times (TIMES ++ "t,8:00:00,8:00:00,A,1\n")).feed
unfolding times
unknown = refl

-- min_transfer_time may be missing, until a type 2 asks for it
pub no_column : (transfers ("from_stop_id,to_stop_id,transfer_type\n" ++ "A,B,0\n")).feed.transfers
    ≡ record { from = 0; to = 1; kind = 0; span = UNSTATED } ∷ []
unfolding transfers
no_column = refl

pub no_column_asked : (transfers ("from_stop_id,to_stop_id,transfer_type\n" ++ "A,B,0\n" ++ "A,B,2\n")).end ≡ bad_transfers 3
unfolding transfers
no_column_asked = refl

-- but it does not stand twice
pub column_twice : (transfers "from_stop_id,to_stop_id,transfer_type,min_transfer_time,min_transfer_time\n").end ≡ bad_transfers 1
unfolding transfers
column_twice = refl

-- a file of no bytes has no header
pub no_times : (both "" TRANSFERS).end ≡ bad_times 1
unfolding both
no_times = refl

pub no_transfers : (both TIMES "").end ≡ bad_transfers 1
unfolding both
no_transfers = refl

-- ---- the mark, at the start of a file and nowhere else: the characters of the codes EF, BB and BF, each of which is a byte here
abbrev pub MARK : String
MARK = "ï»¿"

pub marked : both (MARK ++ TIMES) (MARK ++ TRANSFERS) ≡ both TIMES TRANSFERS
unfolding both
marked = refl

pub marked_twice : (both (MARK ++ MARK ++ TIMES) TRANSFERS).end ≡ bad_times 1
unfolding both
marked_twice = refl

-- in a later line it is a part of the id
pub marked_within : (times (TIMES ++ MARK ++ "t,8:00:00,8:00:00,A,1\n" ++ "t,8:10:00,8:10:00,A,1\n")).feed.trips
    ≡ bytes (MARK ++ "t") ∷ bytes "t" ∷ []
unfolding times
marked_within = refl

-- ---- "quoted fields, CR LF or LF"
pub quotes : (transfers (TRANSFERS ++ "\"a, b\",\"say \"\"c\"\"\",\"0\",\n")).feed.stops ≡ bytes "a, b" ∷ bytes "say \"\"c\"\"" ∷ []
unfolding transfers
quotes = refl

-- quoted or not, a text is the same
pub quotes_same : (transfers (TRANSFERS ++ "\"a\",a,0,\n")).feed.stops ≡ bytes "a" ∷ []
unfolding transfers
quotes_same = refl

pub quote_within : (times (TIMES ++ "t,8:00:00,8:00:00,A\"b,1\n")).end ≡ bad_times 2
unfolding times
quote_within = refl

pub quote_open : (times (TIMES ++ "t,8:00:00,8:00:00,\"A,1\n")).end ≡ bad_times 2
unfolding times
quote_open = refl

pub quote_then_more : (times (TIMES ++ "t,8:00:00,8:00:00,\"A\"b,1\n")).end ≡ bad_times 2
unfolding times
quote_then_more = refl

pub returns : transfers (TRANSFERS ++ "A,B,2,5\r\n" ++ "B,A,0,\r\n") ≡ transfers (TRANSFERS ++ "A,B,2,5\n" ++ "B,A,0,\n")
unfolding transfers
returns = refl

-- a carriage return that ends no line is a byte of its field
pub return_within : (transfers (TRANSFERS ++ "A\rB,C,0,\n")).feed.stops ≡ bytes "A\rB" ∷ bytes "C" ∷ []
unfolding transfers
return_within = refl

-- doubled quotes stand for one each
pub stands_for : undoubled (bytes "say \"\"c\"\"") ≡ bytes "say \"c\""
unfolding undoubled bytes
stands_for = refl

-- ---- the last line may lack its end; an empty line is a line, and bad
pub unended : times (TIMES ++ "t,8:00:00,8:00:00,A,1") ≡ times (TIMES ++ "t,8:00:00,8:00:00,A,1\n")
unfolding times
unended = refl

pub blank : (times (TIMES ++ "t,8:00:00,8:00:00,A,1\n" ++ "\n")).end ≡ bad_times 3
unfolding times
blank = refl

-- ---- as many fields as the header has
pub too_many : (times (TIMES ++ "t,8:00:00,8:00:00,A,1,\n")).end ≡ bad_times 2
unfolding times
too_many = refl

-- also where the column that is missing is not looked at
pub too_few_unknown : (times ("trip_id,arrival_time,departure_time,stop_id,stop_sequence,x\n" ++ "t,8:00:00,8:00:00,A,1\n")).end ≡ bad_times 2
unfolding times
too_few_unknown = refl

pub too_few : (transfers (TRANSFERS ++ "A,B,0\n")).end ≡ bad_transfers 2
unfolding transfers
too_few = refl

-- an id is any text, as it stands
pub as_it_stands : (transfers (TRANSFERS ++ "A,a,0,\n" ++ " A,A ,0,\n")).feed.stops ≡ bytes "A" ∷ bytes "a" ∷ bytes " A" ∷ bytes "A " ∷ []
unfolding transfers
as_it_stands = refl

-- but not empty
pub no_trip : (times (TIMES ++ ",8:00:00,8:00:00,A,1\n")).end ≡ bad_times 2
unfolding times
no_trip = refl

pub no_stop : (transfers (TRANSFERS ++ "A,,0,\n")).end ≡ bad_transfers 2
unfolding transfers
no_stop = refl

-- ---- "numbers stops and trips in order of first appearance, stop_times first": B and C stand only in the transfers
abbrev pub ONE_RIDE : String
ONE_RIDE = TIMES ++ "t,8:00:00,8:00:00,A,1\n"

pub numbered : (both ONE_RIDE (TRANSFERS ++ "B,A,0,\n" ++ "C,B,0,\n")).feed.stops ≡ bytes "A" ∷ bytes "B" ∷ bytes "C" ∷ []
unfolding both
numbered = refl

pub numbered_rows : (both ONE_RIDE (TRANSFERS ++ "B,A,0,\n" ++ "C,B,0,\n")).feed.transfers
    ≡ record { from = 1; to = 0; kind = 0; span = UNSTATED } ∷ record { from = 2; to = 1; kind = 0; span = UNSTATED } ∷ []
unfolding both
numbered_rows = refl

-- of two new stops in one line the one that it leads from comes first, though it stands second
pub from_first : (transfers ("to_stop_id,from_stop_id,transfer_type\n" ++ "X,Y,0\n")).feed.stops ≡ bytes "Y" ∷ bytes "X" ∷ []
unfolding transfers
from_first = refl

-- ---- "Only transfer_type 2 gives a stated span"
pub stated : (transfers (TRANSFERS ++ "A,B,2,60\n")).feed.transfers ≡ record { from = 0; to = 1; kind = 2; span = 60 } ∷ []
unfolding transfers
stated = refl

pub unstated : (transfers (TRANSFERS ++ "A,B,3,60\n" ++ "A,B,,60\n")).feed.transfers
    ≡ record { from = 0; to = 1; kind = 3; span = UNSTATED } ∷ record { from = 0; to = 1; kind = 0; span = UNSTATED } ∷ []
unfolding transfers
unstated = refl

pub longest : (transfers (TRANSFERS ++ "A,B,2,4294967294\n")).feed.transfers ≡ record { from = 0; to = 1; kind = 2; span = 4_294_967_294 } ∷ []
unfolding transfers
longest = refl

pub too_long : (transfers (TRANSFERS ++ "A,B,2,4294967295\n")).end ≡ bad_transfers 2
unfolding transfers
too_long = refl

pub no_seconds : (transfers (TRANSFERS ++ "A,B,2,0\n")).feed.transfers ≡ record { from = 0; to = 1; kind = 2; span = 0 } ∷ []
unfolding transfers
no_seconds = refl

pub five : (transfers (TRANSFERS ++ "A,B,5,\n")).end ≡ done
unfolding transfers
five = refl

pub six : (transfers (TRANSFERS ++ "A,B,6,5\n")).end ≡ bad_transfers 2
unfolding transfers
six = refl

-- ---- "15 for a table that is full": three stops, two trips, three times and two transfers
abbrev pub TWO_RIDES : String
TWO_RIDES = TIMES ++ "t,8:00:00,8:00:00,A,1\n" ++ "t,8:10:00,8:10:00,B,2\n" ++ "u,9:00:00,9:00:00,A,1\n"

abbrev pub TWO_WALKS : String
TWO_WALKS = TRANSFERS ++ "A,C,0,\n" ++ "C,A,0,\n"

pub within : ℕ → ℕ → ℕ → ℕ → End
unfolding given bytes
within s v t x = (given s v t x (bytes TWO_RIDES) (bytes TWO_WALKS)).end

pub room_enough : within 3 2 3 2 ≡ done
unfolding within
room_enough = refl

pub a_stop_too_few : within 2 2 3 2 ≡ full
unfolding within
a_stop_too_few = refl

-- the row that finds no room is not kept
pub a_stop_too_few_left : (given 2 2 3 2 (bytes TWO_RIDES) (bytes TWO_WALKS)).feed.transfers ≡ []
unfolding given bytes
a_stop_too_few_left = refl

pub a_trip_too_few : within 3 1 3 2 ≡ full
unfolding within
a_trip_too_few = refl

pub a_time_too_few : within 3 2 2 2 ≡ full
unfolding within
a_time_too_few = refl

pub a_transfer_too_few : within 3 2 3 1 ≡ full
unfolding within
a_transfer_too_few = refl

-- the second stop with room for one; and where that line is bad too, 14
pub second_stop : ℕ → String → End
unfolding given bytes
second_stop q l = (given 1 9 q 9 (bytes (TIMES ++ "t,8:00:00,8:00:00,A,1\n" ++ l)) (bytes TRANSFERS)).end

pub no_room : second_stop 9 "t,8:10:00,8:10:00,B,2\n" ≡ full
unfolding second_stop
no_room = refl

pub bad_first : second_stop 1 "t,8:10:00,8:10:00,B,1\n" ≡ bad_times 3
unfolding second_stop
bad_first = refl

-- a line that is bad behind one that finds no room is not come to
pub full_first : second_stop 9 ("t,8:10:00,8:10:00,B,2\n" ++ "\n") ≡ full
unfolding second_stop
full_first = refl

-- ---- "A writer puts the rows back": columns in GTFS's order, positions from 0, a span only where it is stated
abbrev pub SOME_TIMES : List TimeRow
SOME_TIMES =
    record { trip = 0; stop = 0; arrival = 86_400; departure = 115_210 }
    ∷ record { trip = 0; stop = 1; arrival = 176_399; departure = 446_399 }
    ∷ record { trip = 1; stop = 0; arrival = 118_800; departure = 118_800 }
    ∷ []

abbrev pub SOME_TRANSFERS : List TransferRow
SOME_TRANSFERS = record { from = 1; to = 2; kind = 2; span = 120 } ∷ record { from = 2; to = 0; kind = 3; span = UNSTATED } ∷ []

abbrev pub TIMES_AGAIN : String
TIMES_AGAIN = TIMES ++ "0,00:00:00,08:00:10,0,0\n" ++ "0,24:59:59,99:59:59,1,1\n" ++ "1,09:00:00,09:00:00,0,0\n"

abbrev pub TRANSFERS_AGAIN : String
TRANSFERS_AGAIN = TRANSFERS ++ "1,2,2,120\n" ++ "2,0,3,\n"

pub written_times : write_times SOME_TIMES ≡ bytes TIMES_AGAIN
unfolding bytes digits_in digits two_digits clock_text line_with position_after time_text times_text times_header write_times trip_id arrival_time departure_time
    stop_id stop_sequence
written_times = refl

pub written_transfers : write_transfers SOME_TRANSFERS ≡ bytes TRANSFERS_AGAIN
unfolding bytes digits_in digits line_with span_text transfer_text transfers_text transfers_header write_transfers from_stop_id to_stop_id transfer_type
    min_transfer_time
written_transfers = refl

-- .. and they are read as they were
pub again :
    (both TIMES_AGAIN TRANSFERS_AGAIN).feed
    ≡ record {
      stops = bytes "0" ∷ bytes "1" ∷ bytes "2" ∷ [];
      trips = bytes "0" ∷ bytes "1" ∷ [];
      times = SOME_TIMES;
      transfers = SOME_TRANSFERS;
    }
unfolding both
again = refl
