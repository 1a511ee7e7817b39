-- What an answer of `read` says: "14 with its line for a bad line, 15 for a table that is full".
use Rattle.std.specs.Prelude.{ℕ, ◌≤◌, ◌<◌, ◌≡◌, List, length}
use Rattle.gtfs_read.specs.declared.Told.{Told}
use Rattle.gtfs_read.specs.Reads.{ending_number, ending_line, ending_file}

-- a place in a file must fit 32 bits
pub data TooLong (a b : List ℕ) : Type 0 where
  first_long : 4_294_967_295 < length a → TooLong a b
  second_long : 4_294_967_295 < length b → TooLong a b

pub record BothShort (a b : List ℕ) : Type 0 where
  pub first_short : length a ≤ 4_294_967_295
  pub second_short : length b ≤ 4_294_967_295

pub record AnswersWith (r : Told) (number line file : ℕ) : Type 0 where
  pub number_is : ending_number r.ending ≡ number
  pub line_is : ending_line r.ending ≡ line
  pub file_is : ending_file r.ending ≡ file

-- the answers that there are; file 1 is stop_times.txt, file 2 is transfers.txt
pub data Answers (r : Told) : Type 0 where
  all_read : AnswersWith r 0 0 0 → Answers r
  file_too_long : AnswersWith r 1 0 0 → Answers r
  stop_times_line_bad : AnswersWith r 14 (ending_line r.ending) 1 → Answers r
  transfers_line_bad : AnswersWith r 14 (ending_line r.ending) 2 → Answers r
  table_full : AnswersWith r 15 0 0 → Answers r
