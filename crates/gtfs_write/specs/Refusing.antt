-- The numbers of the refusals: document 01's 1, 2, 3 and 5, and "15 for a table that is full".
use Rattle.std.specs.Prelude.{ℕ, Result, Ok, Err}
use Rattle.gtfs_write.specs.declared.Unwritten.{Unwritten}
use Rattle.gtfs_write.specs.declared.Unwritten.TheVariants.{Shape, Listing, Moments, Transfers, Full}

abbrev pub unwritten_number : Unwritten → ℕ
unwritten_number Shape = 1
unwritten_number Listing = 2
unwritten_number Moments = 3
unwritten_number Transfers = 5
unwritten_number Full = 15

-- 0 where nothing is wrong, else the number of the refusal
abbrev pub fault_of : {A : Type 0} → Result A Unwritten → ℕ
fault_of (Ok x) = 0
fault_of (Err e) = unwritten_number e

-- an answer, by the number of its refusal
abbrev pub by_number : Result ℕ Unwritten → Result ℕ ℕ
by_number (Ok n) = Ok n
by_number (Err e) = Err (unwritten_number e)
