-- "Numbers given back" before a search: which of 1 to 9 each refusal has.
use Rattle.std.specs.Prelude.{ℕ, cond, Result, Ok, Err, eqb}
use Rattle.model.specs.declared.Refusal.{Refusal}
use Rattle.model.specs.declared.Refusal.TheVariants.{Shape, Listing, Times, Order, Distances, Room, Place, Moment, Barren}

abbrev pub refusal_number : Refusal → ℕ
refusal_number Shape = 1
refusal_number Listing = 2
refusal_number Times = 3
refusal_number Order = 4
refusal_number Distances = 5
refusal_number Room = 6
refusal_number Place = 7
refusal_number Moment = 8
refusal_number Barren = 9

-- what a check gives back: 0 where it refuses nothing
abbrev pub number_given : Result (Unit {0}) Refusal → ℕ
number_given (Ok u) = 0
number_given (Err r) = refusal_number r

-- the refusal of a number from 1 to 9; no other number is asked for its own
abbrev pub refusal_of : ℕ → Refusal
refusal_of k =
    cond (eqb k 1) Shape
    (cond (eqb k 2) Listing
    (cond (eqb k 3) Times
    (cond (eqb k 4) Order
    (cond (eqb k 5) Distances (cond (eqb k 6) Room (cond (eqb k 7) Place (cond (eqb k 8) Moment Barren)))))))
