-- "a departure query" is searched with time, an arrival query against it.
use Rattle.model.specs.declared.Direction.{Direction}
use Rattle.model.specs.declared.Direction.TheVariants.{Departure, Arrival}
use Rattle.model.specs.declared.TimeConstraint.{TimeConstraint}
use Rattle.model.specs.declared.TimeConstraint.TheVariants.{Departure as DepartAt, Arrival as ArriveBy}

abbrev pub direction_of : TimeConstraint → Direction
direction_of (DepartAt t) = Departure
direction_of (ArriveBy t) = Arrival
