-- What stays fixed through a search, and through a round of it.
use Rattle.std.specs.Prelude.{ℕ, ◌<◌, ◌≡◌, List}
use Rattle.model.specs.Limits.{MOST_ROUNDS}
use Rattle.repository.specs.Readable.{Searchable}
use Rattle.repository.specs.NetOf.{net_of}
use Rattle.explorer.specs.declared.Round.{Round}

-- searchable tables, with so many stops and routes
pub record Fixed (tables : List ℕ) (stops routes : ℕ) : Type 0 where
  pub searchable : Searchable tables
  pub net_stops : stops ≡ (net_of tables).stops
  pub net_routes : routes ≡ (net_of tables).routes

-- a round over them
pub record InRound (tables : List ℕ) (stops routes : ℕ) (round : Round) : Type 0 where
  pub fixed : Fixed tables stops routes
  pub number : round.number < MOST_ROUNDS
