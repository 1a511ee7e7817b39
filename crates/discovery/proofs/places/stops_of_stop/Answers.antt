-- `stops_of_stop`: by the station.
use borrow.Author.Rules.{rules}
use Rattle.repository.proofs.Stops.{station_known}
use Rattle.discovery.proofs.Stations.{of_station, of_none}
use Rattle.discovery.proofs.places.stops_of_stop.Goals as goal

pub children-requires : goal.children-requires
children-requires c = search (rules, station_known)

pub returns-in-Some : goal.returns-in-Some
returns-in-Some c = search (rules, of_station)

pub returns-in-None : goal.returns-in-None
returns-in-None c = search (rules, of_none)
