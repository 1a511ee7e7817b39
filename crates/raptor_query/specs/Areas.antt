-- "An area's served children go to the workspace": what of a place stands there. A stop's stops stand in the tables.
use Rattle.std.specs.Prelude.{ℕ, List, []}
use Rattle.model.specs.declared.Location.{Location}
use Rattle.model.specs.declared.Location.TheVariants.{Stop, Area}
use Rattle.model.specs.Tables.{Net}
use Rattle.model.specs.Places.{stops_of_area}

unfoldable pub area_part : Net → Location → List ℕ
area_part n (Stop s) = []
area_part n (Area a) = stops_of_area n a
