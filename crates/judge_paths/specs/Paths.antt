-- The two lists of footpaths under one name: `walk` says which.
use Rattle.std.specs.Prelude.{ℕ, Bool, true, false, List}
use Rattle.model.specs.Tables.{Foot, Net}
use Rattle.repository.specs.NetOf.{transfer_row, walk_row}
use Rattle.repository.specs.Rows.{Listing, transfers, walks}

unfoldable pub listing_of : Bool → Listing
listing_of true = walks
listing_of false = transfers

-- row j of the list
unfoldable pub path_row : Bool → List ℕ → ℕ → Foot
path_row true w j = walk_row w j
path_row false w j = transfer_row w j

-- the footpaths that are listed under stop s
unfoldable pub paths_of : Bool → Net → ℕ → List Foot
paths_of true n s = n.walks s
paths_of false n s = n.transfers s
