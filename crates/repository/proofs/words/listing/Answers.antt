-- `listing`: the words from the entry to the next.
use Rattle.repository.proofs.Reading.{listing_is}
use Rattle.repository.proofs.words.listing.Goals as goal

pub returns : goal.returns
returns c = search listing_is
