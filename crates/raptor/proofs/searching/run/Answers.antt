-- `raptor::searching::run` meets its contract: the search, then the reply.
use Rattle.raptor.proofs.Told.{is_chosen, ran}
use Rattle.raptor.proofs.searching.run.Goals as goal

pub reply-requires : goal.reply-requires
reply-requires c =
    let start = c in
    let found = c.place_and_search-aimed in record { words = found.ensures.usable.sized.words; chosen = is_chosen start.requires.posed found.new.words found.new.marks found.ensures.result_after }

pub returns : goal.returns
returns c =
    let start = c in
    let found = c.place_and_search-aimed in
    let told = c.reply in
    ran start.requires.posed found.new.words found.new.marks found.ensures.result_after _ found.ensures.places_after found.ensures.usable told.ensures.value told.ensures.journey_after
