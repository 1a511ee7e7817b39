-- `put_if_served`: by the mark.
use borrow.Author.Rules.{rules}
use Rattle.discovery.proofs.Counting.{put_room, put_one, put_none, next_one, next_none}
use Rattle.discovery.proofs.places.put_if_served.Goals as goal

pub bounds-places-k : goal.bounds-places-k
bounds-places-k c = search (rules, put_room)

pub returns-then-served-clause-places_after : goal.returns-then-served-clause-places_after
returns-then-served-clause-places_after c = search (rules, put_one)

pub returns-then-served-clause-value : goal.returns-then-served-clause-value
returns-then-served-clause-value c = search (rules, next_one)

pub returns-clause-places_after : goal.returns-clause-places_after
returns-clause-places_after c = search (rules, put_none)

pub returns-clause-value : goal.returns-clause-value
returns-clause-value c = search (rules, next_none)
