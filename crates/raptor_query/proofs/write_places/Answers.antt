-- `raptor_query::write_places` meets its contract: one half after the other.
use borrow.Author.Rules.{rules}
use Rattle.raptor_query.proofs.Places.{half_length, first_half, second_half, halves}
use Rattle.raptor_query.proofs.write_places.Goals as goal

pub slice_bounds-write_place-end-2 : goal.slice_bounds-write_place-end-2
slice_bounds-write_place-end-2 c = search (rules, half_length)

pub write_place-origins-requires-clause-l_value : goal.write_place-origins-requires-clause-l_value
write_place-origins-requires-clause-l_value c = c.requires.from_value

pub write_place-origins-requires-clause-half_len : goal.write_place-origins-requires-clause-half_len
write_place-origins-requires-clause-half_len c = search (rules, first_half)

pub write_place-goals-requires : goal.write_place-goals-requires
write_place-goals-requires c =
    let start = c in
    let first = c.write_place-origins in record { accepted = search rules; l_value = start.requires.to_value; half_len = second_half start.args.stops start.args.places.now start.requires.places_len first.new.half (search rules) start.requires.stops_value }

pub returns : goal.returns
returns c =
    let start = c in
    let first = c.write_place-origins in record {
      places_after = halves start.args.stops start.args.places.now start.requires.places_len first.new.half (search rules) first.ensures.half_after
          c.write_place-goals.ensures.half_after;
      origins_value = search rules;
      goals_value = search rules;
    }
