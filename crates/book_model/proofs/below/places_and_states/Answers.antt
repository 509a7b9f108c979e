use Rattle.book_model.proofs.below.places_and_states.Goals as goal

pub returns : goal.returns
returns c =
    let place = c.a_place_is_a_free_run.ensures in
    let segments = c.segments_are_added_as_long_as_there_is_no_place.ensures in
    let states = c.a_key_keeps_its_place_and_has_its_last_state.ensures in
    record {
      is_run = place.is_run;
      apart = place.apart;
      first = segments.first;
      none = segments.none;
      distinct = states.distinct;
      others = states.others;
    }
