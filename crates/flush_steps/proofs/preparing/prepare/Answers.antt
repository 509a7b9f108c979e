use Rattle.flush_steps.proofs.Ready.{at_start}
use Rattle.flush_steps.proofs.Run.{file_grown, images_grown, found_grown, file_then, images_both, prepared_then}
use Rattle.flush_steps.proofs.preparing.prepare.Goals as goal

pub add_segments-requires-clause-begins : goal.add_segments-requires-clause-begins
add_segments-requires-clause-begins g c f told =
    (at_start c.args.place.now (g.H.Host.shows c.args.host.now).file c.a_header_is_located_where_it_is_read.ensures.head c.requires.place c.requires.whole
    f told).end

pub returns-in_err-add_segments-clause-any_moment : goal.returns-in_err-add_segments-clause-any_moment
returns-in_err-add_segments-clause-any_moment g c =
    let place = c.args.place.now in
    images_grown place c.args.segments c.what_lies_outside_the_segments_that_count_is_not_seen.ensures.header
    (g.H.Host.shows c.args.host.now) (g.H.Host.shows c.add_segments.new.host)
    (at_start place (g.H.Host.shows c.args.host.now).file c.a_header_is_located_where_it_is_read.ensures.head c.requires.place c.requires.whole)
    c.add_segments.ensures.file c.add_segments.ensures.any_moment

pub returns-in_err-add_segments-clause-file : goal.returns-in_err-add_segments-clause-file
returns-in_err-add_segments-clause-file g c =
    let place = c.args.place.now in
    file_grown place c.args.segments c.what_lies_outside_the_segments_that_count_is_not_seen.ensures.header
    (g.H.Host.shows c.args.host.now) (g.H.Host.shows c.add_segments.new.host)
    (at_start place (g.H.Host.shows c.args.host.now).file c.a_header_is_located_where_it_is_read.ensures.head c.requires.place c.requires.whole)
    c.add_segments.ensures.file

pub returns-else-ne-clause-file : goal.returns-else-ne-clause-file
returns-else-ne-clause-file g c =
    let place = c.args.place.now in
    file_grown place c.args.segments c.what_lies_outside_the_segments_that_count_is_not_seen.ensures.header
    (g.H.Host.shows c.args.host.now) (g.H.Host.shows c.add_segments.new.host)
    (at_start place (g.H.Host.shows c.args.host.now).file c.a_header_is_located_where_it_is_read.ensures.head c.requires.place c.requires.whole)
    c.add_segments.ensures.file

pub mark_dirty-requires-clause-place : goal.mark_dirty-requires-clause-place
mark_dirty-requires-clause-place g c =
    let place = c.args.place.now in
    found_grown place c.args.segments c.what_lies_outside_the_segments_that_count_is_not_seen.ensures.header
    (g.H.Host.shows c.args.host.now) (g.H.Host.shows c.add_segments.new.host)
    (at_start place (g.H.Host.shows c.args.host.now).file c.a_header_is_located_where_it_is_read.ensures.head c.requires.place c.requires.whole)
    c.add_segments.ensures.file

pub returns-in_err-mark_dirty-clause-any_moment : goal.returns-in_err-mark_dirty-clause-any_moment
returns-in_err-mark_dirty-clause-any_moment g c =
    let place = c.args.place.now in
    images_both place c.args.segments c.what_lies_outside_the_segments_that_count_is_not_seen.ensures.header
    (g.H.Host.shows c.args.host.now) (g.H.Host.shows c.add_segments.new.host)
    (at_start place (g.H.Host.shows c.args.host.now).file c.a_header_is_located_where_it_is_read.ensures.head c.requires.place c.requires.whole)
    c.add_segments.ensures.file c.in_ok-add_segments.ensures.shut (g.H.Host.shows c.mark_dirty.new.host) c.mark_dirty.ensures.file
    c.add_segments.ensures.only_disk.said c.add_segments.ensures.any_moment c.mark_dirty.ensures.any_moment

pub returns-in_ok-mark_dirty-clause-any_moment : goal.returns-in_ok-mark_dirty-clause-any_moment
returns-in_ok-mark_dirty-clause-any_moment g c =
    let place = c.args.place.now in
    images_both place c.args.segments c.what_lies_outside_the_segments_that_count_is_not_seen.ensures.header
    (g.H.Host.shows c.args.host.now) (g.H.Host.shows c.add_segments.new.host)
    (at_start place (g.H.Host.shows c.args.host.now).file c.a_header_is_located_where_it_is_read.ensures.head c.requires.place c.requires.whole)
    c.add_segments.ensures.file c.in_ok-add_segments.ensures.shut (g.H.Host.shows c.mark_dirty.new.host) c.mark_dirty.ensures.file
    c.add_segments.ensures.only_disk.said c.add_segments.ensures.any_moment c.mark_dirty.ensures.any_moment

pub returns-in_err-mark_dirty-clause-file : goal.returns-in_err-mark_dirty-clause-file
returns-in_err-mark_dirty-clause-file g c =
    let place = c.args.place.now in
    file_then place c.args.segments c.what_lies_outside_the_segments_that_count_is_not_seen.ensures.header
    (g.H.Host.shows c.args.host.now) (g.H.Host.shows c.add_segments.new.host)
    (at_start place (g.H.Host.shows c.args.host.now).file c.a_header_is_located_where_it_is_read.ensures.head c.requires.place c.requires.whole)
    c.add_segments.ensures.file c.in_ok-add_segments.ensures.shut (g.H.Host.shows c.mark_dirty.new.host) c.mark_dirty.ensures.file

pub returns-in_ok-mark_dirty-clause-file : goal.returns-in_ok-mark_dirty-clause-file
returns-in_ok-mark_dirty-clause-file g c =
    let place = c.args.place.now in
    file_then place c.args.segments c.what_lies_outside_the_segments_that_count_is_not_seen.ensures.header
    (g.H.Host.shows c.args.host.now) (g.H.Host.shows c.add_segments.new.host)
    (at_start place (g.H.Host.shows c.args.host.now).file c.a_header_is_located_where_it_is_read.ensures.head c.requires.place c.requires.whole)
    c.add_segments.ensures.file c.in_ok-add_segments.ensures.shut (g.H.Host.shows c.mark_dirty.new.host) c.mark_dirty.ensures.file

pub returns-in_ok-mark_dirty-clause-prepared : goal.returns-in_ok-mark_dirty-clause-prepared
returns-in_ok-mark_dirty-clause-prepared g c =
    let place = c.args.place.now in
    prepared_then place c.args.segments c.what_lies_outside_the_segments_that_count_is_not_seen.ensures.header
    (g.H.Host.shows c.args.host.now) (g.H.Host.shows c.add_segments.new.host)
    (at_start place (g.H.Host.shows c.args.host.now).file c.a_header_is_located_where_it_is_read.ensures.head c.requires.place c.requires.whole)
    c.add_segments.ensures.file c.in_ok-add_segments.ensures.shut (g.H.Host.shows c.mark_dirty.new.host) c.mark_dirty.ensures.file
    c.mark_dirty.new.place c.in_ok-mark_dirty.ensures.found c.in_ok-mark_dirty.ensures.head
