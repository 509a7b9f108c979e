-- The file is made again up to the last sync, and the calls since are possible there.
use Rattle.std.proofs.Common.{◌≡◌, ◌≤◌, ◌-◌, ◌∙◌, ap, take, drop, rules, arith}
use Rattle.std.proofs.lemmas.List.{length-take-le}
use Rattle.host_model.specs.Calls.{file_after, is_possible}
use Rattle.host_model.specs.Log.{newest_first}
use Rattle.host_model.proofs.Again.{possible_take, possible_drop}
use Rattle.host_model.proofs.Moments.{image_is}
use Rattle.host_model.proofs.restart.image_after.Goals as goal

pub replay-requires : goal.replay-requires
replay-requires c =
    let first : c.in_ok-image.image.items ≡ c.args.first.now = search rules in
    ap (λ f. is_possible f (newest_first (take c.sync_point-since.result c.args.calls.now))) first
    ∙ possible_take c.args.first.now c.args.calls.now c.sync_point-since.result c.requires.possible

pub patch-requires : goal.patch-requires
patch-requires c =
    let since = c.sync_point-since.result in
    let first : c.in_ok-image.image.items ≡ c.args.first.now = search rules in
    let synced : c.replay.new.file.items ≡ file_after c.args.first.now (newest_first (take since c.args.calls.now)) =
    c.in_ok-replay.ensures ∙ ap (λ f. file_after f (newest_first (take since c.args.calls.now))) first in
    ap (λ f. is_possible f (newest_first (take (c.stop_end-end.result - since) (drop since c.args.calls.now)))) synced
    ∙ possible_take (file_after c.args.first.now (newest_first (take since c.args.calls.now))) (drop since c.args.calls.now) (c.stop_end-end.result - since)
    (possible_drop c.args.first.now c.args.calls.now since c.requires.possible)

pub returns : goal.returns
returns c =
    let since = c.sync_point-since.result in
    let first : c.in_ok-image.image.items ≡ c.args.first.now = search rules in
    let synced : c.replay.new.file.items ≡ file_after c.args.first.now (newest_first (take since c.args.calls.now)) =
    c.in_ok-replay.ensures ∙ ap (λ f. file_after f (newest_first (take since c.args.calls.now))) first in
    let within : since ≤ c.args.at = omega (arith, c.sync_point-since.ensures.within, length-take-le c.args.at c.args.calls.now c.requires.within) in
    c.in_ok-patch.ensures
    ∙ image_is c.args.pick c.args.first.now c.replay.new.file.items c.args.calls.now c.args.at c.stop_end-end.result since c.requires.within
    c.stop_end-end.ensures within
    c.sync_point-since.ensures.unsynced (c.sync_point-since.ensures.synced c.args.first.now) synced
