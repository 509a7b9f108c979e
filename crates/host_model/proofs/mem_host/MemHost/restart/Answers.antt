-- The new host begins with the pair that was picked.
use Rattle.std.proofs.Common.{◌≡◌, ◌∙◌, ap, sym, rules, [], true, false, Some}
use Rattle.host_model.specs.Disk.{are_bytes}
use Rattle.host_model.specs.Calls.{is_possible}
use Rattle.host_model.specs.MemHost.{MemHostState, fresh_host}
use Rattle.host_model.specs.Restart.{moment, pair_at}
use Rattle.host_model.specs.RestartLaws.{restarted_at, restarted_since, restarted_settled}
use Rattle.host_model.specs.contracts.mem_host.MemHost.{the_view}
use Rattle.host_model.proofs.mem_host.MemHost.restart.Goals as goal

pub returns-clause-of_that_moment : goal.returns-clause-of_that_moment
returns-clause-of_that_moment c =
    let new : MemHostState = the_view (record {
      log = c.in_ok-restart.field-0;
      reads = 0;
      disk_faults = 0;
      out_faults = 0;
      fail = c.new.result;
      next_call =
          Some 0;
      starved = false;
    }) in
    let h : MemHostState = c.args.self.now in
    let bytes : are_bytes c.in_ok-restart.field-0.origin.image ≡ true = search rules in
    let origin : c.in_ok-restart.field-0.origin ≡ pair_at c.args.pick h.origin (moment c.args.at h.calls) = search rules in
    let picked : new ≡ fresh_host (pair_at c.args.pick h.origin (moment c.args.at h.calls)) [] = search rules in
    let possible : is_possible h.origin.image h.calls ≡ true = search rules in
    restarted_at c.args.pick c.args.at h new (sym (ap (λ p. are_bytes p.image) origin) ∙ bytes) possible picked

pub returns-clause-since : goal.returns-clause-since
returns-clause-since c =
    let new : MemHostState = the_view (record {
      log = c.in_ok-restart.field-0;
      reads = 0;
      disk_faults = 0;
      out_faults = 0;
      fail = c.new.result;
      next_call =
          Some 0;
      starved = false;
    }) in
    restarted_since c.args.at c.args.self.now new c.requires (returns-clause-of_that_moment c)

pub returns-clause-settled : goal.returns-clause-settled
returns-clause-settled c =
    let new : MemHostState = the_view (record {
      log = c.in_ok-restart.field-0;
      reads = 0;
      disk_faults = 0;
      out_faults = 0;
      fail = c.new.result;
      next_call =
          Some 0;
      starved = false;
    }) in
    let none_kept : c.in_ok-restart.field-0.calls ≡ [] = search rules in
    restarted_settled new none_kept
