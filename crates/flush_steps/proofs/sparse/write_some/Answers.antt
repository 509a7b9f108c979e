use Rattle.std.proofs.Common.{◌≡◌, ◌≤◌, ◌+◌, refl, length, sym, ap, ◌∙◌, subst, arith}
use Rattle.std.proofs.lemmas.Bool.{both_ways}
use Rattle.host_model.specs.Tearing.{Tearing}
use Rattle.host_model.specs.Writes.{Write, ranges_of}
use Rattle.flush_steps.specs.Sparse.{BeginIn}
use Rattle.flush_steps.proofs.Placed.{AreMade, none_made, passed, may_write, torn, torn_clock, made_more, some_one}
use Rattle.flush_steps.proofs.sparse.write_some.Goals as goal
use Rattle.flush_steps.proofs.sparse.write_some.Goals.{in-Some+in_ok-write_at, in_default}

pub loop-place-init : goal.loop-place-init
loop-place-init g c = record {
  made = none_made (g.W.SparseWrites.places c.args.writes.now) (g.H.Host.shows c.args.host.now) (g.met.H.Host.coherent c.args.host.now);
  any = λ e. absurd (cc e);
  none = λ e. refl;
}

pub write_at-requires : goal.write_at-requires
write_at-requires g c =
    let places = g.W.SparseWrites.places c.args.writes.now in
    let w : Write = record { at = c.in-Some.at; bytes = c.in-Some.bytes.now } in
    may_write places c.loop-place.place w c.in-Some.ensures (g.H.Host.shows c.args.host.now) (g.H.Host.shows c.loop-place.host)
    c.loop-place.invariant.made
    (λ f told. subst (λ ws. BeginIn ws f) (g.met.W.SparseWrites.gathered c.args.writes.now) (c.requires f told))

pub returns-in_err-write_at-clause-tearing : goal.returns-in_err-write_at-clause-tearing
returns-in_err-write_at-clause-tearing g c =
    let places = g.W.SparseWrites.places c.args.writes.now in
    let w : Write = record { at = c.in-Some.at; bytes = c.in-Some.bytes.now } in
    let e = c.in_err-write_at.ensures in
    subst (λ ws. Tearing (ranges_of ws) (g.H.Host.shows c.args.host.now) (g.H.Host.shows c.write_at.new.self)) (sym (g.met.W.SparseWrites.gathered c.args.writes.now))
    (torn places c.loop-place.place w c.in-Some.ensures (g.H.Host.shows c.args.host.now) (g.H.Host.shows c.loop-place.host)
    c.loop-place.invariant.made (g.H.Host.shows c.write_at.new.self) e.goes e.said e.reads e.never_falls e.out_faults e.torn)

pub returns-in_err-write_at-clause-clock : goal.returns-in_err-write_at-clause-clock
returns-in_err-write_at-clause-clock g c =
    let places = g.W.SparseWrites.places c.args.writes.now in
    let w : Write = record { at = c.in-Some.at; bytes = c.in-Some.bytes.now } in
    let e = c.in_err-write_at.ensures in
    subst (λ ws. (g.H.Host.shows c.write_at.new.self).clock ≤ (g.H.Host.shows c.args.host.now).clock + length ws)
    (sym (g.met.W.SparseWrites.gathered c.args.writes.now))
    (torn_clock places c.loop-place.place w c.in-Some.ensures (g.H.Host.shows c.args.host.now) (g.H.Host.shows c.loop-place.host)
    c.loop-place.invariant.made (g.H.Host.shows c.write_at.new.self) e.goes e.said e.reads e.never_falls e.out_faults)

pub returns-in_err-write_at-clause-no_call : goal.returns-in_err-write_at-clause-no_call
returns-in_err-write_at-clause-no_call g c none =
    let places = g.W.SparseWrites.places c.args.writes.now in
    let w : Write = record { at = c.in-Some.at; bytes = c.in-Some.bytes.now } in
    let one = some_one places c.loop-place.place w c.in-Some.ensures in
    let length_is = ap length (sym (g.met.W.SparseWrites.gathered c.args.writes.now) ∙ none) in
    absurd {A = c.write_at.new.self ≡ c.args.host.now} (omega (arith, one, length_is))

pub loop-place-preserved : goal.loop-place-preserved
loop-place-preserved g c =
    let places = g.W.SparseWrites.places c.args.writes.now in
    let old = g.H.Host.shows c.args.host.now in
    let mid = g.H.Host.shows c.loop-place.host in
    elim c.match-at.branch [
      | in-Some+in_ok-write_at b ↦
          let w : Write = record { at = b.in-Some.at; bytes = b.in-Some.bytes.now } in
          let e = b.in_ok-write_at.ensures in
          record {
            made = subst (λ h. AreMade places (c.loop-place.place + 1) old (g.H.Host.shows h)) (sym b.host-is)
                (made_more places c.loop-place.place w b.in-Some.ensures old mid c.loop-place.invariant.made (g.H.Host.shows b.write_at.new.self)
                e.goes e.said e.reads e.never_falls e.out_faults
                (λ f told. subst (λ ws. BeginIn ws f) (g.met.W.SparseWrites.gathered c.args.writes.now) (c.requires f told)) e.written e.ok_faults);
            any = λ _. some_one places c.loop-place.place w b.in-Some.ensures;
            none = λ is. absurd (both_ways c.match-at.any is b.any-is);
          }
      | in_default b ↦ record {
        made = subst (λ h. AreMade places (c.loop-place.place + 1) old (g.H.Host.shows h)) (sym b.host-is)
            (passed places c.loop-place.place old mid b.in_default.ensures c.loop-place.invariant.made);
        any = λ is. c.loop-place.invariant.any (sym b.any-is ∙ is);
        none = λ is. b.host-is ∙ c.loop-place.invariant.none (sym b.any-is ∙ is);
      }
    ]
