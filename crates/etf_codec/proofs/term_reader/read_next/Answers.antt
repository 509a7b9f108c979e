use Rattle.std.proofs.Common.{◌-◌, subst, refl, ap, length, Ok, Err, arith}
use mathlib.Core.Logic.{inr}
use Rattle.etf_model.specs.Format.{Position}
use Rattle.etf_model.specs.Spelling.{body_of}
use Rattle.etf_codec.specs.Heads.{HeadReads}
use Rattle.etf_codec.specs.Tags.{TagReads}
use Rattle.etf_codec.proofs.NextParts.{no_tag_here, head_here, no_head_here, shorter_here, next_fault}
use Rattle.etf_codec.proofs.term_reader.read_next.Goals as goal

pub returns-in_err-tag-clause-reads : goal.returns-in_err-tag-clause-reads
returns-in_err-tag-clause-reads c =
    next_fault c.args.begun.now.items c.args.cursor.now c.from_residual.result _ c.from_residual.ensures.1 (
      refl,
      inr (no_tag_here c.args.begun.now.items c.len.result c.args.cursor.now
          (omega (arith, c.len.ensures, c.args.begun.now.ok)) c.requires c.next_role-role.result c.read_tag.new.cursor _ c.next_role-role.ensures
          (subst (λ p. TagReads c.next_role-role.result p c.read_tag.new.cursor (Err c.in_err-tag.field-0.0)) c.copied-behind.ensures
          c.in_err-tag.ensures.reads)),
    )

pub returns-in_err-head-clause-reads : goal.returns-in_err-head-clause-reads
returns-in_err-head-clause-reads c =
    next_fault c.args.begun.now.items c.args.cursor.now c.from_residual-in_err-head.result _ c.from_residual-in_err-head.ensures.1
    (no_head_here c.args.begun.now.items c.len.result c.args.cursor.now (omega (arith, c.len.ensures, c.args.begun.now.ok)) c.requires
    c.next_role-role.result c.next_role-role.ensures c.read_tag.new.cursor c.in_ok-tag.tag
    (subst (λ p. TagReads c.next_role-role.result p c.read_tag.new.cursor (Ok c.in_ok-tag.tag)) c.copied-behind.ensures c.in_ok-tag.ensures.reads)
    c.read_head.new.cursor _
    (subst (λ o. HeadReads (body_of (255 - c.len.result) c.in_ok-tag.tag) (255 - c.len.result) o c.read_tag.new.cursor c.read_head.new.cursor
    (Err c.in_err-head.field-0.0)) c.offset-start.ensures c.in_err-head.ensures.reads))

pub returns-clause-reads : goal.returns-clause-reads
returns-clause-reads c =
    head_here c.args.begun.now.items c.len.result c.args.cursor.now (omega (arith, c.len.ensures, c.args.begun.now.ok)) c.requires
    c.next_role-role.result c.next_role-role.ensures c.read_tag.new.cursor c.in_ok-tag.tag
    (subst (λ p. TagReads c.next_role-role.result p c.read_tag.new.cursor (Ok c.in_ok-tag.tag)) c.copied-behind.ensures c.in_ok-tag.ensures.reads)
    c.read_head.new.cursor c.in_ok-head.head c.in_ok-tag.ensures.tail
    (subst (λ o. HeadReads (body_of (255 - c.len.result) c.in_ok-tag.tag) (255 - c.len.result) o c.read_tag.new.cursor c.read_head.new.cursor
    (Ok c.in_ok-head.head)) c.offset-start.ensures c.in_ok-head.ensures.reads)
    c.in_ok-head.ensures.fits

pub returns-clause-forward : goal.returns-clause-forward
returns-clause-forward c =
    let behind = shorter_here c.args.begun.now.items c.len.result c.args.cursor.now (omega (arith, c.len.ensures, c.args.begun.now.ok)) c.requires
    c.next_role-role.result c.next_role-role.ensures c.read_tag.new.cursor c.in_ok-tag.tag
    (subst (λ p. TagReads c.next_role-role.result p c.read_tag.new.cursor (Ok c.in_ok-tag.tag)) c.copied-behind.ensures c.in_ok-tag.ensures.reads)
    c.read_head.new.cursor c.in_ok-head.head
    (subst (λ o. HeadReads (body_of (255 - c.len.result) c.in_ok-tag.tag) (255 - c.len.result) o c.read_tag.new.cursor c.read_head.new.cursor
    (Ok c.in_ok-head.head)) c.offset-start.ensures c.in_ok-head.ensures.reads) in
    omega (arith, behind, c.in_ok-tag.ensures.forward, ap (λ (p : Position). length p.left) c.copied-behind.ensures)
