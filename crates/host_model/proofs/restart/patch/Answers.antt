-- A write among the calls begins in the image so far, and is patched.
use Rattle.std.proofs.Common.{◌≡◌, ◌+◌, ◌∙◌, ℕ, Vec, Global, vec_items, take, ap, sym, subst, refl, get_or, rules, arith}
use Rattle.std.proofs.lemmas.List.{take_all}
use Rattle.host_model.specs.Calls.{file_after}
use Rattle.host_model.specs.Calls.Call.{Wrote}
use Rattle.host_model.specs.Disk.{written_at}
use Rattle.host_model.specs.Log.{call_of, newest_first, written}
use Rattle.host_model.specs.Restart.{picked_image}
use Rattle.host_model.specs.declared.log.Kept.{Kept}
use Rattle.host_model.specs.declared.log.Kept.TheVariants.{Write, Sync, Piece}
use Rattle.host_model.proofs.Patches.{IsPicked, picked_for, picked_for-is, picked_is, picked_old, write_starts, picked_write, picked_other}
use Rattle.host_model.proofs.restart.patch.Goals as goal
use Rattle.host_model.proofs.restart.patch.Goals.{in-Write+in_ok-picked+in_ok-overwrite, in_default-call}

not_a_write : (d : Kept) → ((x : ℕ) (y : Vec ℕ Global) → d ≡ Write x y → ⊥) → (at : ℕ) (bytes : _) → call_of d ≡ Wrote at bytes → ⊥
not_a_write (Write x y) h at bytes e = h x y refl
not_a_write Sync h at bytes e = cc
not_a_write (Piece y) h at bytes e = cc

pub returns-in-Old : goal.returns-in-Old
returns-in-Old c =
    let rs = written (newest_first c.args.calls.now) in
    let file = file_after c.args.image.now.items (newest_first c.args.calls.now) in
    picked_old rs c.args.image.now.items file ∙ ap (λ p. picked_image p rs c.args.image.now.items file) (sym c.in-Old.is)

pub picked_bytes-requires : goal.picked_bytes-requires
picked_bytes-requires c =
    let is_write : call_of (get_or c.args.calls.now c.loop-call.call-index c.call-item.result) ≡ Wrote c.in-Write.at c.in-Write.bytes.items =
    ap call_of (sym c.call-item.is) ∙ ap call_of c.in-Write.is in
    let starts = write_starts c.args.pick c.args.image.now.items c.loop-call.image.items c.args.calls.now c.loop-call.call-index c.call-item.result
    c.in-Write.at c.in-Write.bytes.items (omega arith) is_write c.requires c.loop-call.invariant in
    omega (arith, starts, c.loop-call.image.ok, c.loop-call.image.small, c.in-Write.bytes.ok, c.in-Write.bytes.small, c.deref-in-Write.ensures.len)

pub overwrite-requires : goal.overwrite-requires
overwrite-requires c =
    let is_write : call_of (get_or c.args.calls.now c.loop-call.call-index c.call-item.result) ≡ Wrote c.in-Write.at c.in-Write.bytes.items =
    ap call_of (sym c.call-item.is) ∙ ap call_of c.in-Write.is in
    write_starts c.args.pick c.args.image.now.items c.loop-call.image.items c.args.calls.now c.loop-call.call-index c.call-item.result c.in-Write.at
    c.in-Write.bytes.items (omega arith) is_write c.requires c.loop-call.invariant

pub loop-call-preserved : goal.loop-call-preserved
loop-call-preserved c = elim c.match-call.branch [
  | in-Write+in_ok-picked+in_ok-overwrite w ↦
      let at = w.in-Write.at in
      let bytes = w.in-Write.bytes.items in
      let image = c.loop-call.image.items in
      let is_write : call_of (get_or c.args.calls.now c.loop-call.call-index c.call-item.result) ≡ Wrote at bytes = ap call_of (sym c.call-item.is)
      ∙ ap call_of w.in-Write.is in
      let is_image : w.deref.result.now ≡ image = w.deref.ensures.value in
      let is_bytes : w.deref-in-Write.result.now ≡ bytes = w.deref-in-Write.ensures.value in
      let picked : w.in_ok-picked.picked.items ≡ picked_for c.args.pick w.deref.result.now at w.deref-in-Write.result.now = w.in_ok-picked.ensures
      ∙ picked_for-is c.args.pick w.deref.result.now at w.deref-in-Write.result.now in
      let patched : w.overwrite.new.file.items ≡ written_at at w.deref-in-Write-2.result.now image = search rules in
      let now : c.match-call.image.items ≡ written_at at (picked_for c.args.pick image at bytes) image =
      ap vec_items w.image-is ∙ patched ∙ ap (λ b. written_at at b image) (w.deref-in-Write-2.ensures.value ∙ picked)
      ∙ ap (λ i. written_at at (picked_for c.args.pick i at w.deref-in-Write.result.now) image) is_image
      ∙ ap (λ b. written_at at (picked_for c.args.pick image at b) image) is_bytes in
      picked_write c.args.pick c.args.image.now.items image c.match-call.image.items c.args.calls.now c.loop-call.call-index c.call-item.result at bytes
      (omega arith) is_write c.requires c.loop-call.invariant now
  | in_default-call w ↦
      let not_write = not_a_write (get_or c.args.calls.now c.loop-call.call-index c.call-item.result)
      (λ x y e. w.in_default-call.not-Write x y (c.call-item.is ∙ e)) in
      subst (λ v. IsPicked c.args.pick c.args.image.now.items (newest_first (take (c.loop-call.call-index + 1) c.args.calls.now)) v.items) (sym w.image-is)
      (picked_other c.args.pick c.args.image.now.items c.loop-call.image.items c.args.calls.now c.loop-call.call-index c.call-item.result
      (omega arith) not_write c.loop-call.invariant)
]

pub returns : goal.returns
returns c =
    let all : take c.loop-call.call-index c.args.calls.now ≡ c.args.calls.now = take_all c.loop-call.call-index c.args.calls.now (omega arith) in
    picked_is c.args.pick c.args.image.now.items (newest_first c.args.calls.now) c.loop-call.image.items c.in_default.not-Old
    (subst (λ ks. IsPicked c.args.pick c.args.image.now.items (newest_first ks) c.loop-call.image.items) all c.loop-call.invariant)
