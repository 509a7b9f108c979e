use Rattle.std.proofs.Common.{◌≡◌, ◌∙◌, ap, sym, true, false, ◌&&◌, not}
use Rattle.text_model.specs.Token.{is_plain_atom}
use Rattle.text_model.specs.Printed.{is_reserved, is_unquoted}
use Rattle.term_text.proofs.Plain.{printed_atom-plain, printed_atom-quoted}
use Rattle.term_text.proofs.printing.print_atom.Goals as goal
use Rattle.term_text.proofs.printing.print_atom.Goals.{else-is_plain_atom-via-then-is_plain_atom+else-not-is_reserved}
use Rattle.term_text.proofs.printing.print_atom.Goals.{else-is_plain_atom-via-else-is_plain_atom}

pub returns-then-not-is_reserved : goal.returns-then-not-is_reserved
returns-then-not-is_reserved c =
    let same = c.as_bytes-bytes.ensures.value in
    let plain : is_plain_atom c.args.name.now ≡ true = ap is_plain_atom (sym same) ∙ sym c.is_plain_atom.ensures ∙ c.if-is_plain_atom.true in
    let free : is_reserved c.args.name.now ≡ false = ap is_reserved (sym same) ∙ sym c.is_reserved.ensures ∙ c.if-not-is_reserved.true in
    rw (printed_atom-plain c.args.name.now plain free) (rw same at c.extend_from_slice.ensures.ok)

pub returns-else-is_plain_atom : goal.returns-else-is_plain_atom
returns-else-is_plain_atom c =
    let same = c.as_bytes-bytes.ensures.value in
    let quoted : is_unquoted c.args.name.now ≡ false =
    elim c.else-is_plain_atom.branch [
      | else-is_plain_atom-via-then-is_plain_atom+else-not-is_reserved w ↦
          ap (λ a. a && not (is_reserved c.args.name.now)) (ap is_plain_atom (sym same) ∙ sym c.is_plain_atom.ensures ∙ w.if-is_plain_atom.true)
          ∙ ap not (ap is_reserved (sym same) ∙ sym w.is_reserved.ensures ∙ w.if-not-is_reserved.false)
      | else-is_plain_atom-via-else-is_plain_atom w ↦
          ap (λ a. a && not (is_reserved c.args.name.now)) (ap is_plain_atom (sym same) ∙ sym c.is_plain_atom.ensures ∙ w.if-is_plain_atom.false)
    ] in
    rw (printed_atom-quoted c.args.name.now c.utf8.name quoted) c.print_quoted.ensures
