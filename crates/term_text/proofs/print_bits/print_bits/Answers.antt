use Rattle.std.proofs.Common.{◌≡◌, ◌∙◌, ◌++◌, ◌∷◌, [], ap, sym, take, flat_map, append_assoc, append-nil, arith}
use Rattle.std.proofs.lemmas.List.{take_all}
use Rattle.std.specs.List.{join_by}
use Rattle.std.specs.Fmt.{decimal}
use Rattle.dets_term.specs.BitString.{byte_bits, bits_of}
use Rattle.text_model.specs.Printed.{octets, printed_segment}
use Rattle.term_text.proofs.PrintedBits.{printed-bytes, printed-no_bytes}
use Rattle.term_text.proofs.print_bits.print_bits.Goals as goal
use Rattle.term_text.proofs.print_bits.print_bits.Goals.{in-Some+else-loop-byte-test+in_ok-print_segment, in_default}

pub returns : goal.returns
returns c =
    let inside : c.match-split_last.out ≡ c.extend_from_slice.new.self ++ join_by printed_segment (44 ∷ []) (octets (bits_of c.args.bytes.now c.args.used))
    = elim c.match-split_last.branch [
      | in-Some+else-loop-byte-test+in_ok-print_segment w ↦
          let all = take_all w.loop-byte.byte-index w.in-Some.whole.now (omega arith) in
          w.out-is ∙ w.in_ok-print_segment.ensures
          ∙ ap (λ l. l ++ printed_segment (take c.args.used (byte_bits w.in-Some.last.now)))
          (w.loop-byte.invariant ∙ ap (λ l. c.extend_from_slice.new.self ++ flat_map (λ x. decimal x ++ 44 ∷ []) l) all)
          ∙ append_assoc c.extend_from_slice.new.self (flat_map (λ x. decimal x ++ 44 ∷ []) w.in-Some.whole.now)
          (printed_segment (take c.args.used (byte_bits w.in-Some.last.now)))
          ∙ ap (λ l. c.extend_from_slice.new.self ++ l) (sym (printed-bytes c.args.bytes.now w.in-Some.whole.now w.in-Some.last.now c.args.used
          w.in-Some.ensures.cases.0 (λ i. let fits = c.type_inv.bytes i in fits.fits) c.requires.0 c.requires.1))
      | in_default w ↦
          w.out-is ∙ sym (append-nil c.extend_from_slice.new.self)
          ∙ ap (λ l. c.extend_from_slice.new.self ++ l) (sym (printed-no_bytes c.args.bytes.now c.args.used w.in_default.ensures.cases))
    ] in
    simp append_assoc (simp append_assoc at (rw (inside, c.in_ok-extend_from_slice.ensures.ok) at c.extend_from_slice-2.ensures.ok))
