use Rattle.std.proofs.Common.{◌≡◌, ◌∷◌, ◌++◌, [], take, flat_map}
use Rattle.std.specs.Fmt.{decimal}
use Rattle.term_text.proofs.print_bits.print_bits.Given as goal

-- the bytes so far are printed, with a comma behind each
abbrev pub invariant-loop-byte : goal.invariant-loop-byte
invariant-loop-byte l = l.out ≡ l.initial.out ++ flat_map (λ x. decimal x ++ 44 ∷ []) (take l.byte-index l.whole)
