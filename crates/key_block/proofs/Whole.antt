-- What decoding a payload says of the term that it spells.
use Rattle.std.proofs.Common.{◌≡◌, ◌≤◌, ◌<◌, ℕ, List, [], ◌∷◌, length, take, drop, Result, Ok, Err, Some, None, refl, sym, ap, ◌∙◌, subst, arith, length-drop}
use Rattle.std.specs.Result.{IsErrAnd}
use Rattle.std.proofs.lemmas.List.{take-append-drop}
use Rattle.dets_term.specs.TermValue.{TermValue}
use Rattle.etf_model.specs.declared.fault.EtfFault.{EtfFault}
use Rattle.etf_model.specs.declared.fault.EtfFault.TheVariants.{Short, NotVersion, Unsupported, Compressed, IntegerRange, BadAtom, BadBits, RepeatedKey, Depth}
use Rattle.etf_model.specs.declared.fault.EtfFault.TheVariants.{LongTerm, Memory}
use Rattle.etf_model.specs.Decoding.{IsDecoding}
use Rattle.etf_model.specs.Fronts.{Begins}
use Rattle.etf_model.specs.Format.{Reading}
use Rattle.etf_model.specs.Spelling.{spelling, IsBreak}
use Rattle.etf_model.specs.SpellingExact.{spelling-exact}
use Rattle.key_block.specs.declared.fault.BlockFault.{BlockFault}
use Rattle.key_block.specs.Refusal.{refusal}
use Rattle.key_block.specs.Unpacking.{IsWhole}
use Rattle.file_model.specs.Block.{with_none_left, whole_term, term_in}

abbrev read_all : List ℕ → Reading TermValue
read_all bytes = spelling.read 0 (record { offset = 0; left = bytes })

-- a term that was decoded, by the bytes that are left behind it
behind_term : (bytes : List ℕ) (t : TermValue) (n : ℕ) → IsDecoding bytes (Ok (t, n)) → term_in bytes ≡ with_none_left t (drop n bytes)
unfolding term_in
behind_term bytes t n d =
    ap (λ bs. whole_term (read_all bs)) (sym (take-append-drop n bytes))
    ∙ ap whole_term (spelling-exact.whole_read 0 0 t (take n bytes) (drop n bytes) d.whole)

none_left : (t : TermValue) (left : List ℕ) → length left ≡ 0 → with_none_left t left ≡ Some t
none_left t [] e = refl
none_left t (x ∷ left) e = absurd (omega arith)

some_left : (t : TermValue) (left : List ℕ) → 0 < length left → with_none_left t left ≡ None
some_left t [] e = absurd (omega arith)
some_left t (x ∷ left) e = refl

pub whole_decoded : (bytes : List ℕ) (t : TermValue) (n : ℕ) → IsDecoding bytes (Ok (t, n)) → length bytes ≤ n → term_in bytes ≡ Some t
whole_decoded bytes t n d all = behind_term bytes t n d ∙ none_left t (drop n bytes) (omega (arith, length-drop n bytes))

pub bytes_behind : (bytes : List ℕ) (t : TermValue) (n : ℕ) → IsDecoding bytes (Ok (t, n)) → n < length bytes → term_in bytes ≡ None
bytes_behind bytes t n d more = behind_term bytes t n d ∙ some_left t (drop n bytes) (omega (arith, length-drop n bytes))

broken : (bytes : List ℕ) (fault : EtfFault) → Begins (λ front. IsBreak 0 front fault) bytes → term_in bytes ≡ None
unfolding term_in
broken bytes fault b = ap (λ bs. whole_term (read_all bs)) b.whole ∙ ap whole_term (spelling-exact.break_read 0 0 b.front b.rest fault b.holds)

short : (bytes : List ℕ) → IsDecoding bytes (Err Short) → term_in bytes ≡ None
unfolding term_in
short bytes d = ap whole_term (spelling-exact.part_read 0 0 bytes d)

-- nothing is spelled where decoding refuses
pub not_decoded : (bytes : List ℕ) (fault : EtfFault) → IsDecoding bytes (Err fault) → IsWhole bytes (Err (refusal fault))
not_decoded bytes Short d = short bytes d
not_decoded bytes Memory d = tt
not_decoded bytes (NotVersion at) d = broken bytes (NotVersion at) d
not_decoded bytes (Unsupported at tag) d = broken bytes (Unsupported at tag) d
not_decoded bytes (Compressed at) d = broken bytes (Compressed at) d
not_decoded bytes (IntegerRange at) d = broken bytes (IntegerRange at) d
not_decoded bytes (BadAtom at) d = broken bytes (BadAtom at) d
not_decoded bytes (BadBits at) d = broken bytes (BadBits at) d
not_decoded bytes (RepeatedKey at) d = broken bytes (RepeatedKey at) d
not_decoded bytes (Depth at) d = broken bytes (Depth at) d
not_decoded bytes (LongTerm at) d = broken bytes (LongTerm at) d

pub refused : (bytes : List ℕ) (answer : Result TermValue BlockFault) (fault : EtfFault) → IsErrAnd answer (λ y. y ≡ refusal fault)
    → IsDecoding bytes (Err fault) → IsWhole bytes answer
refused bytes (Ok t) fault h d = absurd h
refused bytes (Err y) fault h d = subst (λ e. IsWhole bytes (Err e)) (sym h) (not_decoded bytes fault d)
