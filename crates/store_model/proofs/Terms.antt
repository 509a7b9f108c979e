-- The key of a term is a term.
use Rattle.std.proofs.Common.{◌≡◌, ◌≤◌, ℕ, zero, suc, Bool, true, false, cond, List, [], ◌∷◌, Option, Some, None, subst, arith}
use Rattle.std.specs.Prelude.{slice_get}
use Rattle.term_model.specs.TermValue.{TermValue, integer, atom, tuple, mapping, nil, cons, bits, elements, key, parts_depth, is_list}
use Rattle.term_model.specs.declared.kind.Kind.{Kind}
use Rattle.dets_term.specs.IsTerm.{IsTerm, IsBounded}
use Rattle.dets_term.specs.Parts.{AreTerms}
use Rattle.file_model.specs.declared.head.Head.{Head}
use Rattle.file_model.specs.declared.block.Packed.{Packed}
use Rattle.file_model.specs.Block.{if_shared, one_key}
use Rattle.book_model.specs.Planning.{IsBlockFor}

no_less : (b : Bool) (n : ℕ) → n ≤ cond b n (suc n)
no_less true n = omega arith
no_less false n = omega arith

-- each element of a list of parts is a term
part_term : (parts : TermValue) (place : ℕ) (k : TermValue) → IsBounded parts → parts_depth parts ≤ 255 → slice_get (elements parts) place ≡ Some k
    → IsTerm k
part_term (integer z) place k bounded shallow e = absurd (cc e)
part_term (atom name) place k bounded shallow e = absurd (cc e)
part_term (tuple parts) place k bounded shallow e = absurd (cc e)
part_term (mapping keys values) place k bounded shallow e = absurd (cc e)
part_term nil place k bounded shallow e = absurd (cc e)
part_term (bits bs) place k bounded shallow e = absurd (cc e)
part_term (cons first rest) zero k bounded shallow e =
    let same : first ≡ k = cc e in
    subst IsTerm same (record { shallow = omega (arith, shallow); bounded = bounded.1 })
part_term (cons first rest) (suc place) k bounded shallow e =
    let less = no_less (is_list rest) (parts_depth rest) in
    part_term rest place k bounded.2 (omega (arith, shallow, less)) e

pub key_term : (t : TermValue) (keypos : ℕ) (k : TermValue) → IsTerm t → key t keypos ≡ Some k → IsTerm k
key_term (integer z) keypos k is e = absurd (cc e)
key_term (atom name) keypos k is e = absurd (cc e)
key_term (mapping keys values) keypos k is e = absurd (cc e)
key_term nil keypos k is e = absurd (cc e)
key_term (cons first rest) keypos k is e = absurd (cc e)
key_term (bits bs) keypos k is e = absurd (cc e)
key_term (tuple parts) zero k is e = absurd (cc e)
key_term (tuple parts) (suc place) k is e = let deep = is.shallow in part_term parts place k is.bounded.1 (omega (arith, deep)) e

-- ---- the key of a block

shared : (kind : Kind) (keypos : ℕ) (objects : List TermValue) (o : Option TermValue) (k : TermValue) → if_shared kind keypos objects o ≡ Some k → o ≡ Some k
shared kind keypos objects None k e = absurd (cc e)
shared kind keypos objects (Some j) k e = chosen _ j k e
  where
    chosen : (b : Bool) (j k : TermValue) → cond b (Some j) None ≡ Some k → Some j ≡ Some k
    chosen true j k e = e
    chosen false j k e = absurd (cc e)

pub one_key_term : (kind : Kind) (keypos : ℕ) (objects : List TermValue) (k : TermValue) → AreTerms objects → one_key kind keypos objects ≡ Some k → IsTerm k
one_key_term kind keypos [] k are e = absurd (cc e)
one_key_term kind keypos (first ∷ rest) k are e = key_term first keypos k are.0 (shared kind keypos (first ∷ rest) (key first keypos) k e)

pub block_term : (h : Head) (key : List ℕ) (p : Packed) (f : IsBlockFor h key p) → IsTerm f.term
block_term h key p f = one_key_term h.kind h.keypos f.objects f.term f.may_pack.terms f.of_key
