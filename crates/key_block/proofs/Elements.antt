-- The elements of a proper list, and those of the payload that spells it.
use Rattle.std.proofs.Common.{◌≡◌, ◌<◌, ◌^◌, ℕ, true, false, cond, Bool, List, [], ◌∷◌, length, Result, Ok, Err, Some, refl, sym, ap, ◌∙◌, arith}
use Rattle.dets_term.specs.TermValue.{TermValue, integer, atom, tuple, mapping, nil, cons, bits, chain, elements, is_list}
use Rattle.dets_term.specs.IsTerm.{IsTerm, IsBounded}
use Rattle.dets_term.specs.declared.term.Node.{Node}
use Rattle.dets_term.specs.declared.term.Node.TheVariants.{Int, Atom, Tuple, Map, List as ListNode, Improper, Bits}
use Rattle.dets_term.specs.Node.{shown, IsSound}
use Rattle.dets_term.specs.Parts.{elements-chain}
use Rattle.etf_model.specs.Canonical.{is_proper}
use Rattle.file_model.specs.Block.{term_in, proper_elements}
use Rattle.file_model.specs.Packing.{is_proper-chain, proper_elements-chain}
use Rattle.key_block.specs.declared.fault.BlockFault.{BlockFault}
use Rattle.key_block.specs.declared.fault.BlockFault.TheVariants.{NotObjects}
use Rattle.key_block.specs.Unpacking.{elements_in}

-- what taking the elements out of a term answers
abbrev pub elements_of : TermValue → Result (List TermValue) BlockFault
elements_of t = cond (is_proper t) (Ok (elements t)) (Err NotObjects)

-- ---- by the node of the term

improper_end : (t : TermValue) → is_list t ≡ false → is_proper t ≡ false
improper_end (integer z) e = refl
improper_end (atom name) e = refl
improper_end (tuple parts) e = refl
improper_end (mapping keys values) e = refl
improper_end nil e = cc
improper_end (cons first rest) e = cc
improper_end (bits bs) e = refl

improper_chain : (ts : List TermValue) (tail : TermValue) → is_proper tail ≡ false → is_proper (chain ts tail) ≡ false
improper_chain [] tail e = e
improper_chain (t ∷ ts) tail e = improper_chain ts tail e

pub list_node : (ts : List TermValue) → elements_of (chain ts nil) ≡ Ok ts
list_node ts = ap (λ b. cond b (Ok (elements (chain ts nil))) (Err NotObjects)) (is_proper-chain ts) ∙ ap (λ us. Ok us) (elements-chain ts)

refused : (t : TermValue) → is_proper t ≡ false → elements_of t ≡ Err NotObjects
refused t e = ap (λ b. cond b (Ok (elements t)) (Err NotObjects)) e

pub other_node : (n : Node) → IsSound n → ((ts : List TermValue) → n ≡ ListNode ts → ⊥) → elements_of (shown n) ≡ Err NotObjects
other_node (Int v) sound other = refl
other_node (Atom name) sound other = refl
other_node (Tuple parts) sound other = refl
other_node (Map pairs) sound other = refl
other_node (ListNode parts) sound other = absurd (other parts refl)
other_node (Improper parts tail) sound other =
    refused (chain parts tail.value) (improper_chain parts tail.value (improper_end tail.value sound.1))
other_node (Bits bytes used) sound other = refl

-- ---- how many there are

few_in : (t : TermValue) → IsBounded t → length (elements t) < 2 ^ 32
few_in (integer z) b = omega arith
few_in (atom name) b = omega arith
few_in (tuple parts) b = omega arith
few_in (mapping keys values) b = omega arith
few_in nil b = omega arith
few_in (cons first rest) b = b.0
few_in (bits bs) b = omega arith

pub few_elements : (t : TermValue) (parts : List TermValue) → IsTerm t → chain parts nil ≡ t → length parts < 2 ^ 32
few_elements t parts is e =
    let same : elements t ≡ parts = ap elements (sym e) ∙ elements-chain parts in
    let few = few_in t is.bounded in
    omega (arith, few, ap length same)

-- ---- by the payload

-- these are the elements of the list that it spells
pub record IsListOf (payload : List ℕ) (objects : List TermValue) : Type 0 where
  pub list : term_in payload ≡ Some (chain objects nil)
  pub elements : elements_in payload ≡ objects

proper_list : (t : TermValue) → is_proper t ≡ true → t ≡ chain (elements t) nil
proper_list (integer z) e = absurd (cc e)
proper_list (atom name) e = absurd (cc e)
proper_list (tuple parts) e = absurd (cc e)
proper_list (mapping keys values) e = absurd (cc e)
proper_list nil e = refl
proper_list (cons first rest) e = ap (λ t. cons first t) (proper_list rest e)
proper_list (bits bs) e = absurd (cc e)

taken : (t : TermValue) (b : Bool) (objects : List TermValue) → is_proper t ≡ b → Ok objects ≡ cond b (Ok (elements t)) (Err NotObjects)
    → t ≡ chain objects nil
taken t true objects is e = let same : objects ≡ elements t = cc in proper_list t is ∙ ap (λ ts. chain ts nil) (sym same)
taken t false objects is e = absurd (cc e)

pub listed : (payload : List ℕ) (t : TermValue) (objects : List TermValue) → term_in payload ≡ Some t → Ok objects ≡ elements_of t → IsListOf payload objects
listed payload t objects read e =
    let list : term_in payload ≡ Some (chain objects nil) = read ∙ ap (λ u. Some u) (taken t (is_proper t) objects refl e) in
    record { list = list; elements = ap proper_elements list ∙ proper_elements-chain objects }

not_taken : (t : TermValue) (b : Bool) (fault : BlockFault) → is_proper t ≡ b → Err fault ≡ cond b (Ok (elements t)) (Err NotObjects)
    → (fault ≡ NotObjects) × (proper_elements (Some t) ≡ [])
not_taken t true fault is e = absurd (cc e)
not_taken t false fault is e = (let same : fault ≡ NotObjects = cc in same, ap (λ b. cond b (elements t) []) is)

pub not_listed : (payload : List ℕ) (t : TermValue) (fault : BlockFault) → term_in payload ≡ Some t → Err fault ≡ elements_of t
    → (fault ≡ NotObjects) × (elements_in payload ≡ [])
not_listed payload t fault read e =
    let p = not_taken t (is_proper t) fault refl e in (p.0, ap proper_elements read ∙ p.1)
