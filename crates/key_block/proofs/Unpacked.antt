-- What unpacking answers to a payload that spells the list of objects which the kind allows for one key.
use Rattle.std.proofs.Common.{◌≡◌, ◌≢◌, ℕ, true, false, List, Option, Result, Ok, Err, Some, None, refl, sym, ap, ◌∙◌}
use Rattle.dets_term.specs.TermValue.{TermValue, nil, chain, elements}
use Rattle.dets_term.specs.Parts.{elements-chain}
use Rattle.dets_term.specs.declared.Kind.{Kind}
use Rattle.file_model.specs.Block.{term_in, proper_elements, in_order, one_key}
use Rattle.file_model.specs.Packing.{proper_elements-chain}
use Rattle.key_block.specs.declared.fault.BlockFault.{BlockFault}
use Rattle.key_block.specs.declared.fault.BlockFault.TheVariants.{NotTerm, NotObjects, KeysDiffer, Order, Memory}
use Rattle.key_block.specs.declared.unpacking.KeyBlock.{KeyBlock}
use Rattle.key_block.specs.Unpacking.{IsUnpacking, elements_in, are_objects, share_key}
use Rattle.key_block.proofs.Allowing.{passing}

same_objects : (payload : List ℕ) (these others : List TermValue) → term_in payload ≡ Some (chain these nil) → term_in payload ≡ Some (chain others nil)
    → these ≡ others
same_objects payload these others e f =
    let both : Some (chain these nil) ≡ Some (chain others nil) = sym e ∙ f in
    let lists : chain these nil ≡ chain others nil = cc both in
    sym (elements-chain these) ∙ ap elements lists ∙ elements-chain others

abbrev block_of : List TermValue → KeyBlock
block_of objects = record { objects = objects }

module _ (kind : Kind) (keypos : ℕ) (payload : List ℕ) (objects : List TermValue) (k : TermValue)
    (read : term_in payload ≡ Some (chain objects nil)) (key : one_key kind keypos objects ≡ Some k) where
  found : elements_in payload ≡ objects
  found = ap proper_elements read ∙ proper_elements-chain objects

  pub unpacked_by : (r : Result KeyBlock BlockFault) → IsUnpacking kind keypos payload r → r ≢ Err Memory → r ≡ Ok (block_of objects)
  unpacked_by (Ok b) u other = ap (λ os. Ok (block_of os)) (same_objects payload b.objects objects u.0 read)
  unpacked_by (Err NotTerm) u other = let none : None ≡ Some (chain objects nil) = sym u ∙ read in absurd (cc none)
  unpacked_by (Err NotObjects) u other =
      let both : true ≡ false = sym (passing kind keypos objects k key).objects ∙ sym (ap (are_objects keypos) found) ∙ u.1 in absurd (cc both)
  unpacked_by (Err KeysDiffer) u other =
      let both : true ≡ false = sym (passing kind keypos objects k key).keys ∙ sym (ap (share_key keypos) found) ∙ u.1 in absurd (cc both)
  unpacked_by (Err Order) u other =
      let both : true ≡ false = sym (passing kind keypos objects k key).order ∙ sym (ap (in_order kind) found) ∙ u.2 in absurd (cc both)
  unpacked_by (Err Memory) u other = absurd (other refl)

pub unpacked : (kind : Kind) (keypos : ℕ) (payload : List ℕ) (objects : List TermValue) (k : TermValue) (r : Result KeyBlock BlockFault)
    → term_in payload ≡ Some (chain objects nil) → one_key kind keypos objects ≡ Some k → IsUnpacking kind keypos payload r
    → r ≢ Err Memory → r ≡ Ok (block_of objects)
unpacked kind keypos payload objects k r read key answer other = unpacked_by kind keypos payload objects k read key r answer other

-- ---- any payload

pub objects_found : (kind : Kind) (keypos : ℕ) (payload : List ℕ) (b : KeyBlock) → IsUnpacking kind keypos payload (Ok b) → elements_in payload ≡ b.objects
objects_found kind keypos payload b u = ap proper_elements u.0 ∙ proper_elements-chain b.objects

-- the kind allows what passes, and so nothing that was refused
refuted : (kind : Kind) (keypos : ℕ) (payload : List ℕ) (fault : BlockFault) (k : TermValue) → fault ≢ Memory → IsUnpacking kind keypos payload (Err fault)
    → one_key kind keypos (elements_in payload) ≡ Some k → ⊥
refuted kind keypos payload NotTerm k other u key =
    let none : None ≡ Some k = sym (ap (λ t. one_key kind keypos (proper_elements t)) u) ∙ key in cc none
refuted kind keypos payload NotObjects k other u key =
    let both : true ≡ false = sym (passing kind keypos (elements_in payload) k key).objects ∙ u.1 in cc both
refuted kind keypos payload KeysDiffer k other u key =
    let both : true ≡ false = sym (passing kind keypos (elements_in payload) k key).keys ∙ u.1 in cc both
refuted kind keypos payload Order k other u key =
    let both : true ≡ false = sym (passing kind keypos (elements_in payload) k key).order ∙ u.2 in cc both
refuted kind keypos payload Memory k other u key = other refl

none_by : (o : Option TermValue) → ((k : TermValue) → o ≡ Some k → ⊥) → o ≡ None
none_by None not_some = refl
none_by (Some k) not_some = absurd (not_some k refl)

pub no_block : (kind : Kind) (keypos : ℕ) (payload : List ℕ) (fault : BlockFault) → fault ≢ Memory → IsUnpacking kind keypos payload (Err fault)
    → one_key kind keypos (elements_in payload) ≡ None
no_block kind keypos payload fault other u =
    none_by (one_key kind keypos (elements_in payload)) (λ k key. refuted kind keypos payload fault k other u key)
