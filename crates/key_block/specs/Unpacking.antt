-- What unpacking the payload of a block answers. This project's own.
use Rattle.std.specs.Prelude.{◌≡◌, ℕ, Bool, true, false, List, [], ◌∷◌, Result, Ok, Err, Some, None, IsSome}
use Rattle.std.specs.List.{list_all}
use Rattle.dets_term.specs.TermValue.{TermValue, nil, chain, key}
use Rattle.dets_term.specs.declared.Kind.{Kind}
use Rattle.table_model.specs.Allowed.{is_object}
use Rattle.table_model.specs.Table.{shares_key}
use Rattle.file_model.specs.Block.{term_in, proper_elements, in_order, one_key}
use Rattle.key_block.specs.declared.fault.BlockFault.{BlockFault}
use Rattle.key_block.specs.declared.fault.BlockFault.TheVariants.{NotTerm, NotObjects, KeysDiffer, Order, Memory}
use Rattle.key_block.specs.declared.unpacking.KeyBlock.{KeyBlock}

-- the elements of the proper list that a payload spells, none where it spells another term or none
abbrev pub elements_in : List ℕ → List TermValue
elements_in payload = proper_elements (term_in payload)

-- whether they are objects, of which there is at least one
abbrev pub are_objects : ℕ → List TermValue → Bool
are_objects keypos [] = false
are_objects keypos (first ∷ rest) = list_all (is_object keypos) (first ∷ rest)

-- whether all have the key of the first
abbrev pub share_key : ℕ → List TermValue → Bool
share_key keypos [] = true
share_key keypos (first ∷ rest) = list_all (shares_key keypos (key first keypos)) (first ∷ rest)

-- The objects of the list that the payload spells, which the kind allows for one key. Else the first of these: it spells no
-- term with no byte left; that is no list of objects; their keys differ; they are not in the order of the kind. Want of
-- memory may take the place of any answer.
abbrev pub IsUnpacking : Kind → ℕ → List ℕ → Result KeyBlock BlockFault → Type 0
IsUnpacking kind keypos payload (Ok b) = (term_in payload ≡ Some (chain b.objects nil)) × IsSome (one_key kind keypos b.objects)
IsUnpacking kind keypos payload (Err NotTerm) = term_in payload ≡ None
IsUnpacking kind keypos payload (Err NotObjects) = IsSome (term_in payload) × (are_objects keypos (elements_in payload) ≡ false)
IsUnpacking kind keypos payload (Err KeysDiffer) =
    (are_objects keypos (elements_in payload) ≡ true) × (share_key keypos (elements_in payload) ≡ false)
IsUnpacking kind keypos payload (Err Order) =
    (are_objects keypos (elements_in payload) ≡ true) × (share_key keypos (elements_in payload) ≡ true)
    × (in_order kind (elements_in payload) ≡ false)
IsUnpacking kind keypos payload (Err Memory) = Unit {0}

-- the term that all bytes spell, or that there is none
abbrev pub IsWhole : List ℕ → Result TermValue BlockFault → Type 0
IsWhole bytes (Ok t) = term_in bytes ≡ Some t
IsWhole bytes (Err NotTerm) = term_in bytes ≡ None
IsWhole bytes (Err Memory) = Unit {0}
IsWhole bytes (Err other) = ⊥
