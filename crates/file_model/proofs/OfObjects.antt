-- The payload that writers make of objects has these objects, and the block of it stands.
use Rattle.std.proofs.Common.{◌≡◌, ◌≤◌, ◌<◌, ℕ, ◌+◌, ◌*◌, ◌%◌, ◌^◌, false, List, ◌∷◌, ◌++◌, length, Some, Ok, refl, sym, ap, ◌∙◌, subst, arith}
use Rattle.std.proofs.Math.Pow.{pow_mono}
use Rattle.std.proofs.lemmas.Bool.{ltb-false}
use Rattle.term_model.specs.TermValue.{TermValue, nil, chain}
use Rattle.dets_term.specs.IsTerm.{IsTerm}
use Rattle.dets_term.specs.Parts.{depth-list_of, IsBounded-chain}
use Rattle.etf_model.specs.declared.tags.TheConstants.{VERSION}
use Rattle.etf_model.specs.Canonical.{canonical}
use Rattle.etf_model.specs.Spelling.{Spells}
use Rattle.space_model.specs.Sizes.{unit_size, head_size}
use Rattle.space_model.specs.Ledger.{exponent, is_too_large}
use Rattle.file_model.specs.declared.block.Packed.{Packed}
use Rattle.file_model.specs.declared.head.Head.{Head}
use Rattle.file_model.specs.Block.{term_in, proper_elements, one_key, standing}
use Rattle.file_model.specs.BodyWrites.{block_bytes, IsPayload, IsPacked}
use Rattle.file_model.specs.Packing.{payload_of, MayPack, IsBlockOf, payload_has_bytes, proper_elements-chain}
use Rattle.file_model.proofs.Payload.{term_from_spelling}
use Rattle.file_model.proofs.WrittenBlocks.{written_stands}

list_is_term : (objects : List TermValue) → MayPack objects → length objects < 2 ^ 32 → IsTerm (chain objects nil)
list_is_term objects may short = record {
  shallow = depth-list_of objects nil 255 may.shallow (omega arith);
  bounded = IsBounded-chain objects short may.terms;
}

abbrev CanonicalSpells : Type 0
CanonicalSpells = (t : TermValue) → IsTerm t → Spells t (VERSION ∷ canonical t)

pub read_back : CanonicalSpells → (objects : List TermValue) → MayPack objects → length objects < 2 ^ 32
    → term_in (payload_of objects) ≡ Some (chain objects nil)
read_back spells objects may short =
    term_from_spelling (chain objects nil) (payload_of objects) (spells (chain objects nil) (list_is_term objects may short))

abbrev HasRoom : ℕ → Type 0
HasRoom bytes = head_size + bytes ≤ unit_size * 2 ^ exponent bytes

abbrev IsInSegment : ℕ → Type 0
IsInSegment bytes = is_too_large (2 ^ 12) bytes ≡ false → exponent bytes ≤ 12

module _ (spells : CanonicalSpells) (objects : List TermValue) (may : MayPack objects) (fits : is_too_large 4096 (length (payload_of objects)) ≡ false) where
  small : head_size + length (payload_of objects) ≤ unit_size * 4096
  small = ltb-false (unit_size * 4096) (head_size + length (payload_of objects)) fits

  objects_back : proper_elements (term_in (payload_of objects)) ≡ objects
  objects_back = ap proper_elements (read_back spells objects may (omega (arith, payload_has_bytes objects, small))) ∙ proper_elements-chain objects

  is_payload : (h : Head) (unit exp : ℕ) (k : TermValue) → exp ≤ 12 → head_size + length (payload_of objects) ≤ unit_size * 2 ^ exp
      → unit % 2 ^ exp ≡ 0 → one_key h.kind h.keypos objects ≡ Some k → IsPayload 4096 h.kind h.keypos unit exp (payload_of objects) k
  is_payload h unit exp k least room aligned key = record {
    exponent = let power : 2 ^ exp ≤ 2 ^ 12 = pow_mono least in power;
    aligned = aligned;
    fits = omega (arith, room);
    count = omega (arith, small);
    key = ap (one_key h.kind h.keypos) objects_back ∙ key;
  }

  block_stands : (h : Head) (unit exp : ℕ) (k : TermValue) (bytes rest : List ℕ) → exp ≤ 12
      → head_size + length (payload_of objects) ≤ unit_size * 2 ^ exp → unit % 2 ^ exp ≡ 0 → one_key h.kind h.keypos objects ≡ Some k
      → bytes ≡ block_bytes exp (payload_of objects)
      → standing 4096 h.kind h.keypos unit (bytes ++ rest) ≡ Ok (record { unit = unit; exp = exp; key = k; objects = objects })
  block_stands h unit exp k bytes rest least room aligned key is =
      ap (λ bs. standing 4096 h.kind h.keypos unit (bs ++ rest)) is
      ∙ written_stands 4096 h.kind h.keypos unit exp (payload_of objects) rest k (is_payload h unit exp k least room aligned key)
      ∙ ap (λ os. Ok (record { unit = unit; exp = exp; key = k; objects = os })) objects_back

-- the block of objects stands with them
pub packed_stands : CanonicalSpells → ((bytes : ℕ) → HasRoom bytes) → ((bytes : ℕ) → IsInSegment bytes) → (h : Head) (unit : ℕ) (objects : List TermValue)
    (k : TermValue) (p : Packed) → MayPack objects → IsBlockOf objects p → one_key h.kind h.keypos objects ≡ Some k
    → is_too_large 4096 (length (payload_of objects)) ≡ false → unit % 2 ^ p.exp ≡ 0
    → IsPacked 4096 h (record { unit = unit; exp = p.exp; bytes = p.block }) (record { unit = unit; exp = p.exp; key = k; objects = objects })
packed_stands spells room segment h unit objects k p may block key fits aligned = record {
  stands = λ rest. block_stands spells objects may fits h unit p.exp k p.block rest
      (subst (λ e. e ≤ 12) (sym block.exp) (segment (length (payload_of objects)) fits))
      (subst (λ e. head_size + length (payload_of objects) ≤ unit_size * 2 ^ e) (sym block.exp) (room (length (payload_of objects))))
      aligned key block.bytes;
  exp = refl;
}
