-- What stands at a unit, by its head and by the objects of its payload.
use Rattle.std.proofs.Common.{◌≡◌, ◌%◌, ◌^◌, ℕ, Bool, List, [], ◌∷◌, length, take, Option, Some, None, Ok, Err, ap, sym, ◌∙◌, cond, refl}
use Rattle.std.specs.Cow.{cow_slice_items}
use Rattle.std.proofs.lemmas.Bool.{eq-eqb, ne_eqb}
use Rattle.term_model.specs.TermValue.{TermValue}
use Rattle.term_model.specs.IsTerm.{IsTerm}
use Rattle.term_model.specs.declared.kind.Kind.{Kind}
use Rattle.term_model.specs.Hash.{hash_of}
use Rattle.etf_model.specs.Canonical.{canonical, spelled}
use Rattle.space_model.specs.Sizes.{head_size, segment_units}
use Rattle.file_model.specs.declared.reject.Reason.TheVariants.{BadHead, NotAligned}
use Rattle.file_model.specs.Block.{Standing, BlockHead, block_head, block_with, block_of, proper_elements, term_in, payload_in, standing_with, standing}
use Rattle.file_model.specs.Taken.{key_hash}
use Rattle.file_model.specs.declared.entry.Entry.{Entry}
use Rattle.repair_scan.specs.declared.candidate.Candidate.{Candidate}
use Rattle.key_block.specs.Single.{HasOneObject}
use Rattle.repair_scan.specs.Candidates.{IsRead, first_key}
use Rattle.repair_scan.specs.KeyHash.{hash_behind}

module _ (kind : Kind) (keypos unit : ℕ) (bytes : List ℕ) where
  by_head : (o : Option BlockHead) → o ≡ block_head segment_units (take head_size bytes)
      → standing segment_units kind keypos unit bytes ≡ standing_with kind keypos unit bytes o
  unfolding standing
  by_head o e = ap (standing_with kind keypos unit bytes) (sym e)

  pub bad_head : None ≡ block_head segment_units (take head_size bytes) → standing segment_units kind keypos unit bytes ≡ Err BadHead
  bad_head e = by_head None e

  module _ (h : BlockHead) (is : Some h ≡ block_head segment_units (take head_size bytes)) where
    abbrev with_place : Bool → Standing
    with_place aligned = cond aligned (block_of kind keypos unit h.exp (proper_elements (term_in (payload_in bytes h)))) (Err NotAligned)

    pub not_aligned : (unit % 2 ^ h.exp ≡ 0 → ⊥) → standing segment_units kind keypos unit bytes ≡ Err NotAligned
    not_aligned other = by_head (Some h) is ∙ ap with_place (ne_eqb (unit % 2 ^ h.exp) 0 other)

    pub aligned : unit % 2 ^ h.exp ≡ 0 → standing segment_units kind keypos unit bytes
        ≡ block_of kind keypos unit h.exp (proper_elements (term_in (payload_in bytes h)))
    aligned place = by_head (Some h) is ∙ ap with_place (eq-eqb (unit % 2 ^ h.exp) 0 place)

same_entry : (e f : Entry) → e.hash ≡ f.hash → e.unit ≡ f.unit → e.exp ≡ f.exp → e.count ≡ f.count → e ≡ f
same_entry e f hash unit exp count =
    let by_hash : ℕ → Entry = λ n. record { hash = n; unit = e.unit; exp = e.exp; count = e.count } in
    let by_unit : ℕ → Entry = λ n. record { hash = f.hash; unit = n; exp = e.exp; count = e.count } in
    let by_exp : ℕ → Entry = λ n. record { hash = f.hash; unit = f.unit; exp = n; count = e.count } in
    let by_count : ℕ → Entry = λ n. record { hash = f.hash; unit = f.unit; exp = f.exp; count = n } in
    ap by_hash hash ∙ ap by_unit unit ∙ ap by_exp exp ∙ ap by_count count

-- the block of objects by the key of the first
pub candidate_read : (unit exp keypos : ℕ) (objects : List TermValue) (k : TermValue) (c : Candidate) → Some k ≡ first_key keypos objects → IsTerm k
    → c.entry.hash ≡ hash_of (spelled k) → c.entry.count ≡ length objects → c.entry.unit ≡ unit → c.entry.exp ≡ exp → cow_slice_items c.key ≡ canonical k
    → IsRead unit (Ok c) (block_with unit exp objects (first_key keypos objects))
unfolding key_hash
candidate_read unit exp keypos objects k c is term hash count at size key = (
  record { unit = unit; exp = exp; key = k; objects = objects },
  ap (block_with unit exp objects) (sym is),
  record {
    unit = refl;
    entry = same_entry c.entry _ hash at size count;
    key = key;
    term = term;
  },
)

-- the block of one object whose key was found without unpacking
pub single_read : (kind : Kind) (keypos unit exp : ℕ) (payload bytes : List ℕ) (c : Candidate) → HasOneObject kind keypos payload bytes
    → c.entry ≡ record { hash = hash_behind bytes; unit = unit; exp = exp; count = 1 } → cow_slice_items c.key ≡ bytes
    → IsRead unit (Ok c) (block_of kind keypos unit exp (proper_elements (term_in payload)))
unfolding key_hash
single_read kind keypos unit exp payload bytes c one entry key = (
  record { unit = unit; exp = exp; key = one.key_term; objects = one.object ∷ [] },
  ap (block_of kind keypos unit exp) one.elements ∙ ap (block_with unit exp (one.object ∷ [])) one.allowed,
  record {
    unit = refl;
    entry = entry ∙ ap (λ bs. record { hash = hash_behind bs; unit = unit; exp = exp; count = 1 }) one.key_bytes;
    key = key ∙ one.key_bytes;
    term = one.is_term;
  },
)
