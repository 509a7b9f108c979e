-- A block that was written stands, whatever follows it.
use Rattle.std.proofs.Common.{◌≡◌, ◌≤◌, ◌<◌, ℕ, ◌-◌, ◌%◌, ◌^◌, true, cond, List, [], ◌++◌, length, take, Option, Some, None, Ok, Err, ap, ◌∙◌}
use Rattle.std.proofs.Math.Seq.{take-append_seam}
use Rattle.std.proofs.lemmas.Bool.{and_from, le-leb, eq-eqb}
use Rattle.byteorder.specs.Endian.{big_number, big_bytes}
use Rattle.byteorder.specs.Numbers.{big_number-reads_back}
use Rattle.term_model.specs.TermValue.{TermValue}
use Rattle.term_model.specs.declared.kind.Kind.{Kind}
use Rattle.file_model.specs.declared.reject.Reason.TheVariants.{NotAligned}
use Rattle.file_model.specs.Layout.{run_size}
use Rattle.space_model.specs.Sizes.{head_size}
use Rattle.file_model.specs.Block.{BlockHead, is_well_formed, if_well_formed, block_head, term_in, proper_elements, one_key, block_with}
use Rattle.file_model.specs.Block.{block_of, payload_in, standing_with, standing}
use Rattle.file_model.specs.BodyWrites.{head_bytes, block_bytes, IsPayload, block_at}

abbrev head_of_block : ℕ → ℕ → BlockHead
head_of_block exp count = record { exp = exp; count = count }

head_read : (n exp count : ℕ) → 2 ^ exp ≤ n → count ≤ run_size exp - head_size → count < 256 ^ 4
    → block_head n (head_bytes exp count) ≡ Some (head_of_block exp count)
head_read n exp count small fits short =
    let number : big_number 4 (big_bytes 4 count) ≡ count = big_number-reads_back 4 count [] short in
    let well : is_well_formed n (head_of_block exp count) ≡ true =
    and_from _ _ (le-leb (2 ^ exp) n small) (le-leb count (run_size exp - head_size) fits) in
    ap (λ c. if_well_formed n true (head_of_block exp c)) number ∙ ap (λ t. cond t (Some (head_of_block exp count)) None) well

by_key_of : (unit exp : ℕ) (objects : List TermValue) (o : Option TermValue) (k : TermValue) → o ≡ Some k
    → block_with unit exp objects o ≡ Ok (record { unit = unit; exp = exp; key = k; objects = objects })
by_key_of unit exp objects o k e = ap (block_with unit exp objects) e

stands_with : (kind : Kind) (keypos unit exp : ℕ) (payload bytes : List ℕ) (k : TermValue) (o : Option BlockHead)
    → o ≡ Some (head_of_block exp (length payload)) → payload_in bytes (head_of_block exp (length payload)) ≡ payload → unit % 2 ^ exp ≡ 0
    → one_key kind keypos (proper_elements (term_in payload)) ≡ Some k → standing_with kind keypos unit bytes o ≡ Ok (block_at unit exp payload k)
stands_with kind keypos unit exp payload bytes k o head read aligned key =
    ap (standing_with kind keypos unit bytes) head
    ∙ ap (λ t. cond t (block_of kind keypos unit exp (proper_elements (term_in (payload_in bytes (head_of_block exp (length payload)))))) (Err NotAligned))
    (eq-eqb (unit % 2 ^ exp) 0 aligned)
    ∙ ap (λ p. block_of kind keypos unit exp (proper_elements (term_in p))) read
    ∙ by_key_of unit exp (proper_elements (term_in payload)) (one_key kind keypos (proper_elements (term_in payload))) k key

pub written_stands : (n : ℕ) (kind : Kind) (keypos unit exp : ℕ) (payload rest : List ℕ) (k : TermValue)
    → IsPayload n kind keypos unit exp payload k → standing n kind keypos unit (block_bytes exp payload ++ rest) ≡ Ok (block_at unit exp payload k)
unfolding standing
written_stands n kind keypos unit exp payload rest k p =
    stands_with kind keypos unit exp payload (block_bytes exp payload ++ rest) k
    (block_head n (take head_size (block_bytes exp payload ++ rest)))
    (head_read n exp (length payload) p.exponent p.fits p.count)
    (take-append_seam payload rest)
    p.aligned
    p.key
