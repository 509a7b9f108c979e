-- What stands at a unit: what is known of a block there, and on which bytes it depends.
use Rattle.std.proofs.Common.{◌≡◌, ◌≤◌, ℕ, ◌+◌, ◌-◌, ◌^◌, ◌%◌, Bool, true, false, cond, ◌&&◌, ◌==◌, List, [], ◌∷◌, take, drop, nat_le, Option, Some}
use Rattle.std.proofs.Common.{None, Ok, Err, refl, sym, ap, ◌∙◌, subst, arith}
use Rattle.std.proofs.Math.Seq.{take-take}
use Rattle.std.proofs.lemmas.List.{drop-take}
use Rattle.std.proofs.lemmas.Nat.{pow_pos}
use Rattle.std.proofs.lemmas.Bool.{and_parts, leb-true, eqb-true}
use Rattle.byteorder.specs.Endian.{big_number}
use Rattle.term_model.specs.TermValue.{TermValue}
use Rattle.term_model.specs.declared.kind.Kind.{Kind}
use Rattle.file_model.specs.declared.head.Head.{Head}
use Rattle.file_model.specs.declared.reject.Reason.TheVariants.{NotAligned}
use Rattle.file_model.specs.Layout.{run_size, unit_bytes}
use Rattle.space_model.specs.Sizes.{head_size}
use Rattle.file_model.specs.Block.{Block, BlockHead, is_well_formed, block_head, one_key, block_with, block_of, proper_elements, term_in}
use Rattle.file_model.specs.Block.{payload_in, standing_with, standing}
use Rattle.file_model.specs.View.{units_in, view}
use Rattle.file_model.specs.Gates.{AreRead, SeenAlike}
use Rattle.file_model.specs.Images.{judged_by_head, judged_size, ImagesAgree}
use Rattle.file_model.specs.Stands.{StandsAligned}
use Rattle.file_model.proofs.Seen.{view_same}

-- ---- the head

head_fits_if : (n : ℕ) (zeros : Bool) (h j : BlockHead) (t : Bool) → (zeros && is_well_formed n h) ≡ t → cond t (Some h) None ≡ Some j
    → (2 ^ j.exp ≤ n) × (head_size + j.count ≤ run_size j.exp)
head_fits_if n zeros h j false is e = absurd (cc e)
head_fits_if n zeros h j true is e =
    let parts = and_parts (nat_le (2 ^ h.exp) n) (nat_le h.count (run_size h.exp - head_size)) (and_parts zeros (is_well_formed n h) is).1 in
    let exp : 2 ^ h.exp ≤ n = leb-true (2 ^ h.exp) n parts.0 in
    let count : h.count ≤ run_size h.exp - head_size = leb-true h.count (run_size h.exp - head_size) parts.1 in
    let some = pow_pos h.exp in
    let same : h ≡ j = cc e in
    subst (λ (x : BlockHead). (2 ^ x.exp ≤ n) × (head_size + x.count ≤ run_size x.exp)) same (exp, omega arith)

pub head_fits : (n : ℕ) (bytes : List ℕ) (h : BlockHead) → block_head n bytes ≡ Some h → (2 ^ h.exp ≤ n) × (head_size + h.count ≤ run_size h.exp)
head_fits n [] h e = absurd (cc e)
head_fits n (a ∷ []) h e = absurd (cc e)
head_fits n (a ∷ b ∷ []) h e = absurd (cc e)
head_fits n (a ∷ b ∷ c ∷ []) h e = absurd (cc e)
head_fits n (exp ∷ a ∷ b ∷ c ∷ size) h e =
    let found : BlockHead = record { exp = exp; count = big_number 4 size } in
    head_fits_if n (a == 0 && (b == 0 && c == 0)) found h ((a == 0 && (b == 0 && c == 0)) && is_well_formed n found) refl e

-- ---- a block

with_facts : (kind : Kind) (keypos unit exp : ℕ) (objects : List TermValue) (k : Option TermValue) (b : Block) → one_key kind keypos objects ≡ k
    → block_with unit exp objects k ≡ Ok b → (b.unit ≡ unit) × (b.exp ≡ exp) × (one_key kind keypos b.objects ≡ Some b.key)
with_facts kind keypos unit exp objects None b is e = absurd (cc e)
with_facts kind keypos unit exp objects (Some k) b is e =
    let same : record { unit = unit; exp = exp; key = k; objects = objects } ≡ b = cc e in
    subst (λ (x : Block). (x.unit ≡ unit) × (x.exp ≡ exp) × (one_key kind keypos x.objects ≡ Some x.key)) same (refl, refl, is)

aligned_facts : (n : ℕ) (kind : Kind) (keypos unit : ℕ) (h : BlockHead) (objects : List TermValue) (t : Bool) (b : Block) → 2 ^ h.exp ≤ n
    → (unit % 2 ^ h.exp == 0) ≡ t → cond t (block_of kind keypos unit h.exp objects) (Err NotAligned) ≡ Ok b → StandsAligned n kind keypos unit b
aligned_facts n kind keypos unit h objects false b fits is e = absurd (cc e)
aligned_facts n kind keypos unit h objects true b fits is e =
    let f = with_facts kind keypos unit h.exp objects (one_key kind keypos objects) b refl e in
    let place : unit % 2 ^ h.exp ≡ 0 = eqb-true (unit % 2 ^ h.exp) 0 is in
    record {
      unit = f.0;
      key = f.2;
      aligned = subst (λ x. unit % 2 ^ x ≡ 0) (sym f.1) place;
      fits = subst (λ x. 2 ^ x ≤ n) (sym f.1) fits;
    }

facts_with : (n : ℕ) (kind : Kind) (keypos unit : ℕ) (bytes : List ℕ) (b : Block) (h : Option BlockHead) → block_head n (take head_size bytes) ≡ h
    → standing_with kind keypos unit bytes h ≡ Ok b → StandsAligned n kind keypos unit b
facts_with n kind keypos unit bytes b None is e = absurd (cc e)
facts_with n kind keypos unit bytes b (Some h) is e =
    aligned_facts n kind keypos unit h (proper_elements (term_in (payload_in bytes h))) (unit % 2 ^ h.exp == 0) b
    (head_fits n (take head_size bytes) h is).0 refl e

pub stands_aligned : (n : ℕ) (kind : Kind) (keypos unit : ℕ) (bytes : List ℕ) (b : Block) → standing n kind keypos unit bytes ≡ Ok b
    → StandsAligned n kind keypos unit b
unfolding standing
stands_aligned n kind keypos unit bytes b e = facts_with n kind keypos unit bytes b (block_head n (take head_size bytes)) refl e

-- the units of a file hold blocks as they are read
pub are_read : (n : ℕ) (h : Head) (image : List ℕ) → AreRead h (units_in n h image)
are_read n h image u b e = let f = stands_aligned n h.kind h.keypos u (unit_bytes n image u) b e in record { unit = f.unit; key = f.key }

-- ---- by its bytes

fewer_bytes : (m n : ℕ) (r s : List ℕ) → m ≤ n → take n s ≡ take n r → take m s ≡ take m r
fewer_bytes m n r s l same = sym (take-take m n s l) ∙ ap (take m) same ∙ take-take m n r l

payload_same : (h : BlockHead) (r s : List ℕ) → take (head_size + h.count) s ≡ take (head_size + h.count) r → payload_in s h ≡ payload_in r h
payload_same h r s same = sym (drop-take head_size h.count s) ∙ ap (drop head_size) same ∙ drop-take head_size h.count r

by_alignment : (kind : Kind) (keypos unit : ℕ) (h : BlockHead) (r s : List ℕ) (t : Bool)
    → take (cond t (head_size + h.count) head_size) s ≡ take (cond t (head_size + h.count) head_size) r
    → cond t (block_of kind keypos unit h.exp (proper_elements (term_in (payload_in s h)))) (Err NotAligned)
    ≡ cond t (block_of kind keypos unit h.exp (proper_elements (term_in (payload_in r h)))) (Err NotAligned)
by_alignment kind keypos unit h r s true same = ap (λ bytes. block_of kind keypos unit h.exp (proper_elements (term_in bytes))) (payload_same h r s same)
by_alignment kind keypos unit h r s false same = refl

local_with : (kind : Kind) (keypos unit : ℕ) (r s : List ℕ) (h : Option BlockHead) → take (judged_by_head unit h) s ≡ take (judged_by_head unit h) r
    → standing_with kind keypos unit s h ≡ standing_with kind keypos unit r h
local_with kind keypos unit r s None same = refl
local_with kind keypos unit r s (Some h) same = by_alignment kind keypos unit h r s (unit % 2 ^ h.exp == 0) same

head_judged : (unit : ℕ) (h : Option BlockHead) → head_size ≤ judged_by_head unit h
head_judged unit None = omega arith
head_judged unit (Some h) = at_least (unit % 2 ^ h.exp == 0) h.count
  where
    at_least : (t : Bool) (count : ℕ) → head_size ≤ cond t (head_size + count) head_size
    at_least true count = omega arith
    at_least false count = omega arith

-- what stands at a unit depends on the bytes that are judged alone
pub standing_local : (n : ℕ) (kind : Kind) (keypos unit : ℕ) (r s : List ℕ) → take (judged_size n unit r) s ≡ take (judged_size n unit r) r
    → standing n kind keypos unit s ≡ standing n kind keypos unit r
unfolding standing
standing_local n kind keypos unit r s same =
    let h = block_head n (take head_size r) in
    let head : take head_size s ≡ take head_size r = fewer_bytes head_size (judged_size n unit r) r s (head_judged unit h) same in
    ap (λ bytes. standing_with kind keypos unit s (block_head n bytes)) head ∙ local_with kind keypos unit r s h same

pub images_seen : (n : ℕ) (h : Head) (old new : List ℕ) → ImagesAgree n h old new → SeenAlike (units_in n h old) (units_in n h new)
images_seen n h old new agree = record {
  count = agree.count;
  gates = agree.gates;
  behind = λ u l o. standing_local n h.kind h.keypos u (unit_bytes n old u) (unit_bytes n new u) (agree.bytes u l o);
}

pub images_same : (n : ℕ) (h : Head) (old new : List ℕ) → ImagesAgree n h old new → view h (units_in n h new) ≡ view h (units_in n h old)
images_same n h old new agree = view_same h (units_in n h old) (units_in n h new) (images_seen n h old new agree)

-- ---- how far it reaches

judged_aligned : (n : ℕ) (kind : Kind) (keypos unit : ℕ) (h : BlockHead) (objects : List TermValue) (t : Bool) (b : Block)
    → head_size + h.count ≤ run_size h.exp → cond t (block_of kind keypos unit h.exp objects) (Err NotAligned) ≡ Ok b
    → cond t (head_size + h.count) head_size ≤ run_size b.exp
judged_aligned n kind keypos unit h objects false b fits e = absurd (cc e)
judged_aligned n kind keypos unit h objects true b fits e =
    let f = with_facts kind keypos unit h.exp objects (one_key kind keypos objects) b refl e in
    subst (λ x. head_size + h.count ≤ run_size x) (sym f.1) fits

judged_with : (n : ℕ) (kind : Kind) (keypos unit : ℕ) (bytes : List ℕ) (b : Block) (h : Option BlockHead) → block_head n (take head_size bytes) ≡ h
    → standing_with kind keypos unit bytes h ≡ Ok b → judged_by_head unit h ≤ run_size b.exp
judged_with n kind keypos unit bytes b None is e = absurd (cc e)
judged_with n kind keypos unit bytes b (Some h) is e =
    judged_aligned n kind keypos unit h (proper_elements (term_in (payload_in bytes h))) (unit % 2 ^ h.exp == 0) b
    (head_fits n (take head_size bytes) h is).1 e

-- no further than the block's units
pub judged_fits : (n : ℕ) (kind : Kind) (keypos unit : ℕ) (bytes : List ℕ) (b : Block) → standing n kind keypos unit bytes ≡ Ok b
    → judged_size n unit bytes ≤ run_size b.exp
unfolding standing
judged_fits n kind keypos unit bytes b e = judged_with n kind keypos unit bytes b (block_head n (take head_size bytes)) refl e
