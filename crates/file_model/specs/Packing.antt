-- Objects as a block that is to be written, and lemmas on its payload. This project's own.
use Rattle.std.specs.Prelude.{◌≡◌, ◌≤◌, ℕ, suc, ◌-◌, ◌%◌, ◌^◌, pos, negsuc, Bool, true, false}
use Rattle.std.specs.Prelude.{cond, ◌&&◌, ◌==◌, nat_lt, nat_le, List, [], ◌∷◌, ◌++◌, length, map, Some, refl}
use Rattle.std.specs.List.{concat, flat_map}
use Rattle.std.specs.Int.{bytes_high_first}
use Rattle.std.specs.Str.{encode_utf8_all}
use Rattle.std.proofs.Common.{ap, ◌∙◌, arith}
use Rattle.std.proofs.lemmas.List.{length-append, length-map}
use Rattle.term_model.specs.TermValue.{TermValue, integer, atom, tuple, mapping, nil, cons, bits, chain, elements}
use Rattle.dets_term.specs.Parts.{deepest, AreTerms, elements-chain}
use Rattle.etf_model.specs.declared.tags.TheConstants.{SMALL_INTEGER, INTEGER, SMALL_BIG, ATOM_UTF8, SMALL_ATOM_UTF8, SMALL_TUPLE, LARGE_TUPLE, STRING}
use Rattle.etf_model.specs.declared.tags.TheConstants.{LIST, BINARY, BIT_BINARY}
use Rattle.etf_model.specs.Canonical.{canonical, canonical_each, canonical_end, spelled, head, byte_value, are_bytes, is_proper}
use Rattle.etf_model.specs.Canonical.{big_spelling, magnitude_bytes, text_head, tuple_head, packed}
use Rattle.etf_model.specs.CanonicalWholes.{concat-canonical_each}
use Rattle.space_model.specs.Ledger.{exponent}
use Rattle.file_model.specs.declared.block.Packed.{Packed}
use Rattle.file_model.specs.Block.{proper_elements}
use Rattle.file_model.specs.BodyWrites.{block_bytes}

-- the payload that writers make of objects: the canonical spelling of their list
abbrev pub payload_of : List TermValue → List ℕ
payload_of objects = spelled (chain objects nil)

-- objects whose list is a term, where it is not too long
pub record MayPack (objects : List TermValue) : Type 0 where
  pub terms : AreTerms objects
  pub shallow : deepest objects ≤ 255

-- a block with these objects: the smallest with room for them, with its head in front
pub record IsBlockOf (objects : List TermValue) (p : Packed) : Type 0 where
  pub exp : p.exp ≡ exponent (length (payload_of objects))
  pub count : p.count ≡ length objects
  pub bytes : p.block ≡ block_bytes p.exp (payload_of objects)

-- ---- lemmas: a list has no more terms than bytes in its payload

begun : (x : ℕ) (xs : List ℕ) → 1 ≤ length (x ∷ xs)
begun x xs = omega arith

either_long : (n : ℕ) (b : Bool) (xs ys : List ℕ) → n ≤ length xs → n ≤ length ys → n ≤ length (cond b xs ys)
either_long n true xs ys h k = h
either_long n false xs ys h k = k

front_long : (n : ℕ) (xs ys : List ℕ) → n ≤ length xs → n ≤ length (xs ++ ys)
front_long n xs ys h = omega (arith, length-append xs ys)

rest_long : (n : ℕ) (xs ys : List ℕ) → n ≤ length ys → n ≤ length (xs ++ ys)
rest_long n xs ys h = omega (arith, length-append xs ys)

-- one of two spellings that begin with a tag
either_begun : (b : Bool) (x y : ℕ) (xs ys : List ℕ) → 1 ≤ length (cond b (x ∷ xs) (y ∷ ys))
either_begun b x y xs ys = either_long 1 b (x ∷ xs) (y ∷ ys) (begun x xs) (begun y ys)

-- a list, by the bytes of its elements in both spellings
list_long : (n : ℕ) (first rest : TermValue) → n ≤ length (map byte_value (elements (cons first rest)))
    → n ≤ length (concat (canonical_each (cons first rest))) → n ≤ length (canonical (cons first rest))
list_long n first rest bytes parts =
    either_long n (is_proper (cons first rest) && are_bytes (elements (cons first rest)))
    (head STRING 2 (length (elements (cons first rest))) ++ map byte_value (elements (cons first rest)))
    (head LIST 4 (length (canonical_each (cons first rest))) ++ (concat (canonical_each (cons first rest)) ++ canonical_end rest))
    (rest_long n (head STRING 2 (length (elements (cons first rest)))) (map byte_value (elements (cons first rest))) bytes)
    (rest_long n (head LIST 4 (length (canonical_each (cons first rest)))) (concat (canonical_each (cons first rest)) ++ canonical_end rest)
    (front_long n (concat (canonical_each (cons first rest))) (canonical_end rest) parts))

-- a term has a byte at least
has_byte : (t : TermValue) → 1 ≤ length (canonical t)
has_byte (integer (pos n)) =
    either_long 1 (nat_le n 255) (SMALL_INTEGER ∷ n ∷ []) (cond (nat_lt n (2 ^ 31)) (head INTEGER 4 n) (big_spelling 0 n))
    (begun SMALL_INTEGER (n ∷ []))
    (either_begun (nat_lt n (2 ^ 31)) INTEGER SMALL_BIG (bytes_high_first 4 n) (length (magnitude_bytes n) ∷ 0 ∷ magnitude_bytes n))
has_byte (integer (negsuc n)) =
    either_begun (nat_lt n (2 ^ 31)) INTEGER SMALL_BIG (bytes_high_first 4 (2 ^ 32 - suc n))
    (length (magnitude_bytes (suc n)) ∷ 1 ∷ magnitude_bytes (suc n))
has_byte (atom name) =
    front_long 1 (text_head (length (encode_utf8_all name))) (encode_utf8_all name)
    (either_begun (nat_le (length (encode_utf8_all name)) 255) SMALL_ATOM_UTF8 ATOM_UTF8 (bytes_high_first 1 (length (encode_utf8_all name)))
    (bytes_high_first 2 (length (encode_utf8_all name))))
has_byte (tuple parts) =
    front_long 1 (tuple_head (length (canonical_each parts))) (concat (canonical_each parts))
    (either_begun (nat_le (length (canonical_each parts)) 255) SMALL_TUPLE LARGE_TUPLE (bytes_high_first 1 (length (canonical_each parts)))
    (bytes_high_first 4 (length (canonical_each parts))))
has_byte (mapping keys values) = omega arith
has_byte nil = omega arith
has_byte (cons first rest) =
    either_begun (is_proper (cons first rest) && are_bytes (elements (cons first rest))) STRING LIST
    (bytes_high_first 2 (length (elements (cons first rest))) ++ map byte_value (elements (cons first rest)))
    (bytes_high_first 4 (length (canonical_each (cons first rest))) ++ (concat (canonical_each (cons first rest)) ++ canonical_end rest))
has_byte (bits bs) =
    either_begun (length bs % 8 == 0) BINARY BIT_BINARY (bytes_high_first 4 (length (packed bs)) ++ packed bs)
    (bytes_high_first 4 (length (packed bs)) ++ (length bs % 8 ∷ packed bs))

have_bytes : (ts : List TermValue) → length ts ≤ length (flat_map canonical ts)
have_bytes [] = omega arith
have_bytes (t ∷ ts) =
    let sum = length-append (canonical t) (flat_map canonical ts) in omega (arith, has_byte t, have_bytes ts)

list_has_bytes : (ts : List TermValue) → length ts ≤ length (canonical (chain ts nil))
list_has_bytes [] = omega arith
list_has_bytes (t ∷ ts) =
    let parts : length (concat (canonical_each (chain (t ∷ ts) nil))) ≡ length (flat_map canonical (t ∷ ts)) =
    ap length (concat-canonical_each (t ∷ ts) nil refl) in
    let bytes : length (map byte_value (elements (chain (t ∷ ts) nil))) ≡ length (t ∷ ts) =
    length-map (elements (chain (t ∷ ts) nil)) byte_value ∙ ap length (elements-chain (t ∷ ts)) in
    let some = have_bytes (t ∷ ts) in
    list_long (length (t ∷ ts)) t (chain ts nil) (omega arith) (omega arith)

pub payload_has_bytes : (objects : List TermValue) → length objects ≤ length (payload_of objects)
payload_has_bytes objects = omega (arith, list_has_bytes objects)

-- ---- lemmas: the elements of a proper list

pub is_proper-chain : (ts : List TermValue) → is_proper (chain ts nil) ≡ true
is_proper-chain [] = refl
is_proper-chain (t ∷ ts) = is_proper-chain ts

pub proper_elements-chain : (ts : List TermValue) → proper_elements (Some (chain ts nil)) ≡ ts
proper_elements-chain ts = ap (λ b. cond b (elements (chain ts nil)) []) (is_proper-chain ts) ∙ elements-chain ts
