-- The canonical spelling of integers, atoms and bit strings spells them.
use Rattle.std.proofs.Common.{◌≡◌, ℕ, suc, ◌-◌, ◌*◌, ◌%◌, ◌^◌, ◌<◌, ◌≤◌, ℤ, pos, Bool, true, false, nat_lt, nat_le, List, [], ◌∷◌, ◌++◌, length, ⊎_elim, refl}
use Rattle.std.proofs.Common.{sym, ap, ◌∙◌, subst, arith}
use Rattle.std.specs.Prelude.{negsuc}
use Rattle.std.specs.Int.{bytes_high_first, w128}
use Rattle.std.specs.Int.RustNames.{FitsSigned}
use Rattle.std.specs.Str.{encode_utf8_all, chars, is_utf8, all_scalars}
use Rattle.std.proofs.lemmas.Bool.{cond-true, cond-false, le-leb, lt-leb, lt-ltb, le-ltb, eq-eqb, ne_eqb, and_from, cases_lt, cases_eq}
use Rattle.std.proofs.lemmas.Int.{ints}
use Rattle.std.proofs.lemmas.Str.{chars-encodes, is_utf8-from_IsUtf8}
use Rattle.dets_term.specs.TermValue.{TermValue, integer, atom, bits, is_list}
use Rattle.dets_term.specs.BitString.{bits_of}
use Rattle.etf_model.specs.declared.fault.EtfFault.TheVariants.{BadAtom, BadBits}
use Rattle.etf_model.specs.declared.tags.TheConstants.{SMALL_INTEGER, INTEGER}
use Rattle.etf_model.specs.Format.{Format, byte, followed, tested, changed, times}
use Rattle.etf_model.specs.Layout.{is_known, begins_tail, signed_32, signed, limit, characters, is_name, may_use}
use Rattle.etf_model.specs.Spelling.{number, sized, big_integer, name, binary, bit_binary, body}
use Rattle.etf_model.specs.Canonical.{head, magnitude_bytes, big_spelling, integer_spelling, atom_spelling, packed, bits_spelling}
use Rattle.etf_model.proofs.Unpacking.{packed-size, bits_of-packed}
use Rattle.etf_model.specs.CanonicalWholes.{length-encodes-le}
use Rattle.etf_model.proofs.WholeFormats.{value_after, whole_at, followed_whole, changed_whole, number_whole, sized_whole, times_byte_whole, big_whole}
use Rattle.etf_model.proofs.WholeFormats.{magnitude_bytes_whole, value-1, value-2, value-4}

-- bytes that are a known tag and what is whole behind it
pub record Tagged (part tail : Format TermValue) (levels : ℕ) (t : TermValue) (bytes : List ℕ) : Type 0 where
  pub tag : ℕ
  pub rest : List ℕ
  pub same : bytes ≡ tag ∷ rest
  pub known : is_known tag ≡ true
  pub ends : is_list t ≡ false → begins_tail tag ≡ true
  pub inside : (body part tail levels tag).Whole t rest

pub tagged_at : (part tail : Format TermValue) (levels : ℕ) (t : TermValue) (bytes cs : List ℕ) → bytes ≡ cs → Tagged part tail levels t bytes
    → Tagged part tail levels t cs
tagged_at part tail levels t bytes cs e w = subst (Tagged part tail levels t) e w

module _ (part tail : Format TermValue) (levels : ℕ) where
  -- ---- integers

  small : (n : ℕ) → Tagged part tail levels (integer (pos n)) (SMALL_INTEGER ∷ n ∷ [])
  small n = record {
    tag = 97;
    rest = n ∷ [];
    same = refl;
    known = refl;
    ends = λ e. refl;
    inside = changed_whole byte (λ x. integer (pos x)) n (n ∷ []) refl;
  }

  word : (n : ℕ) (z : ℤ) → n < 2 ^ 32 → signed_32 n ≡ z → Tagged part tail levels (integer z) (head INTEGER 4 n)
  word n z h e = record {
    tag = 98;
    rest = bytes_high_first 4 n;
    same = refl;
    known = refl;
    ends = λ e. refl;
    inside = whole_at (changed (number 4) (λ n. integer (signed_32 n))) _ (integer z) _ _ (ap integer e) refl
        (changed_whole (number 4) (λ n. integer (signed_32 n)) n (bytes_high_first 4 n) (number_whole 4 n (value-4 n h)));
  }

  big : (sign m : ℕ) (z : ℤ) → m ≤ limit sign → m < 2 ^ 128 → signed sign m ≡ z → Tagged part tail levels (integer z) (big_spelling sign m)
  big sign m z within fits e = record {
    tag = 110;
    rest = length (magnitude_bytes m) ∷ sign ∷ magnitude_bytes m;
    same = refl;
    known = refl;
    ends = λ e. refl;
    inside =
        whole_at (big_integer 1) (integer (signed sign m)) (integer z) _ _ (ap integer e) refl
        (big_whole sign m (magnitude_bytes m) (magnitude_bytes_whole (limit sign) m fits within));
  }

  pub integer_tagged : (z : ℤ) → FitsSigned w128 z → Tagged part tail levels (integer z) (integer_spelling z)
  integer_tagged (pos n) fits =
      let magnitude : n < 2 ^ 127 = fits.sfits in
      ⊎_elim (λ h. tagged_at part tail levels (integer (pos n)) _ _ (sym (cond-true _ _ _ (le-leb n 255 (omega arith)))) (small n))
      (λ h. tagged_at part tail levels (integer (pos n)) _ _ (sym (cond-false _ _ _ (lt-leb n 255 h)))
      (⊎_elim (λ k. tagged_at part tail levels (integer (pos n)) _ _ (sym (cond-true _ _ _ (lt-ltb n (2 ^ 31) k)))
      (word n (pos n) (omega arith) (cond-true (nat_lt n (2 ^ 31)) _ _ (lt-ltb n (2 ^ 31) k))))
      (λ k. tagged_at part tail levels (integer (pos n)) _ _ (sym (cond-false _ _ _ (le-ltb n (2 ^ 31) k))) (big 0 n (pos n) (omega arith) (omega arith) refl))
      (cases_lt n (2 ^ 31))))
      (cases_lt n 256)
  integer_tagged (negsuc n) fits =
      let magnitude : n < 2 ^ 127 = fits.sfits in
      ⊎_elim (λ k. tagged_at part tail levels (integer (negsuc n)) _ _ (sym (cond-true _ _ _ (lt-ltb n (2 ^ 31) k)))
      (word (2 ^ 32 - suc n) (negsuc n) (omega arith)
      (cond-false (nat_lt (2 ^ 32 - suc n) (2 ^ 31)) _ _ (le-ltb (2 ^ 32 - suc n) (2 ^ 31) (omega arith)) ∙ omega (arith, ints))))
      (λ k. tagged_at part tail levels (integer (negsuc n)) _ _ (sym (cond-false _ _ _ (le-ltb n (2 ^ 31) k)))
      (big 1 (suc n) (negsuc n) (omega arith) (omega arith) refl))
      (cases_lt n (2 ^ 31))

  -- ---- atoms

  text : (size tag : ℕ) (bytes : List ℕ) → is_known tag ≡ true → begins_tail tag ≡ true → value_after 0 size (length bytes) ≡ length bytes
      → is_name true bytes ≡ true
      → ((body part tail levels tag) ≡ name true size) → Tagged part tail levels (atom (chars bytes)) (head tag size (length bytes) ++ bytes)
  text size tag bytes known ends fits good is = record {
    tag = tag;
    rest = bytes_high_first size (length bytes) ++ bytes;
    same = refl;
    known = known;
    ends = λ e. ends;
    inside = subst (λ (F : Format TermValue). F.Whole (atom (chars bytes)) (bytes_high_first size (length bytes) ++ bytes)) (sym is)
        (changed_whole (tested (sized size) (is_name true) (λ term bytes. BadAtom term)) (λ bytes. atom (characters true bytes)) bytes
        (bytes_high_first size (length bytes) ++ bytes)
        (sized_whole size bytes fits, good));
  }

  pub atom_tagged : (name : List ℕ) → length name ≤ 255 → all_scalars name ≡ true → Tagged part tail levels (atom name) (atom_spelling name)
  atom_tagged name short scalars =
      let bytes = encode_utf8_all name in
      let back = chars-encodes name scalars in
      let size = length-encodes-le name in
      let utf8 = is_utf8-from_IsUtf8 bytes (name, (scalars, refl)) in
      let good : is_name true bytes ≡ true =
      and_from (is_utf8 bytes) (nat_le (length (chars bytes)) 255) utf8 (ap (λ cs. nat_le (length cs) 255) back ∙ le-leb (length name) 255 short) in
      subst (λ cs. Tagged part tail levels (atom cs) (atom_spelling name)) back
      (⊎_elim (λ h. tagged_at part tail levels (atom (chars bytes)) _ _ (ap (λ b. b ++ bytes) (sym (cond-true _ _ _ (le-leb (length bytes) 255 (omega arith)))))
      (text 1 119 bytes refl refl (value-1 (length bytes) (omega arith)) good refl))
      (λ h. tagged_at part tail levels (atom (chars bytes)) _ _ (ap (λ b. b ++ bytes) (sym (cond-false _ _ _ (lt-leb (length bytes) 255 h))))
      (text 2 118 bytes refl refl (value-2 (length bytes) (omega arith)) good refl))
      (cases_lt (length bytes) 256))

  -- ---- bit strings

  pub bits_tagged : (bs : List Bool) → length bs ≤ 8 * (2 ^ 32 - 1) → Tagged part tail levels (bits bs) (bits_spelling bs)
  bits_tagged bs short =
      let size = packed-size bs in
      let enough = size.enough in
      let fewest = size.fewest in
      let bytes = packed bs in
      let n = length (packed bs) in
      let used = length bs % 8 in
      ⊎_elim (λ z. tagged_at part tail levels (bits bs) _ _ (sym (cond-true _ _ _ (eq-eqb used 0 z))) (record {
        tag = 109;
        rest = bytes_high_first 4 n ++ bytes;
        same = refl;
        known = refl;
        ends = λ e. refl;
        inside = whole_at binary _ (bits bs) _ _ (ap bits (bits_of-packed bs 8 (omega arith) (omega arith) (omega arith))) refl
            (changed_whole (sized 4) (λ bytes. bits (bits_of bytes 8)) bytes (bytes_high_first 4 n ++ bytes) (sized_whole 4 bytes (value-4 n (omega arith))));
      }))
      (λ some. tagged_at part tail levels (bits bs) _ _ (sym (cond-false _ _ _ (ne_eqb used 0 some))) (record {
        tag = 77;
        rest = bytes_high_first 4 n ++ (used ∷ bytes);
        same = refl;
        known = refl;
        ends = λ e. refl;
        inside = whole_at bit_binary (bits (bits_of bytes used)) (bits bs) _ _ (ap bits (bits_of-packed bs used (omega arith) (omega arith) (omega arith))) refl
            (followed_whole (number 4) (λ n. followed (tested byte (may_use n) (λ term x. BadBits term))
            (λ used. changed (times n byte) (λ bytes. bits (bits_of bytes used))))
            n (bits (bits_of bytes used)) (bytes_high_first 4 n) (used ∷ bytes) (number_whole 4 n (value-4 n (omega arith)))
            (followed_whole (tested byte (may_use n) (λ term x. BadBits term)) (λ used. changed (times n byte) (λ bytes. bits (bits_of bytes used)))
            used (bits (bits_of bytes used)) (used ∷ []) bytes
            (refl, and_from _ _ (le-leb 1 n (omega arith)) (and_from _ _ (le-leb 1 used (omega arith)) (le-leb used 8 (omega arith))))
            (changed_whole (times n byte) (λ bytes. bits (bits_of bytes used)) bytes bytes (times_byte_whole bytes))));
      }))
      (cases_eq used 0)
