-- Lemmas: a property of formats that is kept where they are put together holds of a spelling.
use Rattle.std.proofs.Common.{◌≡◌, ◌≢◌, ℕ, zero, suc, ◌+◌, ◌*◌, pos, Bool, true, false, cond, not, ◌==◌, nat_le, List, [], refl, ◌∙◌, arith}
use Rattle.std.proofs.lemmas.Bool.{eqb-true, eqb-false}
use Rattle.std.specs.List.{list_any}
use Rattle.dets_term.specs.TermValue.{TermValue, integer, atom, tuple, nil, chain, map_of, bits}
use Rattle.dets_term.specs.Order.{is_same}
use Rattle.dets_term.specs.Pairs.{keys, placed}
use Rattle.dets_term.specs.BitString.{bits_of}
use Rattle.etf_model.specs.declared.fault.EtfFault.{EtfFault}
use Rattle.etf_model.specs.declared.fault.EtfFault.TheVariants.{Short, Memory, NotVersion, Unsupported, Compressed, IntegerRange, BadAtom, BadBits, RepeatedKey}
use Rattle.etf_model.specs.declared.fault.EtfFault.TheVariants.{Depth, LongTerm}
use Rattle.etf_model.specs.declared.tags.TheConstants.{VERSION, COMPRESSED, SMALL_INTEGER, INTEGER, SMALL_BIG, LARGE_BIG, ATOM, SMALL_ATOM, ATOM_UTF8}
use Rattle.etf_model.specs.declared.tags.TheConstants.{SMALL_ATOM_UTF8, SMALL_TUPLE, LARGE_TUPLE, NIL, STRING, LIST, BINARY, BIT_BINARY, MAP}
use Rattle.etf_model.specs.Format.{Format, byte, followed, tested, framed, changed, either, times}
use Rattle.etf_model.specs.Sharp.{HasBytes}
use Rattle.etf_model.specs.Moved.{moved}
use Rattle.etf_model.specs.Layout.{is_known, begins_tail, signed_32, signed, limit, characters, is_name, may_use, integers}
use Rattle.etf_model.specs.Spelling.{number_after, number, sized, may_have_parts, count_after, count, magnitude_after, big_integer, name, binary, bit_binary}
use Rattle.etf_model.specs.Spelling.{string, tuple_of, no_tail, list_of, pairs_after, map_format, body, tag_of, term_with, part_at, tail_at, outermost}
use Rattle.etf_model.specs.Spelling.{spelling, body_of}
use Rattle.etf_model.specs.Kept.{TellsOffset, IsKept, IsKeptWhere, changed-kept, either-kept, times-kept, byte_some, followed_some, tested_some}

-- ---- the faults tell offsets

pub tag_tells : TellsOffset (λ term x. Unsupported term x)
tag_tells = record { not_short = λ term x e. cc; not_memory = λ term x e. cc; not_long = λ term x at e. cc; moves = λ n term x. refl }

pub depth_tells : TellsOffset (λ (term x : ℕ). Depth term)
depth_tells = record { not_short = λ term x e. cc; not_memory = λ term x e. cc; not_long = λ term x at e. cc; moves = λ n term x. refl }

range_tells : TellsOffset (λ (term x : ℕ). IntegerRange term)
range_tells = record { not_short = λ term x e. cc; not_memory = λ term x e. cc; not_long = λ term x at e. cc; moves = λ n term x. refl }

bits_tells : TellsOffset (λ (term x : ℕ). BadBits term)
bits_tells = record { not_short = λ term x e. cc; not_memory = λ term x e. cc; not_long = λ term x at e. cc; moves = λ n term x. refl }

version_tells : TellsOffset (λ (term x : ℕ). NotVersion term)
version_tells = record { not_short = λ term x e. cc; not_memory = λ term x e. cc; not_long = λ term x at e. cc; moves = λ n term x. refl }

atom_tells : TellsOffset (λ (term : ℕ) (bytes : List ℕ). BadAtom term)
atom_tells = record { not_short = λ term x e. cc; not_memory = λ term x e. cc; not_long = λ term x at e. cc; moves = λ n term x. refl }

key_tells : TellsOffset (λ (term : ℕ) (k : TermValue). RepeatedKey term)
key_tells = record { not_short = λ term x e. cc; not_memory = λ term x e. cc; not_long = λ term x at e. cc; moves = λ n term x. refl }

-- 80 begins a compressed term
abbrev first_fault : ℕ → ℕ → Bool → EtfFault
first_fault term x b = cond b (Compressed term) (Unsupported term x)

first_short : (term x : ℕ) (b : Bool) → first_fault term x b ≢ Short
first_short term x true e = cc
first_short term x false e = cc

first_memory : (term x : ℕ) (b : Bool) → first_fault term x b ≢ Memory
first_memory term x true e = cc
first_memory term x false e = cc

first_long : (term x at : ℕ) (b : Bool) → first_fault term x b ≢ LongTerm at
first_long term x at true e = cc
first_long term x at false e = cc

first_moves : (n term x : ℕ) (b : Bool) → moved n (first_fault term x b) ≡ first_fault (term + n) x b
first_moves n term x true = refl
first_moves n term x false = refl

first_tells : TellsOffset (λ term x. cond (x == COMPRESSED) (Compressed term) (Unsupported term x))
first_tells = record {
  not_short = λ term x. first_short term x (x == COMPRESSED);
  not_memory = λ term x. first_memory term x (x == COMPRESSED);
  not_long = λ term x at. first_long term x at (x == COMPRESSED);
  moves = λ n term x. first_moves n term x (x == COMPRESSED);
}

-- ---- what has bytes, and where parts are counted

number_some : (size : ℕ) → HasBytes (number (suc size))
number_some size = followed_some byte (λ x. number_after (256 * 0 + x) size) byte_some

-- at level 256 there is no part
none_counted : (size n m : ℕ) (bytes : List ℕ) → n ≡ 0 → (count_after false n size).Whole m bytes → m ≡ 0
none_counted zero n m bytes e h = h.0 ∙ e
none_counted (suc size) n m bytes e j =
    let zeros = eqb-true j.value 0 j.first.1 in
    none_counted size (256 * n + j.value) m j.rest (omega arith) j.second

some_counted : (levels size n : ℕ) (bytes : List ℕ) → (count levels size).Whole n bytes → n ≢ 0 → may_have_parts levels ≡ true
some_counted zero size n bytes h some = absurd (some (none_counted size 0 n bytes refl h))
some_counted (suc levels) size n bytes h some = refl

term_some : (test : ℕ → Bool) (fault : ℕ → ℕ → EtfFault) (levels : ℕ) → HasBytes (term_with test fault levels)
term_some test fault zero = λ x bytes h n. h
term_some test fault (suc levels) =
    followed_some (tag_of test fault)
    (body (term_with is_known (λ term x. Unsupported term x) levels) (term_with begins_tail (λ term x. Unsupported term x) levels) levels)
    (tested_some byte test fault byte_some)

pub spelling_some : HasBytes spelling
spelling_some =
    followed_some (tag_of (λ x. x == VERSION) (λ term x. NotVersion term)) (λ x. outermost)
    (tested_some byte (λ x. x == VERSION) (λ term x. NotVersion term) byte_some)

-- ---- numbers and bytes, whatever is known of the faults of tests

module _ {Told : (A : Type 0) → (ℕ → A → EtfFault) → Type 0} (P : (A : Type 0) → Format A → Type 0) (kept : IsKeptWhere Told P) where
  number_after-kept : (n size : ℕ) → P ℕ (number_after n size)
  number_after-kept n zero = kept.of_give n
  number_after-kept n (suc size) =
      kept.of_followed byte (λ x. number_after (256 * n + x) size) kept.of_byte (λ x front w. number_after-kept (256 * n + x) size)

  pub number-kept : (size : ℕ) → P ℕ (number size)
  number-kept size = number_after-kept 0 size

  pub bytes-kept : (n : ℕ) → P (List ℕ) (times n byte)
  bytes-kept n = times-kept P kept n byte (λ _. kept.of_byte)

  pub sized-kept : (size : ℕ) → P (List ℕ) (sized size)
  sized-kept size = kept.of_followed (number size) (λ n. times n byte) (number-kept size) (λ n front w. bytes-kept n)

  -- a byte that is to pass a test
  pub tested_byte-kept : (test : ℕ → Bool) (fault : ℕ → ℕ → EtfFault) → Told ℕ fault → P ℕ (tested byte test fault)
  tested_byte-kept test fault tells = kept.of_tested byte test fault tells byte_some kept.of_byte

-- ---- the formats

module _ (P : (A : Type 0) → Format A → Type 0) (kept : IsKept P) where
  count_after-kept : (may : Bool) (n size : ℕ) → P ℕ (count_after may n size)
  count_after-kept may n zero = kept.of_give n
  count_after-kept may n (suc size) =
      kept.of_followed (tested byte (λ x. cond may true (x == 0)) (λ term x. Depth term)) (λ x. count_after may (256 * n + x) size)
      (tested_byte-kept P kept (λ x. cond may true (x == 0)) (λ term x. Depth term) depth_tells)
      (λ x front w. count_after-kept may (256 * n + x) size)

  pub count-kept : (levels size : ℕ) → P ℕ (count levels size)
  count-kept levels size = count_after-kept (may_have_parts levels) 0 size

  magnitude_after-kept : (most weight m size : ℕ) → P ℕ (magnitude_after most weight m size)
  magnitude_after-kept most weight m zero = kept.of_give m
  magnitude_after-kept most weight m (suc size) =
      kept.of_followed (tested byte (λ x. nat_le (m + weight * x) most) (λ term x. IntegerRange term))
      (λ x. magnitude_after most (256 * weight) (m + weight * x) size)
      (tested_byte-kept P kept (λ x. nat_le (m + weight * x) most) (λ term x. IntegerRange term) range_tells)
      (λ x front w. magnitude_after-kept most (256 * weight) (m + weight * x) size)

  -- ---- terms without parts

  pub magnitude-kept : (most weight m size : ℕ) (f : ℕ → TermValue) → P TermValue (changed (magnitude_after most weight m size) f)
  magnitude-kept most weight m size f = changed-kept P kept (magnitude_after most weight m size) f (magnitude_after-kept most weight m size)

  big_integer-kept : (size : ℕ) → P TermValue (big_integer size)
  big_integer-kept size =
      kept.of_followed (number size) _ (number-kept P kept size)
      (λ n front w. kept.of_followed byte _ kept.of_byte
      (λ sign front w. magnitude-kept (limit sign) 1 0 n (λ m. integer (signed sign m))))

  name-kept : (utf8 : Bool) (size : ℕ) → P TermValue (name utf8 (suc size))
  name-kept utf8 size =
      changed-kept P kept (tested (sized (suc size)) (is_name utf8) (λ term bytes. BadAtom term)) (λ bytes. atom (characters utf8 bytes))
      (kept.of_tested (sized (suc size)) (is_name utf8) (λ term bytes. BadAtom term) atom_tells
      (followed_some (number (suc size)) (λ n. times n byte) (number_some size)) (sized-kept P kept (suc size)))

  binary-kept : P TermValue binary
  binary-kept = changed-kept P kept (sized 4) (λ bytes. bits (bits_of bytes 8)) (sized-kept P kept 4)

  bit_binary-kept : P TermValue bit_binary
  bit_binary-kept =
      kept.of_followed (number 4) _ (number-kept P kept 4)
      (λ n front w. kept.of_followed (tested byte (may_use n) (λ term x. BadBits term)) (λ used. changed (times n byte) (λ bytes. bits (bits_of bytes used)))
      (tested_byte-kept P kept (may_use n) (λ term x. BadBits term) bits_tells)
      (λ used front w. changed-kept P kept (times n byte) (λ bytes. bits (bits_of bytes used)) (bytes-kept P kept n)))

  string-kept : (levels : ℕ) → P TermValue (string levels)
  string-kept levels =
      kept.of_followed (count levels 2) (λ n. changed (times n byte) integers) (count-kept levels 2)
      (λ n front w. changed-kept P kept (times n byte) integers (bytes-kept P kept n))

  -- ---- terms with parts

  module _ (part tail : Format TermValue) (some : HasBytes part) (levels : ℕ) (p : may_have_parts levels ≡ true → P TermValue part)
      (t : may_have_parts levels ≡ true → P TermValue tail) where
    -- where parts are counted the property holds of one
    counted : (size n : ℕ) (bytes : List ℕ) → (count levels size).Whole n bytes → n ≢ 0 → P TermValue part
    counted size n bytes w other = p (some_counted levels size n bytes w other)

    tuple_of-kept : (size : ℕ) → P TermValue (tuple_of part levels size)
    tuple_of-kept size =
        kept.of_followed (count levels size) (λ n. changed (times n part) (λ ts. tuple (chain ts nil))) (count-kept levels size)
        (λ n front w. changed-kept P kept (times n part) (λ ts. tuple (chain ts nil)) (times-kept P kept n part (counted size n front w)))

    no_tail-kept : P TermValue no_tail
    no_tail-kept =
        kept.of_framed (changed (tested byte (λ x. x == NIL) (λ term x. Unsupported term x)) (λ x. nil))
        (changed-kept P kept (tested byte (λ x. x == NIL) (λ term x. Unsupported term x)) (λ x. nil)
        (tested_byte-kept P kept (λ x. x == NIL) (λ term x. Unsupported term x) tag_tells))

    list_of-kept : P TermValue (list_of part tail levels)
    list_of-kept =
        kept.of_followed (count levels 4) _ (count-kept levels 4)
        (λ n front w. kept.of_followed (times n part) (λ ts. changed (either (n == 0) no_tail tail) (λ end. chain ts end))
        (times-kept P kept n part (counted 4 n front w))
        (λ ts parts v. changed-kept P kept (either (n == 0) no_tail tail) (λ end. chain ts end)
        (either-kept P kept (n == 0) no_tail tail no_tail-kept (λ e. t (some_counted levels 4 n front w (eqb-false n 0 e))))))

    pairs_after-kept : (pairs : List (TermValue × TermValue)) (n : ℕ) → (n ≢ 0 → P TermValue part) → P (List (TermValue × TermValue)) (pairs_after part pairs n)
    pairs_after-kept pairs zero q = kept.of_give pairs
    pairs_after-kept pairs (suc n) q =
        let s : P TermValue part = q (omega arith) in
        kept.of_followed (framed (tested part (λ k. not (list_any (is_same k) (keys pairs))) (λ term k. RepeatedKey term)))
        (λ k. followed part (λ v. pairs_after part (placed (k, v) pairs) n))
        (kept.of_framed (tested part (λ k. not (list_any (is_same k) (keys pairs))) (λ term k. RepeatedKey term))
        (kept.of_tested part (λ k. not (list_any (is_same k) (keys pairs))) (λ term k. RepeatedKey term) key_tells some s))
        (λ k front w. kept.of_followed part (λ v. pairs_after part (placed (k, v) pairs) n) s
        (λ v front w. pairs_after-kept (placed (k, v) pairs) n (λ _. s)))

    map_format-kept : P TermValue (map_format part levels)
    map_format-kept =
        kept.of_followed (count levels 4) (λ n. changed (pairs_after part [] n) map_of) (count-kept levels 4)
        (λ n front w. changed-kept P kept (pairs_after part [] n) map_of (pairs_after-kept [] n (counted 4 n front w)))

    body-kept : (tag : ℕ) → P TermValue (body part tail levels tag)
    body-kept tag =
        either-kept P kept (tag == SMALL_INTEGER) _ _ (changed-kept P kept byte (λ x. integer (pos x)) kept.of_byte)
        (λ _. either-kept P kept (tag == INTEGER) _ _ (changed-kept P kept (number 4) (λ n. integer (signed_32 n)) (number-kept P kept 4))
        (λ _. either-kept P kept (tag == SMALL_BIG) _ _ (big_integer-kept 1)
        (λ _. either-kept P kept (tag == LARGE_BIG) _ _ (big_integer-kept 4)
        (λ _. either-kept P kept (tag == ATOM) _ _ (name-kept false 1)
        (λ _. either-kept P kept (tag == SMALL_ATOM) _ _ (name-kept false 0)
        (λ _. either-kept P kept (tag == ATOM_UTF8) _ _ (name-kept true 1)
        (λ _. either-kept P kept (tag == SMALL_ATOM_UTF8) _ _ (name-kept true 0)
        (λ _. either-kept P kept (tag == SMALL_TUPLE) _ _ (tuple_of-kept 1)
        (λ _. either-kept P kept (tag == LARGE_TUPLE) _ _ (tuple_of-kept 4)
        (λ _. either-kept P kept (tag == STRING) _ _ (string-kept levels)
        (λ _. either-kept P kept (tag == LIST) _ _ list_of-kept
        (λ _. either-kept P kept (tag == BINARY) _ _ binary-kept
        (λ _. either-kept P kept (tag == BIT_BINARY) _ _ bit_binary-kept
        (λ _. either-kept P kept (tag == MAP) _ _ map_format-kept (λ _. kept.of_give nil)))))))))))))))

  term_with-kept : (test : ℕ → Bool) (fault : ℕ → ℕ → EtfFault) → TellsOffset fault → (levels : ℕ) → may_have_parts levels ≡ true
      → P TermValue (term_with test fault levels)
  term_with-kept test fault tells zero e = cc
  term_with-kept test fault tells (suc levels) e =
      kept.of_framed (followed (tag_of test fault)
      (body (term_with is_known (λ term x. Unsupported term x) levels) (term_with begins_tail (λ term x. Unsupported term x) levels) levels))
      (kept.of_followed (tag_of test fault)
      (body (term_with is_known (λ term x. Unsupported term x) levels) (term_with begins_tail (λ term x. Unsupported term x) levels) levels)
      (tested_byte-kept P kept test fault tells)
      (λ tag front w. body-kept (term_with is_known (λ term x. Unsupported term x) levels) (term_with begins_tail (λ term x. Unsupported term x) levels)
      (term_some is_known (λ term x. Unsupported term x) levels) levels
      (term_with-kept is_known (λ term x. Unsupported term x) tag_tells levels)
      (term_with-kept begins_tail (λ term x. Unsupported term x) tag_tells levels) tag))

  pub body_of-kept : (levels tag : ℕ) → P TermValue (body_of levels tag)
  unfolding body_of
  body_of-kept levels tag =
      body-kept (part_at levels) (tail_at levels) (term_some is_known (λ term x. Unsupported term x) levels) levels
      (term_with-kept is_known (λ term x. Unsupported term x) tag_tells levels)
      (term_with-kept begins_tail (λ term x. Unsupported term x) tag_tells levels) tag

  outermost-kept : P TermValue outermost
  outermost-kept = term_with-kept is_known (λ term x. cond (x == COMPRESSED) (Compressed term) (Unsupported term x)) first_tells 256 refl

  pub spelling-kept : P TermValue spelling
  spelling-kept =
      kept.of_followed (tag_of (λ x. x == VERSION) (λ term x. NotVersion term)) (λ x. outermost)
      (tested_byte-kept P kept (λ x. x == VERSION) (λ term x. NotVersion term) version_tells) (λ x front w. outermost-kept)
