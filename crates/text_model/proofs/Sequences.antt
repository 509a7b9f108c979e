-- What `sequence` says of some bytes: a character, the first bytes of one, or neither.
use Rattle.std.proofs.Common.{◌≡◌, ℕ, ◌<◌, ◌≤◌, Bool, true, false, cond, List, [], ◌∷◌, ◌++◌, ◌&&◌, ◌==◌, nat_lt, length, drop, slice_index, Option}
use Rattle.std.proofs.Common.{Some, None, ◌⊎◌, inl, inr, ⊎_elim, refl, sym, ap, ◌∙◌, subst, arith, length-append, append_assoc, append-nil}
use Rattle.std.proofs.lemmas.Bool.{cases_lt, cond-true}
use Rattle.std.proofs.lemmas.Bool.Decides.{nat_tests}
use Rattle.std.proofs.lemmas.List.{same_from_push}
use Rattle.std.specs.Char.{IsScalar, encode_utf8}
use Rattle.bstr.specs.Utf8.{Decoded, decoded, decoded_by, lead_len, second, continues, good, bad}
use Rattle.bstr.proofs.lemmas.EncodeLemmas.{decoded-encode}
use Rattle.bstr.proofs.lemmas.SoundLemmas.{SpellsChar-decoded}
use Rattle.bstr.proofs.lemmas.PieceLemmas.{by-shape, value-4, value-7, value-10}
use Rattle.text_model.specs.Faults.{BeginsWith}
use Rattle.text_model.proofs.Parted.{parted_twice, last_of}
use Rattle.text_model.specs.Reader.{whole, part, wrong, sequence, sequence_by}

-- ---- by how the bytes decode

sequence_of_good : (bytes : List ℕ) (c n : ℕ) → decoded bytes ≡ good c n → sequence bytes ≡ whole c
sequence_of_good bytes c n e = ap (λ (d : Decoded). sequence_by bytes d.size d.char) e

sequence_of_bad : (x : ℕ) (xs : List ℕ) (n : ℕ) → decoded (x ∷ xs) ≡ bad n → n ≡ length (x ∷ xs) → 0xC2 ≤ x → x ≤ 0xF4 → sequence (x ∷ xs) ≡ part
sequence_of_bad x xs n e same low high =
    let test : (n == length (x ∷ xs)) && nat_lt 1 (lead_len x) ≡ true = grind (arith, nat_tests) in
    ap (λ (d : Decoded). sequence_by (x ∷ xs) d.size d.char) e ∙ cond-true _ _ _ test

-- what the bytes of a character of so many bytes are
record IsCode (n b c d : ℕ) : Type 0 where
  pub few : n ≤ 4
  pub lead : 1 < n → (0xC2 ≤ b) × (b ≤ 0xF4)
  pub next : 2 < n → (0xE0 ≤ b) × (second b c ≡ true)
  pub third : 3 < n → (0xF0 ≤ b) × (continues d ≡ true)

code_bytes : (n b c d e y : ℕ) → decoded_by n b c d e ≡ good y n → IsCode n b c d
code_bytes n b c d e y is =
    let char = λ (p : Decoded) (now : decoded_by n b c d e ≡ p). sym (ap (λ (q : Decoded). q.char) now) ∙ ap (λ (q : Decoded). q.char) is in
    let size = λ (p : Decoded) (now : decoded_by n b c d e ≡ p). sym (ap (λ (q : Decoded). q.size) now) ∙ ap (λ (q : Decoded). q.size) is in
    by-shape n b c d e
    (λ h. let k = char _ h.1 in cc)
    (λ h. let k : 1 ≡ n = size _ h.2 in
    record { few = omega arith; lead = λ m. absurd (omega arith); next = λ m. absurd (omega arith); third = λ m. absurd (omega arith) })
    (λ h. let k = char _ h.3 in cc) (λ h. let k = char _ h.2 in cc) (λ h. let k = char _ h.4 in cc) (λ h. let k = char _ h.4 in cc)
    (λ h. let k : 2 ≡ n = size _ h.4 in
    record { few = omega arith; lead = λ m. (h.1, omega arith); next = λ m. absurd (omega arith); third = λ m. absurd (omega arith) })
    (λ h. let k = char _ h.5 in cc) (λ h. let k = char _ h.5 in cc)
    (λ h. let k : 3 ≡ n = size _ h.5 in
    record { few = omega arith; lead = λ m. (omega arith, omega arith); next = λ m. (h.1, h.3); third = λ m. absurd (omega arith) })
    (λ h. let k = char _ h.6 in cc) (λ h. let k = char _ h.6 in cc)
    (λ h. let k : 4 ≡ n = size _ h.6 in
    record { few = omega arith; lead = λ m. (omega arith, omega arith); next = λ m. (omega arith, h.3); third = λ m. (h.1, h.4) })

code_of_bytes : (bytes : List ℕ) (y : ℕ) → decoded bytes ≡ good y (length bytes)
    → IsCode (length bytes) (slice_index bytes 0) (slice_index bytes 1) (slice_index bytes 2)
code_of_bytes bytes y e = code_bytes (length bytes) (slice_index bytes 0) (slice_index bytes 1) (slice_index bytes 2) (slice_index bytes 3) y e

-- ---- the bytes of a character

decoded_character : (c : ℕ) → IsScalar c → decoded (encode_utf8 c) ≡ good c (length (encode_utf8 c))
decoded_character c scalar = sym (ap decoded (append-nil (encode_utf8 c))) ∙ decoded-encode c [] scalar

pub sequence_of_character : (c : ℕ) → IsScalar c → sequence (encode_utf8 c) ≡ whole c
sequence_of_character c scalar = sequence_of_good (encode_utf8 c) c _ (decoded_character c scalar)

part_of : (c : ℕ) (front rest : List ℕ) → decoded (front ++ rest) ≡ good c (length (front ++ rest)) → 0 < length front → 0 < length rest → sequence front ≡ part
part_of c [] rest e some more = absurd (omega arith)
part_of c (x ∷ []) rest e some more =
    let code = code_of_bytes ((x ∷ []) ++ rest) c e in
    let lead = code.lead (omega arith) in
    sequence_of_bad x [] 1 (value-4 1 x 0 0 0 (omega arith, lead.0, lead.1, omega arith)) refl lead.0 lead.1
part_of c (x ∷ y ∷ []) rest e some more =
    let code = code_of_bytes ((x ∷ y ∷ []) ++ rest) c e in
    let lead = code.lead (omega arith) in
    let next = code.next (omega arith) in
    sequence_of_bad x (y ∷ []) 2 (value-7 2 x y 0 0 (omega arith, next.0, lead.1, next.1, omega arith)) refl lead.0 lead.1
part_of c (x ∷ y ∷ z ∷ []) rest e some more =
    let code = code_of_bytes ((x ∷ y ∷ z ∷ []) ++ rest) c e in
    let lead = code.lead (omega arith) in
    let next = code.next (omega arith) in
    let third = code.third (omega arith) in
    sequence_of_bad x (y ∷ z ∷ []) 3 (value-10 3 x y z 0 (omega arith, third.0, lead.1, next.1, third.1, omega arith)) refl lead.0 lead.1
part_of c (x ∷ y ∷ z ∷ w ∷ others) rest e some more =
    let code = code_of_bytes ((x ∷ y ∷ z ∷ w ∷ others) ++ rest) c e in
    let few = code.few in
    absurd (omega (arith, length-append others rest))

-- a front of a character
pub sequence_of_front : (c : ℕ) (front rest : List ℕ) → IsScalar c → encode_utf8 c ≡ front ++ rest → 0 < length front → 0 < length rest → sequence front ≡ part
sequence_of_front c front rest scalar e some more =
    part_of c front rest (subst (λ bs. decoded bs ≡ good c (length bs)) e (decoded_character c scalar)) some more

-- a character with more bytes behind it
pub sequence_of_longer : (c : ℕ) (rest : List ℕ) → IsScalar c → sequence (encode_utf8 c ++ rest) ≡ whole c
sequence_of_longer c rest scalar = sequence_of_good (encode_utf8 c ++ rest) c _ (decoded-encode c rest scalar)

-- ---- what it tells

-- one byte, or one more behind the first bytes of a character
abbrev pub IsGrown : List ℕ → Type 0
IsGrown bytes = ((x : ℕ) × (bytes ≡ x ∷ [])) ⊎ ((front : List ℕ) × (x : ℕ) × (bytes ≡ front ++ x ∷ []) × (sequence front ≡ part))

grown_some : (bytes : List ℕ) → IsGrown bytes → 0 < length bytes
grown_some bytes (inl (x, e)) = omega (arith, ap length e)
grown_some bytes (inr (front, x, e, is)) = omega (arith, ap length e, length-append front (x ∷ []))

-- the character that decodes, where one does
not_whole : (b : Bool) (c : ℕ) → cond b part wrong ≡ whole c → ⊥
not_whole true c e = cc
not_whole false c e = cc

char_of : (bytes : List ℕ) (size c : ℕ) (char : Option ℕ) → sequence_by bytes size char ≡ whole c → char ≡ Some c
char_of bytes size c (Some x) e = cc
char_of [] size c None e = cc
char_of (x ∷ xs) size c None e = absurd (not_whole _ c e)

pub encode_some : (c : ℕ) → 0 < length (encode_utf8 c)
unfolding encode_utf8
encode_some c = grind (arith, nat_tests)

none_behind : (bytes rest : List ℕ) (c : ℕ) → IsScalar c → bytes ≡ encode_utf8 c ++ rest → IsGrown bytes → bytes ≡ encode_utf8 c
none_behind bytes [] c scalar e grown = e ∙ append-nil (encode_utf8 c)
none_behind bytes (r ∷ rs) c scalar e (inl (x, one)) = absurd (omega (arith, ap length e, ap length one, length-append (encode_utf8 c) (r ∷ rs), encode_some c))
none_behind bytes (r ∷ rs) c scalar e (inr (front, x, same, is)) =
    let last = last_of (r ∷ rs) (omega arith) in
    let apart : front ++ x ∷ [] ≡ (encode_utf8 c ++ last.0) ++ last.1 ∷ [] =
    sym same ∙ e ∙ ap (λ t. encode_utf8 c ++ t) last.2 ∙ sym (append_assoc (encode_utf8 c) last.0 (last.1 ∷ [])) in
    let fronts : front ≡ encode_utf8 c ++ last.0 = (same_from_push front (encode_utf8 c ++ last.0) x last.1 apart).0 in
    let longer : sequence front ≡ whole c = ap sequence fronts ∙ sequence_of_longer c last.0 scalar in
    let never : part ≡ whole c = sym is ∙ longer in
    cc

pub character_of_sequence : (bytes : List ℕ) (c : ℕ) → sequence bytes ≡ whole c → IsGrown bytes → (bytes ≡ encode_utf8 c) × IsScalar c
character_of_sequence bytes c e grown =
    let spelled = SpellsChar-decoded bytes c (char_of bytes (decoded bytes).size c (decoded bytes).char e) in
    (none_behind bytes (drop (decoded bytes).size bytes) c spelled.scalar spelled.bytes grown, spelled.scalar)

-- bytes that begin no character, whatever follows
nothing_begins : (bytes : List ℕ) → sequence bytes ≡ wrong → 0 < length bytes
    → (more : List ℕ) (c : ℕ) → IsScalar c → BeginsWith (bytes ++ more) (encode_utf8 c) → ⊥
nothing_begins bytes e some more c scalar (rest, begins) = ⊎_elim
    (λ (short : length bytes < length (encode_utf8 c)).
    let parts = parted_twice bytes more (encode_utf8 c) rest begins (omega arith) in
    let left : 0 < length parts.0 = omega (arith, ap length parts.1, length-append bytes parts.0) in
    let is : sequence bytes ≡ part = sequence_of_front c bytes parts.0 scalar parts.1 some left in
    let never : wrong ≡ part = sym e ∙ is in cc)
    (λ (long : length (encode_utf8 c) ≤ length bytes).
    let parts = parted_twice (encode_utf8 c) rest bytes more (sym begins) long in
    let is : sequence bytes ≡ whole c = ap sequence parts.1 ∙ sequence_of_longer c parts.0 scalar in
    let never : wrong ≡ whole c = sym e ∙ is in cc)
    (cases_lt (length bytes) (length (encode_utf8 c)))

pub wrong_stays : (bytes : List ℕ) → sequence bytes ≡ wrong → IsGrown bytes
    → (more : List ℕ) (c : ℕ) → IsScalar c → BeginsWith (bytes ++ more) (encode_utf8 c) → ⊥
wrong_stays bytes e grown = nothing_begins bytes e (grown_some bytes grown)
