-- The first bytes of a character go on to one.
use Rattle.std.proofs.Common.{◌≡◌, ℕ, ◌<◌, ◌≤◌, Bool, true, false, cond, List, [], ◌∷◌, ◌++◌, ◌&&◌, ◌==◌, nat_lt, length, slice_index, Option, Some}
use Rattle.std.proofs.Common.{None, ⊎_elim, refl, sym, ap, ◌∙◌, arith, append-nil}
use Rattle.std.proofs.lemmas.Bool.{cases_lt, and_parts, eqb-true, ltb-true}
use Rattle.std.proofs.lemmas.Bool.Decides.{nat_tests}
use Rattle.std.proofs.lemmas.List.{drop_all}
use Rattle.std.specs.Char.{IsScalar, encode_utf8}
use Rattle.bstr.specs.Utf8.{Decoded, decoded, decoded_by, lead_len, second, continues, good, code_of_2, code_of_3, code_of_4}
use Rattle.bstr.proofs.lemmas.SoundLemmas.{SpellsChar-decoded}
use Rattle.bstr.proofs.lemmas.PieceLemmas.{by-shape, value-6, value-9, value-12}
use Rattle.text_model.specs.Reader.{part, wrong, sequence, sequence_by}

-- what the first bytes of a character are, with fewer bytes than it has
record IsCut (n b c d : ℕ) : Type 0 where
  pub few : n ≤ 3
  pub lead : (0xC2 ≤ b) × (b ≤ 0xF4)
  pub next : 1 < n → (0xE0 ≤ b) × (second b c ≡ true)
  pub third : 2 < n → (0xF0 ≤ b) × (continues d ≡ true)

cut_bytes : (n b c d e : ℕ) → 0 < n → (decoded_by n b c d e).char ≡ None → (decoded_by n b c d e).size ≡ n → 1 < lead_len b → IsCut n b c d
cut_bytes n b c d e some none sized leads =
    let char = λ (p : Decoded) (now : decoded_by n b c d e ≡ p). sym (ap (λ (q : Decoded). q.char) now) ∙ none in
    let size = λ (p : Decoded) (now : decoded_by n b c d e ≡ p). sym (ap (λ (q : Decoded). q.size) now) ∙ sized in
    let lead : (0xC2 ≤ b) × (b ≤ 0xF4) = (grind (arith, nat_tests), grind (arith, nat_tests)) in
    by-shape n b c d e
    (λ h. absurd (omega arith))
    (λ h. let k = char _ h.2 in cc)
    (λ h. absurd (omega arith)) (λ h. absurd (omega arith))
    (λ h. record { few = omega arith; lead = lead; next = λ m. absurd (omega arith); third = λ m. absurd (omega arith) })
    (λ h. let k : 1 ≡ n = size _ h.4 in absurd (omega arith))
    (λ h. let k = char _ h.4 in cc)
    (λ h. record { few = omega arith; lead = lead; next = λ m. (h.1, h.3); third = λ m. absurd (omega arith) })
    (λ h. let k : 2 ≡ n = size _ h.5 in absurd (omega arith))
    (λ h. let k = char _ h.5 in cc)
    (λ h. record { few = omega arith; lead = lead; next = λ m. (omega arith, h.3); third = λ m. (h.1, h.4) })
    (λ h. let k : 3 ≡ n = size _ h.6 in absurd (omega arith))
    (λ h. let k = char _ h.6 in cc)

-- bytes that decode and that a character takes all of
character_from : (bytes : List ℕ) (c : ℕ) → decoded bytes ≡ good c (length bytes) → (bytes ≡ encode_utf8 c) × IsScalar c
character_from bytes c e =
    let spelled = SpellsChar-decoded bytes c (ap (λ (d : Decoded). d.char) e) in
    let size : (decoded bytes).size ≡ length bytes = ap (λ (d : Decoded). d.size) e in
    (spelled.bytes ∙ ap (λ t. encode_utf8 c ++ t) (drop_all (decoded bytes).size bytes (omega arith)) ∙ append-nil (encode_utf8 c), spelled.scalar)

-- a character has these first bytes, and more
abbrev pub GoesOn : List ℕ → Type 0
GoesOn bytes = (c : ℕ) × (more : List ℕ) × IsScalar c × (bytes ++ more ≡ encode_utf8 c) × (0 < length more)

goes_on_by : (bytes more : List ℕ) (c : ℕ) → 0 < length more → decoded (bytes ++ more) ≡ good c (length (bytes ++ more)) → GoesOn bytes
goes_on_by bytes more c some e = let is = character_from (bytes ++ more) c e in (c, more, is.1, is.0, some)

-- a byte that may stand second
abbrev a_second : ℕ → ℕ
a_second b = cond (b == 0xE0) 0xA0 (cond (b == 0xF0) 0x90 0x80)

may_be_second : (b : ℕ) → second b (a_second b) ≡ true
may_be_second b = grind (arith, nat_tests)

cut_goes_on : (bytes : List ℕ) → 0 < length bytes → IsCut (length bytes) (slice_index bytes 0) (slice_index bytes 1) (slice_index bytes 2) → GoesOn bytes
cut_goes_on [] some is = absurd (omega arith)
cut_goes_on (b ∷ []) some is =
    let lead = is.lead in
    let c = a_second b in
    ⊎_elim
    (λ (two : b < 0xE0). goes_on_by (b ∷ []) (c ∷ []) (code_of_2 b c) (omega arith) (value-6 2 b c 0 0 (omega arith, lead.0, two, may_be_second b)))
    (λ (more : 0xE0 ≤ b). ⊎_elim
    (λ (three : b < 0xF0). goes_on_by (b ∷ []) (c ∷ 0x80 ∷ []) (code_of_3 b c 0x80) (omega arith)
    (value-9 3 b c 0x80 0 (omega arith, more, three, may_be_second b, refl)))
    (λ (four : 0xF0 ≤ b). goes_on_by (b ∷ []) (c ∷ 0x80 ∷ 0x80 ∷ []) (code_of_4 b c 0x80 0x80) (omega arith)
    (value-12 4 b c 0x80 0x80 (omega arith, four, lead.1, may_be_second b, refl, refl)))
    (cases_lt b 0xF0))
    (cases_lt b 0xE0)
cut_goes_on (b ∷ c ∷ []) some is =
    let lead = is.lead in
    let next = is.next (omega arith) in
    ⊎_elim
    (λ (three : b < 0xF0). goes_on_by (b ∷ c ∷ []) (0x80 ∷ []) (code_of_3 b c 0x80) (omega arith)
    (value-9 3 b c 0x80 0 (omega arith, next.0, three, next.1, refl)))
    (λ (four : 0xF0 ≤ b). goes_on_by (b ∷ c ∷ []) (0x80 ∷ 0x80 ∷ []) (code_of_4 b c 0x80 0x80) (omega arith)
    (value-12 4 b c 0x80 0x80 (omega arith, four, lead.1, next.1, refl, refl)))
    (cases_lt b 0xF0)
cut_goes_on (b ∷ c ∷ d ∷ []) some is =
    let lead = is.lead in
    let next = is.next (omega arith) in
    let third = is.third (omega arith) in
    goes_on_by (b ∷ c ∷ d ∷ []) (0x80 ∷ []) (code_of_4 b c d 0x80) (omega arith) (value-12 4 b c d 0x80 (omega arith, third.0, lead.1, next.1, third.1, refl))
cut_goes_on (b ∷ c ∷ d ∷ e ∷ others) some is = let few = is.few in absurd (omega arith)

-- what makes some bytes the first ones of a character
part_tests : (b : Bool) → cond b part wrong ≡ part → b ≡ true
part_tests true e = refl
part_tests false e = cc

pub part_by : (x : ℕ) (xs : List ℕ) (size : ℕ) (char : Option ℕ) → sequence_by (x ∷ xs) size char ≡ part
    → (char ≡ None) × ((size == length (x ∷ xs)) && nat_lt 1 (lead_len x) ≡ true)
part_by x xs size (Some c) e = cc
part_by x xs size None e = (refl, part_tests _ e)

pub part_goes_on : (bytes : List ℕ) → sequence bytes ≡ part → GoesOn bytes
part_goes_on [] e = cc
part_goes_on (x ∷ xs) e =
    let is = part_by x xs (decoded (x ∷ xs)).size (decoded (x ∷ xs)).char e in
    let both = and_parts _ _ is.1 in
    cut_goes_on (x ∷ xs) (omega arith)
    (cut_bytes (length (x ∷ xs)) x (slice_index (x ∷ xs) 1) (slice_index (x ∷ xs) 2) (slice_index (x ∷ xs) 3)
    (omega arith) is.0 (eqb-true _ _ both.0) (ltb-true _ _ both.1))
