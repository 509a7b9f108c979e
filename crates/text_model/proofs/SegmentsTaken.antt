-- The machine takes the inside of a bit string.
use Rattle.std.proofs.Common.{◌≡◌, ℕ, ◌≤◌, ◌<◌, ◌^◌, ℤ, pos, negsuc, Bool, true, false, not, ◌&&◌, nat_lt, List, [], ◌∷◌, ◌++◌, ◌⊎◌, inl, inr, Ok}
use Rattle.std.proofs.Common.{refl, ap, ◌∙◌, sym, append_assoc, arith}
use Rattle.std.proofs.Math.Pow.{pow_mono}
use Rattle.std.proofs.lemmas.Bool.{and_parts, lt-ltb, ltb-true, leb-true}
use Rattle.std.proofs.lemmas.List.{append-nil}
use Rattle.std.specs.Prelude.{nat_le}
use Rattle.std.specs.List.{flat_map}
use Rattle.dets_term.specs.TermValue.{TermValue, bits}
use Rattle.dets_term.specs.BitString.{byte_bits}
use Rattle.text_model.specs.declared.mark.Mark.TheVariants.{CloseBits, Comma, Colon}
use Rattle.text_model.specs.Token.{Token, mark, number, string}
use Rattle.text_model.specs.Characters.{each}
use Rattle.text_model.specs.Grammar.{Rules, is_byte, is_sized, sized_bits, IsSegment, IsSized, AreSegments, InBits}
use Rattle.text_model.specs.Nest.{in_bits, Begun, Place, want, opened, value, colon, segment, sized, wants, completed, take}
use Rattle.text_model.specs.Located.{tokens_of}
use Rattle.text_model.proofs.TakenSteps.{Steps, step, steps_on, steps_to}
use Rattle.text_model.proofs.PartsTaken.{within}

allowed : (asked holds : Bool) → (asked ≡ true → holds ≡ true) → (asked && not holds) ≡ false
allowed true true e = refl
allowed true false e = let clash : false ≡ true = e refl in cc
allowed false holds e = refl

-- a number that some bits hold, at most seven
sized_below : (v n : ℕ) → is_sized (pos v) (pos n) ≡ true → v < 2 ^ 7
sized_below v n e =
    let p = and_parts (nat_le 1 n) (nat_le n 7 && nat_lt v (2 ^ n)) e in
    let q = and_parts (nat_le n 7) (nat_lt v (2 ^ n)) p.1 in
    let few = leb-true n 7 q.0 in
    let low = ltb-true v (2 ^ n) q.1 in
    let power : 2 ^ n ≤ 2 ^ 7 = pow_mono few in
    omega arith

-- seven bits hold it too
fits_seven : (v n : ℤ) → is_sized v n ≡ true → is_sized v (pos 7) ≡ true
fits_seven (pos v) (pos n) e = lt-ltb v (2 ^ 7) (sized_below v n e)
fits_seven (pos v) (negsuc n) e = cc
fits_seven (negsuc v) n e = cc

-- and a byte
sized_is_byte : (v n : ℤ) → is_sized v n ≡ true → is_byte v ≡ true
sized_is_byte (pos v) (pos n) e = let low = sized_below v n e in lt-ltb v 256 (omega arith)
sized_is_byte (pos v) (negsuc n) e = cc
sized_is_byte (negsuc v) n e = cc

-- ---- a segment, in a bit string that is open

pub number_segment : (rules : Rules) (at : ℕ) (d : List Bool) (bs : List Begun) (place : Place) (late : ℕ) (v : ℤ) → wants place ≡ true
    → (rules.ranged ≡ true → is_byte v ≡ true) → take rules (within at (in_bits d) bs place) late (number v) ≡ Ok (within at (in_bits d) bs (value late v))
number_segment rules at d bs place late v w r = rw (w, allowed rules.ranged (is_byte v) r)

string_segment : (rules : Rules) (at : ℕ) (d : List Bool) (bs : List Begun) (place : Place) (late : ℕ) (cs : List ℕ) → wants place ≡ true
    → (rules.ranged ≡ true → each (λ c. nat_lt c 256) cs ≡ true)
    → take rules (within at (in_bits d) bs place) late (string cs) ≡ Ok (within at (in_bits (d ++ flat_map byte_bits cs)) bs segment)
string_segment rules at d bs place late cs w r = rw (w, allowed rules.ranged (each (λ c. nat_lt c 256) cs) r)

colon_behind : (rules : Rules) (at : ℕ) (d : List Bool) (bs : List Begun) (start late : ℕ) (v : ℤ)
    → (rules.ranged ≡ true → is_sized v (pos 7) ≡ true)
    → take rules (within at (in_bits d) bs (value start v)) late (mark Colon) ≡ Ok (within at (in_bits d) bs (colon start v))
colon_behind rules at d bs start late v r = rw (allowed rules.ranged (is_sized v (pos 7)) r)

pub size_behind : (rules : Rules) (at : ℕ) (d : List Bool) (bs : List Begun) (start late : ℕ) (v n : ℤ) → (rules.ranged ≡ true → is_sized v n ≡ true)
    → take rules (within at (in_bits d) bs (colon start v)) late (number n) ≡ Ok (within at (in_bits d) bs (sized (sized_bits v n)))
size_behind rules at d bs start late v n r = rw (allowed rules.ranged (is_sized v n) r)

-- ---- segments

-- behind a number, how many bits it has, and the closing mark
sized_end : (rules : Rules) (at : ℕ) (bs : List Begun) (d own : List Bool) (start : ℕ) (v n : ℤ) (ps : List (ℕ × Token)) (rest : List Token)
    → (rules.ranged ≡ true → is_sized v n ≡ true) → own ≡ sized_bits v n → tokens_of ps ≡ mark Colon ∷ number n ∷ mark CloseBits ∷ rest
    → Steps rules (within at (in_bits d) bs (value start v)) ps (λ late. completed rules bs at (bits (d ++ own))) rest
sized_end rules at bs d own start v n ps rest range whole e =
    steps_on rules (within at (in_bits d) bs (value start v)) ps (λ late. within at (in_bits d) bs (colon start v))
    (completed rules bs at (bits (d ++ own))) (number n ∷ mark CloseBits ∷ rest) rest
    (step rules _ ps _ (mark Colon) _ (λ late. colon_behind rules at d bs start late v (λ r. fits_seven v n (range r))) e)
    (λ late qs same.
    steps_on rules (within at (in_bits d) bs (colon start v)) qs (λ last. within at (in_bits d) bs (sized (sized_bits v n)))
    (completed rules bs at (bits (d ++ own))) (mark CloseBits ∷ rest) rest
    (step rules _ qs _ (number n) _ (λ last. size_behind rules at d bs start last v n range) same)
    (λ last rs same_last.
    step rules _ rs (λ later. completed rules bs at (bits (d ++ own))) (mark CloseBits) rest
    (λ later. ap (λ b. completed rules bs at (bits (d ++ b))) (sym whole)) same_last))

-- the last one, and the closing mark
last_segment : (rules : Rules) (at : ℕ) (bs : List Begun) (d own : List Bool) (place : Place) (ps : List (ℕ × Token)) (tokens rest : List Token)
    → wants place ≡ true → IsSegment rules own tokens (mark CloseBits ∷ rest) ⊎ IsSized rules own tokens (mark CloseBits ∷ rest) → tokens_of ps ≡ tokens
    → Steps rules (within at (in_bits d) bs place) ps (λ late. completed rules bs at (bits (d ++ own))) rest
last_segment rules at bs d own place ps tokens rest w (inl (inl (v, is, range, whole))) e =
    steps_on rules (within at (in_bits d) bs place) ps (λ late. within at (in_bits d) bs (value late v)) (completed rules bs at (bits (d ++ own)))
    (mark CloseBits ∷ rest) rest
    (step rules _ ps (λ late. Ok (within at (in_bits d) bs (value late v))) (number v) _ (λ late. number_segment rules at d bs place late v w range) (e ∙ is))
    (λ late qs same.
    step rules _ qs (λ last. completed rules bs at (bits (d ++ own))) (mark CloseBits) rest
    (λ last. ap (λ b. completed rules bs at (bits (d ++ b))) (sym whole)) same)
last_segment rules at bs d own place ps tokens rest w (inl (inr (cs, is, range, whole))) e =
    steps_on rules (within at (in_bits d) bs place) ps (λ late. within at (in_bits (d ++ flat_map byte_bits cs)) bs segment)
    (completed rules bs at (bits (d ++ own))) (mark CloseBits ∷ rest) rest
    (step rules _ ps _ (string cs) _ (λ late. string_segment rules at d bs place late cs w range) (e ∙ is))
    (λ late qs same.
    step rules _ qs (λ last. completed rules bs at (bits (d ++ own))) (mark CloseBits) rest
    (λ last. ap (λ b. completed rules bs at (bits (d ++ b))) (sym whole)) same)
last_segment rules at bs d own place ps tokens rest w (inr (v, n, is, range, whole)) e =
    steps_on rules (within at (in_bits d) bs place) ps (λ late. within at (in_bits d) bs (value late v)) (completed rules bs at (bits (d ++ own)))
    (mark Colon ∷ number n ∷ mark CloseBits ∷ rest) rest
    (step rules _ ps _ (number v) _ (λ late. number_segment rules at d bs place late v w (λ r. sized_is_byte v n (range r))) (e ∙ is))
    (λ start qs same. sized_end rules at bs d own start v n qs rest range whole same)

-- one before others, and its comma
segment_and_comma : (rules : Rules) (at : ℕ) (bs : List Begun) (d own : List Bool) (place : Place) (ps : List (ℕ × Token)) (tokens rest : List Token)
    → wants place ≡ true → IsSegment rules own tokens (mark Comma ∷ rest) → tokens_of ps ≡ tokens
    → Steps rules (within at (in_bits d) bs place) ps (λ late. Ok (within at (in_bits (d ++ own)) bs want)) rest
segment_and_comma rules at bs d own place ps tokens rest w (inl (v, is, range, whole)) e =
    steps_on rules (within at (in_bits d) bs place) ps (λ late. within at (in_bits d) bs (value late v)) (Ok (within at (in_bits (d ++ own)) bs want))
    (mark Comma ∷ rest) rest
    (step rules _ ps _ (number v) _ (λ late. number_segment rules at d bs place late v w range) (e ∙ is))
    (λ late qs same.
    step rules _ qs _ (mark Comma) rest (λ last. ap (λ b. Ok (within at (in_bits (d ++ b)) bs want)) (sym whole)) same)
segment_and_comma rules at bs d own place ps tokens rest w (inr (cs, is, range, whole)) e =
    steps_on rules (within at (in_bits d) bs place) ps (λ late. within at (in_bits (d ++ flat_map byte_bits cs)) bs segment)
    (Ok (within at (in_bits (d ++ own)) bs want)) (mark Comma ∷ rest) rest
    (step rules _ ps _ (string cs) _ (λ late. string_segment rules at d bs place late cs w range) (e ∙ is))
    (λ late qs same.
    step rules _ qs _ (mark Comma) rest (λ last. ap (λ b. Ok (within at (in_bits (d ++ b)) bs want)) (sym whole)) same)

segments_taken : (rules : Rules) (at : ℕ) (bs : List Begun) (d : List Bool) (segments : List (List Bool)) (place : Place) (ps : List (ℕ × Token))
    (tokens rest : List Token) → wants place ≡ true → AreSegments rules segments tokens rest → tokens_of ps ≡ tokens
    → Steps rules (within at (in_bits d) bs place) ps (λ late. completed rules bs at (bits (d ++ flat_map (λ b. b) segments))) rest
segments_taken rules at bs d [] place ps tokens rest w are e = absurd are
segments_taken rules at bs d (own ∷ []) place ps tokens rest w are e =
    steps_to rules _ ps _ _ rest (last_segment rules at bs d own place ps tokens rest w are e)
    (λ late. ap (λ b. completed rules bs at (bits (d ++ b))) (sym (append-nil own)))
segments_taken rules at bs d (own ∷ other ∷ more) place ps tokens rest w (behind, part, are) e =
    steps_on rules (within at (in_bits d) bs place) ps (λ late. within at (in_bits (d ++ own)) bs want)
    (completed rules bs at (bits (d ++ flat_map (λ b. b) (own ∷ other ∷ more)))) behind rest
    (segment_and_comma rules at bs d own place ps tokens behind w part e)
    (λ late qs same.
    steps_to rules _ qs (λ last. completed rules bs at (bits ((d ++ own) ++ flat_map (λ b. b) (other ∷ more)))) _ rest
    (segments_taken rules at bs (d ++ own) (other ∷ more) want qs behind rest refl are same)
    (λ last. ap (λ b. completed rules bs at (bits b)) (append_assoc d own (flat_map (λ b. b) (other ∷ more)))))

pub bits_taken : (rules : Rules) (at : ℕ) (bs : List Begun) (t : TermValue) (ps : List (ℕ × Token)) (tokens rest : List Token)
    → InBits rules t tokens rest → tokens_of ps ≡ tokens → Steps rules (within at (in_bits []) bs opened) ps (λ late. completed rules bs at t) rest
bits_taken rules at bs t ps tokens rest (inl (empty, closes)) e =
    step rules (within at (in_bits []) bs opened) ps (λ late. completed rules bs at t) (mark CloseBits) rest
    (λ late. ap (completed rules bs at) (sym empty)) (e ∙ closes)
bits_taken rules at bs t ps tokens rest (inr (segments, is, are)) e =
    steps_to rules _ ps _ _ rest (segments_taken rules at bs [] segments opened ps tokens rest refl are e) (λ late. ap (completed rules bs at) (sym is))
