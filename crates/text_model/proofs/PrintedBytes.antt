-- No byte of a printed form is below 32.
use Rattle.std.proofs.Common.{◌≡◌, ℕ, ℤ, pos, negsuc, zero, suc, ◌/◌, ◌%◌, ◌≤◌, Bool, true, false, ◌==◌, nat_lt, not, List, [], ◌∷◌, ◌++◌, length, codes, arith}
use Rattle.std.proofs.lemmas.Bool.{and_parts, cond_both}
use Rattle.std.proofs.lemmas.Bool.Decides.{nat_tests}
use Rattle.std.proofs.lemmas.List.Elements.{All-from_recursion}
use Rattle.std.specs.List.{All, AllByRecursion, list_all, flat_map, join_by, zip}
use Rattle.std.specs.Char.{is_ascii_control, is_ascii_lowercase}
use Rattle.std.specs.Fmt.{digit_glyph, digits_onto, digits, decimal, signed_decimal}
use lib.Utf8.{encode}
use Rattle.dets_term.specs.TermValue.{TermValue, integer, atom, tuple, mapping, nil, cons, bits}
use Rattle.text_model.specs.Token.{is_name_character, is_plain_atom}
use Rattle.text_model.specs.Printed.{is_reserved, is_unquoted, quoted_character, quoted_atom, printed_atom, number_of, octets, printed_segment}
use Rattle.text_model.specs.Printed.{printed_bits, printed_pair, printed_map, printed, printed_elements, printed_after, printed_each}

-- no byte is below 32
abbrev NoneLow : List ℕ → Type 0
NoneLow xs = AllByRecursion (λ x. 32 ≤ x) xs

NoneLow-append : (xs ys : List ℕ) → NoneLow xs → NoneLow ys → NoneLow (xs ++ ys)
NoneLow-append [] ys h g = g
NoneLow-append (x ∷ xs) ys h g = (h.0, NoneLow-append xs ys h.1 g)

-- ---- numbers

glyph_not_low : (upper : Bool) (d : ℕ) → 32 ≤ digit_glyph upper d
glyph_not_low true d = grind (arith, nat_tests)
glyph_not_low false d = grind (arith, nat_tests)

digits_onto_not_low : (k base : ℕ) (upper : Bool) (n : ℕ) (ds : List ℕ) → NoneLow ds → NoneLow (digits_onto k base upper n ds)
digits_onto_not_low zero base upper n ds h = h
digits_onto_not_low (suc k) base upper n ds h =
    let more : NoneLow (digit_glyph upper (n % base) ∷ ds) = (glyph_not_low upper (n % base), h) in
    cond_both (n / base == 0) _ _ NoneLow (λ _. more)
    (λ _. digits_onto_not_low k base upper (n / base) (digit_glyph upper (n % base) ∷ ds) more)

digits_not_low : (base : ℕ) (upper : Bool) (n : ℕ) → NoneLow (digits base upper n)
unfolding digits
digits_not_low base upper n = digits_onto_not_low 64 base upper n [] tt

integer_not_low : (z : ℤ) → NoneLow (signed_decimal z)
integer_not_low (pos n) = digits_not_low 10 false n
integer_not_low (negsuc n) = (omega arith, digits_not_low 10 false (suc n))

-- ---- atoms

name_character_not_low : (c : ℕ) → is_name_character c ≡ true → 32 ≤ c
name_character_not_low c e = grind (arith, nat_tests)

lowercase_not_low : (c : ℕ) → is_ascii_lowercase c ≡ true → 32 ≤ c
lowercase_not_low c e = grind (arith, nat_tests)

name_not_low : (cs : List ℕ) → list_all is_name_character cs ≡ true → NoneLow cs
name_not_low [] e = tt
name_not_low (c ∷ cs) e =
    let p = and_parts (is_name_character c) (list_all is_name_character cs) e in (name_character_not_low c p.0, name_not_low cs p.1)

plain_not_low : (cs : List ℕ) → is_plain_atom cs ≡ true → NoneLow cs
plain_not_low [] e = tt
plain_not_low (c ∷ cs) e =
    let p = and_parts (is_ascii_lowercase c) (list_all is_name_character cs) e in (lowercase_not_low c p.0, name_not_low cs p.1)

encoded_not_low : (c : ℕ) → 32 ≤ c → NoneLow (encode c)
unfolding encode
encoded_not_low c h =
    cond_both (nat_lt c 128) _ _ NoneLow (λ _. (h, tt))
    (λ _. cond_both (nat_lt c 2048) _ _ NoneLow (λ _. (omega arith, (omega arith, tt)))
    (λ _. cond_both (nat_lt c 65536) _ _ NoneLow (λ _. (omega arith, (omega arith, (omega arith, tt))))
    (λ _. (omega arith, (omega arith, (omega arith, (omega arith, tt)))))))

no_control : (c : ℕ) → is_ascii_control c ≡ false → 32 ≤ c
no_control c e = grind (arith, nat_tests)

-- a control character is escaped, so its code is only spelled
character_not_low : (c : ℕ) → NoneLow (quoted_character c)
character_not_low c =
    cond_both (c == 92) _ _ NoneLow (λ _. (omega arith, (omega arith, tt)))
    (λ _. cond_both (c == 39) _ _ NoneLow (λ _. (omega arith, (omega arith, tt)))
    (λ _. cond_both (is_ascii_control c) _ _ NoneLow
    (λ _. (omega arith, (omega arith, (omega arith, NoneLow-append (digits 16 true c) (codes "}") (digits_not_low 16 true c) (omega arith, tt)))))
    (λ e. encoded_not_low c (no_control c e))))

characters_not_low : (cs : List ℕ) → NoneLow (flat_map quoted_character cs)
characters_not_low [] = tt
characters_not_low (c ∷ cs) = NoneLow-append (quoted_character c) (flat_map quoted_character cs) (character_not_low c) (characters_not_low cs)

atom_not_low : (cs : List ℕ) → NoneLow (printed_atom cs)
atom_not_low cs =
    cond_both (is_unquoted cs) cs (quoted_atom cs) NoneLow
    (λ e. plain_not_low cs (and_parts (is_plain_atom cs) (not (is_reserved cs)) e).0)
    (λ _. (omega arith, NoneLow-append (flat_map quoted_character cs) (codes "'") (characters_not_low cs) (omega arith, tt)))

-- ---- bit strings and maps

segment_not_low : (bs : List Bool) → NoneLow (printed_segment bs)
segment_not_low bs =
    cond_both (length bs == 8) _ _ NoneLow (λ _. digits_not_low 10 false (number_of bs))
    (λ _. NoneLow-append (decimal (number_of bs) ++ codes ":") (decimal (length bs))
    (NoneLow-append (decimal (number_of bs)) (codes ":") (digits_not_low 10 false (number_of bs)) (omega arith, tt)) (digits_not_low 10 false (length bs)))

-- parts none of which has a low byte, with commas between them
rest_not_low : {X : Type 0} (f : X → List ℕ) (xs : List X) → AllByRecursion (λ x. NoneLow (f x)) xs → NoneLow (flat_map (λ x. codes "," ++ f x) xs)
rest_not_low f [] h = tt
rest_not_low f (x ∷ xs) h = (omega arith, NoneLow-append (f x) (flat_map (λ y. codes "," ++ f y) xs) h.0 (rest_not_low f xs h.1))

joined_not_low : {X : Type 0} (f : X → List ℕ) (xs : List X) → AllByRecursion (λ x. NoneLow (f x)) xs → NoneLow (join_by f (codes ",") xs)
joined_not_low f [] h = tt
joined_not_low f (x ∷ xs) h = NoneLow-append (f x) (flat_map (λ y. codes "," ++ f y) xs) h.0 (rest_not_low f xs h.1)

segments_not_low : (parts : List (List Bool)) → AllByRecursion (λ bs. NoneLow (printed_segment bs)) parts
segments_not_low [] = tt
segments_not_low (bs ∷ parts) = (segment_not_low bs, segments_not_low parts)

bits_not_low : (bs : List Bool) → NoneLow (printed_bits bs)
bits_not_low bs = (
  omega arith,
  (
    omega arith,
    NoneLow-append (join_by printed_segment (codes ",") (octets bs)) (codes ">>")
        (joined_not_low printed_segment (octets bs) (segments_not_low (octets bs))) (omega arith, (omega arith, tt)),
  ),
)

pairs_not_low : (ks vs : List (List ℕ)) → AllByRecursion NoneLow ks → AllByRecursion NoneLow vs → AllByRecursion (λ p. NoneLow (printed_pair p)) (zip ks vs)
pairs_not_low [] vs g h = tt
pairs_not_low (k ∷ ks) [] g h = tt
pairs_not_low (k ∷ ks) (v ∷ vs) g h = (
  NoneLow-append (k ++ codes "=>") v (NoneLow-append k (codes "=>") g.0 (omega arith, (omega arith, tt))) h.0,
  pairs_not_low ks vs g.1 h.1,
)

map_not_low : (ks vs : List (List ℕ)) → AllByRecursion NoneLow ks → AllByRecursion NoneLow vs → NoneLow (printed_map ks vs)
map_not_low ks vs g h = (
  omega arith,
  (
    omega arith,
    NoneLow-append (join_by printed_pair (codes ",") (zip ks vs)) (codes "}") (joined_not_low printed_pair (zip ks vs) (pairs_not_low ks vs g h))
        (omega arith, tt),
  ),
)

-- ---- terms

mutual
  term_not_low : (t : TermValue) → NoneLow (printed t)
  term_not_low (integer z) = integer_not_low z
  term_not_low (atom cs) = atom_not_low cs
  term_not_low (tuple parts) = (omega arith, elements_not_low (codes "}") parts (omega arith, tt))
  term_not_low (mapping keys values) = map_not_low (printed_each keys) (printed_each values) (each_not_low keys) (each_not_low values)
  term_not_low nil = (omega arith, (omega arith, tt))
  term_not_low (cons first rest) = (
    omega arith,
    NoneLow-append (printed first) (printed_after (codes "]") rest) (term_not_low first)
        (after_not_low (codes "]") rest (omega arith, tt)),
  )
  term_not_low (bits bs) = bits_not_low bs

  elements_not_low : (end : List ℕ) (v : TermValue) → NoneLow end → NoneLow (printed_elements end v)
  elements_not_low end (cons first rest) h = NoneLow-append (printed first) (printed_after end rest) (term_not_low first) (after_not_low end rest h)
  elements_not_low end other h = h

  after_not_low : (end : List ℕ) (v : TermValue) → NoneLow end → NoneLow (printed_after end v)
  after_not_low end (integer z) h = (omega arith, NoneLow-append (signed_decimal z) end (integer_not_low z) h)
  after_not_low end (atom cs) h = (omega arith, NoneLow-append (printed_atom cs) end (atom_not_low cs) h)
  after_not_low end (tuple parts) h =
      (omega arith, (omega arith, NoneLow-append (printed_elements (codes "}") parts) end (elements_not_low (codes "}") parts (omega arith, tt)) h))
  after_not_low end (mapping keys values) h = (
    omega arith,
    NoneLow-append (printed_map (printed_each keys) (printed_each values)) end
        (map_not_low (printed_each keys) (printed_each values) (each_not_low keys) (each_not_low values)) h,
  )
  after_not_low end nil h = h
  after_not_low end (cons first rest) h = (omega arith, NoneLow-append (printed first) (printed_after end rest) (term_not_low first) (after_not_low end rest h))
  after_not_low end (bits bs) h = (omega arith, NoneLow-append (printed_bits bs) end (bits_not_low bs) h)

  each_not_low : (v : TermValue) → AllByRecursion NoneLow (printed_each v)
  each_not_low (cons first rest) = (term_not_low first, each_not_low rest)
  each_not_low other = tt

pub printed_not_low : (t : TermValue) → All (λ x. 32 ≤ x) (printed t)
printed_not_low t = All-from_recursion (λ x. 32 ≤ x) (printed t) (term_not_low t)
