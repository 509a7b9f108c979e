-- The order of bit strings by their bytes and then by their used bits.
use Rattle.std.proofs.Common.{◌≡◌, ℕ, zero, suc, ◌-◌, ◌/◌, ◌%◌, ◌^◌, ◌<◌, ◌≤◌, Bool, true, false, ◌==◌, List, [], ◌∷◌, ◌++◌, length, take, drop, get_or, refl}
use Rattle.std.proofs.Common.{ap, ◌∙◌, sym, arith}
use Rattle.std.specs.List.{AllByRecursion}
use Rattle.std.specs.declared.cmp.Ordering.{Ordering}
use Rattle.std.specs.declared.cmp.Ordering.TheVariants.{Less, Equal, Greater}
use Rattle.std.specs.Ordering.{nat_cmp, bool_cmp, ordering_then, MatchOrdering}
use Rattle.std.specs.Cmp.{nat_cmp_is}
use Rattle.std.specs.Cmp.Lexicographic.{slice_cmp}
use Rattle.std.proofs.lemmas.Cmp.{ranked}
use Rattle.term_model.specs.BitString.{is_odd, byte_bits, bits_of, IsPadded}
use Rattle.term_model.specs.Orderings.{then_assoc, nat_cmp_self, nat_cmp-zero-suc, nat_cmp-suc-zero, nat_cmp-suc, then_equal}

-- ---- one byte

halves : (x y : ℕ) (o p : Ordering) → MatchOrdering o (x / 2 < y / 2) (x / 2 ≡ y / 2) (y / 2 < x / 2)
    → MatchOrdering p (x % 2 < y % 2) (x % 2 ≡ y % 2) (y % 2 < x % 2)
    → MatchOrdering (ordering_then o p) (x < y) (x ≡ y) (y < x)
halves x y Less p h k = omega arith
halves x y Greater p h k = omega arith
halves x y Equal Less h k = omega arith
halves x y Equal Equal h k = omega arith
halves x y Equal Greater h k = omega arith

binary : (a b : ℕ) → a < 2 → b < 2 → nat_cmp a b ≡ bool_cmp (a == 1) (b == 1)
binary zero zero h k = refl
binary zero (suc zero) h k = refl
binary (suc zero) zero h k = refl
binary (suc zero) (suc zero) h k = refl
binary (suc (suc a)) b h k = absurd (omega arith)
binary a (suc (suc b)) h k = absurd (omega arith)

odd_order : (x y : ℕ) → nat_cmp (x % 2) (y % 2) ≡ bool_cmp (is_odd x) (is_odd y)
odd_order x y = binary (x % 2) (y % 2) (omega arith) (omega arith)

-- by all bits but the last, and then by the last
halved : (x y : ℕ) → nat_cmp x y ≡ ordering_then (nat_cmp (x / 2) (y / 2)) (bool_cmp (is_odd x) (is_odd y))
halved x y =
    sym (nat_cmp_is x y _ (halves x y _ _ (ranked (x / 2) (y / 2) _ refl) (ranked (x % 2) (y % 2) _ refl)))
    ∙ ap (ordering_then (nat_cmp (x / 2) (y / 2))) (odd_order x y)

-- ---- bits in front of more bits

slice_cmp-append : (xs ys r s : List Bool) → length xs ≡ length ys
    → slice_cmp bool_cmp (xs ++ r) (ys ++ s) ≡ ordering_then (slice_cmp bool_cmp xs ys) (slice_cmp bool_cmp r s)
slice_cmp-append [] [] r s e = refl
slice_cmp-append [] (y ∷ ys) r s e = absurd (omega arith)
slice_cmp-append (x ∷ xs) [] r s e = absurd (omega arith)
slice_cmp-append (x ∷ xs) (y ∷ ys) r s e =
    ap (ordering_then (bool_cmp x y)) (slice_cmp-append xs ys r s (omega arith))
    ∙ sym (then_assoc (bool_cmp x y) (slice_cmp bool_cmp xs ys) (slice_cmp bool_cmp r s))

grown : (xs ys : List Bool) (a b c d : ℕ) → length xs ≡ length ys → a / 2 ≡ c → b / 2 ≡ d → slice_cmp bool_cmp xs ys ≡ nat_cmp c d
    → slice_cmp bool_cmp (xs ++ is_odd a ∷ []) (ys ++ is_odd b ∷ []) ≡ nat_cmp a b
grown xs ys a b c d e h k s =
    slice_cmp-append xs ys (is_odd a ∷ []) (is_odd b ∷ []) e
    ∙ (λ i. ordering_then ((s ∙ (λ j. nat_cmp (sym h j) (sym k j))) i) (then_equal (bool_cmp (is_odd a) (is_odd b)) i))
    ∙ sym (halved a b)

byte_order : (x y : ℕ) → x < 256 → y < 256 → slice_cmp bool_cmp (byte_bits x) (byte_bits y) ≡ nat_cmp x y
byte_order x y h k =
    let s7 : slice_cmp bool_cmp (is_odd (x / 128) ∷ []) (is_odd (y / 128) ∷ []) ≡ nat_cmp (x / 128) (y / 128) =
    then_equal (bool_cmp (is_odd (x / 128)) (is_odd (y / 128))) ∙ sym (odd_order (x / 128) (y / 128))
    ∙ (λ i. nat_cmp ((let e : x / 128 % 2 ≡ x / 128 = omega arith in e) i) ((let e : y / 128 % 2 ≡ y / 128 = omega arith in e) i)) in
    let s6 = grown (take 1 (byte_bits x)) (take 1 (byte_bits y)) (x / 64) (y / 64) (x / 128) (y / 128) refl (omega arith) (omega arith) s7 in
    let s5 = grown (take 2 (byte_bits x)) (take 2 (byte_bits y)) (x / 32) (y / 32) (x / 64) (y / 64) refl (omega arith) (omega arith) s6 in
    let s4 = grown (take 3 (byte_bits x)) (take 3 (byte_bits y)) (x / 16) (y / 16) (x / 32) (y / 32) refl (omega arith) (omega arith) s5 in
    let s3 = grown (take 4 (byte_bits x)) (take 4 (byte_bits y)) (x / 8) (y / 8) (x / 16) (y / 16) refl (omega arith) (omega arith) s4 in
    let s2 = grown (take 5 (byte_bits x)) (take 5 (byte_bits y)) (x / 4) (y / 4) (x / 8) (y / 8) refl (omega arith) (omega arith) s3 in
    let s1 = grown (take 6 (byte_bits x)) (take 6 (byte_bits y)) (x / 2) (y / 2) (x / 4) (y / 4) refl (omega arith) (omega arith) s2 in
    grown (take 7 (byte_bits x)) (take 7 (byte_bits y)) x y (x / 2) (y / 2) refl refl refl s1

-- ---- zeros behind the used bits

abbrev AreZeros : List Bool → Type 0
AreZeros [] = Unit {0}
AreZeros (b ∷ bs) = (b ≡ false) × AreZeros bs

zeros_least : (xs ys : List Bool) → length xs ≡ length ys → AreZeros xs → ordering_then (slice_cmp bool_cmp xs ys) Less ≡ Less
zeros_least [] [] e z = refl
zeros_least [] (y ∷ ys) e z = absurd (omega arith)
zeros_least (x ∷ xs) [] e z = absurd (omega arith)
zeros_least (false ∷ xs) (false ∷ ys) e z = zeros_least xs ys (omega arith) z.1
zeros_least (false ∷ xs) (true ∷ ys) e z = refl
zeros_least (true ∷ xs) (y ∷ ys) e z = let h = z.0 in cc

zeros_last : (xs ys : List Bool) → length xs ≡ length ys → AreZeros ys → ordering_then (slice_cmp bool_cmp xs ys) Greater ≡ Greater
zeros_last [] [] e z = refl
zeros_last [] (y ∷ ys) e z = absurd (omega arith)
zeros_last (x ∷ xs) [] e z = absurd (omega arith)
zeros_last (false ∷ xs) (false ∷ ys) e z = zeros_last xs ys (omega arith) z.1
zeros_last (true ∷ xs) (false ∷ ys) e z = refl
zeros_last (x ∷ xs) (true ∷ ys) e z = let h = z.0 in cc

zeros_alike : (xs ys : List Bool) → length xs ≡ length ys → AreZeros xs → AreZeros ys → slice_cmp bool_cmp xs ys ≡ Equal
zeros_alike [] [] e z w = refl
zeros_alike [] (y ∷ ys) e z w = absurd (omega arith)
zeros_alike (x ∷ xs) [] e z w = absurd (omega arith)
zeros_alike (false ∷ xs) (false ∷ ys) e z w = zeros_alike xs ys (omega arith) z.1 w.1
zeros_alike (true ∷ xs) (y ∷ ys) e z w = let h = z.0 in cc
zeros_alike (x ∷ xs) (true ∷ ys) e z w = let h = w.0 in cc

-- some used bits against others
used_order : (xs ys : List Bool) (u w : ℕ) → length xs ≡ length ys → u ≤ length xs → w ≤ length ys → AreZeros (drop u xs) → AreZeros (drop w ys)
    → slice_cmp bool_cmp (take u xs) (take w ys) ≡ ordering_then (slice_cmp bool_cmp xs ys) (nat_cmp u w)
used_order [] [] zero zero e h k z v = refl
used_order [] [] (suc u) w e h k z v = absurd (omega arith)
used_order [] [] u (suc w) e h k z v = absurd (omega arith)
used_order [] (y ∷ ys) u w e h k z v = absurd (omega arith)
used_order (x ∷ xs) [] u w e h k z v = absurd (omega arith)
used_order (x ∷ xs) (y ∷ ys) zero zero e h k z v = sym (ap (λ o. ordering_then o Equal) (zeros_alike (x ∷ xs) (y ∷ ys) e z v))
used_order (x ∷ xs) (y ∷ ys) zero (suc w) e h k z v =
    sym (ap (ordering_then (slice_cmp bool_cmp (x ∷ xs) (y ∷ ys))) (nat_cmp-zero-suc w) ∙ zeros_least (x ∷ xs) (y ∷ ys) e z)
used_order (x ∷ xs) (y ∷ ys) (suc u) zero e h k z v =
    sym (ap (ordering_then (slice_cmp bool_cmp (x ∷ xs) (y ∷ ys))) (nat_cmp-suc-zero u) ∙ zeros_last (x ∷ xs) (y ∷ ys) e v)
used_order (x ∷ xs) (y ∷ ys) (suc u) (suc w) e h k z v =
    ap (ordering_then (bool_cmp x y)) (used_order xs ys u w (omega arith) (omega arith) (omega arith) z v
    ∙ ap (ordering_then (slice_cmp bool_cmp xs ys)) (sym (nat_cmp-suc u w)))
    ∙ sym (then_assoc (bool_cmp x y) (slice_cmp bool_cmp xs ys) (nat_cmp (suc u) (suc w)))

-- some used bits against all bits and more
used_less : (xs ys s : List Bool) (u : ℕ) → length xs ≡ length ys → 0 < length s → AreZeros (drop u xs)
    → slice_cmp bool_cmp (take u xs) (ys ++ s) ≡ ordering_then (slice_cmp bool_cmp xs ys) Less
used_less [] [] [] u e l z = absurd (omega arith)
used_less [] [] (b ∷ s) zero e l z = refl
used_less [] [] (b ∷ s) (suc u) e l z = refl
used_less [] (y ∷ ys) s u e l z = absurd (omega arith)
used_less (x ∷ xs) [] s u e l z = absurd (omega arith)
used_less (x ∷ xs) (y ∷ ys) s zero e l z = sym (zeros_least (x ∷ xs) (y ∷ ys) e z)
used_less (x ∷ xs) (y ∷ ys) s (suc u) e l z =
    ap (ordering_then (bool_cmp x y)) (used_less xs ys s u (omega arith) l z) ∙ sym (then_assoc (bool_cmp x y) (slice_cmp bool_cmp xs ys) Less)

used_greater : (xs ys r : List Bool) (w : ℕ) → length xs ≡ length ys → 0 < length r → AreZeros (drop w ys)
    → slice_cmp bool_cmp (xs ++ r) (take w ys) ≡ ordering_then (slice_cmp bool_cmp xs ys) Greater
used_greater [] [] [] w e l z = absurd (omega arith)
used_greater [] [] (b ∷ r) zero e l z = refl
used_greater [] [] (b ∷ r) (suc w) e l z = refl
used_greater [] (y ∷ ys) r w e l z = absurd (omega arith)
used_greater (x ∷ xs) [] r w e l z = absurd (omega arith)
used_greater (x ∷ xs) (y ∷ ys) r zero e l z = sym (zeros_last (x ∷ xs) (y ∷ ys) e z)
used_greater (x ∷ xs) (y ∷ ys) r (suc w) e l z =
    ap (ordering_then (bool_cmp x y)) (used_greater xs ys r w (omega arith) l z) ∙ sym (then_assoc (bool_cmp x y) (slice_cmp bool_cmp xs ys) Greater)

-- ---- padded bytes

even : (n : ℕ) → n % 2 ≡ 0 → is_odd n ≡ false
even n e = ap (λ m. m == 1) e

zeros_1 : (x : ℕ) → x % 2 ≡ 0 → AreZeros (drop 7 (byte_bits x))
zeros_1 x e = (even x e, tt)

zeros_2 : (x : ℕ) → x % 4 ≡ 0 → AreZeros (drop 6 (byte_bits x))
zeros_2 x e = (even (x / 2) (omega arith), zeros_1 x (omega arith))

zeros_3 : (x : ℕ) → x % 8 ≡ 0 → AreZeros (drop 5 (byte_bits x))
zeros_3 x e = (even (x / 4) (omega arith), zeros_2 x (omega arith))

zeros_4 : (x : ℕ) → x % 16 ≡ 0 → AreZeros (drop 4 (byte_bits x))
zeros_4 x e = (even (x / 8) (omega arith), zeros_3 x (omega arith))

zeros_5 : (x : ℕ) → x % 32 ≡ 0 → AreZeros (drop 3 (byte_bits x))
zeros_5 x e = (even (x / 16) (omega arith), zeros_4 x (omega arith))

zeros_6 : (x : ℕ) → x % 64 ≡ 0 → AreZeros (drop 2 (byte_bits x))
zeros_6 x e = (even (x / 32) (omega arith), zeros_5 x (omega arith))

zeros_7 : (x : ℕ) → x % 128 ≡ 0 → AreZeros (drop 1 (byte_bits x))
zeros_7 x e = (even (x / 64) (omega arith), zeros_6 x (omega arith))

zeros_behind : (x used : ℕ) → 1 ≤ used → used ≤ 8 → x % 2 ^ (8 - used) ≡ 0 → AreZeros (drop used (byte_bits x))
zeros_behind x zero h k e = absurd (omega arith)
zeros_behind x (suc zero) h k e = zeros_7 x e
zeros_behind x (suc (suc zero)) h k e = zeros_6 x e
zeros_behind x (suc (suc (suc zero))) h k e = zeros_5 x e
zeros_behind x (suc (suc (suc (suc zero)))) h k e = zeros_4 x e
zeros_behind x (suc (suc (suc (suc (suc zero))))) h k e = zeros_3 x e
zeros_behind x (suc (suc (suc (suc (suc (suc zero)))))) h k e = zeros_2 x e
zeros_behind x (suc (suc (suc (suc (suc (suc (suc zero))))))) h k e = zeros_1 x e
zeros_behind x (suc (suc (suc (suc (suc (suc (suc (suc zero)))))))) h k e = tt
zeros_behind x (suc (suc (suc (suc (suc (suc (suc (suc (suc u))))))))) h k e = absurd (omega arith)

-- padded bytes that are not empty have a bit
some_bit : (x : ℕ) (bs : List ℕ) (used : ℕ) → 1 ≤ used → 0 < length (bits_of (x ∷ bs) used)
some_bit x [] zero h = absurd (omega arith)
some_bit x [] (suc used) h = omega arith
some_bit x (y ∷ bs) used h = omega arith

tail_padded : (x y : ℕ) (bs : List ℕ) (used : ℕ) → IsPadded (x ∷ y ∷ bs) used → IsPadded (y ∷ bs) used
tail_padded x y bs used p = record { used = (p.used.0, p.used.1, λ e. cc); zeros = p.zeros }

-- each of some bytes is one
pub all_bytes : (bs : List ℕ) → ((i : ℕ) → i < length bs → get_or bs i 0 < 256) → AllByRecursion (λ x. x < 256) bs
all_bytes [] h = tt
all_bytes (x ∷ bs) h = (h 0 (omega arith), all_bytes bs (λ i k. h (suc i) (omega arith)))

-- the bits of padded bytes go by the bytes, and then by the number of used bits
pub bits_order : (bs cs : List ℕ) (u w : ℕ) → AllByRecursion (λ x. x < 256) bs → AllByRecursion (λ x. x < 256) cs → IsPadded bs u → IsPadded cs w
    → slice_cmp bool_cmp (bits_of bs u) (bits_of cs w) ≡ ordering_then (slice_cmp nat_cmp bs cs) (nat_cmp u w)
bits_order [] [] u w f g p q =
    sym (ap (λ n. nat_cmp n w) (p.used.2 refl ∙ sym (q.used.2 refl)) ∙ nat_cmp_self w)
bits_order [] (y ∷ cs) u w f g p q = by_length (bits_of (y ∷ cs) w) (some_bit y cs w q.used.0)
  where
    by_length : (s : List Bool) → 0 < length s → slice_cmp bool_cmp [] s ≡ Less
    by_length [] h = absurd (omega arith)
    by_length (b ∷ s) h = refl
bits_order (x ∷ bs) [] u w f g p q = by_length (bits_of (x ∷ bs) u) (some_bit x bs u p.used.0)
  where
    by_length : (s : List Bool) → 0 < length s → slice_cmp bool_cmp s [] ≡ Greater
    by_length [] h = absurd (omega arith)
    by_length (b ∷ s) h = refl
bits_order (x ∷ []) (y ∷ []) u w f g p q =
    used_order (byte_bits x) (byte_bits y) u w refl p.used.1 q.used.1 (zeros_behind x u p.used.0 p.used.1 p.zeros) (zeros_behind y w q.used.0 q.used.1 q.zeros)
    ∙ ap (λ o. ordering_then o (nat_cmp u w)) (byte_order x y f.0 g.0 ∙ sym (then_equal (nat_cmp x y)))
bits_order (x ∷ []) (y ∷ d ∷ cs) u w f g p q =
    used_less (byte_bits x) (byte_bits y) (bits_of (d ∷ cs) w) u refl (some_bit d cs w q.used.0) (zeros_behind x u p.used.0 p.used.1 p.zeros)
    ∙ ap (λ o. ordering_then o Less) (byte_order x y f.0 g.0) ∙ sym (then_assoc (nat_cmp x y) Less (nat_cmp u w))
bits_order (x ∷ b ∷ bs) (y ∷ []) u w f g p q =
    used_greater (byte_bits x) (byte_bits y) (bits_of (b ∷ bs) u) w refl (some_bit b bs u p.used.0) (zeros_behind y w q.used.0 q.used.1 q.zeros)
    ∙ ap (λ o. ordering_then o Greater) (byte_order x y f.0 g.0) ∙ sym (then_assoc (nat_cmp x y) Greater (nat_cmp u w))
bits_order (x ∷ b ∷ bs) (y ∷ d ∷ cs) u w f g p q =
    slice_cmp-append (byte_bits x) (byte_bits y) (bits_of (b ∷ bs) u) (bits_of (d ∷ cs) w) refl
    ∙ (λ i. ordering_then (byte_order x y f.0 g.0 i) (bits_order (b ∷ bs) (d ∷ cs) u w f.1 g.1 (tail_padded x b bs u p) (tail_padded y d cs w q) i))
    ∙ sym (then_assoc (nat_cmp x y) (slice_cmp nat_cmp (b ∷ bs) (d ∷ cs)) (nat_cmp u w))
