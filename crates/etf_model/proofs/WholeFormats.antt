-- Bytes that are whole in a format that is put together, from those that are whole in its parts.
use Rattle.std.proofs.Common.{◌≡◌, ℕ, zero, suc, ◌+◌, ◌*◌, ◌/◌, ◌%◌, ◌^◌, ◌<◌, ◌≤◌, ⊎_elim, Bool, true, false, cond, ◌==◌, nat_le, List, [], ◌∷◌, ◌++◌, length}
use Rattle.std.proofs.Common.{refl, sym, ap, ◌∙◌, subst, arith}
use Rattle.std.specs.List.{flat_map, AllByRecursion}
use Rattle.std.specs.Int.{byte_at, bytes_high_first}
use Rattle.std.proofs.lemmas.List.{append-nil}
use Rattle.std.proofs.lemmas.Bool.{eq-eqb, le-leb, cases_eq}
use Rattle.std.proofs.Math.Nat.{pow-succ', zero-div}
use Rattle.dets_term.specs.TermValue.{integer}
use Rattle.etf_model.specs.declared.fault.EtfFault.TheVariants.{Depth, IntegerRange}
use Rattle.etf_model.specs.Format.{Format, byte, followed, tested, changed, times}
use Rattle.etf_model.specs.Spelling.{number, number_after, sized, count_after, magnitude_after, big_integer}
use Rattle.etf_model.specs.Layout.{signed, limit}
use Rattle.etf_model.specs.Canonical.{low_bytes, magnitude_bytes}
use Rattle.etf_model.specs.CanonicalWholes.{low_bytes-more}

pub whole_at : {A : Type 0} (F : Format A) (x y : A) (bytes cs : List ℕ) → x ≡ y → bytes ≡ cs → F.Whole x bytes → F.Whole y cs
whole_at F x y bytes cs e f w = subst (λ z. F.Whole z cs) e (subst (λ b. F.Whole x b) f w)

pub followed_whole : {A B : Type 0} (F : Format A) (G : A → Format B) (x : A) (y : B) (front rest : List ℕ) → F.Whole x front → (G x).Whole y rest
    → (followed F G).Whole y (front ++ rest)
followed_whole F G x y front rest f g = record { value = x; front = front; rest = rest; first = f; second = g; whole = refl }

pub changed_whole : {A B : Type 0} (F : Format A) (f : A → B) (x : A) (bytes : List ℕ) → F.Whole x bytes → (changed F f).Whole (f x) bytes
changed_whole F f x bytes w = record { value = x; front = bytes; rest = []; first = w; second = (refl, refl); whole = sym (append-nil bytes) }

-- ---- bytes and numbers

pub times_byte_whole : (bytes : List ℕ) → (times (length bytes) byte).Whole bytes bytes
times_byte_whole [] = (refl, refl)
times_byte_whole (x ∷ bytes) =
    followed_whole byte (λ y. changed (times (length bytes) byte) (λ ys. y ∷ ys)) x (x ∷ bytes) (x ∷ []) bytes refl
    (changed_whole (times (length bytes) byte) (λ ys. x ∷ ys) bytes bytes (times_byte_whole bytes))

-- what is read of a number's bytes
abbrev pub value_after : ℕ → ℕ → ℕ → ℕ
value_after m zero n = m
value_after m (suc size) n = value_after (256 * m + byte_at size n) size n

number_after_whole : (m size n : ℕ) → (number_after m size).Whole (value_after m size n) (bytes_high_first size n)
number_after_whole m zero n = (refl, refl)
number_after_whole m (suc size) n =
    followed_whole byte (λ x. number_after (256 * m + x) size) (byte_at size n) _ (byte_at size n ∷ []) (bytes_high_first size n) refl
    (number_after_whole (256 * m + byte_at size n) size n)

pub number_whole : (size n : ℕ) → value_after 0 size n ≡ n → (number size).Whole n (bytes_high_first size n)
number_whole size n e = whole_at (number size) _ n _ _ e refl (number_after_whole 0 size n)

-- a number of one byte is that byte
pub number_one : (n : ℕ) → (number 1).Whole n (n ∷ [])
number_one n =
    let value : 0 + n ≡ n = omega arith in
    whole_at (number 1) (0 + n) n (n ∷ []) (n ∷ []) value refl (followed_whole byte (λ x. number_after (0 + x) 0) n (0 + n) (n ∷ []) [] refl (refl, refl))

-- a number of parts, at a level that may have some or where there are none
abbrev pub MayCount : Bool → ℕ → Type 0
MayCount true n = Unit {0}
MayCount false n = n ≡ 0

may_pass : (may : Bool) (n size : ℕ) → MayCount may n → cond may true (byte_at size n == 0) ≡ true
may_pass true n size m = refl
may_pass false n size m = eq-eqb _ 0 (ap (byte_at size) m ∙ byte_of_zero size)
  where
    byte_of_zero : (size : ℕ) → byte_at size 0 ≡ 0
    byte_of_zero zero = refl
    byte_of_zero (suc size) = ap (λ (x : ℕ). x % 256) (zero-div (256 ^ suc size))

count_after_whole : (may : Bool) (m size n : ℕ) → MayCount may n → (count_after may m size).Whole (value_after m size n) (bytes_high_first size n)
count_after_whole may m zero n h = (refl, refl)
count_after_whole may m (suc size) n h =
    followed_whole (tested byte (λ x. cond may true (x == 0)) (λ term x. Depth term)) (λ x. count_after may (256 * m + x) size) (byte_at size n) _
    (byte_at size n ∷ []) (bytes_high_first size n)
    (refl, may_pass may n size h) (count_after_whole may (256 * m + byte_at size n) size n h)

pub count_whole : (may : Bool) (size n : ℕ) → MayCount may n → value_after 0 size n ≡ n → (count_after may 0 size).Whole n (bytes_high_first size n)
count_whole may size n h e = whole_at (count_after may 0 size) _ n _ _ e refl (count_after_whole may 0 size n h)

pub value-1 : (n : ℕ) → n < 2 ^ 8 → value_after 0 1 n ≡ n
value-1 n h = omega arith

pub value-2 : (n : ℕ) → n < 2 ^ 16 → value_after 0 2 n ≡ n
value-2 n h = omega arith

pub value-4 : (n : ℕ) → n < 2 ^ 32 → value_after 0 4 n ≡ n
value-4 n h = omega arith

pub sized_whole : (size : ℕ) (bytes : List ℕ) → value_after 0 size (length bytes) ≡ length bytes
    → (sized size).Whole bytes (bytes_high_first size (length bytes) ++ bytes)
sized_whole size bytes e =
    followed_whole (number size) (λ n. times n byte) (length bytes) bytes (bytes_high_first size (length bytes)) bytes (number_whole size (length bytes) e)
    (times_byte_whole bytes)

-- ---- magnitudes

none_left : (limit weight seen m : ℕ) (bytes : List ℕ) → m ≡ 0 → bytes ≡ [] → (magnitude_after limit weight seen (length bytes)).Whole (seen + weight * m) bytes
none_left limit weight seen m bytes z e =
    let value : seen + weight * m ≡ seen = ap (λ (x : ℕ). seen + weight * x) z ∙ omega arith in
    subst (λ b. (magnitude_after limit weight seen (length b)).Whole (seen + weight * m) b) (sym e) (value, refl)

-- the value so far, and what the other bytes weigh, is that of all
split_weight : (weight seen m : ℕ) → (seen + weight * (m % 256)) + (256 * weight) * (m / 256) ≡ seen + weight * m
split_weight weight seen m =
    let parts : m ≡ 256 * (m / 256) + m % 256 = omega arith in
    let weighed : weight * m ≡ weight * (256 * (m / 256) + m % 256) = ap (λ (x : ℕ). weight * x) parts in
    omega arith

pub magnitude_whole : (most limit weight seen m : ℕ) → m < 256 ^ most → seen + weight * m ≤ limit
    → (magnitude_after limit weight seen (length (low_bytes most m))).Whole (seen + weight * m) (low_bytes most m)
magnitude_whole zero limit weight seen m fits low = let z : m ≡ 0 = omega arith in none_left limit weight seen m [] z refl
magnitude_whole (suc most) limit weight seen m fits low =
    ⊎_elim (λ z. none_left limit weight seen m (low_bytes (suc most) m) z (ap (low_bytes (suc most)) z))
    (λ some.
    let grown = pow-succ' 256 most in
    let split = split_weight weight seen m in
    let here : seen + weight * (m % 256) ≤ limit = omega arith in
    let rest = magnitude_whole most limit (256 * weight) (seen + weight * (m % 256)) (m / 256) (omega arith) (omega arith) in
    subst (λ b. (magnitude_after limit weight seen (length b)).Whole (seen + weight * m) b) (sym (low_bytes-more most m (omega arith)))
    (followed_whole (tested byte (λ x. nat_le (seen + weight * x) limit) (λ term x. IntegerRange term))
    (λ x. magnitude_after limit (256 * weight) (seen + weight * x) (length (low_bytes most (m / 256)))) (m % 256) (seen + weight * m) (m % 256 ∷ [])
    (low_bytes most (m / 256))
    (refl, le-leb (seen + weight * (m % 256)) limit here)
    (whole_at (magnitude_after limit (256 * weight) (seen + weight * (m % 256)) (length (low_bytes most (m / 256)))) _
    (seen + weight * m) _ _ split refl rest)))
    (cases_eq m 0)

pub magnitude_bytes_whole : (limit m : ℕ) → m < 2 ^ 128 → m ≤ limit → (magnitude_after limit 1 0 (length (magnitude_bytes m))).Whole m (magnitude_bytes m)
unfolding magnitude_bytes
magnitude_bytes_whole limit m fits low =
    let value : 0 + 1 * m ≡ m = omega arith in
    whole_at (magnitude_after limit 1 0 (length (low_bytes 16 m))) (0 + 1 * m) m (low_bytes 16 m) (low_bytes 16 m) value refl
    (magnitude_whole 16 limit 1 0 m (omega arith) (omega arith))

pub big_whole : (sign m : ℕ) (bytes : List ℕ) → (magnitude_after (limit sign) 1 0 (length bytes)).Whole m bytes
    → (big_integer 1).Whole (integer (signed sign m)) (length bytes ∷ sign ∷ bytes)
big_whole sign m bytes w =
    followed_whole (number 1) (λ n. followed byte (λ sign. changed (magnitude_after (limit sign) 1 0 n) (λ m. integer (signed sign m)))) (length bytes)
    (integer (signed sign m)) (length bytes ∷ []) (sign ∷ bytes)
    (number_one (length bytes))
    (followed_whole byte (λ sign. changed (magnitude_after (limit sign) 1 0 (length bytes)) (λ m. integer (signed sign m))) sign (integer (signed sign m))
    (sign ∷ []) bytes refl
    (changed_whole (magnitude_after (limit sign) 1 0 (length bytes)) (λ m. integer (signed sign m)) m bytes w))

-- ---- terms one after another

pub times_whole : {A : Type 0} (F : Format A) (spelled : A → List ℕ) (xs : List A) → AllByRecursion (λ x. F.Whole x (spelled x)) xs
    → (times (length xs) F).Whole xs (flat_map spelled xs)
times_whole F spelled [] all = (refl, refl)
times_whole F spelled (x ∷ xs) all =
    followed_whole F (λ y. changed (times (length xs) F) (λ ys. y ∷ ys)) x (x ∷ xs) (spelled x) (flat_map spelled xs) all.0
    (changed_whole (times (length xs) F) (λ ys. x ∷ ys) xs (flat_map spelled xs) (times_whole F spelled xs all.1))
