-- Lists that are printed part by part, with commas between the parts.
use Rattle.std.proofs.Common.{◌≡◌, ℕ, zero, suc, ◌+◌, ◌<◌, ◌≤◌, List, [], ◌∷◌, ◌++◌, drop, length, Some, slice_get, flat_map, refl, ap, ◌∙◌, sym}
use Rattle.std.proofs.Common.{append_assoc, append-nil, arith}
use Rattle.std.specs.List.{join_by}

-- ---- a comma behind each part but the last

joined_behind : {X : Type 0} (f : X → List ℕ) (sep : List ℕ) (xs : List X) (y : X)
    → flat_map (λ x. sep ++ f x) (xs ++ y ∷ []) ≡ sep ++ join_by f sep (xs ++ y ∷ [])
joined_behind f sep [] y = append_assoc sep (f y) []
joined_behind f sep (x ∷ xs) y = append_assoc sep (f x) (flat_map (λ z. sep ++ f z) (xs ++ y ∷ []))

pub joined-last : {X : Type 0} (f : X → List ℕ) (sep : List ℕ) (xs : List X) (y : X) → join_by f sep (xs ++ y ∷ []) ≡ flat_map (λ x. f x ++ sep) xs ++ f y
joined-last f sep [] y = append-nil (f y)
joined-last f sep (x ∷ xs) y =
    ap (λ l. f x ++ l) (joined_behind f sep xs y ∙ ap (λ l. sep ++ l) (joined-last f sep xs y))
    ∙ sym (append_assoc (f x ++ sep) (flat_map (λ z. f z ++ sep) xs) (f y) ∙ append_assoc (f x) sep (flat_map (λ z. f z ++ sep) xs ++ f y))

-- ---- a comma in front of each part but the first

-- what is left from a place on
abbrev pub left_of : {X : Type 0} → (X → List ℕ) → ℕ → List X → List ℕ
left_of f zero xs = join_by f (44 ∷ []) xs
left_of f (suc n) xs = flat_map (λ x. 44 ∷ f x) (drop (suc n) xs)

drop_at : {X : Type 0} (n : ℕ) (xs : List X) (x : X) → slice_get xs n ≡ Some x → drop n xs ≡ x ∷ drop (suc n) xs
drop_at n [] x e = cc
drop_at zero (y ∷ xs) x e = let same : y ≡ x = cc in ap (λ z. z ∷ xs) same
drop_at (suc n) (y ∷ xs) x e = drop_at n xs x e

left_of-first : {X : Type 0} (f : X → List ℕ) (xs : List X) (x : X) → slice_get xs 0 ≡ Some x → left_of f 0 xs ≡ f x ++ left_of f 1 xs
left_of-first f [] x e = cc
left_of-first f (y ∷ xs) x e = let same : y ≡ x = cc in ap (λ z. f z ++ flat_map (λ w. 44 ∷ f w) xs) same

left_of-next : {X : Type 0} (f : X → List ℕ) (n : ℕ) (xs : List X) (x : X) → slice_get xs (suc n) ≡ Some x
    → left_of f (suc n) xs ≡ 44 ∷ (f x ++ left_of f (suc (suc n)) xs)
left_of-next f n xs x e = ap (flat_map (λ w. 44 ∷ f w)) (drop_at (suc n) xs x e)

none_behind : {X : Type 0} (n : ℕ) → drop {A = X} n [] ≡ []
none_behind zero = refl
none_behind (suc n) = refl

past_end : {X : Type 0} (n : ℕ) (xs : List X) → length xs ≤ n → drop n xs ≡ []
past_end n [] h = none_behind n
past_end zero (x ∷ xs) h = absurd (omega arith)
past_end (suc n) (x ∷ xs) h = past_end n xs (omega arith)

-- past the last place nothing is left
pub left_of-end : {X : Type 0} (f : X → List ℕ) (n : ℕ) (xs : List X) → length xs ≤ n → left_of f n xs ≡ []
left_of-end f zero [] h = refl
left_of-end f zero (x ∷ xs) h = absurd (omega arith)
left_of-end f (suc n) xs h = ap (flat_map (λ x. 44 ∷ f x)) (past_end (suc n) xs h)

-- a part is printed: the first one, and with a comma each one after it
pub first_part : {X : Type 0} (f : X → List ℕ) (out mid new : List ℕ) (n : ℕ) (xs : List X) (x : X) → n ≡ 0 → slice_get xs n ≡ Some x → mid ≡ out
    → new ≡ mid ++ f x → new ++ left_of f (n + 1) xs ≡ out ++ left_of f n xs
first_part f out mid new zero xs x z e m h =
    ap (λ l. l ++ left_of f 1 xs) (h ∙ ap (λ l. l ++ f x) m) ∙ append_assoc out (f x) (left_of f 1 xs)
    ∙ ap (λ l. out ++ l) (sym (left_of-first f xs x e))
first_part f out mid new (suc n) xs x z e m h = absurd (omega arith)

pub next_part : {X : Type 0} (f : X → List ℕ) (out mid new : List ℕ) (n : ℕ) (xs : List X) (x : X) → 0 < n → slice_get xs n ≡ Some x → mid ≡ out ++ 44 ∷ []
    → new ≡ mid ++ f x → new ++ left_of f (n + 1) xs ≡ out ++ left_of f n xs
next_part f out mid new zero xs x z e m h = absurd (omega arith)
next_part f out mid new (suc n) xs x z e m h =
    let more : suc n + 1 ≡ suc (suc n) = omega arith in
    ap (λ k. new ++ left_of f k xs) more
    ∙ ap (λ l. l ++ left_of f (suc (suc n)) xs) (h ∙ ap (λ l. l ++ f x) m)
    ∙ append_assoc (out ++ 44 ∷ []) (f x) (left_of f (suc (suc n)) xs)
    ∙ append_assoc out (44 ∷ []) (f x ++ left_of f (suc (suc n)) xs)
    ∙ ap (λ l. out ++ l) (sym (left_of-next f n xs x e))
