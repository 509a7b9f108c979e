-- Reads of one piece after another.
use Rattle.std.proofs.Common.{◌≡◌, ◌≤◌, ℕ, ◌+◌, List, ◌++◌, take, drop, length, Option, Some, None, sym, ap, refl, ◌∙◌, append_assoc, subst, arith}
use Rattle.std.proofs.Math.Seq.{take-add}
use Rattle.std.proofs.lemmas.List.{take_at, drop_at, take-take, length-take-le}
use Rattle.std.proofs.lemmas.Slice.{take-put_mid}
use borrow.Rule.Slice.PartMut.{put_mid}
use Rattle.std.specs.Io.KnownBytes.{Consumes}

-- a reader that gave some bytes, and then more
pub Consumes-append : (a b c : Option (List ℕ)) (xs ys : List ℕ) → Consumes a b xs → Consumes b c ys → Consumes a c (xs ++ ys)
Consumes-append None b c xs ys p q = tt
Consumes-append (Some x) None c xs ys p q = absurd p
Consumes-append (Some x) (Some y) None xs ys p q = absurd q
Consumes-append (Some x) (Some y) (Some z) xs ys p q = p ∙ ap (λ l. xs ++ l) q ∙ sym (append_assoc xs ys z)

-- the front of a buffer, of which the part from a on was filled by n bytes more
pub take-filled : (a k n : ℕ) (xs ys : List ℕ) → a ≤ length xs → n ≤ length ys → take (a + n) (put_mid a k xs ys) ≡ take a xs ++ take n ys
take-filled a k n xs ys l m =
    let front = length-take-le a xs l in
    sym (take-take (a + n) (a + length ys) (put_mid a k xs ys) (omega arith)) ∙ ap (take (a + n)) (take-put_mid a k xs ys (a + length ys) refl l)
    ∙ take-add a n (take a xs ++ ys)
    ∙ ap (λ l. l ++ take n (drop a (take a xs ++ ys))) (take_at (take a xs) ys a front) ∙ ap (λ l. take a xs ++ take n l) (drop_at (take a xs) ys a front)

pub Consumes-filled : (a b c : Option (List ℕ)) (i k n : ℕ) (xs ys : List ℕ) → i ≤ length xs → n ≤ length ys → Consumes a b (take i xs)
    → Consumes b c (take n ys) → Consumes a c (take (i + n) (put_mid i k xs ys))
Consumes-filled a b c i k n xs ys l m p q = subst (λ bs. Consumes a c bs) (sym (take-filled i k n xs ys l m))
    (Consumes-append a b c (take i xs) (take n ys) p q)
