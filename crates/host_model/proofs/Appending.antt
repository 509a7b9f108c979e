-- Writes of one piece after another.
use Rattle.std.proofs.Common.{ℕ, ◌+◌, List, [], ◌++◌, take, drop, Option, Some, None, sym, ap, ◌∙◌, append_assoc, append-nil}
use Rattle.std.proofs.Math.Seq.{take-add}
use Rattle.std.specs.Io.KnownBytes.{Appends}

-- a writer that got the first i bytes, and then n more
pub Appends-take_add : (a b c : Option (List ℕ)) (i n : ℕ) (bytes : List ℕ) → Appends a b (take i bytes) → Appends b c (take n (drop i bytes))
    → Appends a c (take (i + n) bytes)
Appends-take_add None b c i n bytes p q = tt
Appends-take_add (Some x) None c i n bytes p q = absurd p
Appends-take_add (Some x) (Some y) None i n bytes p q = absurd q
Appends-take_add (Some x) (Some y) (Some z) i n bytes p q =
    q ∙ ap (λ l. l ++ take n (drop i bytes)) p ∙ append_assoc x (take i bytes) (take n (drop i bytes)) ∙ ap (λ l. x ++ l) (sym (take-add i n bytes))

-- a writer that got some bytes, and then none
pub Appends-none : (a b c : Option (List ℕ)) (bytes : List ℕ) → Appends a b bytes → Appends b c [] → Appends a c bytes
Appends-none None b c bytes p q = tt
Appends-none (Some x) None c bytes p q = absurd p
Appends-none (Some x) (Some y) None bytes p q = absurd q
Appends-none (Some x) (Some y) (Some z) bytes p q = q ∙ append-nil y ∙ p

pub ruleset kept = (Appends-none)
