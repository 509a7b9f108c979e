-- The parts of a bit string, by eights: their numbers tell their bits.
use Rattle.std.proofs.Common.{◌≡◌, ℕ, zero, suc, ◌<◌, ◌≤◌, ◌^◌, pos, Bool, true, false, ◌&&◌, not, cond, nat_lt, List, [], ◌∷◌, length, flat_map}
use Rattle.std.proofs.Common.{refl, ap, sym, arith}
use Rattle.std.proofs.lemmas.Bool.{and_parts, agree_below_at, ltb-true}
use Rattle.text_model.specs.Grammar.{last_bits}
use Rattle.text_model.specs.Printed.{number_of, octets}

-- ---- every list of so many bits

passes : ℕ → (List Bool → Bool) → Bool
passes zero test = test []
passes (suc n) test = passes n (λ bs. test (true ∷ bs)) && passes n (λ bs. test (false ∷ bs))

passes_at : (bs : List Bool) (test : List Bool → Bool) → passes (length bs) test ≡ true → test bs ≡ true
unfolding passes
passes_at [] test e = e
passes_at (true ∷ bs) test e = passes_at bs (λ cs. test (true ∷ cs)) (and_parts (passes (length bs) (λ cs. test (true ∷ cs))) _ e).0
passes_at (false ∷ bs) test e = passes_at bs (λ cs. test (false ∷ cs)) (and_parts (passes (length bs) (λ cs. test (true ∷ cs))) _ e).1

same_bits : List Bool → List Bool → Bool
same_bits [] [] = true
same_bits (b ∷ bs) (c ∷ cs) = cond b c (not c) && same_bits bs cs
same_bits bs cs = false

bits_same : (bs cs : List Bool) → same_bits bs cs ≡ true → bs ≡ cs
unfolding same_bits
bits_same [] [] e = refl
bits_same [] (c ∷ cs) e = cc
bits_same (b ∷ bs) [] e = cc
bits_same (true ∷ bs) (true ∷ cs) e = ap (λ l. true ∷ l) (bits_same bs cs e)
bits_same (true ∷ bs) (false ∷ cs) e = cc
bits_same (false ∷ bs) (true ∷ cs) e = cc
bits_same (false ∷ bs) (false ∷ cs) e = ap (λ l. false ∷ l) (bits_same bs cs e)

-- the number has these bits last, and no others
tells : ℕ → List Bool → Bool
tells n bs = same_bits (last_bits n (pos (number_of bs))) bs && nat_lt (number_of bs) (2 ^ n)

all_tell : (n : ℕ) → n < 9 → passes n (tells n) ≡ true
unfolding passes same_bits tells
all_tell n h = agree_below_at (λ k. passes k (tells k)) (λ k. true) 9 n refl h

pub bits_told : (bs : List Bool) → length bs ≤ 8 → (bs ≡ last_bits (length bs) (pos (number_of bs))) × (number_of bs < 2 ^ length bs)
unfolding tells
bits_told bs h =
    let p = and_parts (same_bits (last_bits (length bs) (pos (number_of bs))) bs) _ (passes_at bs (tells (length bs)) (all_tell (length bs) (omega arith))) in
    (sym (bits_same _ bs p.0), ltb-true (number_of bs) (2 ^ length bs) p.1)

-- ---- by eights

-- eight bits each, and 1 to 8 in the last part
abbrev pub AreOctets : List (List Bool) → Type 0
AreOctets [] = Unit {0}
AreOctets (bs ∷ []) = (1 ≤ length bs) × (length bs ≤ 8)
AreOctets (bs ∷ cs ∷ more) = (length bs ≡ 8) × AreOctets (cs ∷ more)

octet_first : (bs : List Bool) (more : List (List Bool)) → length bs ≡ 8 → AreOctets more → AreOctets (bs ∷ more)
octet_first bs [] e are = (omega arith, omega arith)
octet_first bs (cs ∷ more) e are = (e, are)

pub octets_are : (bs : List Bool) → AreOctets (octets bs)
octets_are [] = tt
octets_are (a ∷ b ∷ c ∷ d ∷ e ∷ f ∷ g ∷ h ∷ bs) = octet_first (a ∷ b ∷ c ∷ d ∷ e ∷ f ∷ g ∷ h ∷ []) (octets bs) refl (octets_are bs)
octets_are bs = (omega arith, omega arith)

pub octets_whole : (bs : List Bool) → flat_map (λ cs. cs) (octets bs) ≡ bs
octets_whole [] = refl
octets_whole (a ∷ b ∷ c ∷ d ∷ e ∷ f ∷ g ∷ h ∷ bs) = ap (λ l. a ∷ b ∷ c ∷ d ∷ e ∷ f ∷ g ∷ h ∷ l) (octets_whole bs)
octets_whole bs = refl
