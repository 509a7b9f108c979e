-- Terms in front of some bytes one behind another, and the script of the bytes behind them. This project's own.
use Rattle.std.specs.Prelude.{◌≡◌, ℕ, ◌+◌, Bool, List, [], ◌∷◌, ◌++◌, drop}
use Rattle.std.proofs.Common.{refl, ap, ◌∙◌, sym, subst, zero-add, add_assoc}
use Rattle.text_model.specs.Sentence.{IsNext}
use Rattle.text_model.specs.Script.{Rest, blank, may_go_on, fault, moved, Placed, IsScript}

-- these terms stand in front, one behind another
abbrev pub AreNext : Bool → List ℕ → List Placed → Type 0
AreNext finished bytes [] = Unit {0}
AreNext finished bytes (first ∷ others) = IsNext finished bytes first.term first.bytes × AreNext finished (drop first.bytes bytes) others

-- the bytes behind these terms
abbrev pub behind : List Placed → List ℕ → List ℕ
behind [] bytes = bytes
behind (first ∷ others) bytes = behind others (drop first.bytes bytes)

-- the number of bytes of their texts
abbrev pub bytes_of : List Placed → ℕ
bytes_of [] = 0
bytes_of (first ∷ others) = first.bytes + bytes_of others

-- ---- what stands behind, with its offset counted from another byte

pub moved-none : (rest : Rest) → moved 0 rest ≡ rest
moved-none blank = refl
moved-none may_go_on = refl
moved-none (fault offset why) = ap (λ n. fault n why) (zero-add offset)

pub moved-both : (m n : ℕ) (rest : Rest) → moved m (moved n rest) ≡ moved (m + n) rest
moved-both m n blank = refl
moved-both m n may_go_on = refl
moved-both m n (fault offset why) = ap (λ k. fault k why) (sym (add_assoc m n offset))

-- ---- terms behind terms

pub AreNext-append : (finished : Bool) (bytes : List ℕ) (ts us : List Placed) → AreNext finished bytes ts → AreNext finished (behind ts bytes) us
    → AreNext finished bytes (ts ++ us)
AreNext-append finished bytes [] us n m = m
AreNext-append finished bytes (t ∷ ts) us n m = (n.0, AreNext-append finished (drop t.bytes bytes) ts us n.1 m)

pub behind-append : (bytes : List ℕ) (ts us : List Placed) → behind (ts ++ us) bytes ≡ behind us (behind ts bytes)
behind-append bytes [] us = refl
behind-append bytes (t ∷ ts) us = behind-append (drop t.bytes bytes) ts us

pub bytes_of-append : (ts us : List Placed) → bytes_of (ts ++ us) ≡ bytes_of ts + bytes_of us
bytes_of-append [] us = sym (zero-add (bytes_of us))
bytes_of-append (t ∷ ts) us = ap (λ n. t.bytes + n) (bytes_of-append ts us) ∙ sym (add_assoc t.bytes (bytes_of ts) (bytes_of us))

-- ---- the script of what stands behind them

pub AreNext-script : (finished : Bool) (bytes : List ℕ) (ts us : List Placed) (rest : Rest) → AreNext finished bytes ts
    → IsScript finished (behind ts bytes) us rest → IsScript finished bytes (ts ++ us) (moved (bytes_of ts) rest)
AreNext-script finished bytes [] us rest n s = subst (λ (r : Rest). IsScript finished bytes us r) (sym (moved-none rest)) s
AreNext-script finished bytes (t ∷ ts) us rest n s =
    (n.0, (moved (bytes_of ts) rest, sym (moved-both t.bytes (bytes_of ts) rest), AreNext-script finished (drop t.bytes bytes) ts us rest n.1 s))

-- behind the terms of a script stands its rest
pub script_rest : (finished : Bool) (bytes : List ℕ) (ts : List Placed) (rest : Rest) → IsScript finished bytes ts rest
    → (after : Rest) × (rest ≡ moved (bytes_of ts) after) × IsScript finished (behind ts bytes) [] after
script_rest finished bytes [] rest s = (rest, sym (moved-none rest), s)
script_rest finished bytes (t ∷ ts) rest s =
    let on = script_rest finished (drop t.bytes bytes) ts s.1.0 s.1.2 in
    (on.0, s.1.1 ∙ ap (moved t.bytes) on.1 ∙ moved-both t.bytes (bytes_of ts) on.0, on.2)
