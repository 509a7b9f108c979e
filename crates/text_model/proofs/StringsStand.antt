-- A string stands in a text where its characters may.
use Rattle.std.proofs.Common.{◌≡◌, ℕ, Bool, true, false, cond, ◌&&◌, None, Ok, List, [], ◌∷◌, ◌++◌, refl, ap, arith}
use Rattle.std.proofs.lemmas.Bool.{and_parts, or_left}
use Rattle.etf_model.specs.Layout.{integers}
use Rattle.text_model.specs.Token.{Token, string, a_string}
use Rattle.text_model.specs.Grammar.{strict, formal}
use Rattle.text_model.specs.Nest.{Nest, fresh, at_segment, wants, wants_segment, refusal, refusal_of, may_hold, string_refusal, leaf, take_bytes}
use Rattle.text_model.specs.Located.{tokens_of, take_all}
use Rattle.text_model.specs.Fronts.{MayBegin}
use Rattle.text_model.proofs.Refused.{leaf_is, string_parts, string_holds}
use Rattle.text_model.proofs.MayStand.{more_begins, more_taken}

string_by : (n : Nest) (at : ℕ) (cs : List ℕ) (b : Bool) → cond b None (refusal strict n) ≡ None → may_hold strict n ≡ true
    → (m : Nest) × (cond b (take_bytes (formal 256) n at cs) (leaf (formal 256) n at (integers cs) (string_refusal (formal 256) n cs)) ≡ Ok m)
string_by n at cs true e h = (_, refl)
string_by n at cs false e h = (_, ap (leaf (formal 256) n at (integers cs)) (passes cs))
  where
    passes : (cs : List ℕ) → string_refusal (formal 256) n cs ≡ None
    passes [] = e
    passes (c ∷ cs) = string_holds (refusal (formal 256) n) (may_hold (formal 256) n) e h

-- a string with characters may stand by its form where they may
pub held_begins : (ps : List (ℕ × Token)) (n : Nest) (cs : List ℕ) → take_all (formal 256) fresh ps ≡ Ok n → refusal_of strict n a_string ≡ None
    → may_hold strict n ≡ true → MayBegin (formal 256) (tokens_of ps ++ string cs ∷ [])
held_begins ps n cs e f h =
    let taken = string_by n 0 cs (wants_segment n) f h in
    more_begins (formal 256) refl (omega arith) ps n taken.0 0 (string cs) e taken.1

character_by : (n m : Nest) (at c : ℕ) (cs : List ℕ) (b : Bool) → (wants n.place && at_segment n.begun) ≡ b
    → cond b (take_bytes (formal 256) n at (c ∷ cs)) (leaf (formal 256) n at (integers (c ∷ cs)) (string_refusal (formal 256) n (c ∷ cs))) ≡ Ok m
    → may_hold strict n ≡ true
character_by n m at c cs true s e = or_left (at_segment n.begun) _ (and_parts (wants n.place) (at_segment n.begun) s).1
character_by n m at c cs false s e =
    (string_parts (refusal (formal 256) n) (may_hold (formal 256) n)
    (leaf_is (formal 256) n at (integers (c ∷ cs)) (string_refusal (formal 256) n (c ∷ cs)) m e).0).1

-- and it may not where they may not
pub begins_held : (ps : List (ℕ × Token)) (n : Nest) (c : ℕ) (cs : List ℕ) → take_all (formal 256) fresh ps ≡ Ok n
    → MayBegin (formal 256) (tokens_of ps ++ string (c ∷ cs) ∷ []) → may_hold strict n ≡ true
begins_held ps n c cs e b =
    let taken = more_taken (formal 256) ps n 0 (string (c ∷ cs)) e b in character_by n taken.0 0 c cs (wants_segment n) refl taken.1
