-- A token begins with neither white space nor a comment.
use Rattle.std.proofs.Common.{◌≡◌, ℕ, ◌<◌, Bool, true, false, ◌||◌, ◌==◌, Some, None, List, [], ◌∷◌, ◌++◌, length, length-append, refl, ap, inl, inr, arith}
use Rattle.std.proofs.lemmas.Bool.Decides.{nat_tests}
use Rattle.text_model.specs.declared.mark.Mark.{Mark}
use Rattle.text_model.specs.declared.mark.Mark.TheVariants.{OpenTuple}
use Rattle.text_model.specs.Token.{Sort, a_mark, a_number, a_plain, a_quoted, a_string, mark_bytes, is_plain_atom}
use Rattle.text_model.specs.Spelling.{is_white}
use Rattle.text_model.specs.Sentence.{ends}
use Rattle.text_model.specs.Faults.{Shows}
use Rattle.text_model.proofs.FirstBytes.{first_shown, shows_first}

pub mark_some : (m : Mark) → 0 < length (mark_bytes m)
mark_some OpenTuple = omega arith
mark_some other = omega arith

blank_shown : (x : ℕ) → (is_white x || x == 37) ≡ true → first_shown x ≡ None
blank_shown x e = grind (arith, nat_tests)

-- a byte that shows a sort is neither white space nor begins a comment
pub first_begins : (x : ℕ) (rest : List ℕ) (sort : Sort) → first_shown x ≡ Some sort → ends false (x ∷ rest) ≡ Some false
first_begins x rest sort f = by_blank (is_white x || x == 37) refl
  where
    by_blank : (b : Bool) → (is_white x || x == 37) ≡ b → Some b ≡ Some false
    by_blank true e = let none = blank_shown x e in cc
    by_blank false e = refl

pub shows_some : (sort : Sort) → Shows sort [] → ⊥
shows_some (a_mark m) s = absurd (omega (arith, ap length s.1, length-append (mark_bytes m) s.0, mark_some m))
shows_some a_number (d, rest, e, inl f) = cc
shows_some a_number (d, rest, e, inr f) = cc
shows_some a_plain (c, rest, e, f) = cc
shows_some a_quoted s = let e = s.1 in cc
shows_some a_string s = let e = s.1 in cc

-- what a token begins with is not empty
pub front_some : (sort : Sort) (front : List ℕ) → Shows sort (front ++ []) → 0 < length front
front_some sort [] s = absurd (shows_some sort s)
front_some sort (x ∷ front) s = omega arith

-- a token begins with neither white space nor a comment
pub shows_begins : (sort : Sort) (bytes : List ℕ) → Shows sort bytes → ends false bytes ≡ Some false
shows_begins sort [] s = absurd (shows_some sort s)
shows_begins sort (x ∷ xs) s = first_begins x xs sort (shows_first sort x xs s)

pub mark_begins : (m : Mark) → ends false (mark_bytes m) ≡ Some false
mark_begins OpenTuple = refl
mark_begins other = refl

pub begins_some : (bytes : List ℕ) → ends false bytes ≡ Some false → 0 < length bytes
begins_some [] e = cc
begins_some (x ∷ bytes) e = omega arith

pub name_some : (cs : List ℕ) → is_plain_atom cs ≡ true → 0 < length cs
name_some [] e = cc
name_some (c ∷ cs) e = omega arith
