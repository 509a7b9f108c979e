-- Bytes that spell the tokens of what is printed, one after the other and with no blanks between.
use Rattle.std.proofs.Common.{◌≡◌, ℕ, false, List, [], ◌∷◌, ◌++◌, refl, sym, subst, append_assoc, arith}
use Rattle.std.proofs.lemmas.Bool.Decides.{nat_tests}
use Rattle.std.specs.Char.{is_ascii_digit}
use Rattle.text_model.specs.declared.mark.Mark.{Mark}
use Rattle.text_model.specs.declared.mark.Mark.TheVariants.{Comma}
use Rattle.text_model.specs.Token.{Token, mark, is_name_character, IsToken, mark_bytes}
use Rattle.text_model.specs.Characters.{EndsBefore}
use Rattle.text_model.specs.Spelling.{IsSpelled, Skips, Spells}
use Rattle.text_model.specs.Grammar.{Behind, Closes}

-- what may stand behind a name or a number
abbrev pub IsApart : List ℕ → Type 0
IsApart rest = EndsBefore is_name_character rest

not_digit : (x : ℕ) → is_name_character x ≡ false → is_ascii_digit x ≡ false
not_digit x e = grind (arith, nat_tests)

pub apart_digits : (rest : List ℕ) → IsApart rest → EndsBefore is_ascii_digit rest
apart_digits [] a = tt
apart_digits (x ∷ rest) a = not_digit x a

-- What some tokens are to others behind them, and bytes in front of the rest that spell such tokens.
abbrev pub Shown : (List Token → List Token → Type 0) → List ℕ → List ℕ → Type 0
Shown Is bytes rest = (tokens : List Token) × Spells tokens (bytes ++ rest) rest × ((behind : List Token) → Is (tokens ++ behind) behind)

-- bytes of what ends in any token
abbrev pub Prints : (List Token → List Token → Type 0) → List ℕ → Type 0
Prints Is bytes = (rest : List ℕ) → IsApart rest → Shown Is bytes rest

-- bytes of what begins and ends in a mark
pub record Follows (Is : List Token → List Token → Type 0) (bytes : List ℕ) : Type 0 where
  pub apart : (rest : List ℕ) → IsApart (bytes ++ rest)
  pub shown : (rest : List ℕ) → Shown Is bytes rest

-- ---- tokens

skips_none : (bytes : List ℕ) → Skips bytes bytes
skips_none bytes = ([], record { gaps = []; each_one = tt; whole = refl }, refl)

pub one_shown : (token : Token) (Is : List Token → List Token → Type 0) (bytes rest : List ℕ) → IsToken token → IsSpelled token (bytes ++ rest) rest
    → ((behind : List Token) → Is (token ∷ behind) behind) → Shown Is bytes rest
one_shown token Is bytes rest valid spelled is = (token ∷ [], (bytes ++ rest, rest, skips_none (bytes ++ rest), (valid, spelled), refl), is)

pub shown_as : (Is Other : List Token → List Token → Type 0) (bytes rest : List ℕ) → ((tokens behind : List Token) → Is tokens behind → Other tokens behind)
    → Shown Is bytes rest → Shown Other bytes rest
shown_as Is Other bytes rest is_other (tokens, spells, is) = (tokens, spells, λ behind. is_other (tokens ++ behind) behind (is behind))

-- what behind a mark is of one kind is with it of another
abbrev pub Begins : Mark → (List Token → List Token → Type 0) → (List Token → List Token → Type 0) → Type 0
Begins m Is Whole = (tokens behind : List Token) → Is tokens behind → Whole (mark m ∷ tokens) behind

pub marked : (m : Mark) (Is Whole : List Token → List Token → Type 0) (bytes rest : List ℕ) → Begins m Is Whole → Shown Is bytes rest
    → Shown Whole (mark_bytes m ++ bytes) rest
marked m Is Whole bytes rest begins (tokens, spells, is) = (
  mark m ∷ tokens,
  ((mark_bytes m ++ bytes) ++ rest, bytes ++ rest, skips_none ((mark_bytes m ++ bytes) ++ rest), (tt, append_assoc (mark_bytes m) bytes rest), spells),
  λ behind. begins (tokens ++ behind) behind (is behind),
)

-- a mark alone
pub closes_shown : (m : Mark) (rest : List ℕ) → Shown (Closes m) (mark_bytes m) rest
closes_shown m rest = one_shown (mark m) (Closes m) (mark_bytes m) rest tt refl (λ behind. refl)

-- ---- one after the other

spells_both : (ts us : List Token) (bytes middle rest : List ℕ) → Spells ts bytes middle → Spells us middle rest → Spells (ts ++ us) bytes rest
spells_both [] us bytes middle rest e s = subst (λ l. Spells us l rest) (sym e) s
spells_both (t ∷ ts) us bytes middle rest (at, behind, skips, stands, more) s =
    (at, behind, skips, stands, spells_both ts us behind middle rest more s)

-- two kinds, one behind the other, are a third
abbrev pub Joins : (List Token → List Token → Type 0) → (List Token → List Token → Type 0) → (List Token → List Token → Type 0) → Type 0
Joins First Second Both = (tokens middle behind : List Token) → First tokens middle → Second middle behind → Both tokens behind

pub joined_shown : (First Second Both : List Token → List Token → Type 0) (first second rest : List ℕ) → Joins First Second Both
    → Shown First first (second ++ rest) → Shown Second second rest → Shown Both (first ++ second) rest
joined_shown First Second Both first second rest joins (ts, s, f) (us, r, g) = (
  ts ++ us,
  subst (λ l. Spells (ts ++ us) l rest) (sym (append_assoc first second rest)) (spells_both ts us (first ++ (second ++ rest)) (second ++ rest) rest s r),
  λ behind. subst (λ l. Both l behind) (sym (append_assoc ts us behind)) (joins (ts ++ (us ++ behind)) (us ++ behind) behind (f (us ++ behind)) (g behind)),
)

-- a part, and what follows it
pub part_shown : (First Second Both : List Token → List Token → Type 0) (first second rest : List ℕ) → Joins First Second Both → Prints First first
    → Follows Second second → Shown Both (first ++ second) rest
part_shown First Second Both first second rest joins p f =
    joined_shown First Second Both first second rest joins (p (second ++ rest) (f.apart rest)) (f.shown rest)

-- a mark, a part, and what follows it
pub marked_follows : (m : Mark) (Is Whole : List Token → List Token → Type 0) (bytes : List ℕ) → ((rest : List ℕ) → IsApart (mark_bytes m ++ rest))
    → Begins m Is Whole → ((rest : List ℕ) → Shown Is bytes rest) → Follows Whole (mark_bytes m ++ bytes)
marked_follows m Is Whole bytes apart begins shown = record {
  apart = λ rest. subst IsApart (sym (append_assoc (mark_bytes m) bytes rest)) (apart (bytes ++ rest));
  shown = λ rest. marked m Is Whole bytes rest begins (shown rest);
}

pub closes_follows : (m : Mark) → ((rest : List ℕ) → IsApart (mark_bytes m ++ rest)) → Follows (Closes m) (mark_bytes m)
closes_follows m apart = record { apart = apart; shown = closes_shown m }

-- an item behind a comma, and what follows it
pub item_follows : {A : Type 0} (Item : A → List Token → List Token → Type 0) (End : List Token → List Token → Type 0) (item : A) (items : List A)
    → (first second : List ℕ) → Prints (Item item) first → Follows (Behind Item End items) second
    → Follows (Behind Item End (item ∷ items)) (44 ∷ (first ++ second))
item_follows Item End item items first second p f =
    marked_follows Comma Both (Behind Item End (item ∷ items)) (first ++ second) (λ rest. refl)
    (λ tokens behind (middle, i, more). (tokens, middle, refl, i, more))
    (λ rest. part_shown (Item item) (Behind Item End items) Both first second rest (λ tokens middle behind i more. (middle, i, more)) p f)
  where
    Both : List Token → List Token → Type 0
    Both tokens behind = (middle : List Token) × Item item tokens middle × Behind Item End items middle behind
