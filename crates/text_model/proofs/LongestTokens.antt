-- A token that stands in front of a byte is as long as it can be: no token goes on to the end of the same bytes.
use Rattle.std.proofs.Common.{◌≡◌, ℕ, ◌<◌, Bool, true, false, List, [], ◌∷◌, ◌++◌, length, length-append, refl, ap, ◌∙◌, sym, subst, arith}
use Rattle.std.proofs.lemmas.Bool.{and_parts}
use Rattle.std.specs.Char.{is_ascii_digit, is_ascii_lowercase}
use Rattle.std.specs.List.{list_all}
use Rattle.text_model.specs.Token.{Token, Sort, mark, number, plain, quoted, string, sort_of, mark_bytes, is_name_character, is_plain_atom}
use Rattle.text_model.specs.Characters.{each, EndsBefore, AreCharacters}
use Rattle.text_model.specs.Spelling.{Stands}
use Rattle.text_model.specs.Faults.{Shows}
use Rattle.text_model.specs.Reader.{of_atom, of_string}
use Rattle.text_model.proofs.Comes.{sign}
use Rattle.text_model.proofs.FirstBytes.{shows_first}
use Rattle.text_model.proofs.LongerTokens.{stands_shows}
use Rattle.text_model.proofs.OneMore.{both}
use Rattle.text_model.proofs.TokenStarts.{shows_some}
use Rattle.text_model.proofs.OneReading.{spans_same, characters_same}

one_sort : (sort other : Sort) (bytes : List ℕ) → Shows sort bytes → Shows other bytes → sort ≡ other
one_sort sort other [] s t = absurd (shows_some sort s)
one_sort sort other (x ∷ xs) s t = let first = shows_first sort x xs s in let second = shows_first other x xs t in cc

no_minus : (es rest others : List ℕ) → 0 < length es → each is_ascii_digit es ≡ true → es ++ rest ≡ 45 ∷ others → ⊥
no_minus [] rest others some e same = omega arith
no_minus (d ∷ es) rest others some e same =
    let first : d ≡ 45 = cc in
    let clash : true ≡ false = sym (and_parts (is_ascii_digit d) (each is_ascii_digit es) e).0 ∙ ap is_ascii_digit first in
    cc

numbers_same : (a b : Bool) (ds es u v : List ℕ) → 0 < length ds → 0 < length es → each is_ascii_digit ds ≡ true → each is_ascii_digit es ≡ true
    → sign a ++ (ds ++ u) ≡ sign b ++ (es ++ v) → EndsBefore is_ascii_digit u → EndsBefore is_ascii_digit v → u ≡ v
numbers_same true true ds es u v s t e f same g h =
    let tails : ds ++ u ≡ es ++ v = cc in spans_same is_ascii_digit ds es u v e f tails g h
numbers_same false false ds es u v s t e f same g h = spans_same is_ascii_digit ds es u v e f same g h
numbers_same true false ds es u v s t e f same g h = absurd (no_minus es v (ds ++ u) t f (sym same))
numbers_same false true ds es u v s t e f same g h = absurd (no_minus ds u (es ++ v) s e same)

each_of : (test : ℕ → Bool) (xs : List ℕ) → list_all test xs ≡ true → each test xs ≡ true
each_of test [] e = refl
each_of test (x ∷ xs) e = let parts = and_parts (test x) (list_all test xs) e in both (test x) (each test xs) parts.0 (each_of test xs parts.1)

names_same : (cs ds u v : List ℕ) → is_plain_atom cs ≡ true → is_plain_atom ds ≡ true → cs ++ u ≡ ds ++ v → EndsBefore is_name_character u
    → EndsBefore is_name_character v → u ≡ v
names_same [] ds u v e f same g h = cc
names_same (c ∷ cs) [] u v e f same g h = cc
names_same (c ∷ cs) (d ∷ ds) u v e f same g h =
    let tails : cs ++ u ≡ ds ++ v = cc in
    spans_same is_name_character cs ds u v (each_of is_name_character cs (and_parts (is_ascii_lowercase c) (list_all is_name_character cs) e).1)
    (each_of is_name_character ds (and_parts (is_ascii_lowercase d) (list_all is_name_character ds) f).1) tails g h

behind_same : (token other : Token) (bytes u v : List ℕ) → sort_of token ≡ sort_of other → Stands token bytes u → Stands other bytes v → length u ≡ length v
behind_same (mark m) (mark k) bytes u v e s t =
    let same : m ≡ k = cc in
    omega (arith, ap length s.1, ap length t.1, length-append (mark_bytes m) u, length-append (mark_bytes k) v, ap (λ j. length (mark_bytes j)) same)
behind_same (number z) (number w) bytes u v e s t =
    ap length (numbers_same s.1.minus t.1.minus s.1.digits t.1.digits u v s.1.some t.1.some s.1.decimal t.1.decimal (sym s.1.whole ∙ t.1.whole)
    s.1.longest t.1.longest)
behind_same (plain cs) (plain ds) bytes u v e s t = ap length (names_same cs ds u v s.0.0 t.0.0 (sym s.1.0 ∙ t.1.0) s.1.1 t.1.1)
behind_same (quoted cs) (quoted ds) bytes u v e (is, (inside, opened, are)) (t, (other, begun, those)) =
    let same : inside ≡ other = cc in
    ap length (characters_same of_atom cs ds other u v (subst (λ l. AreCharacters 39 cs l (39 ∷ u)) same are) those)
behind_same (string cs) (string ds) bytes u v e (is, (inside, opened, are)) (t, (other, begun, those)) =
    let same : inside ≡ other = cc in
    ap length (characters_same of_string cs ds other u v (subst (λ l. AreCharacters 34 cs l (34 ∷ u)) same are) those)
behind_same token other bytes u v e s t = cc

-- no token is as long as the bytes where one stands in front of some of them
pub no_longer_stands : (token longer : Token) (bytes : List ℕ) (x : ℕ) (more : List ℕ) → Stands token bytes (x ∷ more) → Stands longer bytes [] → ⊥
no_longer_stands token longer bytes x more s t =
    omega (
      arith,
      behind_same token longer bytes (x ∷ more) []
          (one_sort (sort_of token) (sort_of longer) bytes (stands_shows token bytes (x ∷ more) s) (stands_shows longer bytes [] t)) s t,
    )
