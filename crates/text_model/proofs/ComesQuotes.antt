-- A byte in quotes: one more character, the first byte of one, and the quote that closes.
use Rattle.std.proofs.Common.{◌≡◌, ◌≢◌, ℕ, ◌+◌, ◌<◌, Bool, true, false, cond, ◌==◌, nat_lt, List, [], ◌∷◌, ◌++◌, length, length-append, Option, Some}
use Rattle.std.proofs.Common.{None, eqb-true, eq-eqb, ltb-true, ltb-false, refl, ap, ◌∙◌, sym, subst, inl, inr, append_assoc, arith}
use Rattle.std.specs.Char.{IsScalar, encode_utf8}
use Rattle.std.specs.Str.{all_scalars}
use Rattle.text_model.specs.declared.fault.TextWhy.{TextWhy}
use Rattle.text_model.specs.declared.fault.TextWhy.TheVariants.{BadToken, Depth}
use Rattle.text_model.specs.Characters.{IsCharacter, AreCharacters}
use Rattle.text_model.specs.Spelling.{Stands}
use Rattle.text_model.specs.Grammar.{strict}
use Rattle.text_model.specs.Nest.{Nest, refusal_of, may_hold, take}
use Rattle.text_model.specs.Reader.{Quotes, of_atom, of_string, Sequence, whole, part, wrong, sequence, may_have, pushed, push, sequence_led}
use Rattle.text_model.specs.Reader.{token_of, quote_of, may_escape, begin_character}
use Rattle.text_model.proofs.Comes.{IsGoing, sort_in, Holds, IsInQuotes}
use Rattle.text_model.proofs.ComesRows.{Row, full_row, full_escape_row, sequence_row, IsInPlace, Leads}
use Rattle.text_model.proofs.ComesTokens.{by_test, before_more}
use Rattle.text_model.proofs.ComesLeads.{token_refused, token_leads}
use Rattle.text_model.proofs.OneMore.{scalars_push, characters_push}
use Rattle.text_model.proofs.Sequences.{IsGrown, character_of_sequence, wrong_stays}

-- a byte more of the next character
pub quotes_more : (p : List ℕ) (n : Nest) (start : ℕ) (q : Quotes) (cs pending : List ℕ) (x : ℕ) → IsGoing n → IsInQuotes p n start q cs pending
    → IsInQuotes (p ++ x ∷ []) n start q cs (pending ++ x ∷ [])
quotes_more p n start q cs pending x going i = record {
  inside = i.inside ++ x ∷ [];
  before = before_more p n start x (quote_of q ∷ i.inside) going i.before;
  characters = λ more.
      subst (λ l. AreCharacters (quote_of q) cs l ((pending ++ x ∷ []) ++ more)) (sym (append_assoc i.inside (x ∷ []) more))
      (subst (λ l. AreCharacters (quote_of q) cs (i.inside ++ x ∷ more) l) (sym (append_assoc pending (x ∷ []) more)) (i.characters (x ∷ more)));
  scalars = i.scalars;
  hold = i.hold;
  in_place = i.in_place;
}

-- ---- one more character

pub some_test : (b : Bool) (why : TextWhy) → cond b None (Some why) ≡ None → b ≡ true
some_test true why e = refl
some_test false why e = cc

holds_push : (n : Nest) (q : Quotes) (cs : List ℕ) (c : ℕ) → may_have n q cs ≡ None → Holds n q (cs ++ c ∷ [])
holds_push n of_atom cs c e =
    let fewer : length cs < 255 = ltb-true (length cs) 255 (some_test (nat_lt (length cs) 255) BadToken e) in
    omega (arith, length-append cs (c ∷ []))
holds_push n of_string cs c e = inr (some_test (may_hold strict n) Depth e)

-- a whole character in front of more bytes
pub quotes_push : (p : List ℕ) (n : Nest) (start : ℕ) (q : Quotes) (cs pending rest : List ℕ) (c : ℕ) → IsInQuotes p n start q cs pending → IsScalar c
    → ((more : List ℕ) → IsCharacter (quote_of q) c (pending ++ more) (rest ++ more)) → may_have n q cs ≡ None → IsInQuotes p n start q (cs ++ c ∷ []) rest
quotes_push p n start q cs pending rest c i scalar is e = record {
  inside = i.inside;
  before = i.before;
  characters = λ more. characters_push (quote_of q) cs c (i.inside ++ more) (pending ++ more) (rest ++ more) (i.characters more) (is more);
  scalars = scalars_push cs c i.scalars scalar;
  hold = holds_push n q cs c e;
  in_place = i.in_place;
}

push_by : (p : List ℕ) (n : Nest) (start : ℕ) (q : Quotes) (cs pending : List ℕ) (c : ℕ) (o : Option TextWhy) → IsInQuotes p n start q cs pending
    → IsScalar c → ((more : List ℕ) → IsCharacter (quote_of q) c (pending ++ more) more) → may_have n q cs ≡ o → Leads p (pushed n start q cs c o)
push_by p n start q cs pending c None i scalar is e = ([], quotes_push p n start q cs pending [] c i scalar is e, refl)
push_by p n start q cs pending c (Some why) i scalar is e = full_row (record {
  nest = n;
  quotes = q;
  characters = cs;
  pending = pending;
  inside = i;
  one_more = λ more. (c, more, is more);
  refused = e;
})

pub push_leads : (p : List ℕ) (n : Nest) (start : ℕ) (q : Quotes) (cs pending : List ℕ) (c : ℕ) → IsInQuotes p n start q cs pending
    → IsScalar c → ((more : List ℕ) → IsCharacter (quote_of q) c (pending ++ more) more) → Leads p (push n start q cs c)
push_leads p n start q cs pending c i scalar is = push_by p n start q cs pending c (may_have n q cs) i scalar is refl

-- ---- bytes of a character

-- these bytes are no quote that closes, and no backslash
abbrev pub IsPlain : ℕ → List ℕ → Type 0
IsPlain quote bytes = (c : ℕ) → bytes ≡ encode_utf8 c → (c ≢ quote) × (c ≢ 92)

pub sequence_leads : (p : List ℕ) (n : Nest) (start at : ℕ) (q : Quotes) (cs bytes : List ℕ) (s : Sequence) → IsInQuotes p n start q cs bytes
    → IsGrown bytes → 0 < length bytes → IsPlain (quote_of q) bytes → length p ≡ at + length bytes → sequence bytes ≡ s
    → Leads p (sequence_led n start q cs bytes at s)
sequence_leads p n start at q cs bytes (whole c) i grown some plain there e =
    let is = character_of_sequence bytes c e grown in
    push_leads p n start q cs bytes c i is.1
    (λ more. inl (record {
      scalar = is.1;
      no_quote = (plain c is.0).0;
      no_escape = (plain c is.0).1;
      whole = ap (λ l. l ++ more) is.0;
    }))
sequence_leads p n start at q cs bytes part i grown some plain there e = (bytes, i, (refl, e))
sequence_leads p n start at q cs bytes wrong i grown some plain there e = sequence_row (record {
  nest = n;
  start = start;
  quotes = q;
  characters = cs;
  bytes = bytes;
  inside = i;
  some = some;
  there = there;
  bad = wrong_stays bytes e grown;
  reason = refl;
})

pub encode_quote : (q : Quotes) → encode_utf8 (quote_of q) ≡ quote_of q ∷ []
unfolding encode_utf8
encode_quote of_atom = refl
encode_quote of_string = refl

pub quote_scalar : (q : Quotes) → IsScalar (quote_of q)
quote_scalar of_atom = refl
quote_scalar of_string = refl

pub encode_escape : encode_utf8 92 ≡ 92 ∷ []
unfolding encode_utf8
encode_escape = refl

not_equal : (x k c : ℕ) → (x == k) ≡ false → encode_utf8 k ≡ k ∷ [] → x ∷ [] ≡ encode_utf8 c → c ≡ k → ⊥
not_equal x k c t e f same =
    let bytes : x ∷ [] ≡ k ∷ [] = f ∙ ap encode_utf8 same ∙ e in
    let equal : x ≡ k = cc in
    let clash : false ≡ true = sym t ∙ eq-eqb x k equal in
    cc

byte_plain : (q : Quotes) (x : ℕ) → (x == quote_of q) ≡ false → (x == 92) ≡ false → IsPlain (quote_of q) (x ∷ [])
byte_plain q x t u c e = (λ f. not_equal x (quote_of q) c t (encode_quote q) e f, λ f. not_equal x 92 c u encode_escape e f)

not_cut : (bytes : List ℕ) (x k c : ℕ) → sequence bytes ≡ part → encode_utf8 k ≡ k ∷ [] → bytes ++ x ∷ [] ≡ encode_utf8 c → c ≡ k → ⊥
not_cut [] x k c s e f same = cc
not_cut (b ∷ bytes) x k c s e f same =
    let both : b ∷ (bytes ++ x ∷ []) ≡ k ∷ [] = f ∙ ap encode_utf8 same ∙ e in
    let none : bytes ++ x ∷ [] ≡ [] = cc in
    absurd (omega (arith, ap length none, length-append bytes (x ∷ [])))

pub cut_plain : (q : Quotes) (bytes : List ℕ) (x : ℕ) → sequence bytes ≡ part → IsPlain (quote_of q) (bytes ++ x ∷ [])
cut_plain q bytes x s c e = (λ f. not_cut bytes x (quote_of q) c s (encode_quote q) e f, λ f. not_cut bytes x 92 c s encode_escape e f)

-- ---- a byte that begins a character, or closes

closed_token : (n : Nest) (q : Quotes) (cs inside more : List ℕ) → (all_scalars cs ≡ true) × Holds n q cs
    → AreCharacters (quote_of q) cs inside (quote_of q ∷ more) → Stands (token_of q cs) (quote_of q ∷ inside) more
closed_token n of_atom cs inside more t e = ((t.0, t.1), (inside, refl, e))
closed_token n of_string cs inside more t e = (t.0, (inside, refl, e))

in_place_token : (n : Nest) (q : Quotes) (cs : List ℕ) (why : TextWhy) → refusal_of strict n (sort_in q) ≡ None
    → IsInPlace n why (token_of q cs)
in_place_token n of_atom cs why e = e
in_place_token n of_string cs why e = e

escape_full : (p : List ℕ) (n : Nest) (start : ℕ) (q : Quotes) (cs : List ℕ) → IsInQuotes p n start q cs (92 ∷ []) → may_escape q cs ≡ false
    → Row p start BadToken
escape_full p n start of_atom cs i e = full_escape_row (record {
  nest = n;
  characters = cs;
  inside = i;
  long = ltb-false (length cs) 255 e;
  reason = refl;
})
escape_full p n start of_string cs i e = cc

-- the same bytes
pub quotes_same : (p : List ℕ) (n : Nest) (start : ℕ) (q : Quotes) (cs pending other : List ℕ) → pending ≡ other → IsInQuotes p n start q cs pending
    → IsInQuotes p n start q cs other
quotes_same p n start q cs pending other e i = subst (λ l. IsInQuotes p n start q cs l) e i

pub begin_character_leads : (p : List ℕ) (n : Nest) (start at : ℕ) (q : Quotes) (cs : List ℕ) (x : ℕ) → IsInQuotes p n start q cs (x ∷ [])
    → length p ≡ at + 1 → Leads p (begin_character n start at q cs x)
begin_character_leads p n start at q cs x i there =
    by_test (Leads p) (x == quote_of q) _ _
    (λ e. let j = quotes_same p n start q cs (x ∷ []) (quote_of q ∷ []) (ap (λ y. y ∷ []) (eqb-true x (quote_of q) e)) i in
    token_leads p n start (token_of q cs) (quote_of q ∷ j.inside) (take strict n start (token_of q cs)) j.before
    (λ more. closed_token n q cs (j.inside ++ more) more (j.scalars, j.hold) (j.characters more))
    (λ fault f. token_refused p n start (token_of q cs) (quote_of q ∷ j.inside) [] fault j.before
    (λ more. closed_token n q cs (j.inside ++ more) more (j.scalars, j.hold) (j.characters more)) (in_place_token n q cs fault.1 j.in_place) f) refl)
    (λ e. by_test (Leads p) (x == 92) _ _
    (λ f. let j = quotes_same p n start q cs (x ∷ []) (92 ∷ []) (ap (λ y. y ∷ []) (eqb-true x 92 f)) i in
    by_test (Leads p) (may_escape q cs) _ _
    (λ m. (92 ∷ [], j, (refl, m))) (λ m. escape_full p n start q cs j m))
    (λ f. sequence_leads p n start at q cs (x ∷ []) (sequence (x ∷ [])) i (inl (x, refl)) (omega arith) (byte_plain q x e f) there refl))
