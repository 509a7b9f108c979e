-- A byte between two tokens: a blank, a comment, or the first byte of a token.
use Rattle.std.proofs.Common.{◌≡◌, ℕ, pos, true, false, ◌||◌, ◌==◌, List, [], ◌∷◌, ◌++◌, Option, Some, None, eqb-true, refl, ap, ◌∙◌, sym, inl, arith}
use Rattle.std.proofs.Common.{Bool, ◌+◌, length, Ok, Err}
use Rattle.std.specs.Char.{is_ascii_digit, is_ascii_lowercase}
use Rattle.text_model.specs.declared.mark.Mark.{Mark}
use Rattle.text_model.specs.declared.mark.Mark.TheVariants.{Colon}
use Rattle.text_model.specs.Token.{Sort, mark, a_mark, a_number, a_plain, a_quoted, a_string, fits, mark_bytes, Token}
use Rattle.text_model.specs.Spelling.{is_white, white, Stands}
use Rattle.text_model.specs.Sentence.{ends}
use Rattle.text_model.specs.Faults.{Shows}
use Rattle.text_model.specs.Grammar.{strict}
use Rattle.text_model.specs.Nest.{Nest, refusal_of, refusal, take, Taken}
use Rattle.text_model.specs.Reader.{Quotes, of_atom, of_string, nothing, in_number, in_quotes, in_lexeme, if_not_refused, why_of, digit, begin_other}
use Rattle.text_model.specs.Reader.{single, double, second_byte, begin_double, begin_single, begin, quote_of, begin_behind}
use Rattle.text_model.proofs.Comes.{IsGoing, Before, why_not, IsInComment, signed, sort_in, IsInQuotes, Comes, sign}
use Rattle.text_model.proofs.ComesRows.{Leads, IsInPlace}
use Rattle.text_model.proofs.ComesTokens.{by_test, before_same, before_gap, before_token}
use Rattle.text_model.proofs.FirstBytes.{double_shown, single_shown, first_shown, shown_none, shows_only, shows_none, single_bytes, double_bytes}
use Rattle.text_model.proofs.ComesLeads.{refusal_reason, number_reason, string_reason, sort_leads, begun_leads, nothing_leads, token_refused}
use Rattle.text_model.proofs.ComesMarks.{mark_leads}
use Rattle.text_model.proofs.OneMore.{first_digit, first_fits}
use Rattle.text_model.specs.declared.fault.TextWhy.{TextWhy}
use Rattle.text_model.proofs.Going.{AreGoing}

-- a digit alone is a number
pub number_begins : (p : List ℕ) (n : Nest) (at : ℕ) (minus : Bool) (x : ℕ) → is_ascii_digit x ≡ true → refusal_of strict n a_number ≡ None
    → Before p n at (sign minus ++ x ∷ []) → Comes p n (in_number at minus (digit minus (pos 0) x))
number_begins p n at minus x e place b = (
  ap fits (first_digit minus x e) ∙ first_fits minus x e,
  record { digits = x ∷ []; some = omega arith; decimal = rw e; value = first_digit minus x e; before = b; in_place = place },
)

quotes_begin : (p : List ℕ) (n : Nest) (at : ℕ) (q : Quotes) → refusal_of strict n (sort_in q) ≡ None → Before p n at (quote_of q ∷ [])
    → Comes p n (in_quotes at q [] nothing)
quotes_begin p n at q place b = (
  [],
  record {
    inside = [];
    before = b;
    characters = λ more. refl;
    scalars = refl;
    hold = none q;
    in_place = place;
  },
  refl,
)
  where
    none : (q : Quotes) → Rattle.text_model.proofs.Comes.Holds n q []
    none of_atom = omega arith
    none of_string = inl refl

-- ---- a token begins

-- the first byte shows a sort
byte_only : (sort : Sort) (x : ℕ) → first_shown x ≡ Some sort → (more : List ℕ) (other : Sort) → Shows other ((x ∷ []) ++ more) → other ≡ sort
byte_only sort x e more other s = shows_only sort other x more e s

quote_leads : (p : List ℕ) (n : Nest) (at x : ℕ) (q : Quotes) → x ≡ quote_of q → Before p n at (x ∷ []) → first_shown x ≡ Some (sort_in q)
    → Leads p (if_not_refused (refusal_of strict n (sort_in q)) at (in_lexeme n (in_quotes at q [] nothing)))
quote_leads p n at x of_atom same b e =
    sort_leads p n at (x ∷ []) a_quoted (refusal strict n) _ b (λ f. cc) (λ more. (more, ap (λ y. y ∷ more) same)) (byte_only a_quoted x e)
    (refusal_reason n) refl (λ place. quotes_begin p n at of_atom place (before_same p n at (x ∷ []) (39 ∷ []) (ap (λ y. y ∷ []) same) b))
quote_leads p n at x of_string same b e =
    sort_leads p n at (x ∷ []) a_string (refusal_of strict n a_string) _ b (λ f. cc) (λ more. (more, ap (λ y. y ∷ more) same)) (byte_only a_string x e)
    (string_reason n) refl (λ place. quotes_begin p n at of_string place (before_same p n at (x ∷ []) (34 ∷ []) (ap (λ y. y ∷ []) same) b))

-- a byte that shows what `begin_other` takes
other_leads : (p : List ℕ) (n : Nest) (at x : ℕ) → ends false (x ∷ []) ≡ Some false → Before p n at (x ∷ []) → single x ≡ None
    → double x ≡ None → Leads p (begin_other n at x)
other_leads p n at x begins b s d =
    let shown = shown_none x s d in
    by_test (Leads p) (x == 45) _ _
    (λ m. begun_leads p n at (x ∷ []) a_number (refusal_of strict n a_number) _ b (λ f. cc) begins (byte_only a_number x (shown ∙ rw m)) refl
    (λ place. (place, before_same p n at (x ∷ []) (45 ∷ []) (ap (λ y. y ∷ []) (eqb-true x 45 m)) b)))
    (λ m. by_test (Leads p) (is_ascii_digit x) _ _
    (λ e. sort_leads p n at (x ∷ []) a_number (refusal_of strict n a_number) _ b (λ f. cc) (λ more. (x, more, e, inl refl))
    (byte_only a_number x (shown ∙ rw (m, e))) (number_reason n) refl (λ place. number_begins p n at false x e place b))
    (λ e. by_test (Leads p) (is_ascii_lowercase x) _ _
    (λ l. sort_leads p n at (x ∷ []) a_plain (refusal strict n) _ b (λ f. cc) (λ more. (x, more, l, refl))
    (byte_only a_plain x (shown ∙ rw (m, e, l))) (refusal_reason n) refl (λ place. (rw l, omega arith, place, b)))
    (λ l. by_test (Leads p) (x == 39) _ _
    (λ q. quote_leads p n at x of_atom (eqb-true x 39 q) b (shown ∙ rw (m, e, l, q)))
    (λ q. by_test (Leads p) (x == 34) _ _
    (λ r. quote_leads p n at x of_string (eqb-true x 34 r) b (shown ∙ rw (m, e, l, q, r)))
    (λ r. nothing_leads p n at (x ∷ []) b begins (λ more other shows. shows_none other x more (shown ∙ rw (m, e, l, q, r)) shows))))))

double_no_colon : (x : ℕ) (m : Mark) → double x ≡ Some m → a_mark m ≡ a_mark Colon → ⊥
double_no_colon x m d f =
    let same : m ≡ Colon = cc in
    let bytes : mark_bytes Colon ≡ x ∷ second_byte m ∷ [] = ap mark_bytes (sym same) ∙ double_bytes x m d in
    cc

double_leads : (p : List ℕ) (n : Nest) (at x : ℕ) (o : Option Mark) → ends false (x ∷ []) ≡ Some false → Before p n at (x ∷ []) → single x ≡ None
    → double x ≡ o → Leads p (begin_double n at x o)
double_leads p n at x None begins b s d = other_leads p n at x begins b s d
double_leads p n at x (Some m) begins b s d =
    begun_leads p n at (x ∷ []) (a_mark m) (why_of (take strict n at (mark m))) _ b (λ f. double_no_colon x m d f) begins
    (byte_only (a_mark m) x (shown_double x m s d)) refl (λ place. (x, d, place, b))
  where
    shown_double : (x : ℕ) (m : Mark) → single x ≡ None → double x ≡ Some m → first_shown x ≡ Some (a_mark m)
    shown_double x m s d = ap (single_shown x) s ∙ ap (double_shown x) d

single_leads : (p : List ℕ) (n : Nest) (at x : ℕ) (o : Option Mark) → ends false (x ∷ []) ≡ Some false → Before p n at (x ∷ []) → single x ≡ o
    → Leads p (begin_single n at x o)
single_leads p n at x None begins b s = double_leads p n at x (double x) begins b s refl
single_leads p n at x (Some m) begins b s = mark_leads p n at m (before_same p n at (x ∷ []) (mark_bytes m) (sym (single_bytes x m s)) b)

token_begins : (x : ℕ) → is_white x ≡ false → (x == 37) ≡ false → ends false (x ∷ []) ≡ Some false
token_begins x w e = ap (λ b. Some (b || x == 37)) w ∙ ap (λ b. Some b) e

-- a byte behind what was read, where no token is begun
pub begin_leads : (p : List ℕ) (n : Nest) (at x : ℕ) → Before p n at (x ∷ []) → Leads p (begin n at x)
begin_leads p n at x b =
    by_test (Leads p) (is_white x) _ _
    (λ w. before_gap p n at (white x) w b)
    (λ w. by_test (Leads p) (x == 37) _ _
    (λ e. (
      inl refl,
      record {
        start = at;
        characters = [];
        line = (refl, refl);
        before = before_same p n at (x ∷ []) (37 ∷ []) (ap (λ y. y ∷ []) (eqb-true x 37 e)) b;
      },
    ))
    (λ e. single_leads p n at x (single x) (token_begins x w e) b refl))

-- ---- behind a token that the byte ends

behind_by : (p : List ℕ) (n : Nest) (start at x : ℕ) (token : Token) (front : List ℕ) (t : Taken) → Before p n start front
    → ((more : List ℕ) → Stands token (front ++ more) (x ∷ more)) → AreGoing (take strict n start token)
    → ((why : TextWhy) → IsInPlace n why token) → length p ≡ at + 1 → take strict n start token ≡ t → Leads p (begin_behind t at x)
behind_by p n start at x token front (Ok m) b stands going place there e =
    begin_leads p m at x (before_token p n m start at token front (x ∷ []) b stands e there (λ u f. absurd (going m e u f)))
behind_by p n start at x token front (Err fault) b stands going place there e =
    token_refused p n start token front (x ∷ []) fault b stands (place fault.1) e

-- a byte behind a number or a name, which it ends
pub behind_leads : (p : List ℕ) (n : Nest) (start at x : ℕ) (token : Token) (front : List ℕ) → Before p n start front
    → ((more : List ℕ) → Stands token (front ++ more) (x ∷ more)) → AreGoing (take strict n start token)
    → ((why : TextWhy) → IsInPlace n why token) → length p ≡ at + 1 → Leads p (begin_behind (take strict n start token) at x)
behind_leads p n start at x token front b stands going place there =
    behind_by p n start at x token front (take strict n start token) b stands going place there refl
