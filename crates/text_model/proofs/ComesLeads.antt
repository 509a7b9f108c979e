-- What a sort that is refused leads to, and a whole token.
use Rattle.std.proofs.Common.{◌≡◌, ℕ, ℤ, ◌⊎◌, false, nat_lt, not, ◌&&◌, ◌||◌, List, [], ◌++◌, length, Option, Some, None, Ok, Err, refl, ap, ◌∙◌, sym}
use Rattle.std.proofs.Common.{subst, inl, inr, append-nil, arith}
use Rattle.text_model.specs.declared.fault.TextWhy.{TextWhy}
use Rattle.text_model.specs.declared.fault.TextWhy.TheVariants.{BadToken, Depth}
use Rattle.text_model.specs.declared.mark.Mark.TheVariants.{Colon}
use Rattle.text_model.specs.Token.{Token, Sort, a_mark, a_number, a_string}
use Rattle.text_model.specs.Spelling.{Stands}
use Rattle.text_model.specs.Grammar.{strict}
use Rattle.text_model.specs.Nest.{Nest, Taken, value, at_segment, wants, is_colon, wants_segment, refusal, refusal_of, take}
use Rattle.text_model.specs.Sentence.{ends}
use Rattle.text_model.specs.Faults.{Shows}
use Rattle.text_model.specs.Reader.{Led, led_to, if_not_refused, if_not_stray}
use Rattle.text_model.proofs.Comes.{Before, why_not, IsNotStray}
use Rattle.text_model.proofs.ComesRows.{Row, stray_row, deep_row, token_row, IsInPlace, Leads}
use Rattle.text_model.proofs.ComesTokens.{by_test, before_token}
use Rattle.text_model.proofs.TokenStarts.{shows_begins}

-- why a sort may be refused
abbrev pub IsRefusal : Option TextWhy → Type 0
IsRefusal o = (why : TextWhy) → o ≡ Some why → (why ≡ BadToken) ⊎ (why ≡ Depth)

no_refusal : IsRefusal None
no_refusal why e = cc

is_stray_refusal : IsRefusal (Some BadToken)
is_stray_refusal why e = inl (cc)

is_deep_refusal : IsRefusal (Some Depth)
is_deep_refusal why e = inr (cc)

pub refusal_reason : (n : Nest) → IsRefusal (refusal strict n)
refusal_reason n =
    by_test IsRefusal (wants n.place && not (at_segment n.begun)) _ _
    (λ w. by_test IsRefusal (nat_lt (length n.begun) 256) _ _ (λ l. no_refusal) (λ l. is_deep_refusal)) (λ w. is_stray_refusal)

pub number_reason : (n : Nest) → IsRefusal (refusal_of strict n a_number)
number_reason n = by_test IsRefusal (wants_segment n || is_colon n.place) _ _ (λ w. no_refusal) (λ w. refusal_reason n)

pub string_reason : (n : Nest) → IsRefusal (refusal_of strict n a_string)
string_reason n = by_test IsRefusal (wants_segment n) _ _ (λ w. no_refusal) (λ w. refusal_reason n)

-- a sort that alone may begin so
abbrev pub IsOnly : Sort → List ℕ → Type 0
IsOnly sort front = (more : List ℕ) (other : Sort) → Shows other (front ++ more) → other ≡ sort

-- no colon behind a segment's value
abbrev pub NoColon : Nest → Sort → Type 0
NoColon n sort = (start : ℕ) (v : ℤ) → n.place ≡ value start v → sort ≡ a_mark Colon → ⊥

pub stray_leads : (p : List ℕ) (n : Nest) (start : ℕ) (front : List ℕ) (sort : Sort) → Before p n start front → ends false front ≡ Some false
    → NoColon n sort → IsOnly sort front → why_not n start sort ≡ Some BadToken → Row p start BadToken
stray_leads p n start front sort b begins colon only e = stray_row (record {
  nest = n;
  front = front;
  before = b;
  begins = begins;
  apart = λ more s v shows place. colon s v place (sym (only more (a_mark Colon) shows));
  none = λ more other s. ap (why_not n start) (only more other s) ∙ e;
  reason = refl;
})

-- no sort of token begins so
pub nothing_leads : (p : List ℕ) (n : Nest) (start : ℕ) (front : List ℕ) → Before p n start front → ends false front ≡ Some false
    → ((more : List ℕ) (other : Sort) → Shows other (front ++ more) → ⊥) → Row p start BadToken
nothing_leads p n start front b begins none = stray_row (record {
  nest = n;
  front = front;
  before = b;
  begins = begins;
  apart = λ more s v shows place. none more (a_mark Colon) shows;
  none = λ more other s. absurd (none more other s);
  reason = refl;
})

pub deep_leads : (p : List ℕ) (n : Nest) (start : ℕ) (front : List ℕ) (sort : Sort) → Before p n start front
    → ((more : List ℕ) → Shows sort (front ++ more)) → why_not n start sort ≡ Some Depth → Row p start Depth
deep_leads p n start front sort b shows e = deep_row (record {
  nest = n;
  front = front;
  before = b;
  sort = sort;
  shows = shows;
  refused = e;
  reason = refl;
})

-- a sort that shows, and may be refused
pub sort_leads : (p : List ℕ) (n : Nest) (start : ℕ) (front : List ℕ) (sort : Sort) (o : Option TextWhy) (next : Led) → Before p n start front
    → (sort ≡ a_mark Colon → ⊥) → ((more : List ℕ) → Shows sort (front ++ more)) → IsOnly sort front → IsRefusal o → why_not n start sort ≡ o
    → (o ≡ None → Leads p next) → Leads p (if_not_refused o start next)
sort_leads p n start front sort None next b colon shows only reason e go = go refl
sort_leads p n start front sort (Some why) next b colon shows only reason e go = refused (reason why refl)
  where
    refused : (why ≡ BadToken) ⊎ (why ≡ Depth) → Row p start why
    refused (inl f) =
        subst (λ w. Row p start w) (sym f)
        (stray_leads p n start front sort b (shows_begins sort front (subst (Shows sort) (append-nil front) (shows []))) (λ s v place. colon) only
        (e ∙ ap (λ w. Some w) f))
    refused (inr f) = subst (λ w. Row p start w) (sym f) (deep_leads p n start front sort b shows (e ∙ ap (λ w. Some w) f))

-- a sort that may begin so alone, where Depth is judged later
pub begun_leads : (p : List ℕ) (n : Nest) (start : ℕ) (front : List ℕ) (sort : Sort) (o : Option TextWhy) (next : Led) → Before p n start front
    → (sort ≡ a_mark Colon → ⊥) → ends false front ≡ Some false → IsOnly sort front → why_not n start sort ≡ o → (IsNotStray o → Leads p next)
    → Leads p (if_not_stray o start next)
begun_leads p n start front sort (Some BadToken) next b colon begins only e go = stray_leads p n start front sort b begins (λ s v place. colon) only e
begun_leads p n start front sort other next b colon begins only e go = go (λ f. cc)

-- a whole token that is refused
pub token_refused : (p : List ℕ) (n : Nest) (start : ℕ) (token : Token) (front behind : List ℕ) (fault : ℕ × TextWhy) → Before p n start front
    → ((more : List ℕ) → Stands token (front ++ more) (behind ++ more)) → IsInPlace n fault.1 token → take strict n start token ≡ Err fault
    → Row p fault.0 fault.1
token_refused p n start token front behind fault b stands place e = token_row (record {
  nest = n;
  start = start;
  front = front;
  behind = behind;
  before = b;
  token = token;
  stands = stands;
  in_place = place;
  refused = e;
})

-- a whole token with its last byte
pub token_leads : (p : List ℕ) (n : Nest) (start : ℕ) (token : Token) (front : List ℕ) (t : Taken) → Before p n start front
    → ((more : List ℕ) → Stands token (front ++ more) more) → ((fault : ℕ × TextWhy) → take strict n start token ≡ Err fault → Row p fault.0 fault.1)
    → take strict n start token ≡ t → Leads p (led_to t)
token_leads p n start token front (Ok m) b stands refused e = before_token p n m start (length p) token front [] b stands e (omega arith) (λ t s. refl)
token_leads p n start token front (Err fault) b stands refused e = refused fault e
