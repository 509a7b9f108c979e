-- A byte behind what was read leads to a state that knows as much, or to a fault by its rule.
use Rattle.std.proofs.Common.{◌≡◌, ℕ, ◌+◌, ◌-◌, ◌≤◌, List, [], ◌∷◌, ◌++◌, length, length-append, Ok, Err, refl, ap, subst, inr, arith}
use Rattle.text_model.specs.declared.fault.TextWhy.{TextWhy}
use Rattle.text_model.specs.Nest.{Nest}
use Rattle.text_model.specs.Reader.{Partial, nothing, cut, backslash, octal, hexadecimal, half, braced, Quotes, Lexeme, between, in_comment, first_of}
use Rattle.text_model.specs.Reader.{in_minus, in_number, in_name, in_quotes, State, sequence, quotes_led, led, step}
use Rattle.text_model.proofs.Comes.{IsGoing, IsInQuotes, IsPending, Comes}
use Rattle.text_model.proofs.ComesRows.{Row, Leads}
use Rattle.text_model.proofs.ComesTokens.{before_more}
use Rattle.text_model.proofs.ComesLengths.{within}
use Rattle.text_model.proofs.ComesBegins.{begin_leads}
use Rattle.text_model.proofs.ComesComments.{comment_leads}
use Rattle.text_model.proofs.ComesWords.{first_leads, minus_leads, number_leads, name_leads}
use Rattle.text_model.proofs.ComesQuotes.{quotes_more, quotes_same, sequence_leads, cut_plain, begin_character_leads}
use Rattle.text_model.proofs.ComesEscapeBytes.{begin_escape_leads, octal_leads, hexadecimal_leads, half_leads, braced_leads}

quotes_by : (p : List ℕ) (n : Nest) (start : ℕ) (q : Quotes) (cs : List ℕ) (partial : Partial) (pending : List ℕ) (x : ℕ)
    → IsInQuotes p n start q cs pending → IsInQuotes (p ++ x ∷ []) n start q cs (pending ++ x ∷ []) → IsPending n q cs partial pending
    → Leads (p ++ x ∷ []) (quotes_led n start (length p) q cs partial x)
quotes_by p n start q cs nothing pending x i j e =
    begin_character_leads (p ++ x ∷ []) n start (length p) q cs x
    (quotes_same (p ++ x ∷ []) n start q cs _ (x ∷ []) (ap (λ l. l ++ x ∷ []) e) j) (length-append p (x ∷ []))
quotes_by p n start q cs (cut bytes) pending x i j (e, s) =
    let one : length (bytes ++ x ∷ []) ≡ length bytes + 1 = length-append bytes (x ∷ []) in
    let all : length (p ++ x ∷ []) ≡ length p + 1 = length-append p (x ∷ []) in
    let few : length pending ≤ length p = within p n start q cs pending i in
    sequence_leads (p ++ x ∷ []) n start (length p - length bytes) q cs (bytes ++ x ∷ []) (sequence (bytes ++ x ∷ []))
    (quotes_same (p ++ x ∷ []) n start q cs _ (bytes ++ x ∷ []) (ap (λ l. l ++ x ∷ []) e) j)
    (inr (bytes, x, refl, s)) (omega arith) (cut_plain q bytes x s) (omega (arith, ap length e)) refl
quotes_by p n start q cs backslash pending x i j (e, m) =
    begin_escape_leads (p ++ x ∷ []) n start q cs x (quotes_same (p ++ x ∷ []) n start q cs _ (92 ∷ x ∷ []) (ap (λ l. l ++ x ∷ []) e) j)
quotes_by p n start q cs (octal v count) pending x i j (ds, e, a, some, few, may) =
    octal_leads (p ++ x ∷ []) n start (length p) q cs v count x ds
    (quotes_same (p ++ x ∷ []) n start q cs _ (92 ∷ (ds ++ x ∷ [])) (ap (λ l. l ++ x ∷ []) e) j) a some few may (length-append p (x ∷ []))
quotes_by p n start q cs hexadecimal pending x i j e =
    hexadecimal_leads (p ++ x ∷ []) n start q cs x (quotes_same (p ++ x ∷ []) n start q cs _ (92 ∷ 120 ∷ x ∷ []) (ap (λ l. l ++ x ∷ []) e) j)
quotes_by p n start q cs (half v) pending x i j (ds, e, a) =
    half_leads (p ++ x ∷ []) n start q cs v x ds
    (quotes_same (p ++ x ∷ []) n start q cs _ (92 ∷ 120 ∷ (ds ++ x ∷ [])) (ap (λ l. l ++ x ∷ []) e) j) a
quotes_by p n start q cs (braced v count) pending x i j (ds, e, a, few, scalar) =
    braced_leads (p ++ x ∷ []) n start q cs v count x ds
    (quotes_same (p ++ x ∷ []) n start q cs _ (92 ∷ 120 ∷ 123 ∷ (ds ++ x ∷ [])) (ap (λ l. l ++ x ∷ []) e) j) a few

-- one more byte, by cases on the lexeme
led_leads : (p : List ℕ) (n : Nest) (l : Lexeme) (x : ℕ) → IsGoing n → Comes p n l → Leads (p ++ x ∷ []) (led n (length p) x l)
led_leads p n between x going c = begin_leads (p ++ x ∷ []) n (length p) x (before_more p n (length p) x [] going c)
led_leads p n (in_comment bytes) x going c = comment_leads p n x bytes going c
led_leads p n (first_of start m) x going c = first_leads p n start m x going c
led_leads p n (in_minus start) x going c = minus_leads p n start x going c
led_leads p n (in_number start minus z) x going c = number_leads p n start minus z x going c
led_leads p n (in_name start cs) x going c = name_leads p n start cs x going c
led_leads p n (in_quotes start q cs partial) x going (pending, i, e) =
    quotes_by p n start q cs partial pending x i (quotes_more p n start q cs pending x going i) e

step_leads : (p : List ℕ) (s : State) (x : ℕ) → IsGoing s.nest → Comes p s.nest s.lexeme → Leads (p ++ x ∷ []) (step s (length p) x)
step_leads p s x going c = led_leads p s.nest s.lexeme x going c

-- a state that follows knows what was read with the byte
pub comes_step : (p : List ℕ) (s t : State) (x : ℕ) → IsGoing s.nest → Comes p s.nest s.lexeme → step s (length p) x ≡ Ok t
    → Comes (p ++ x ∷ []) t.nest t.lexeme
comes_step p s t x going c e = subst (λ l. Leads (p ++ x ∷ []) l) e (step_leads p s x going c)

-- a fault is one by a rule, whatever follows the byte
pub comes_fault : (p : List ℕ) (s : State) (x o : ℕ) (why : TextWhy) → IsGoing s.nest → Comes p s.nest s.lexeme → step s (length p) x ≡ Err (o, why)
    → Row (p ++ x ∷ []) o why
comes_fault p s x o why going c e = subst (λ l. Leads (p ++ x ∷ []) l) e (step_leads p s x going c)
