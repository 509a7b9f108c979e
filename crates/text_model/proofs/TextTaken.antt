-- The machine takes each text of a term: its tokens, and tokens with which one may begin.
use Rattle.std.proofs.Common.{◌≡◌, ℕ, ℤ, pos, zero, suc, ◌+◌, ◌≤◌, true, None, List, [], ◌∷◌, ◌++◌, length, Ok, refl, ap, ◌∙◌, sym, subst, arith}
use Rattle.std.proofs.lemmas.Bool.{lt-ltb, or_right}
use Rattle.std.specs.List.{AllByRecursion}
use Rattle.dets_term.specs.TermValue.{TermValue, integer, atom}
use Rattle.etf_model.specs.Layout.{integers}
use Rattle.text_model.specs.declared.mark.Mark.{Mark}
use Rattle.text_model.specs.declared.mark.Mark.TheVariants.{OpenTuple, OpenMap, OpenList, OpenBits, FullStop}
use Rattle.text_model.specs.Token.{Token, mark, number, plain, quoted, string}
use Rattle.text_model.specs.Grammar.{Rules, Form, Text, IsText}
use Rattle.text_model.specs.Nest.{Frame, in_tuple, in_list, in_map, in_bits, Place, want, opened, after, stopped, Nest, fresh, wants, refusal}
use Rattle.text_model.specs.Nest.{at_segment, may_hold, leaf, number_at, string_refusal, open_term, completed, take}
use Rattle.text_model.specs.Located.{tokens_of, take_all}
use Rattle.text_model.specs.Fronts.{MayBegin}
use Rattle.text_model.proofs.TakenSteps.{Steps, step, steps, steps_to, take_all-append, taken_before, placed_at, tokens_of-placed_at, tokens_of-append}
use Rattle.text_model.proofs.Beginning.{Begins, none_refused, no_segment, completed_apart}
use Rattle.text_model.proofs.Refused.{string_holds}
use Rattle.text_model.proofs.PartsTaken.{TakesParts, within, tuple_taken, list_taken}
use Rattle.text_model.proofs.PairsTaken.{map_taken}
use Rattle.text_model.proofs.SegmentsTaken.{bits_taken}

-- ---- terms of one token

leaf_begins : (rules : Rules) (levels : ℕ) (n : Nest) (at : ℕ) (t : TermValue) → Begins rules (suc levels) n
    → leaf rules n at t (refusal rules n) ≡ completed rules n.begun at t
leaf_begins rules levels n at t b = ap (leaf rules n at t) (none_refused rules (suc levels) n b (omega arith))

number_wanted : (rules : Rules) (n : Nest) (at : ℕ) (z : ℤ) (place : Place) → wants place ≡ true
    → number_at rules n at z place ≡ leaf rules n at (integer z) (refusal rules n)
number_wanted rules n at z want w = refl
number_wanted rules n at z opened w = refl
number_wanted rules n at z other w = cc

take_a_number : (rules : Rules) (levels : ℕ) (n : Nest) (at : ℕ) (z : ℤ) → Begins rules (suc levels) n
    → take rules n at (number z) ≡ completed rules n.begun at (integer z)
take_a_number rules levels n at z b =
    rw (no_segment rules (suc levels) n b) (number_wanted rules n at z n.place b.wanted ∙ leaf_begins rules levels n at (integer z) b)

-- the code points of a string have a level to stand at
string_passes : (rules : Rules) (levels : ℕ) (n : Nest) (cs : List ℕ) (Part : TermValue → List Token → List Token → Type 0) → Begins rules (suc levels) n
    → ((t : TermValue) (tokens rest : List Token) → Part t tokens rest → 1 ≤ levels)
    → AllByRecursion (λ c. Part (integer (pos c)) (number (pos c) ∷ []) []) cs → string_refusal rules n cs ≡ None
string_passes rules levels n [] Part b deep parts = none_refused rules (suc levels) n b (omega arith)
string_passes rules levels n (c ∷ cs) Part b deep parts =
    let some = deep (integer (pos c)) (number (pos c) ∷ []) [] parts.0 in
    let room : suc levels + length n.begun ≡ rules.levels = b.room in
    let holds : may_hold rules n ≡ true = or_right (at_segment n.begun) _ (lt-ltb (length n.begun + 1) rules.levels (omega arith)) in
    string_holds (refusal rules n) (may_hold rules n) (none_refused rules (suc levels) n b (omega arith)) holds

take_a_string : (rules : Rules) (levels : ℕ) (n : Nest) (at : ℕ) (cs : List ℕ) (Part : TermValue → List Token → List Token → Type 0)
    → Begins rules (suc levels) n → ((t : TermValue) (tokens rest : List Token) → Part t tokens rest → 1 ≤ levels)
    → AllByRecursion (λ c. Part (integer (pos c)) (number (pos c) ∷ []) []) cs
    → take rules n at (string cs) ≡ completed rules n.begun at (integers cs)
take_a_string rules levels n at cs Part b deep parts =
    rw (no_segment rules (suc levels) n b) (ap (leaf rules n at (integers cs)) (string_passes rules levels n cs Part b deep parts))

-- ---- terms

opens : (rules : Rules) (levels : ℕ) (n : Nest) (at : ℕ) (frame : Frame) → Begins rules (suc levels) n
    → open_term rules n at frame (refusal rules n) ≡ Ok (within at frame n.begun opened)
opens rules levels n at frame b = ap (open_term rules n at frame) (none_refused rules (suc levels) n b (omega arith))

-- a token that is a term, and one that opens a term
one_token : (rules : Rules) (n : Nest) (ps : List (ℕ × Token)) (token : Token) (t u : TermValue) (tokens rest : List Token)
    → ((at : ℕ) → take rules n at token ≡ completed rules n.begun at u) → t ≡ u → tokens ≡ rest → tokens_of ps ≡ token ∷ tokens
    → Steps rules n ps (λ start. completed rules n.begun start t) rest
one_token rules n ps token t u tokens rest takes is end e =
    step rules n ps (λ start. completed rules n.begun start t) token rest (λ at. takes at ∙ ap (completed rules n.begun at) (sym is))
    (e ∙ ap (λ l. token ∷ l) end)

one_opening : (rules : Rules) (levels : ℕ) (n : Nest) (ps : List (ℕ × Token)) (m : Mark) (frame : Frame) (t : TermValue) (tokens rest : List Token)
    → Begins rules (suc levels) n → ((at : ℕ) → take rules n at (mark m) ≡ open_term rules n at frame (refusal rules n)) → tokens_of ps ≡ mark m ∷ tokens
    → ((start : ℕ) (qs : List (ℕ × Token)) → tokens_of qs ≡ tokens
    → Steps rules (within start frame n.begun opened) qs (λ late. completed rules n.begun start t) rest)
    → Steps rules n ps (λ start. completed rules n.begun start t) rest
one_opening rules levels n ps m frame t tokens rest b takes e inside =
    steps rules n ps (λ at. within at frame n.begun opened) (λ start. completed rules n.begun start t) tokens rest
    (step rules n ps (λ at. Ok (within at frame n.begun opened)) (mark m) tokens (λ at. takes at ∙ opens rules levels n at frame b) e) inside

room_inside : (rules : Rules) (levels : ℕ) (n : Nest) → Begins rules (suc levels) n → levels + suc (length n.begun) ≡ rules.levels
room_inside rules levels n b = let room : suc levels + length n.begun ≡ rules.levels = b.room in omega arith

form_taken : (rules : Rules) (levels : ℕ) (Part : TermValue → List Token → List Token → Type 0) (t : TermValue) (n : Nest) (ps : List (ℕ × Token))
    (tokens rest : List Token) → TakesParts rules levels Part → ((t : TermValue) (tokens rest : List Token) → Part t tokens rest → 1 ≤ levels)
    → Begins rules (suc levels) n → Form rules Part t tokens rest → tokens_of ps ≡ tokens → Steps rules n ps (λ start. completed rules n.begun start t) rest
form_taken rules levels Part t n ps [] rest takes deep b f e = absurd f
form_taken rules levels Part t n ps (number z ∷ tokens) rest takes deep b (is, end) e =
    one_token rules n ps (number z) t (integer z) tokens rest (λ at. take_a_number rules levels n at z b) is end e
form_taken rules levels Part t n ps (plain cs ∷ tokens) rest takes deep b (is, end) e =
    one_token rules n ps (plain cs) t (atom cs) tokens rest (λ at. leaf_begins rules levels n at (atom cs) b) is end e
form_taken rules levels Part t n ps (quoted cs ∷ tokens) rest takes deep b (is, end) e =
    one_token rules n ps (quoted cs) t (atom cs) tokens rest (λ at. leaf_begins rules levels n at (atom cs) b) is end e
form_taken rules levels Part t n ps (string cs ∷ tokens) rest takes deep b (is, parts, end) e =
    one_token rules n ps (string cs) t (integers cs) tokens rest (λ at. take_a_string rules levels n at cs Part b deep parts) is end e
form_taken rules levels Part t n ps (mark OpenTuple ∷ tokens) rest takes deep b (parts, is, f) e =
    one_opening rules levels n ps OpenTuple (in_tuple []) t tokens rest b (λ at. refl) e
    (λ start qs same.
    steps_to rules _ qs _ (λ late. completed rules n.begun start t) rest
    (tuple_taken rules levels Part start n.begun parts qs tokens rest takes (room_inside rules levels n b) f same)
    (λ late. ap (completed rules n.begun start) (sym is)))
form_taken rules levels Part t n ps (mark OpenMap ∷ tokens) rest takes deep b f e =
    one_opening rules levels n ps OpenMap (in_map []) t tokens rest b (λ at. refl) e
    (λ start qs same. map_taken rules levels Part start n.begun t qs tokens rest takes (room_inside rules levels n b) f same)
form_taken rules levels Part t n ps (mark OpenList ∷ tokens) rest takes deep b f e =
    one_opening rules levels n ps OpenList (in_list []) t tokens rest b (λ at. refl) e
    (λ start qs same. list_taken rules levels Part start n.begun t qs tokens rest takes (room_inside rules levels n b) f same)
form_taken rules levels Part t n ps (mark OpenBits ∷ tokens) rest takes deep b f e =
    one_opening rules levels n ps OpenBits (in_bits []) t tokens rest b (λ at. refl) e
    (λ start qs same. bits_taken rules start n.begun t qs tokens rest f same)
form_taken rules levels Part t n ps (mark other ∷ tokens) rest takes deep b f e = absurd f

has_level : (rules : Rules) (levels : ℕ) (t : TermValue) (tokens rest : List Token) → Text rules levels t tokens rest → 1 ≤ levels
has_level rules zero t tokens rest x = absurd x
has_level rules (suc levels) t tokens rest x = omega arith

-- a term's text is taken where it may begin
pub term_taken : (rules : Rules) (levels : ℕ) → TakesParts rules levels (Text rules levels)
term_taken rules zero t n ps tokens rest b x e = absurd x
term_taken rules (suc levels) t n ps tokens rest b x e =
    form_taken rules levels (Text rules levels) t n ps tokens rest (term_taken rules levels) (has_level rules levels) b x e

pub none_left : (rules : Rules) (n : Nest) (ps : List (ℕ × Token)) → tokens_of ps ≡ [] → take_all rules n ps ≡ Ok n
none_left rules n [] e = refl
none_left rules n (p ∷ ps) e = cc

-- a text of a term with its full stop is taken
pub text_taken : (rules : Rules) (t : TermValue) (ps : List (ℕ × Token)) → IsText rules t (tokens_of ps)
    → take_all rules fresh ps ≡ Ok (record { begun = []; place = stopped t })
text_taken rules t ps x =
    let term = term_taken rules rules.levels t fresh ps (tokens_of ps) (mark FullStop ∷ [])
    (record { wanted = refl; apart = refl; room = omega arith }) x refl in
    let whole = steps_to rules fresh ps _ (λ start. Ok (record { begun = []; place = after start t })) (mark FullStop ∷ []) term
    (λ start. completed_apart rules [] start t refl) in
    let stop = steps rules fresh ps (λ start. record { begun = []; place = after start t }) (λ late. Ok (record { begun = []; place = stopped t }))
    (mark FullStop ∷ []) [] whole
    (λ start qs same. step rules _ qs (λ late. Ok (record { begun = []; place = stopped t })) (mark FullStop) [] (λ late. refl) same) in
    stop.leads ∙ none_left rules _ stop.behind stop.same

-- tokens with which a text may begin are taken
pub begins_taken : (rules : Rules) (ps : List (ℕ × Token)) → MayBegin rules (tokens_of ps) → (n : Nest) × (take_all rules fresh ps ≡ Ok n)
begins_taken rules ps b =
    let all : tokens_of (ps ++ placed_at b.more) ≡ tokens_of ps ++ b.more =
    tokens_of-append ps (placed_at b.more) ∙ ap (λ l. tokens_of ps ++ l) (tokens_of-placed_at b.more) in
    let taken = text_taken rules b.term (ps ++ placed_at b.more) (subst (IsText rules b.term) (sym all) b.text) in
    let before = taken_before (take_all rules fresh ps) (λ m. take_all rules m (placed_at b.more)) _
    (sym (take_all-append rules fresh ps (placed_at b.more)) ∙ taken) in
    (before.0, before.1)
