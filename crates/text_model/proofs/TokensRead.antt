-- What one more token leads to, by what stands behind the nest in front of it.
use Rattle.std.proofs.Common.{◌≡◌, ℕ, zero, suc, ◌+◌, pos, Bool, true, false, cond, not, ◌&&◌, ◌||◌, nat_lt, Option, Some, None, is_none, Ok, Err}
use Rattle.std.proofs.Common.{List, [], ◌∷◌, ◌++◌, ◌⊎◌, inl, inr, length, refl, ap, ◌∙◌, sym, arith}
use Rattle.std.proofs.lemmas.Bool.{ltb-true}
use Rattle.std.specs.List.{AllByRecursion}
use Rattle.dets_term.specs.TermValue.{TermValue, integer}
use Rattle.etf_model.specs.Layout.{integers}
use Rattle.text_model.specs.declared.fault.TextWhy.{TextWhy}
use Rattle.text_model.specs.declared.fault.TextWhy.TheVariants.{BadToken, Depth, RepeatedKey}
use Rattle.text_model.specs.Token.{Token, mark, number, string}
use Rattle.text_model.specs.Grammar.{Rules, Text}
use Rattle.text_model.specs.Nest.{Frame, Begun, Place, want, opened, Nest, Taken, stray, at_segment, wants, refusal, may_hold, completed, leaf}
use Rattle.text_model.specs.Nest.{open_term, string_refusal, closed, close, changed_to, change}
use Rattle.text_model.proofs.Refused.{may_begin_at, string_parts}
use Rattle.text_model.proofs.OpenTerms.{opening, IsEmpty, IsWhole, IsAt, open_at, levels_of, room_for}
use Rattle.text_model.proofs.MarksRead.{StaysOpen}

-- A whole part, which is refused only for its key; a nest, with what stands behind it; or a fault other than a repeated key.
abbrev pub Reads : Rules → List (ℕ × Token) → Taken → Type 0
Reads rules ps o =
    ((bs : List Begun) × (start : ℕ) × (t : TermValue) × (o ≡ completed rules bs start t) × IsWhole rules bs start t ps)
    ⊎ (((m : Nest) × (o ≡ Ok m) × IsAt rules m.begun m.place ps)
    ⊎ ((fault : ℕ × TextWhy) × (o ≡ Err fault) × (fault.1 ≡ RepeatedKey → ⊥)))

pub reads_stray : (rules : Rules) (ps : List (ℕ × Token)) (at : ℕ) → Reads rules ps (stray at)
reads_stray rules ps at = inr (inr ((at, BadToken), refl, (λ e. cc)))

-- a nest, unless what is asked does not hold
pub reads_asked : (rules : Rules) (ps : List (ℕ × Token)) (at : ℕ) (b : Bool) (m : Nest) → (b ≡ false → IsAt rules m.begun m.place ps)
    → Reads rules ps (cond b (stray at) (Ok m))
reads_asked rules ps at true m is = reads_stray rules ps at
reads_asked rules ps at false m is = inr (inl (m, refl, is refl))

-- ---- where a term begins

not_repeated : (rules : Rules) (n : Nest) (why : TextWhy) → refusal rules n ≡ Some why → why ≡ RepeatedKey → ⊥
not_repeated rules n why e = by_tests (wants n.place && not (at_segment n.begun)) (nat_lt (length n.begun) rules.levels) e
  where
    by_tests : (a b : Bool) → cond {A = Option TextWhy} a (cond b None (Some Depth)) (Some BadToken) ≡ Some why → why ≡ RepeatedKey → ⊥
    by_tests true true e f = cc
    by_tests true false e f = cc
    by_tests false b e f = cc

pub not_repeated_string : (rules : Rules) (n : Nest) (cs : List ℕ) (why : TextWhy) → string_refusal rules n cs ≡ Some why → why ≡ RepeatedKey → ⊥
not_repeated_string rules n [] why e = not_repeated rules n why e
not_repeated_string rules n (c ∷ cs) why e = by_refusal (refusal rules n) (may_hold rules n) (λ other f. not_repeated rules n other f) e
  where
    by_refusal : (o : Option TextWhy) (b : Bool) → ((other : TextWhy) → o ≡ Some other → other ≡ RepeatedKey → ⊥)
        → cond {A = Option TextWhy} (is_none o && not b) (Some Depth) o ≡ Some why → why ≡ RepeatedKey → ⊥
    by_refusal None true never e f = cc
    by_refusal None false never e f = cc
    by_refusal (Some other) b never e f = never other refl (let same : other ≡ why = cc in same ∙ f)

pub reads_leaf : (rules : Rules) (n : Nest) (at : ℕ) (t : TermValue) (o : Option TextWhy) (ps : List (ℕ × Token))
    → ((why : TextWhy) → o ≡ Some why → why ≡ RepeatedKey → ⊥) → (o ≡ None → IsWhole rules n.begun at t ps) → Reads rules ps (leaf rules n at t o)
reads_leaf rules n at t None ps never whole = inl (n.begun, at, t, refl, whole refl)
reads_leaf rules n at t (Some why) ps never whole = inr (inr ((at, why), refl, never why refl))

-- a token that is a term
pub token_whole : (rules : Rules) (n : Nest) (at : ℕ) (token : Token) (t : TermValue) (ps : List (ℕ × Token)) → IsAt rules n.begun n.place ps
    → refusal rules n ≡ None
    → ((deep : ℕ) (rest : List Token) → suc deep + length n.begun ≡ rules.levels → Text rules (suc deep) t (token ∷ rest) rest)
    → IsWhole rules n.begun at t (ps ++ (at, token) ∷ [])
token_whole rules n at token t ps is e text =
    let may = may_begin_at rules n e in
    let here = open_at rules n.begun n.place ps may.0 is in
    let room = room_for rules here.0 n.begun ps here.1 may.2 in
    record {
      levels = suc room.0;
      before = ps;
      first = token;
      more = [];
      parted = refl;
      outside = room.1;
      text = λ rest. text room.0 rest (levels_of rules (suc room.0) n.begun ps room.1);
    }

pub reads_term : (rules : Rules) (n : Nest) (at : ℕ) (token : Token) (t : TermValue) (ps : List (ℕ × Token)) → IsAt rules n.begun n.place ps
    → ((deep : ℕ) (rest : List Token) → Text rules (suc deep) t (token ∷ rest) rest)
    → Reads rules (ps ++ (at, token) ∷ []) (leaf rules n at t (refusal rules n))
reads_term rules n at token t ps is text =
    reads_leaf rules n at t (refusal rules n) _ (not_repeated rules n) (λ e. token_whole rules n at token t ps is e (λ deep rest low. text deep rest))

code_points : (rules : Rules) (deep : ℕ) (cs : List ℕ)
    → AllByRecursion (λ c. Text rules (suc deep) (integer (pos c)) (number (pos c) ∷ []) []) cs
code_points rules deep [] = tt
code_points rules deep (c ∷ cs) = ((refl, refl), code_points rules deep cs)

-- a string, whose code points have a level to stand at
pub string_text : (rules : Rules) (n : Nest) (cs : List ℕ) (deep : ℕ) (rest : List Token) → string_refusal rules n cs ≡ None
    → suc deep + length n.begun ≡ rules.levels → Text rules (suc deep) (integers cs) (string cs ∷ rest) rest
string_text rules n [] deep rest e low = (refl, tt, refl)
string_text rules n (c ∷ cs) (suc deep) rest e low = (refl, code_points rules deep (c ∷ cs), refl)
string_text rules n (c ∷ cs) zero rest e low =
    let parts = string_parts (refusal rules n) (may_hold rules n) e in
    let may = may_begin_at rules n parts.0 in
    let holds : (at_segment n.begun || nat_lt (length n.begun + 1) rules.levels) ≡ true = parts.1 in
    let fits = ltb-true (length n.begun + 1) rules.levels (ap (λ b. b || nat_lt (length n.begun + 1) rules.levels) (sym may.1) ∙ holds) in
    absurd (omega arith)

-- one that opens a term
pub reads_open : (rules : Rules) (n : Nest) (at : ℕ) (frame : Frame) (o : Option TextWhy) (ps : List (ℕ × Token)) → refusal rules n ≡ o → IsEmpty frame
    → IsAt rules n.begun n.place ps → Reads rules (ps ++ (at, mark (opening frame)) ∷ []) (open_term rules n at frame o)
reads_open rules n at frame (Some why) ps e empty is = inr (inr ((at, why), refl, not_repeated rules n why e))
reads_open rules n at frame None ps e empty is =
    let may = may_begin_at rules n e in
    let here = open_at rules n.begun n.place ps may.0 is in
    let room = room_for rules here.0 n.begun ps here.1 may.2 in
    inr (inl (record { begun = record { start = at; frame = frame } ∷ n.begun; place = opened }, refl, (room.0, (ps, refl, empty, room.1))))

-- ---- behind a part

reads_closed : (rules : Rules) (bs : List Begun) (start : ℕ) (o : Option TermValue) (at : ℕ) (ps : List (ℕ × Token))
    → ((t : TermValue) → o ≡ Some t → IsWhole rules bs start t ps) → Reads rules ps (closed rules bs start o at)
reads_closed rules bs start (Some t) at ps whole = inl (bs, start, t, refl, whole t refl)
reads_closed rules bs start None at ps whole = reads_stray rules ps at

pub reads_close : (rules : Rules) (term : Frame → Place → Option TermValue) (n : Nest) (at : ℕ) (bs : List Begun) (ps qs : List (ℕ × Token))
    → ((start : ℕ) (frame : Frame) (cs : List Begun) (t : TermValue) → IsAt rules (record { start = start; frame = frame } ∷ cs) n.place ps
    → term frame n.place ≡ Some t → IsWhole rules cs start t qs)
    → IsAt rules bs n.place ps → Reads rules qs (close rules term n at bs)
reads_close rules term n at [] ps qs whole is = reads_stray rules qs at
reads_close rules term n at (b ∷ bs) ps qs whole is =
    reads_closed rules bs b.start (term b.frame n.place) at qs (λ t e. whole b.start b.frame bs t is e)

reads_changed : (rules : Rules) (b : Begun) (bs : List Begun) (o : Option Frame) (at : ℕ) (ps : List (ℕ × Token))
    → ((frame : Frame) → o ≡ Some frame → StaysOpen rules b.start frame bs ps) → Reads rules ps (changed_to b bs o at)
reads_changed rules b bs (Some frame) at ps stays = inr (inl (record { begun = record b { frame = frame } ∷ bs; place = want }, refl, stays frame refl))
reads_changed rules b bs None at ps stays = reads_stray rules ps at

pub reads_change : (rules : Rules) (next : Frame → Place → Option Frame) (n : Nest) (at : ℕ) (bs : List Begun) (ps qs : List (ℕ × Token))
    → ((start : ℕ) (frame other : Frame) (cs : List Begun) → next frame n.place ≡ Some other
    → IsAt rules (record { start = start; frame = frame } ∷ cs) n.place ps → StaysOpen rules start other cs qs)
    → IsAt rules bs n.place ps → Reads rules qs (change next n at bs)
reads_change rules next n at [] ps qs stays is = reads_stray rules qs at
reads_change rules next n at (b ∷ bs) ps qs stays is =
    reads_changed rules b bs (next b.frame n.place) at qs (λ frame e. stays b.start b.frame frame bs e is)
