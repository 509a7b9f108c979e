-- Lemmas: what the bytes of a stream of spellings mean is steady.
use Rattle.std.proofs.Common.{◌≡◌, ◌≢◌, ℕ, zero, suc, ◌+◌, ◌-◌, ◌≤◌, ◌<◌, ◌⊎◌, Bool, true, false, ltb, List, [], ◌∷◌, ◌++◌, length, length-append, take, drop}
use Rattle.std.proofs.Common.{Ok, Err, refl, ap, ap₂, sym, ◌∙◌, subst, inl, inr, take_all, append-nil, append_assoc, lt-ltb, le-ltb, arith}
use Rattle.std.proofs.lemmas.Bool.{cases_lt}
use Rattle.std.proofs.lemmas.List.{take-append-drop, take-append-le, length-take-le}
use Rattle.dets_term.specs.TermValue.{TermValue}
use Rattle.feed_model.specs.Meaning.{goes_on, ends, breaks, InFront, a_term, no_term}
use Rattle.feed_model.specs.Steady.{Steady}
use Rattle.etf_model.specs.declared.fault.EtfFault.{EtfFault}
use Rattle.etf_model.specs.declared.fault.EtfFault.TheVariants.{Short, LongTerm, Memory}
use Rattle.etf_model.specs.Answers.{IsFront}
use Rattle.etf_model.specs.Fronts.{Begins}
use Rattle.etf_model.specs.Format.{Reading}
use Rattle.etf_model.specs.Beginnings.{OneOfThree, one_of_three}
use Rattle.etf_model.specs.Spelling.{spelling, Spells, IsPart, IsBreak}
use Rattle.etf_model.specs.SpellingExact.{spelling-exact, spelling_lacks_long, spelling_lacks_memory}
use Rattle.etf_model.specs.SpellingFeed.{longest, stands, spellings}
use Rattle.etf_model.specs.SpellingKept.{spelling_some}

-- ---- one thing stands in front: the one that reading tells

-- of a part, by whether it is shorter than 2 ^ 24 bytes and whether the input is finished
abbrev at_part : (few finished : Bool) → ℕ → List ℕ → InFront EtfFault
at_part false finished start bytes = no_term (breaks (LongTerm start))
at_part true false start bytes = no_term goes_on
at_part true true start [] = no_term ends
at_part true true start (x ∷ bytes) = no_term (breaks Short)

abbrev seen : Bool → ℕ → List ℕ → Reading TermValue → InFront EtfFault
seen finished start bytes (Ok r) = a_term r.0 (r.1.offset - start)
seen finished start bytes (Err Short) = at_part (ltb (length bytes) longest) finished start bytes
seen finished start bytes (Err fault) = no_term (breaks fault)

abbrev read_from : ℕ → List ℕ → Reading TermValue
read_from start bytes = spelling.read start (record { offset = start; left = bytes })

abbrev seen_of : Bool → ℕ → List ℕ → InFront EtfFault
seen_of finished start bytes = seen finished start bytes (read_from start (take longest bytes))

seen_term : (finished : Bool) (start : ℕ) (bytes : List ℕ) (t : TermValue) (count : ℕ) → IsFront spelling (take longest bytes) t count
    → seen_of finished start bytes ≡ a_term t count
seen_term finished start bytes t count front =
    let before = take count (take longest bytes) in
    let behind = drop count (take longest bytes) in
    let long : start + length before - start ≡ count = omega (arith, length-take-le count (take longest bytes) front.fits) in
    ap (λ l. seen finished start bytes (read_from start l)) (sym (take-append-drop count (take longest bytes)))
    ∙ ap (seen finished start bytes) (spelling-exact.whole_read start start t before behind front.whole)
    ∙ ap (a_term t) long

-- a break, of whose fault this is seen
seen_break : (finished : Bool) (start : ℕ) (bytes : List ℕ) (fault : EtfFault) → seen finished start bytes (Err fault) ≡ no_term (breaks fault)
    → Begins (λ front. IsBreak start front fault) (take longest bytes) → seen_of finished start bytes ≡ no_term (breaks fault)
seen_break finished start bytes fault same b =
    ap (λ l. seen finished start bytes (read_from start l)) b.whole
    ∙ ap (seen finished start bytes) (spelling-exact.break_read start start b.front b.rest fault b.holds) ∙ same

seen_part : (finished : Bool) (start : ℕ) (bytes : List ℕ) → IsPart (take longest bytes)
    → seen_of finished start bytes ≡ at_part (ltb (length bytes) longest) finished start bytes
seen_part finished start bytes p = ap (seen finished start bytes) (spelling-exact.part_read start start (take longest bytes) p)

seen_few : (finished other : Bool) (start : ℕ) (bytes : List ℕ) → finished ≡ other → length bytes < longest → IsPart bytes
    → seen_of finished start bytes ≡ at_part true other start bytes
seen_few finished other start bytes f few p =
    seen_part finished start bytes (subst IsPart (sym (take_all longest bytes (omega (arith, few)))) p)
    ∙ ap₂ (λ b c. at_part b c start bytes) (lt-ltb (length bytes) longest few) f

seen_long : (finished : Bool) (start : ℕ) (bytes : List ℕ) → longest ≤ length bytes → IsPart (take longest bytes)
    → seen_of finished start bytes ≡ no_term (breaks (LongTerm start))
seen_long finished start bytes long p =
    seen_part finished start bytes p ∙ ap (λ few. at_part few finished start bytes) (le-ltb (length bytes) longest long)

some_short : (start : ℕ) (bytes : List ℕ) → bytes ≢ [] → at_part true true start bytes ≡ no_term (breaks Short)
some_short start [] some = absurd (some refl)
some_short start (x ∷ bytes) some = refl

no_bytes_are_part : IsPart []
no_bytes_are_part = spelling-exact.read_part 0 (record { offset = 0; left = [] }) refl

seen_end : (finished : Bool) (start : ℕ) (bytes : List ℕ) → finished ≡ true → bytes ≡ [] → seen_of finished start bytes ≡ no_term ends
seen_end finished start bytes f none =
    let few : length bytes < longest = omega (arith, ap length none) in
    seen_few finished true start bytes f few (subst IsPart (sym none) no_bytes_are_part) ∙ ap (at_part true true start) none

settled : (finished : Bool) (start : ℕ) (bytes : List ℕ) (x : InFront EtfFault) → stands finished start bytes x → seen_of finished start bytes ≡ x
settled finished start bytes (a_term t count) front = seen_term finished start bytes t count front
settled finished start bytes (no_term goes_on) (f, few, p) = seen_few finished false start bytes f few p
settled finished start bytes (no_term ends) (f, none) = seen_end finished start bytes f none
settled finished start bytes (no_term (breaks Short)) (f, some, few, p) =
    seen_few finished true start bytes f few p ∙ some_short start bytes some
settled finished start bytes (no_term (breaks (LongTerm at))) (here, long, p) =
    seen_long finished start bytes long p ∙ ap (λ o. no_term (breaks (LongTerm o))) (sym here)
settled finished start bytes (no_term (breaks Memory)) h = absurd h
settled finished start bytes (no_term (breaks fault)) b = seen_break finished start bytes fault refl b

-- ---- something does

-- what stands in front of some bytes
abbrev Something : Bool → ℕ → List ℕ → Type 0
Something finished start bytes = (x : InFront EtfFault) × stands finished start bytes x

front_first : (bytes : List ℕ) (t : TermValue) (b : Begins (Spells t) bytes) → IsFront spelling bytes t (length b.front)
front_first bytes t b =
    let whole = ap (take (length b.front)) b.whole ∙ take-append-le (length b.front) b.front b.rest (omega arith)
    ∙ take_all (length b.front) b.front (omega arith) in
    record {
      fits = omega (arith, ap length b.whole ∙ length-append b.front b.rest);
      whole = subst (spelling.Whole t) (sym whole) b.holds;
    }

broken : (finished : Bool) (start : ℕ) (bytes : List ℕ) (fault : EtfFault) → fault ≢ Short
    → Begins (λ front. IsBreak start front fault) (take longest bytes) → stands finished start bytes (no_term (breaks fault))
broken finished start bytes Short other b = absurd (other refl)
broken finished start bytes (LongTerm at) other b = absurd ((spelling_lacks_long at).no_break start start b.front b.holds)
broken finished start bytes Memory other b = absurd (spelling_lacks_memory.no_break start start b.front b.holds)
broken finished start bytes fault other b = b

short_part : (finished : Bool) (start : ℕ) (bytes : List ℕ) → length bytes < longest → IsPart bytes → Something finished start bytes
short_part false start bytes few part = (no_term goes_on, (refl, few, part))
short_part true start [] few part = (no_term ends, (refl, refl))
short_part true start (x ∷ bytes) few part = (no_term (breaks Short), (refl, (λ none. cc), few, part))

a_part : (finished : Bool) (start : ℕ) (bytes : List ℕ) → IsPart (take longest bytes) → (length bytes < longest) ⊎ (longest ≤ length bytes)
    → Something finished start bytes
a_part finished start bytes part (inl few) =
    short_part finished start bytes few (subst IsPart (take_all longest bytes (omega (arith, few))) part)
a_part finished start bytes part (inr long) = (no_term (breaks (LongTerm start)), (refl, long, part))

something : (finished : Bool) (start : ℕ) (bytes : List ℕ) → OneOfThree spelling spelling-exact start (take longest bytes)
    → Something finished start bytes
something finished start bytes (inl (t, b)) = (a_term t (length b.front), front_first (take longest bytes) t b)
something finished start bytes (inr (inl (fault, b))) =
    (no_term (breaks fault), broken finished start bytes fault (spelling-exact.break_fault start start b.front fault b.holds) b)
something finished start bytes (inr (inr part)) = a_part finished start bytes part (cases_lt (length bytes) longest)

-- ---- it stays

take_behind : (n : ℕ) (xs ys : List ℕ) → take n (xs ++ ys) ≡ take n xs ++ take (n - length xs) ys
take_behind zero [] ys = refl
take_behind zero (x ∷ xs) ys = let none : 0 ≡ 0 - length (x ∷ xs) = omega arith in ap (λ m. take m ys) none
take_behind (suc n) [] ys = let whole : suc n ≡ suc n - length {A = ℕ} [] = omega arith in ap (λ m. take m ys) whole
take_behind (suc n) (x ∷ xs) ys =
    let fewer : n - length xs ≡ suc n - length (x ∷ xs) = omega arith in
    ap (λ l. x ∷ l) (take_behind n xs ys ∙ ap (λ m. take n xs ++ take m ys) fewer)

-- what holds of some bytes whatever follows them holds of the bytes among which the next spelling stands, whatever follows
front_grows : (P : List ℕ → Type 0) → ((bytes more : List ℕ) → P bytes → P (bytes ++ more))
    → (left more : List ℕ) → P (take longest left) → P (take longest (left ++ more))
front_grows P grows left more h =
    subst P (sym (take_behind longest left more)) (grows (take longest left) (take (longest - length left) more) h)

term_grows : (t : TermValue) (count : ℕ) (bytes more : List ℕ) → IsFront spelling bytes t count → IsFront spelling (bytes ++ more) t count
term_grows t count bytes more front = record {
  fits = omega (arith, front.fits, length-append bytes more);
  whole = subst (spelling.Whole t) (sym (take-append-le count bytes more front.fits)) front.whole;
}

begins_grows : (P : List ℕ → Type 0) (bytes more : List ℕ) → Begins P bytes → Begins P (bytes ++ more)
begins_grows P bytes more b = record {
  front = b.front;
  rest = b.rest ++ more;
  holds = b.holds;
  whole = ap (λ l. l ++ more) b.whole ∙ append_assoc b.front b.rest more;
}

-- a term in front stays whatever follows, also behind an input that was finished
pub term_stays : (left more : List ℕ) (t : TermValue) (count : ℕ) → IsFront spelling (take longest left) t count
    → IsFront spelling (take longest (left ++ more)) t count
term_stays left more t count front = front_grows (λ bytes. IsFront spelling bytes t count) (term_grows t count) left more front

stays : (finished then : Bool) (start : ℕ) (bytes more : List ℕ) (x : InFront EtfFault) → x ≢ no_term goes_on
    → (finished ≡ true → (then ≡ true) × (more ≡ [])) → stands finished start bytes x → stands then start (bytes ++ more) x
stays finished then start bytes more (a_term t count) other last front = term_stays bytes more t count front
stays finished then start bytes more (no_term goes_on) other last h = absurd (other refl)
stays finished then start bytes more (no_term ends) other last (f, none) = ((last f).0, ap₂ (λ xs ys. xs ++ ys) none (last f).1)
stays finished then start bytes more (no_term (breaks Short)) other last (f, some, few, p) =
    subst (λ l. stands then start l (no_term (breaks Short))) (sym (append-nil bytes) ∙ ap (λ l. bytes ++ l) (sym (last f).1))
    ((last f).0, some, few, p)
stays finished then start bytes more (no_term (breaks (LongTerm at))) other last (here, long, p) =
    let same : take longest (bytes ++ more) ≡ take longest bytes = take-append-le longest bytes more long in
    (here, omega (arith, long, length-append bytes more), subst IsPart (sym same) p)
stays finished then start bytes more (no_term (breaks Memory)) other last h = absurd h
stays finished then start bytes more (no_term (breaks fault)) other last b =
    let Breaks = λ (l : List ℕ). Begins (λ front. IsBreak start front fault) l in
    front_grows Breaks (begins_grows (λ front. IsBreak start front fault)) bytes more b

-- ---- a term has some of the bytes

some_bytes : (t : TermValue) (count : ℕ) (bytes : List ℕ) → IsFront spelling bytes t count → 0 < count
some_bytes t zero bytes front = absurd (spelling_some t [] front.whole refl)
some_bytes t (suc count) bytes front = omega arith

within : (bytes : List ℕ) (t : TermValue) (count : ℕ) → IsFront spelling (take longest bytes) t count → (0 < count) × (count ≤ length bytes)
within bytes t count front =
    let whole = ap length (take-append-drop longest bytes) in
    let parts = length-append (take longest bytes) (drop longest bytes) in
    (some_bytes t count (take longest bytes) front, omega (arith, front.fits, whole, parts))

pub steady-spellings : Steady spellings
steady-spellings = record {
  one = λ finished start bytes x y h k. sym (settled finished start bytes x h) ∙ settled finished start bytes y k;
  some = λ finished start bytes. something finished start bytes (one_of_three spelling spelling-exact start (take longest bytes));
  stays = stays;
  within = λ finished start bytes t count front. within bytes t count front;
  closed = λ start bytes h. let clash = h.0 in cc;
  open_end = λ start bytes h. let clash = h.0 in cc;
  no_memory = λ finished start bytes h. h;
}
