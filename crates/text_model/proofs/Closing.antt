-- Where keys may be repeated, each nest that tokens lead to is completed by more tokens.
use Rattle.std.proofs.Common.{◌≡◌, ℕ, ◌<◌, ◌≤◌, suc, ℤ, pos, Bool, true, false, ◌&&◌, Ok, List, [], ◌∷◌, ◌++◌, inl, inr, length, refl, ap, ◌∙◌, subst, arith}
use Rattle.std.proofs.lemmas.Bool.{lt-ltb}
use Rattle.std.specs.List.{AllByRecursion}
use Rattle.dets_term.specs.TermValue.{TermValue, integer, nil, tuple, bits, chain, map_of}
use Rattle.dets_term.specs.Pairs.{placed}
use Rattle.text_model.specs.declared.mark.Mark.TheVariants.{CloseBrace, CloseList, CloseBits, Arrow, FullStop}
use Rattle.text_model.specs.Token.{Token, mark, number, IsToken}
use Rattle.text_model.specs.Grammar.{Rules, last_bits, is_sized, sized_bits, IsText}
use Rattle.text_model.specs.Nest.{Frame, in_tuple, in_list, in_tail, in_map, in_value, in_bits, Begun, Place, want, opened, after, value, colon}
use Rattle.text_model.specs.Nest.{segment, sized, stopped, Nest, fresh, is_bits, at_segment, repeats_in, completed, take}
use Rattle.text_model.specs.Located.{tokens_of, take_next, take_all}
use Rattle.text_model.specs.Fronts.{MayBegin}
use Rattle.text_model.proofs.TakenSteps.{take_all-append, placed_at, tokens_of-placed_at, tokens_of-append}
use Rattle.text_model.proofs.Beginning.{completed_anew}
use Rattle.text_model.proofs.PartsTaken.{within}
use Rattle.text_model.proofs.SegmentsTaken.{number_segment, size_behind}
use Rattle.text_model.proofs.ReachedNests.{is_first, at_first, NoBits, NoBitsOutside, HasRoom, IsPlaced, no_bits}
use Rattle.text_model.proofs.Reaching.{reached}
use Rattle.text_model.proofs.NestsRead.{taken_text}

-- more tokens complete what is open
pub record IsCompleted (rules : Rules) (n : Nest) : Type 0 where
  pub term : TermValue
  pub more : List Token
  pub spelled : AllByRecursion IsToken more
  pub leads : take_all rules n (placed_at more) ≡ Ok (record { begun = []; place = stopped term })

by_token : (rules : Rules) (n m : Nest) (token : Token) → IsToken token → take rules n 0 token ≡ Ok m → IsCompleted rules m → IsCompleted rules n
by_token rules n m token is e c = record {
  term = c.term;
  more = token ∷ c.more;
  spelled = (is, c.spelled);
  leads = ap (λ o. take_next o (λ k. take_all rules k (placed_at c.more))) e ∙ c.leads;
}

-- behind a whole part of these terms there is a completion
abbrev Completes : Rules → List Begun → Type 0
Completes rules bs = (start : ℕ) (t : TermValue) → IsCompleted rules (record { begun = bs; place = after start t })

-- a closing mark, where no key is refused
by_close : (rules : Rules) (n : Nest) (bs : List Begun) (at : ℕ) (t : TermValue) (token : Token) → rules.distinct ≡ false → IsToken token
    → take rules n 0 token ≡ completed rules bs at t → Completes rules bs → IsCompleted rules n
by_close rules n bs at t token d is e c =
    by_token rules n (record { begun = bs; place = after at t }) token is
    (e ∙ completed_anew rules bs at t (ap (λ b. b && repeats_in bs t) d)) (c at t)

-- a number, where a part may stand
zero_taken : (rules : Rules) (bs : List Begun) → rules.distinct ≡ false → HasRoom rules bs
    → take rules (record { begun = bs; place = want }) 0 (number (pos 0)) ≡ Ok (record { begun = bs; place = after 0 (integer (pos 0)) })
zero_taken rules bs d room =
    let test = lt-ltb (length bs) rules.levels room.1 in rw (room.0, test, d)

-- behind a part of an open term
part_completed : (rules : Rules) (at : ℕ) (frame : Frame) (bs : List Begun) (start : ℕ) (t : TermValue) → rules.distinct ≡ false → is_bits frame ≡ false
    → suc (length bs) < rules.levels → Completes rules bs → IsCompleted rules (within at frame bs (after start t))
part_completed rules at (in_tuple ts) bs start t d apart low c =
    by_close rules _ bs at (tuple (chain (ts ++ t ∷ []) nil)) (mark CloseBrace) d tt refl c
part_completed rules at (in_list ts) bs start t d apart low c =
    by_close rules _ bs at (chain (ts ++ t ∷ []) nil) (mark CloseList) d tt refl c
part_completed rules at (in_tail ts) bs start t d apart low c = by_close rules _ bs at (chain ts t) (mark CloseList) d tt refl c
part_completed rules at (in_map pairs) bs start t d apart low c =
    by_token rules _ (within at (in_value pairs t) bs want) (mark Arrow) tt refl
    (by_token rules _ (within at (in_value pairs t) bs (after 0 (integer (pos 0)))) (number (pos 0)) refl
    (zero_taken rules (record { start = at; frame = in_value pairs t } ∷ bs) d (refl, low))
    (by_close rules _ bs at (map_of (placed (t, integer (pos 0)) pairs)) (mark CloseBrace) d tt refl c))
part_completed rules at (in_value pairs k) bs start t d apart low c =
    by_close rules _ bs at (map_of (placed (k, t) pairs)) (mark CloseBrace) d tt refl c
part_completed rules at (in_bits own) bs start t d apart low c = cc

after_completed : (rules : Rules) (bs : List Begun) (start : ℕ) (t : TermValue) → rules.distinct ≡ false → NoBits bs → length bs < rules.levels
    → IsCompleted rules (record { begun = bs; place = after start t })
after_completed rules [] start t d none low =
    by_token rules _ (record { begun = []; place = stopped t }) (mark FullStop) tt refl (record { term = t; more = []; spelled = tt; leads = refl })
after_completed rules (b ∷ bs) start t d none low =
    part_completed rules b.start b.frame bs start t d none.0 low (λ s u. after_completed rules bs s u d none.1 (omega arith))

-- behind an opening mark
opened_completed : (rules : Rules) (at : ℕ) (frame : Frame) (bs : List Begun) → rules.distinct ≡ false → is_first frame ≡ true → Completes rules bs
    → IsCompleted rules (within at frame bs opened)
opened_completed rules at (in_tuple ts) bs d first c = by_close rules _ bs at (tuple (chain ts nil)) (mark CloseBrace) d tt refl c
opened_completed rules at (in_list ts) bs d first c = by_close rules _ bs at nil (mark CloseList) d tt refl c
opened_completed rules at (in_tail ts) bs d first c = cc
opened_completed rules at (in_map pairs) bs d first c = by_close rules _ bs at (map_of pairs) (mark CloseBrace) d tt refl c
opened_completed rules at (in_value pairs k) bs d first c = cc
opened_completed rules at (in_bits own) bs d first c = by_close rules _ bs at (bits own) (mark CloseBits) d tt refl c

-- ---- in a bit string

-- behind a segment, or its value
value_completed : (rules : Rules) (at : ℕ) (own : List Bool) (bs : List Begun) (start : ℕ) (v : ℤ) → rules.distinct ≡ false → Completes rules bs
    → IsCompleted rules (within at (in_bits own) bs (value start v))
value_completed rules at own bs start v d c = by_close rules _ bs at (bits (own ++ last_bits 8 v)) (mark CloseBits) d tt refl c

sized_completed : (rules : Rules) (at : ℕ) (own last : List Bool) (bs : List Begun) → rules.distinct ≡ false → Completes rules bs
    → IsCompleted rules (within at (in_bits own) bs (sized last))
sized_completed rules at own last bs d c = by_close rules _ bs at (bits (own ++ last)) (mark CloseBits) d tt refl c

-- where a segment may begin, and behind a colon
segment_completed : (rules : Rules) (at : ℕ) (own : List Bool) (bs : List Begun) → rules.distinct ≡ false → Completes rules bs
    → IsCompleted rules (within at (in_bits own) bs want)
segment_completed rules at own bs d c =
    by_token rules _ (within at (in_bits own) bs (value 0 (pos 0))) (number (pos 0)) refl
    (number_segment rules at own bs want 0 (pos 0) refl (λ r. refl)) (value_completed rules at own bs 0 (pos 0) d c)

colon_completed : (rules : Rules) (at : ℕ) (own : List Bool) (bs : List Begun) (start : ℕ) (v : ℤ) → rules.distinct ≡ false
    → (rules.ranged ≡ true → is_sized v (pos 7) ≡ true) → Completes rules bs → IsCompleted rules (within at (in_bits own) bs (colon start v))
colon_completed rules at own bs start v d range c =
    by_token rules _ (within at (in_bits own) bs (sized (sized_bits v (pos 7)))) (number (pos 7)) refl
    (size_behind rules at own bs start 0 v (pos 7) range) (sized_completed rules at own (sized_bits v (pos 7)) bs d c)

in_bits_completed : (rules : Rules) (at : ℕ) (frame : Frame) (bs : List Begun) (place : Place) → rules.distinct ≡ false → is_bits frame ≡ true
    → ((own : List Bool) → IsCompleted rules (within at (in_bits own) bs place)) → IsCompleted rules (within at frame bs place)
in_bits_completed rules at (in_bits own) bs place d is c = c own
in_bits_completed rules at frame bs place d is c = cc

-- where the innermost term is a bit string
at_segment_completed : (rules : Rules) (bs : List Begun) (place : Place) → rules.distinct ≡ false → at_segment bs ≡ true → NoBitsOutside bs
    → length bs ≤ rules.levels → ((at : ℕ) (own : List Bool) (cs : List Begun) → Completes rules cs → IsCompleted rules (within at (in_bits own) cs place))
    → IsCompleted rules (record { begun = bs; place = place })
at_segment_completed rules [] place d s outside low c = cc
at_segment_completed rules (b ∷ bs) place d s outside low c =
    in_bits_completed rules b.start b.frame bs place d s
    (λ own. c b.start own bs (λ start t. after_completed rules bs start t d outside low))

-- ---- each nest that is reached

want_completed : (rules : Rules) (bs : List Begun) → rules.distinct ≡ false → NoBitsOutside bs → HasRoom rules bs
    → IsCompleted rules (record { begun = bs; place = want })
want_completed rules bs d outside room =
    by_token rules _ (record { begun = bs; place = after 0 (integer (pos 0)) }) (number (pos 0)) refl
    (zero_taken rules bs d room) (after_completed rules bs 0 (integer (pos 0)) d (no_bits bs room.0 outside) room.1)

opening_completed : (rules : Rules) (bs : List Begun) → rules.distinct ≡ false → NoBitsOutside bs → length bs ≤ rules.levels → at_first bs ≡ true
    → IsCompleted rules (record { begun = bs; place = opened })
opening_completed rules [] d outside low first = cc
opening_completed rules (b ∷ bs) d outside low first =
    opened_completed rules b.start b.frame bs d first (λ start t. after_completed rules bs start t d outside low)

nest_completed : (rules : Rules) (bs : List Begun) (place : Place) → rules.distinct ≡ false → NoBitsOutside bs → length bs ≤ rules.levels
    → IsPlaced rules bs place → IsCompleted rules (record { begun = bs; place = place })
nest_completed rules bs want d outside low (inl s) =
    at_segment_completed rules bs want d s outside low (λ at own cs c. segment_completed rules at own cs d c)
nest_completed rules bs want d outside low (inr room) = want_completed rules bs d outside room
nest_completed rules bs opened d outside low p = opening_completed rules bs d outside low p
nest_completed rules bs (after start t) d outside low p = after_completed rules bs start t d (no_bits bs p.0 outside) p.1
nest_completed rules bs (value start v) d outside low p =
    at_segment_completed rules bs (value start v) d p outside low (λ at own cs c. value_completed rules at own cs start v d c)
nest_completed rules bs (colon start v) d outside low p =
    at_segment_completed rules bs (colon start v) d p.0 outside low (λ at own cs c. colon_completed rules at own cs start v d p.1 c)
nest_completed rules bs segment d outside low p =
    at_segment_completed rules bs segment d p outside low (λ at own cs c. by_close rules _ cs at (bits own) (mark CloseBits) d tt refl c)
nest_completed rules bs (sized last) d outside low p =
    at_segment_completed rules bs (sized last) d p outside low (λ at own cs c. sized_completed rules at own last cs d c)
nest_completed rules bs (stopped t) d outside low p = record {
  term = t;
  more = [];
  spelled = tt;
  leads = ap (λ l. Ok (record { begun = l; place = stopped t })) p;
}

-- each nest that tokens lead to from the first one
reached_completed : (rules : Rules) (ps : List (ℕ × Token)) (n : Nest) → rules.distinct ≡ false → 1 ≤ rules.levels → take_all rules fresh ps ≡ Ok n
    → IsCompleted rules n
reached_completed rules ps n d h e =
    let r = reached rules n ps h e in nest_completed rules n.begun n.place d r.outside r.shallow r.placed

-- a text may begin with tokens that are taken
pub taken_begins : (rules : Rules) → rules.distinct ≡ false → 1 ≤ rules.levels → (ps : List (ℕ × Token)) (n : Nest)
    → take_all rules fresh ps ≡ Ok n → MayBegin rules (tokens_of ps)
taken_begins rules d h ps n e =
    let c = reached_completed rules ps n d h e in
    let leads : take_all rules fresh (ps ++ placed_at c.more) ≡ Ok (record { begun = []; place = stopped c.term }) =
    take_all-append rules fresh ps (placed_at c.more) ∙ ap (λ o. take_next o (λ m. take_all rules m (placed_at c.more))) e ∙ c.leads in
    let all : tokens_of (ps ++ placed_at c.more) ≡ tokens_of ps ++ c.more =
    tokens_of-append ps (placed_at c.more) ∙ ap (λ l. tokens_of ps ++ l) (tokens_of-placed_at c.more) in
    record {
      term = c.term;
      more = c.more;
      spelled = c.spelled;
      text = subst (IsText rules c.term) all (taken_text rules c.term (ps ++ placed_at c.more) _ leads refl);
    }
