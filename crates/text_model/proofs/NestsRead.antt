-- What stands behind each nest that tokens lead to: each token that the machine takes keeps it so.
use Rattle.std.proofs.Common.{◌≡◌, ℕ, ℤ, Bool, true, false, cond, nat_lt, Ok, List, [], ◌∷◌, ◌++◌, inl, inr, refl, ap, ◌∙◌, sym, subst, append_assoc}
use Rattle.std.proofs.lemmas.Bool.{and_parts}
use Rattle.std.proofs.lemmas.List.{append-nil}
use Rattle.std.specs.List.{flat_map}
use Rattle.dets_term.specs.TermValue.{TermValue, integer, atom}
use Rattle.dets_term.specs.BitString.{byte_bits}
use Rattle.etf_model.specs.Layout.{integers}
use Rattle.text_model.specs.declared.mark.Mark.{Mark}
use Rattle.text_model.specs.declared.mark.Mark.TheVariants.{OpenTuple, OpenMap, CloseBrace, OpenList, CloseList, OpenBits, CloseBits, Bar, Comma}
use Rattle.text_model.specs.declared.mark.Mark.TheVariants.{Arrow, Colon, FullStop}
use Rattle.text_model.specs.Token.{Token, mark, number, plain, quoted, string}
use Rattle.text_model.specs.Characters.{each}
use Rattle.text_model.specs.Grammar.{Rules, is_byte, is_sized, sized_bits, Text, IsText}
use Rattle.text_model.specs.Nest.{Frame, in_tuple, in_list, in_map, in_bits, Begun, Place, after, value, colon, segment, sized, stopped, Nest, fresh}
use Rattle.text_model.specs.Nest.{Taken, is_bits, at_segment, wants, refusal, wants_segment, leaf, grown, take_segment, take_bytes, number_at}
use Rattle.text_model.specs.Nest.{string_refusal, last_part, brace_term, list_term, bits_term, frame_after_comma, frame_after_bar, frame_after_arrow}
use Rattle.text_model.specs.Nest.{take_colon, take_stop, take_mark, take}
use Rattle.text_model.specs.Located.{tokens_of, take_all}
use Rattle.text_model.proofs.TakenSteps.{taken_before, tokens_of-append}
use Rattle.text_model.proofs.Refused.{cond_ok, asked_holds, string_may_begin}
use Rattle.text_model.proofs.OpenTerms.{AreOpen, IsWhole, IsBehindString, IsAt, open_at}
use Rattle.text_model.proofs.MarksRead.{comma_open, bar_open, arrow_open, brace_whole, list_whole, bits_whole}
use Rattle.text_model.proofs.TokensRead.{Reads, reads_stray, reads_asked, reads_leaf, not_repeated_string, token_whole, reads_term, string_text}
use Rattle.text_model.proofs.TokensRead.{reads_open, reads_close, reads_change}

-- ---- segments

reads_segment : (rules : Rules) (n : Nest) (at : ℕ) (v : ℤ) (ps : List (ℕ × Token)) → wants n.place ≡ true → IsAt rules n.begun n.place ps
    → Reads rules (ps ++ (at, number v) ∷ []) (take_segment rules n at v)
reads_segment rules n at v ps w is =
    let here = open_at rules n.begun n.place ps w is in
    reads_asked rules _ at _ (record n { place = value at v })
    (λ e. (here.0, ps, at, refl, asked_holds rules.ranged (is_byte v) e, here.1))

behind_string : (rules : Rules) (levels : ℕ) (bs : List Begun) (at : ℕ) (cs : List ℕ) (ps : List (ℕ × Token)) → at_segment bs ≡ true
    → (rules.ranged ≡ true → each (λ c. nat_lt c 256) cs ≡ true) → AreOpen rules levels bs ps
    → IsBehindString rules (grown bs (flat_map byte_bits cs)) (ps ++ (at, string cs) ∷ [])
behind_string rules levels [] at cs ps s range o = cc
behind_string rules levels (b ∷ bs) at cs ps s range o = of_frame b.frame s o
  where
    of_frame : (frame : Frame) → is_bits frame ≡ true → AreOpen rules levels (record { start = b.start; frame = frame } ∷ bs) ps
        → IsBehindString rules (grown (record { start = b.start; frame = frame } ∷ bs) (flat_map byte_bits cs)) (ps ++ (at, string cs) ∷ [])
    of_frame (in_bits own) s o = (levels, ps, at, cs, own, refl, refl, range, o)
    of_frame other s o = cc

reads_bytes : (rules : Rules) (n : Nest) (at : ℕ) (cs : List ℕ) (ps : List (ℕ × Token)) → wants n.place ≡ true → at_segment n.begun ≡ true
    → IsAt rules n.begun n.place ps → Reads rules (ps ++ (at, string cs) ∷ []) (take_bytes rules n at cs)
reads_bytes rules n at cs ps w s is =
    let here = open_at rules n.begun n.place ps w is in
    reads_asked rules _ at _ (record { begun = grown n.begun (flat_map byte_bits cs); place = segment })
    (λ e. behind_string rules here.0 n.begun at cs ps s (asked_holds rules.ranged (each (λ c. nat_lt c 256) cs) e) here.1)

reads_colon : (rules : Rules) (n : Nest) (at : ℕ) (place : Place) (ps : List (ℕ × Token)) → IsAt rules n.begun place ps
    → Reads rules (ps ++ (at, mark Colon) ∷ []) (take_colon rules n at place)
reads_colon rules n at (value start v) ps (levels, before, late, parted, range, so_far) =
    reads_asked rules _ start _ (record n { place = colon start v })
    (λ e. (levels, before, late, at, ap (λ l. l ++ (at, mark Colon) ∷ []) parted ∙ append_assoc before _ _, so_far))
reads_colon rules n at other ps is = reads_stray rules _ at

reads_number_at : (rules : Rules) (n : Nest) (at : ℕ) (z : ℤ) (place : Place) (ps : List (ℕ × Token)) → IsAt rules n.begun place ps
    → Reads rules (ps ++ (at, number z) ∷ []) (leaf rules n at (integer z) (refusal rules n))
    → Reads rules (ps ++ (at, number z) ∷ []) (number_at rules n at z place)
reads_number_at rules n at z (colon start v) ps (levels, before, late, later, parted, so_far) by_leaf =
    reads_asked rules _ start _ (record n { place = sized (sized_bits v z) })
    (λ e. (
      levels,
      before,
      late,
      later,
      at,
      v,
      z,
      ap (λ l. l ++ (at, number z) ∷ []) parted ∙ append_assoc before _ _,
      asked_holds rules.ranged (is_sized v z) e,
      refl,
      so_far,
    ))
reads_number_at rules n at z other ps is by_leaf = by_leaf

reads_number : (rules : Rules) (n : Nest) (at : ℕ) (z : ℤ) (b : Bool) (ps : List (ℕ × Token)) → wants_segment n ≡ b → IsAt rules n.begun n.place ps
    → Reads rules (ps ++ (at, number z) ∷ []) (cond b (take_segment rules n at z) (number_at rules n at z n.place))
reads_number rules n at z true ps s is = reads_segment rules n at z ps (and_parts (wants n.place) (at_segment n.begun) s).0 is
reads_number rules n at z false ps s is =
    reads_number_at rules n at z n.place ps is (reads_term rules n at (number z) (integer z) ps is (λ deep rest. (refl, refl)))

reads_string : (rules : Rules) (n : Nest) (at : ℕ) (cs : List ℕ) (b : Bool) (ps : List (ℕ × Token)) → wants_segment n ≡ b → IsAt rules n.begun n.place ps
    → Reads rules (ps ++ (at, string cs) ∷ []) (cond b (take_bytes rules n at cs) (leaf rules n at (integers cs) (string_refusal rules n cs)))
reads_string rules n at cs true ps s is =
    let both = and_parts (wants n.place) (at_segment n.begun) s in reads_bytes rules n at cs ps both.0 both.1 is
reads_string rules n at cs false ps s is =
    reads_leaf rules n at (integers cs) (string_refusal rules n cs) _ (not_repeated_string rules n cs)
    (λ e. token_whole rules n at (string cs) (integers cs) ps is (string_may_begin rules n cs e) (λ deep rest low. string_text rules n cs deep rest e low))

-- ---- marks

-- the whole text, where no term is open
whole_text : (rules : Rules) (start : ℕ) (t : TermValue) (ps : List (ℕ × Token)) (at : ℕ) → IsWhole rules [] start t ps
    → IsText rules t (tokens_of (ps ++ (at, mark FullStop) ∷ []))
whole_text rules start t ps at w =
    let text : Text rules w.levels t (w.first ∷ (tokens_of w.more ++ mark FullStop ∷ [])) (mark FullStop ∷ []) = w.text (mark FullStop ∷ []) in
    let own : ps ≡ (start, w.first) ∷ w.more = w.parted ∙ ap (λ l. l ++ (start, w.first) ∷ w.more) w.outside.0 in
    let all : tokens_of (ps ++ (at, mark FullStop) ∷ []) ≡ w.first ∷ (tokens_of w.more ++ mark FullStop ∷ []) =
    tokens_of-append ps ((at, mark FullStop) ∷ []) ∙ ap (λ l. tokens_of l ++ mark FullStop ∷ []) own in
    subst (λ levels. Text rules levels t (tokens_of (ps ++ (at, mark FullStop) ∷ [])) (mark FullStop ∷ [])) w.outside.1
    (subst (λ l. Text rules w.levels t l (mark FullStop ∷ [])) (sym all) text)

reads_stop : (rules : Rules) (at : ℕ) (bs : List Begun) (place : Place) (ps : List (ℕ × Token)) → IsAt rules bs place ps
    → Reads rules (ps ++ (at, mark FullStop) ∷ []) (take_stop at bs place)
reads_stop rules at [] (after start t) ps is =
    inr (inl (record { begun = []; place = stopped t }, refl, whole_text rules start t ps at is.0))
reads_stop rules at bs place ps is = reads_stray rules _ at

reads_mark : (rules : Rules) (n : Nest) (at : ℕ) (m : Mark) (ps : List (ℕ × Token)) → IsAt rules n.begun n.place ps
    → Reads rules (ps ++ (at, mark m) ∷ []) (take_mark rules n at m)
reads_mark rules n at OpenTuple ps is = reads_open rules n at (in_tuple []) (refusal rules n) ps refl refl is
reads_mark rules n at OpenMap ps is = reads_open rules n at (in_map []) (refusal rules n) ps refl refl is
reads_mark rules n at OpenList ps is = reads_open rules n at (in_list []) (refusal rules n) ps refl refl is
reads_mark rules n at OpenBits ps is = reads_open rules n at (in_bits []) (refusal rules n) ps refl refl is
reads_mark rules n at CloseBrace ps is =
    reads_close rules (λ frame place. brace_term frame (last_part place)) n at n.begun ps _
    (λ start frame cs t here e. brace_whole rules start frame cs n.place t ps at here e) is
reads_mark rules n at CloseList ps is =
    reads_close rules (λ frame place. list_term frame (last_part place)) n at n.begun ps _
    (λ start frame cs t here e. list_whole rules start frame cs n.place t ps at here e) is
reads_mark rules n at CloseBits ps is =
    reads_close rules bits_term n at n.begun ps _ (λ start frame cs t here e. bits_whole rules start frame cs n.place t ps at here e) is
reads_mark rules n at Bar ps is =
    reads_change rules frame_after_bar n at n.begun ps _ (λ start frame other cs e here. bar_open rules start frame other cs n.place ps at e here) is
reads_mark rules n at Comma ps is =
    reads_change rules frame_after_comma n at n.begun ps _ (λ start frame other cs e here. comma_open rules start frame other cs n.place ps at e here) is
reads_mark rules n at Arrow ps is =
    reads_change rules frame_after_arrow n at n.begun ps _ (λ start frame other cs e here. arrow_open rules start frame other cs n.place ps at e here) is
reads_mark rules n at Colon ps is = reads_colon rules n at n.place ps is
reads_mark rules n at FullStop ps is = reads_stop rules at n.begun n.place ps is

-- ---- tokens

pub reads : (rules : Rules) (n : Nest) (at : ℕ) (token : Token) (ps : List (ℕ × Token)) → IsAt rules n.begun n.place ps
    → Reads rules (ps ++ (at, token) ∷ []) (take rules n at token)
reads rules n at (mark m) ps is = reads_mark rules n at m ps is
reads rules n at (number z) ps is = reads_number rules n at z (wants_segment n) ps refl is
reads rules n at (plain cs) ps is = reads_term rules n at (plain cs) (atom cs) ps is (λ deep rest. (refl, refl))
reads rules n at (quoted cs) ps is = reads_term rules n at (quoted cs) (atom cs) ps is (λ deep rest. (refl, refl))
reads rules n at (string cs) ps is = reads_string rules n at cs (wants_segment n) ps refl is

-- a token that is taken
at_behind : (rules : Rules) (ps : List (ℕ × Token)) (o : Taken) (m : Nest) → o ≡ Ok m → Reads rules ps o → IsAt rules m.begun m.place ps
at_behind rules ps o m e (inl (bs, start, t, is, whole)) =
    let passed = cond_ok _ _ (record { begun = bs; place = after start t }) m (sym is ∙ e) in
    subst (λ k. IsAt rules k.begun k.place ps) passed.1 (whole, passed.0)
at_behind rules ps o m e (inr (inl (k, is, here))) = let same : k ≡ m = cc in subst (λ l. IsAt rules l.begun l.place ps) same here
at_behind rules ps o m e (inr (inr (fault, is, never))) = cc

at_behind_all : (rules : Rules) (n m : Nest) (ps qs : List (ℕ × Token)) → IsAt rules n.begun n.place ps → take_all rules n qs ≡ Ok m
    → IsAt rules m.begun m.place (ps ++ qs)
at_behind_all rules n m ps [] is e =
    let same : n ≡ m = cc in
    subst (λ l. IsAt rules m.begun m.place l) (sym (append-nil ps)) (subst (λ k. IsAt rules k.begun k.place ps) same is)
at_behind_all rules n m ps (q ∷ qs) is e =
    let first = taken_before (take rules n q.0 q.1) (λ k. take_all rules k qs) m e in
    let more = at_behind_all rules first.0 m (ps ++ q ∷ []) qs
    (at_behind rules (ps ++ q ∷ []) (take rules n q.0 q.1) first.0 first.1 (reads rules n q.0 q.1 ps is)) first.2 in
    subst (λ l. IsAt rules m.begun m.place l) (append_assoc ps (q ∷ []) qs) more

-- each nest that tokens lead to from the first one
pub is_at : (rules : Rules) (ps : List (ℕ × Token)) (n : Nest) → take_all rules fresh ps ≡ Ok n → IsAt rules n.begun n.place ps
is_at rules ps n e = at_behind_all rules fresh n [] ps (rules.levels, (refl, refl)) e

-- up to a full stop it is a text
pub taken_text : (rules : Rules) (t : TermValue) (ps : List (ℕ × Token)) (n : Nest) → take_all rules fresh ps ≡ Ok n → n.place ≡ stopped t
    → IsText rules t (tokens_of ps)
taken_text rules t ps n e f = subst (λ place. IsAt rules n.begun place ps) f (is_at rules ps n e)
