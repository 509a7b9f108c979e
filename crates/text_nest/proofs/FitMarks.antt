-- A mark that a nest has room for keeps it within the limits of terms.
use Rattle.std.proofs.Common.{◌≡◌, ℕ, suc, ◌+◌, ◌*◌, ◌≤◌, max, pos, Bool, not, List, [], ◌∷◌, ◌++◌, length, length-append, Option, Some, None, Ok}
use Rattle.std.proofs.Common.{Err, refl, arith}
use Rattle.std.proofs.lemmas.Bool.{cond_both}
use Rattle.dets_term.specs.TermValue.{TermValue, nil, depth}
use Rattle.dets_term.specs.Parts.{deepest, parts_depth-chain, parts_depth-map_of, depth-list_of, deepest-push}
use Rattle.dets_term.specs.PairOrder.{length-placed, deepest-placed}
use Rattle.dets_term.specs.Pairs.{placed}
use Rattle.text_model.specs.declared.fault.TextWhy.TheVariants.{BadToken}
use Rattle.text_model.specs.declared.mark.Mark.{Mark}
use Rattle.text_model.specs.declared.mark.Mark.TheVariants.{OpenTuple, OpenMap, CloseBrace, OpenList, CloseList, OpenBits, CloseBits, Bar, Comma}
use Rattle.text_model.specs.declared.mark.Mark.TheVariants.{Arrow, Colon, FullStop}
use Rattle.text_model.specs.Grammar.{strict, last_bits, is_sized}
use Rattle.text_model.specs.Nest.{Frame, in_tuple, in_list, in_tail, in_map, in_value, in_bits, Begun, Place, opened, after, value, colon, segment}
use Rattle.text_model.specs.Nest.{sized, Nest, refusal, open_term, closed, last_part, brace_term, list_term, bits_term, close, frame_after_comma}
use Rattle.text_model.specs.Nest.{frame_after_bar, frame_after_arrow, changed_to, change, take_colon, take_stop, take_mark}
use Rattle.text_nest.specs.Fits.{deep_of, load_of, IsApart, AreShallow, AreApart, load}
use Rattle.text_nest.proofs.Closings.{length-joined}
use Rattle.text_nest.proofs.FitNests.{HasRoom, TakenFits, TermFits, completed_fits, may_begin, open_fits, few_bits}

-- a nest by its innermost term
abbrev within : ℕ → Frame → List Begun → Place → Nest
within start frame bs place = record { begun = record { start = start; frame = frame } ∷ bs; place = place }

-- ---- a term that changes

-- it may be open in front of these
abbrev FrameStands : ℕ → List Begun → Option Frame → Type 0
FrameStands count bs None = Unit {0}
FrameStands count bs (Some frame) = (deep_of frame + suc (length bs) ≤ 256) × (load_of frame + load bs ≤ 8 * count) × IsApart frame

-- one more part
part_stands : (count start s : ℕ) (parts : List TermValue) (t : TermValue) (bs : List Begun) → HasRoom count 8 (within start (in_list parts) bs (after s t))
    → (deepest (parts ++ t ∷ []) + suc (length bs) ≤ 256) × (length (parts ++ t ∷ []) + load bs ≤ 8 * count) × Unit {0}
part_stands count start s parts t bs r = (omega (arith, deepest-push parts t, r.shallow.0), omega (arith, length-append parts (t ∷ [])), tt)

comma_stands : (count start : ℕ) (frame : Frame) (bs : List Begun) (place : Place) → HasRoom count 8 (within start frame bs place)
    → FrameStands count bs (frame_after_comma frame place)
comma_stands count start (in_tuple parts) bs (after s t) r =
    part_stands count start s parts t bs (record { shallow = r.shallow; apart = r.apart; place = r.place; key = refl; light = r.light })
comma_stands count start (in_list parts) bs (after s t) r = part_stands count start s parts t bs r
comma_stands count start (in_value pairs k) bs (after s t) r =
    (omega (arith, deepest-placed (k, t) pairs, r.shallow.0), omega (arith, length-placed (k, t) pairs), tt)
comma_stands count start (in_bits held) bs (value s v) r = (r.shallow.0, omega (arith, length-append held (last_bits 8 v), few_bits 8 v), tt)
comma_stands count start (in_bits held) bs segment r = (r.shallow.0, omega arith, tt)
comma_stands count start frame bs place r = tt

bar_stands : (count start : ℕ) (frame : Frame) (bs : List Begun) (place : Place) → HasRoom count 8 (within start frame bs place)
    → FrameStands count bs (frame_after_bar frame place)
bar_stands count start (in_list parts) bs (after s t) r = part_stands count start s parts t bs r
bar_stands count start frame bs place r = tt

arrow_stands : (count start : ℕ) (frame : Frame) (bs : List Begun) (place : Place) → HasRoom count 8 (within start frame bs place)
    → FrameStands count bs (frame_after_arrow frame place)
arrow_stands count start (in_map pairs) bs (after s t) r = (omega (arith, r.shallow.0), omega arith, r.key)
arrow_stands count start frame bs place r = tt

changed_fits : (count at : ℕ) (b : Begun) (bs : List Begun) (o : Option Frame) → AreShallow bs → AreApart bs → FrameStands count bs o
    → TakenFits count (changed_to b bs o at)
changed_fits count at b bs (Some frame) shallow apart (deep, light, own) =
    record { shallow = (deep, shallow); apart = (own, apart); place = tt; key = tt; light = omega arith }
changed_fits count at b bs None shallow apart stands = tt

change_fits : (count at : ℕ) (next : Frame → Place → Option Frame) (begun : List Begun) (place : Place)
    → ((start : ℕ) (frame : Frame) (bs : List Begun) → HasRoom count 8 (within start frame bs place) → FrameStands count bs (next frame place))
    → HasRoom count 8 (record { begun = begun; place = place }) → TakenFits count (change next (record { begun = begun; place = place }) at begun)
change_fits count at next [] place stands r = tt
change_fits count at next (b ∷ bs) place stands r =
    changed_fits count at b bs (next b.frame place) r.shallow.1 r.apart.1 (stands b.start b.frame bs r)

-- ---- a term that closes

brace_fits : (count start : ℕ) (frame : Frame) (bs : List Begun) (place : Place) → HasRoom count 8 (within start frame bs place)
    → TermFits count bs (brace_term frame (last_part place))
brace_fits count start (in_tuple parts) bs opened r =
    (omega (arith, parts_depth-chain parts, r.shallow.0), omega arith)
brace_fits count start (in_tuple parts) bs (after s t) r =
    (omega (arith, parts_depth-chain (parts ++ t ∷ []), deepest-push parts t, r.shallow.0), omega arith)
brace_fits count start (in_map pairs) bs opened r =
    (omega (arith, parts_depth-map_of pairs, r.shallow.0), omega arith)
brace_fits count start (in_value pairs k) bs (after s t) r =
    (omega (arith, parts_depth-map_of (placed (k, t) pairs), deepest-placed (k, t) pairs, r.shallow.0), omega arith)
brace_fits count start frame bs place r = tt

list_fits : (count start : ℕ) (frame : Frame) (bs : List Begun) (place : Place) → HasRoom count 8 (within start frame bs place)
    → TermFits count bs (list_term frame (last_part place))
list_fits count start (in_list parts) bs opened r =
    (omega (arith, r.shallow.0), omega arith)
list_fits count start (in_list parts) bs (after s t) r = (
  omega (arith, parts_depth-chain (parts ++ t ∷ []), deepest-push parts t, r.shallow.0),
  omega (arith, length-joined (parts ++ t ∷ []) nil, length-append parts (t ∷ [])),
)
list_fits count start (in_tail parts) bs (after s t) r =
    (omega (arith, depth-list_of parts t (max (deepest parts) (depth t)) (omega arith) (omega arith), r.shallow.0), omega (arith, length-joined parts t))
list_fits count start frame bs place r = tt

-- bits have no parts
bits_alone : (count start : ℕ) (held : List Bool) (bs : List Begun) (place : Place) → HasRoom count 8 (within start (in_bits held) bs place)
    → (1 + length bs ≤ 256) × (load bs + 0 ≤ 8 * count)
bits_alone count start held bs place r =
    (omega (arith, r.shallow.0), omega arith)

bits_fit : (count start : ℕ) (frame : Frame) (bs : List Begun) (place : Place) → HasRoom count 8 (within start frame bs place)
    → TermFits count bs (bits_term frame place)
bits_fit count start (in_bits held) bs opened r = bits_alone count start held bs opened r
bits_fit count start (in_bits held) bs (value s v) r = bits_alone count start held bs (value s v) r
bits_fit count start (in_bits held) bs segment r = bits_alone count start held bs segment r
bits_fit count start (in_bits held) bs (sized more) r = bits_alone count start held bs (sized more) r
bits_fit count start frame bs place r = tt

close_fits : (count at : ℕ) (term : Frame → Place → Option TermValue) (begun : List Begun) (place : Place)
    → ((start : ℕ) (frame : Frame) (bs : List Begun) → HasRoom count 8 (within start frame bs place) → TermFits count bs (term frame place))
    → HasRoom count 8 (record { begun = begun; place = place }) → TakenFits count (close strict term (record { begun = begun; place = place }) at begun)
close_fits count at term [] place fits r = tt
close_fits count at term (b ∷ bs) place fits r =
    by_term (term b.frame place) r.shallow.1 r.apart.1 (fits b.start b.frame bs r)
  where
    by_term : (o : Option TermValue) → AreShallow bs → AreApart bs → TermFits count bs o → TakenFits count (closed strict bs b.start o at)
    by_term (Some t) deep own fit = completed_fits count b.start bs t deep own fit
    by_term None deep own fit = tt

-- ---- any mark

colon_fits : (count at : ℕ) (n : Nest) (place : Place) → HasRoom count 8 n → TakenFits count (take_colon strict n at place)
colon_fits count at n (value start v) r =
    cond_both (not (is_sized v (pos 7))) (Err (start, BadToken)) (Ok (record n { place = colon start v })) (TakenFits count) (λ e. tt)
    (λ e. record { shallow = r.shallow; apart = r.apart; place = tt; key = tt; light = omega arith })
colon_fits count at n place r = tt

stop_fits : (count at : ℕ) (bs : List Begun) (place : Place) → TakenFits count (take_stop at bs place)
stop_fits count at [] (after start t) = record { shallow = tt; apart = tt; place = tt; key = tt; light = omega arith }
stop_fits count at bs place = tt

opening_fits : (count at : ℕ) (n : Nest) (frame : Frame) → HasRoom count 8 n → deep_of frame ≡ 0 → load_of frame ≡ 0 → IsApart frame
    → TakenFits count (open_term strict n at frame (refusal strict n))
opening_fits count at n frame r flat none apart = open_fits count 8 at n frame (refusal strict n) r (λ e. (may_begin n e).0) flat none apart

pub mark_fits : (count at : ℕ) (n : Nest) (m : Mark) → HasRoom count 8 n → TakenFits count (take_mark strict n at m)
mark_fits count at n OpenTuple r = opening_fits count at n (in_tuple []) r refl refl tt
mark_fits count at n OpenMap r = opening_fits count at n (in_map []) r refl refl tt
mark_fits count at n OpenList r = opening_fits count at n (in_list []) r refl refl tt
mark_fits count at n OpenBits r = opening_fits count at n (in_bits []) r refl refl tt
mark_fits count at n CloseBrace r =
    close_fits count at (λ frame place. brace_term frame (last_part place)) n.begun n.place (λ start frame bs h. brace_fits count start frame bs n.place h) r
mark_fits count at n CloseList r =
    close_fits count at (λ frame place. list_term frame (last_part place)) n.begun n.place (λ start frame bs h. list_fits count start frame bs n.place h) r
mark_fits count at n CloseBits r = close_fits count at bits_term n.begun n.place (λ start frame bs h. bits_fit count start frame bs n.place h) r
mark_fits count at n Bar r = change_fits count at frame_after_bar n.begun n.place (λ start frame bs h. bar_stands count start frame bs n.place h) r
mark_fits count at n Comma r = change_fits count at frame_after_comma n.begun n.place (λ start frame bs h. comma_stands count start frame bs n.place h) r
mark_fits count at n Arrow r = change_fits count at frame_after_arrow n.begun n.place (λ start frame bs h. arrow_stands count start frame bs n.place h) r
mark_fits count at n Colon r = colon_fits count at n n.place r
mark_fits count at n FullStop r = stop_fits count at n.begun n.place
