-- The file that is made.
use Rattle.std.proofs.Common.{◌≡◌, ◌-◌, ◌∙◌, ◌==◌, ℕ, true, false, List, [], ◌∷◌, length, Option, Some, None, option_map, Result, Ok, get_or}
use Rattle.std.proofs.Common.{refl, ap, arith, inl, sym}
use Rattle.std.specs.Prelude.{min}
use Rattle.std.proofs.lemmas.List.{ext_get_or, get_or-replicate}
use Rattle.std.proofs.lemmas.Option.{same_Some}
use Rattle.host_model.specs.Disk.{written_at, WhereTold}
use Rattle.host_model.specs.Torn.{length-written_at, get_or-written_in}
use Rattle.file_model.specs.declared.head.Head.{Head}
use Rattle.file_model.specs.declared.head.Located.{Located}
use Rattle.file_model.specs.declared.head.Unreadable.{Unreadable}
use Rattle.file_model.specs.Layout.{page_size, open_byte, segments_within}
use Rattle.file_model.specs.Header.{body_of, head_in, located}
use Rattle.space_model.specs.Sizes.{segment_units}
use Rattle.block_disk.specs.Copies.{is_open_copy, Stands}
use Rattle.block_disk.specs.Zeroed.{zeros, made_page}
use Rattle.block_disk.proofs.CopiesTorn.{gate_written, body_written}
use Rattle.block_disk.proofs.Current.{located_current}
use Rattle.block_disk.proofs.Zeroing.{length-zeros}

pub blank_size : (h : Head) → length (written_at 16 (body_of h) (zeros page_size)) ≡ page_size
blank_size h =
    let long = length-zeros page_size in
    let e = length-written_at 16 (body_of h) (zeros page_size) (omega (arith, long)) in
    omega (arith, e, long)

-- a write to a file without bytes makes it
all_written : (page : List ℕ) → written_at 0 page [] ≡ page
all_written page =
    let e = length-written_at 0 page [] (omega arith) in
    ext_get_or 0 (written_at 0 page []) page (omega (arith, e)) (λ k b.
    let same : k - 0 ≡ k = omega arith in
    get_or-written_in 0 page [] k (omega arith) (omega arith) (omega (arith, e, b)) ∙ ap (λ j. get_or page j 0) same)

pub made_by : (h : Head) (page : List ℕ) (o m n : Option (List ℕ)) → WhereTold o (λ f. f ≡ []) → page ≡ written_at 16 (body_of h) (zeros page_size)
    → m ≡ option_map (written_at 0 page) o → n ≡ option_map (written_at 0 (open_byte ∷ [])) m → n ≡ option_map (λ x. made_page h) o
unfolding made_page
made_by h page None m n empty is first next = next ∙ ap (option_map (written_at 0 (open_byte ∷ []))) first
made_by h page (Some f) m n empty is first next =
    let made : written_at 0 page f ≡ written_at 16 (body_of h) (zeros page_size) = ap (written_at 0 page) (empty f refl) ∙ all_written page ∙ is in
    next ∙ ap (option_map (written_at 0 (open_byte ∷ []))) first ∙ ap (λ p. Some (written_at 0 (open_byte ∷ []) p)) made

-- what is told then is that page
pub told_made : (h : Head) (o n : Option (List ℕ)) (f : List ℕ) → n ≡ option_map (λ x. made_page h) o → n ≡ Some f → f ≡ made_page h
told_made h None n f e told = absurd (cc (e, told))
told_made h (Some x) n f e told = same_Some f (made_page h) (sym told ∙ e)

zeros_closed : is_open_copy true (zeros page_size) ≡ false
unfolding zeros
zeros_closed = ap (λ x. x == open_byte) (get_or-replicate page_size 512 0 0 (omega arith))

made_stands : (h : Head) → head_in (body_of h) ≡ Ok h → Stands false false h (made_page h)
unfolding made_page
made_stands h back =
    let long = length-zeros page_size in
    let size = blank_size h in
    let b = body_written false (body_of h) (zeros page_size) refl (omega (arith, long)) in
    let page = written_at 16 (body_of h) (zeros page_size) in
    let w = gate_written false true page (omega (arith, size)) in
    record {
      page = omega (arith, size, w.torn.outside.no_shorter);
      current = w.gate;
      gate = w.torn.other.gate ∙ b.torn.other.gate ∙ zeros_closed;
      head = ap head_in (w.torn.body ∙ b.body) ∙ back;
      first = inl refl;
    }

pub made_located : (h : Head) → head_in (body_of h) ≡ Ok h → h.segments ≡ 0
    → located (made_page h) ≡ Ok (record { head = h; second = false; other_gate = false; whole = 0 })
made_located h back none =
    let made : Located → Result Located Unreadable = λ l. Ok l in
    let whole : min h.segments (segments_within segment_units (length (made_page h))) ≡ 0 = omega (arith, none) in
    located_current false h (made_page h) (made_stands h back)
    ∙ ap (λ n. made (record { head = h; second = false; other_gate = false; whole = n })) whole
