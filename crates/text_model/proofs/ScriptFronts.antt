-- Terms that stand in front of some bytes stay there when more bytes come, and the script of a piece begins that of the whole.
use Rattle.std.proofs.Common.{◌≡◌, Bool, false, ℕ, List, [], ◌∷◌, ◌++◌, drop, refl, ap, ◌∙◌, sym, subst}
use Rattle.std.proofs.lemmas.List.{drop-append-le}
use Rattle.text_model.specs.Script.{Rest, blank, no_term, moved, Placed, IsAnswer, IsScript}
use Rattle.text_model.specs.ScriptFronts.{AreNext, behind, bytes_of, moved-none, moved-both}
use Rattle.text_model.proofs.Answering.{answer_is}
use Rattle.text_model.proofs.TermLengths.{term_within}
use Rattle.text_model.proofs.Scripts.{term_stays, script_behind}

-- where nothing was fed, there are blanks alone
pub nothing_fed : IsAnswer false [] (no_term blank)
nothing_fed = answer_is false []

-- more bytes behind terms change nothing in front of them
pub AreNext-more : (finished : Bool) (bytes more : List ℕ) (ts : List Placed) → AreNext false bytes ts → AreNext finished (bytes ++ more) ts
    × (behind ts (bytes ++ more) ≡ behind ts bytes ++ more)
AreNext-more finished bytes more [] n = (tt, refl)
AreNext-more finished bytes more (t ∷ ts) n =
    let same : drop t.bytes (bytes ++ more) ≡ drop t.bytes bytes ++ more = drop-append-le t.bytes bytes more (term_within false bytes t.term t.bytes n.0) in
    let others = AreNext-more finished (drop t.bytes bytes) more ts n.1 in
    ((term_stays finished bytes more t.term t.bytes n.0, subst (λ (l : List ℕ). AreNext finished l ts) (sym same) others.0), ap (behind ts) same ∙ others.1)

pub piece_script : (finished : Bool) (piece more : List ℕ) (ts all : List Placed) (rest whole : Rest) → IsScript false piece ts rest
    → IsScript finished (piece ++ more) all whole
    → (others : List Placed) × (after : Rest) × (all ≡ ts ++ others) × (whole ≡ moved (bytes_of ts) after)
    × IsScript finished (behind ts piece ++ more) others after
piece_script finished piece more [] all rest whole s z = (all, whole, refl, sym (moved-none whole), z)
piece_script finished piece more (t ∷ ts) all rest whole s z =
    let on = script_behind finished (piece ++ more) t.term t.bytes all whole (term_stays finished piece more t.term t.bytes s.0) z in
    let same : drop t.bytes (piece ++ more) ≡ drop t.bytes piece ++ more = drop-append-le t.bytes piece more (term_within false piece t.term t.bytes s.0) in
    let behind_it = piece_script finished (drop t.bytes piece) more ts on.0 s.1.0 on.1 s.1.2
    (subst (λ (l : List ℕ). IsScript finished l on.0 on.1) same on.4) in (
      behind_it.0,
      behind_it.1,
      on.2 ∙ ap (λ l. t ∷ l) behind_it.2,
      on.3 ∙ ap (moved t.bytes) behind_it.3 ∙ moved-both t.bytes (bytes_of ts) behind_it.1,
      behind_it.4,
    )
