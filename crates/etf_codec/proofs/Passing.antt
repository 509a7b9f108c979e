-- Terms that are passed over, one after the other and behind their tags.
use Rattle.std.proofs.Common.{◌≡◌, ℕ, zero, suc, ◌-◌, ◌<◌, true, List, ◌∷◌, Result, Ok, Err, refl, ap, ◌∙◌, sym, subst, arith}
use Rattle.etf_model.specs.declared.fault.EtfFault.{EtfFault}
use Rattle.etf_model.specs.declared.fault.EtfFault.TheVariants.{Unsupported, Depth}
use Rattle.etf_model.specs.Format.{Position, Format, Reading, byte, times, go_on}
use Rattle.etf_model.specs.Skipping.{has_layout, parts, skip_body, skipped_at}
use Rattle.etf_codec.specs.Reads.{Reads, ReadsAs, behind_tag}
use Rattle.etf_codec.proofs.Bytes.{go_on_ok, go_on_err}
use Rattle.etf_codec.proofs.Reading.{reads_same, as_reads, reads_behind_tag}

-- one more term
parts_on : (r : Reading (List (Unit {0}))) (x : Unit {0})
    → ◌≡◌ {A = Reading (Unit {0})} (go_on (go_on r (λ xs behind. Ok (x ∷ xs, behind))) (λ ts behind. Ok (tt, behind))) (go_on r (λ ts behind. Ok (tt, behind)))
parts_on (Ok r) x = refl
parts_on (Err fault) x = refl

pub parts_more : (P : Format (Unit {0})) (n term : ℕ) (position behind : Position) (x : Unit {0}) → 0 < n → P.read term position ≡ Ok (x, behind)
    → (parts P n).read term position ≡ (parts P (n - 1)).read term behind
parts_more P zero term position behind x h e = absurd (omega arith)
parts_more P (suc n) term position behind x h e =
    let one : suc n - 1 ≡ n = omega arith in
    ap (λ r. go_on r (λ ts b. Ok (tt, b))) (go_on_ok (P.read term position) x behind (λ y b. go_on ((times n P).read term b) (λ ys c. Ok (y ∷ ys, c))) e)
    ∙ parts_on ((times n P).read term behind) x ∙ ap (λ m. (parts P m).read term behind) (sym one)

pub parts_fail : (P : Format (Unit {0})) (n term : ℕ) (position : Position) (fault : EtfFault) → 0 < n → P.read term position ≡ Err fault
    → (parts P n).read term position ≡ Err fault
parts_fail P zero term position fault h e = absurd (omega arith)
parts_fail P (suc n) term position fault h e = go_on_err _ _ _ (go_on_err _ _ _ e)

-- what follows a tag that is known
pub at_tag : (k levels at tag : ℕ) (before behind : Position) (answer : Result (Unit {0}) EtfFault)
    → tag ≡ k → has_layout k ≡ true → Reads (skip_body (skipped_at levels) k) at before behind answer
    → ReadsAs (behind_tag (has_layout tag) (Unsupported at tag) (skip_body (skipped_at levels) tag) at before) behind answer
at_tag k levels at tag before behind answer same known h =
    subst (λ t. ReadsAs (behind_tag (has_layout t) (Unsupported at t) (skip_body (skipped_at levels) t) at before) behind answer) (sym same)
    (reads_same _ _ behind answer (ap (λ b. behind_tag b (Unsupported at k) (skip_body (skipped_at levels) k) at before) known)
    (as_reads (skip_body (skipped_at levels) k) at before behind answer h))

-- a term with so many levels, by what is behind its tag
pub term_behind : (levels term : ℕ) (before between behind : Position) (tag at : ℕ) (answer : Result (Unit {0}) EtfFault) → 0 < levels → at ≡ before.offset
    → byte.read before.offset before ≡ Ok (tag, between)
    → ReadsAs (behind_tag (has_layout tag) (Unsupported at tag) (skip_body (skipped_at (levels - 1)) tag) at between) behind answer
    → Reads (skipped_at levels) term before behind answer
term_behind zero term before between behind tag at answer h here e t = absurd (omega arith)
term_behind (suc levels) term before between behind tag at answer h here e t =
    let one : suc levels - 1 ≡ levels = omega arith in
    reads_behind_tag has_layout (λ term x. Unsupported term x) (skip_body (skipped_at levels)) term before between behind tag answer e
    (subst (λ n. ReadsAs (behind_tag (has_layout tag) (Unsupported n tag) (skip_body (skipped_at levels) tag) n between) behind answer) here
    (subst (λ m. ReadsAs (behind_tag (has_layout tag) (Unsupported at tag) (skip_body (skipped_at m) tag) at between) behind answer) one t))

-- a term that begins at level 257, and one that begins nowhere
pub term_deep : (levels term : ℕ) (before between : Position) (tag : ℕ) → levels ≡ 0
    → byte.read before.offset before ≡ Ok (tag, between) → (skipped_at levels).read term before ≡ Err (Depth before.offset)
term_deep zero term before between tag h e = go_on_err _ _ _ (go_on_ok _ _ _ _ e)
term_deep (suc levels) term before between tag h e = absurd (omega arith)

pub term_end : (levels term : ℕ) (before : Position) (fault : EtfFault)
    → byte.read before.offset before ≡ Err fault → (skipped_at levels).read term before ≡ Err fault
term_end zero term before fault e = go_on_err _ _ _ (go_on_err _ _ _ e)
term_end (suc levels) term before fault e = go_on_err _ _ _ (go_on_err _ _ _ e)
