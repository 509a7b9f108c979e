-- The term of a payload is the one that all of its bytes spell.
use Rattle.std.proofs.Common.{◌≡◌, ℕ, List, [], ◌∷◌, ◌++◌, Some, Ok, Err, refl, sym, ap, ◌∙◌, subst, append-nil}
use Rattle.term_model.specs.TermValue.{TermValue}
use Rattle.etf_model.specs.Format.{Position, Reading}
use Rattle.etf_model.specs.Spelling.{spelling, Spells}
use Rattle.etf_model.specs.SpellingExact.{spelling-exact}
use Rattle.file_model.specs.Block.{whole_term, term_in}

pub term_from_spelling : (t : TermValue) (bytes : List ℕ) → Spells t bytes → term_in bytes ≡ Some t
unfolding term_in
term_from_spelling t bytes spells =
    let read = spelling-exact.whole_read 0 0 t bytes [] spells in
    ap (λ xs. whole_term (spelling.read 0 (record { offset = 0; left = xs }))) (sym (append-nil bytes)) ∙ ap whole_term read

abbrev answered : TermValue → ℕ → List ℕ → Reading TermValue
answered x offset left = Ok (x, record { offset = offset; left = left })

ended : (x : TermValue) (offset : ℕ) (left : List ℕ) (t : TermValue) → whole_term (answered x offset left) ≡ Some t
    → (behind : Position) × (answered x offset left ≡ Ok (t, behind)) × (behind.left ≡ [])
ended x offset [] t e = let same : x ≡ t = cc e in (record { offset = offset; left = [] }, ap (λ y. answered y offset []) same, refl)
ended x offset (y ∷ ys) t e = absurd (cc e)

read_whole : (answer : Reading TermValue) (t : TermValue) → whole_term answer ≡ Some t
    → (behind : Position) × (answer ≡ Ok (t, behind)) × (behind.left ≡ [])
read_whole (Err fault) t e = absurd (cc e)
read_whole (Ok r) t e = ended r.0 r.1.offset r.1.left t e

pub spelling_from_term : (t : TermValue) (bytes : List ℕ) → term_in bytes ≡ Some t → Spells t bytes
unfolding term_in
spelling_from_term t bytes e =
    let r = read_whole (spelling.read 0 (record { offset = 0; left = bytes })) t e in
    let b = spelling-exact.read_whole 0 (record { offset = 0; left = bytes }) t r.0 r.1 in
    subst (λ xs. Spells t xs) (sym (b.bytes ∙ ap (λ ys. b.front ++ ys) r.2 ∙ append-nil b.front)) b.holds
