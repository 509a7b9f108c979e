-- What a reader answers that may want memory, and where two formats read the same.
use Rattle.std.proofs.Common.{◌≡◌, ℕ, Result, Ok, Err, Option, Some, None, ap, subst, ◌∙◌, sym, inl, inr}
use Rattle.std.specs.Prelude.{IfOk, IfErr}
use Rattle.std.specs.Option.{MatchOption, ok_or}
use Rattle.std.specs.Result.{IsErrAnd}
use Rattle.etf_model.specs.declared.fault.EtfFault.{EtfFault}
use Rattle.etf_model.specs.declared.fault.EtfFault.TheVariants.{Memory}
use Rattle.etf_model.specs.Format.{Position, Format}
use Rattle.etf_codec.specs.Reads.{Reads, ReadsWithin}

-- where two formats read the same
pub reads_alike : {A : Type 0} (F G : Format A) (term : ℕ) (before behind : Position) (answer : Result A EtfFault)
    → G.read term before ≡ F.read term before → Reads F term before behind answer → Reads G term before behind answer
reads_alike F G term before behind (Ok x) e h = e ∙ h
reads_alike F G term before behind (Err fault) e h = e ∙ h

-- what an option says where it was made a result
pub ok_or_none : {A E : Type 0} (o : Option A) (d e : E) (P : Type 0) (Q : A → Type 0) → MatchOption o P Q → ok_or o d ≡ Err e → P × (e ≡ d)
ok_or_none None d e P Q h w = (h, let same : d ≡ e = cc in sym same)
ok_or_none (Some x) d e P Q h w = cc

pub ok_or_some : {A E : Type 0} (o : Option A) (d : E) (y : A) (P : Type 0) (Q : A → Type 0) → MatchOption o P Q → ok_or o d ≡ Ok y → Q y
ok_or_some None d y P Q h w = cc
ok_or_some (Some x) d y P Q h w = let same : x ≡ y = cc in subst Q same h

-- the same where memory may be wanting
pub within_fault : {A : Type 0} (F : Format A) (term : ℕ) (before behind : Position) (answer : Result A EtfFault) (fault : EtfFault)
    → IsErrAnd answer (λ y. y ≡ fault) → F.read term before ≡ Err fault → ReadsWithin F term before behind answer
within_fault F term before behind (Ok x) fault h e = absurd h
within_fault F term before behind (Err y) fault h e = inr (e ∙ ap Err (sym h))

-- what was built of what stands there
pub within_made : {A : Type 0} (F : Format A) (term : ℕ) (before behind : Position) (answer : Result A EtfFault) (value : A)
    → IfOk answer (λ x. x ≡ value) → IfErr answer (λ fault. fault ≡ Memory) → F.read term before ≡ Ok (value, behind) → ReadsWithin F term before behind answer
within_made F term before behind (Ok x) value ok err e = e ∙ ap (λ y. Ok (y, behind)) (sym ok)
within_made F term before behind (Err fault) value ok err e = inl err

pub within_reads : {A : Type 0} (F G : Format A) (term : ℕ) (before behind : Position) (answer : Result A EtfFault)
    → G.read term before ≡ F.read term before → Reads F term before behind answer → ReadsWithin G term before behind answer
within_reads F G term before behind (Ok x) e h = e ∙ h
within_reads F G term before behind (Err fault) e h = inr (e ∙ h)

pub within_same : {A : Type 0} (F G : Format A) (term : ℕ) (before behind : Position) (answer : Result A EtfFault)
    → G.read term before ≡ F.read term before → ReadsWithin F term before behind answer → ReadsWithin G term before behind answer
within_same F G term before behind (Ok x) e h = e ∙ h
within_same F G term before behind (Err fault) e (inl memory) = inl memory
within_same F G term before behind (Err fault) e (inr h) = inr (e ∙ h)
