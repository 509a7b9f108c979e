-- What a reader answers at the exit of a call that failed.
use Rattle.std.proofs.Common.{◌≡◌, ℕ, Bool, true, false, Result, Ok, Err, refl, ap, ◌∙◌, sym}
use Rattle.std.specs.Result.{IsErrAnd}
use Rattle.etf_model.specs.declared.fault.EtfFault.{EtfFault}
use Rattle.etf_model.specs.Format.{Position, Format, Reading, byte, followed, framed, judged, go_on}
use Rattle.etf_model.specs.Spelling.{tag_of}
use Rattle.etf_codec.specs.Reads.{Reads, ReadsAs, behind_tag}
use Rattle.etf_codec.proofs.Bytes.{go_on_ok, go_on_err}

-- the fault of a part is that of the whole
pub reads_fault : {A : Type 0} (F : Format A) (term : ℕ) (before behind : Position) (answer : Result A EtfFault) (fault : EtfFault)
    → IsErrAnd answer (λ y. y ≡ fault) → F.read term before ≡ Err fault → Reads F term before behind answer
reads_fault F term before behind (Ok x) fault h e = absurd h
reads_fault F term before behind (Err y) fault h e = e ∙ ap Err (sym h)

-- what is read behind a value
pub reads_behind : {A B : Type 0} (F : Format A) (G : A → Format B) (term : ℕ) (before between behind : Position) (x : A) (answer : Result B EtfFault)
    → F.read term before ≡ Ok (x, between) → Reads (G x) term between behind answer → Reads (followed F G) term before behind answer
reads_behind F G term before between behind x (Ok y) e h = go_on_ok _ _ _ _ e ∙ h
reads_behind F G term before between behind x (Err fault) e h = go_on_ok _ _ _ _ e ∙ h

-- a fault of the first is that of both
pub reads_first_fault : {A B : Type 0} (F : Format A) (G : A → Format B) (term : ℕ) (before behind : Position) (answer : Result B EtfFault) (fault : EtfFault)
    → IsErrAnd answer (λ y. y ≡ fault) → F.read term before ≡ Err fault → Reads (followed F G) term before behind answer
reads_first_fault F G term before behind answer fault h e = reads_fault (followed F G) term before behind answer fault h (go_on_err _ _ _ e)

-- an answer beside an equal reading
pub reads_same : {A : Type 0} (r s : Reading A) (behind : Position) (answer : Result A EtfFault) → r ≡ s → ReadsAs s behind answer → ReadsAs r behind answer
reads_same r s behind (Ok x) e h = e ∙ h
reads_same r s behind (Err fault) e h = e ∙ h

-- ---- behind a tag

-- a term whose tag is taken, and one whose tag is refused
pub reads_tagged : {A : Type 0} (test : ℕ → Bool) (refuse : ℕ → ℕ → EtfFault) (G : ℕ → Format A) (term : ℕ) (before between behind : Position) (tag : ℕ)
    (answer : Result A EtfFault)
    → byte.read term before ≡ Ok (tag, between) → test tag ≡ true → Reads (G tag) term between behind answer
    → Reads (followed (tag_of test refuse) G) term before behind answer
reads_tagged test refuse G term before between behind tag answer e t h =
    reads_behind (tag_of test refuse) G term before between behind tag answer
    (go_on_ok _ _ _ _ e ∙ ap (λ b. judged b (refuse term tag) tag between) t) h

pub tag_refused : {A : Type 0} (test : ℕ → Bool) (refuse : ℕ → ℕ → EtfFault) (G : ℕ → Format A) (term : ℕ) (before between : Position) (tag : ℕ)
    → byte.read term before ≡ Ok (tag, between) → test tag ≡ false → (followed (tag_of test refuse) G).read term before ≡ Err (refuse term tag)
tag_refused test refuse G term before between tag e t =
    go_on_err _ _ _ (go_on_ok _ _ _ _ e ∙ ap (λ b. judged b (refuse term tag) tag between) t)

pub no_tag : {A : Type 0} (test : ℕ → Bool) (refuse : ℕ → ℕ → EtfFault) (G : ℕ → Format A) (term : ℕ) (before : Position) (fault : EtfFault)
    → byte.read term before ≡ Err fault → (followed (tag_of test refuse) G).read term before ≡ Err fault
no_tag test refuse G term before fault e = go_on_err _ _ _ (go_on_err _ _ _ e)

-- a term of its own
pub reads_framed : {A : Type 0} (F : Format A) (term : ℕ) (before behind : Position) (answer : Result A EtfFault)
    → Reads F before.offset before behind answer → Reads (framed F) term before behind answer
reads_framed F term before behind (Ok x) h = h
reads_framed F term before behind (Err fault) h = h

-- what is read at a position, told by its reading
pub reads_as : {A : Type 0} (F : Format A) (term : ℕ) (before behind : Position) (answer : Result A EtfFault)
    → ReadsAs (F.read term before) behind answer → Reads F term before behind answer
reads_as F term before behind (Ok x) h = h
reads_as F term before behind (Err fault) h = h

pub as_reads : {A : Type 0} (F : Format A) (term : ℕ) (before behind : Position) (answer : Result A EtfFault)
    → Reads F term before behind answer → ReadsAs (F.read term before) behind answer
as_reads F term before behind (Ok x) h = h
as_reads F term before behind (Err fault) h = h

-- a term is what is read behind its tag
go_on_judged : {A : Type 0} (G : ℕ → Format A) (term tag : ℕ) (between : Position) (fault : EtfFault) (known : Bool)
    → go_on (judged known fault tag between) (λ x behind. (G x).read term behind) ≡ behind_tag known fault (G tag) term between
go_on_judged G term tag between fault true = refl
go_on_judged G term tag between fault false = refl

pub reads_behind_tag : {A : Type 0} (test : ℕ → Bool) (refuse : ℕ → ℕ → EtfFault) (G : ℕ → Format A) (term : ℕ) (before between behind : Position) (tag : ℕ)
    (answer : Result A EtfFault)
    → byte.read before.offset before ≡ Ok (tag, between)
    → ReadsAs (behind_tag (test tag) (refuse before.offset tag) (G tag) before.offset between) behind answer
    → Reads (framed (followed (tag_of test refuse) G)) term before behind answer
reads_behind_tag test refuse G term before between behind tag answer e h =
    reads_framed (followed (tag_of test refuse) G) term before behind answer
    (reads_as (followed (tag_of test refuse) G) before.offset before behind answer
    (reads_same _ _ behind answer
    (ap (λ r. go_on (go_on r (λ x b. judged (test x) (refuse before.offset x) x b)) (λ x b. (G x).read before.offset b)) e
    ∙ go_on_judged G before.offset tag between (refuse before.offset tag) (test tag)) h))
