-- A tag that may stand there, and one that is not there.
use Rattle.std.proofs.Common.{◌≡◌, ℕ, ◌-◌, ◌<◌, Bool, true, Result, Ok, Err, ap, ◌∙◌, sym}
use Rattle.std.specs.Result.{IsErrAnd}
use Rattle.etf_model.specs.declared.fault.EtfFault.{EtfFault}
use Rattle.etf_model.specs.Format.{Position, byte}
use Rattle.etf_model.specs.Spelling.{term_with, body_of}
use Rattle.etf_model.specs.Exactness.{byte-exact}
use Rattle.etf_codec.specs.declared.tags.Role.{Role}
use Rattle.etf_codec.specs.GoesOn.{GoesOn}
use Rattle.etf_codec.specs.Tags.{terms_of, TagReads}
use Rattle.etf_codec.proofs.Onward.{goes_on_as, whatever_follows}
use Rattle.etf_codec.proofs.TermSteps.{term_step}

pub tag_follows : (test : ℕ → Bool) (fault : ℕ → ℕ → EtfFault) (levels tag : ℕ) (position next : Position) → 0 < levels
    → byte.read position.offset position ≡ Ok (tag, next) → test tag ≡ true
    → GoesOn ((term_with test fault levels).read position.offset) ((body_of (levels - 1) tag).read position.offset) position next
tag_follows test fault levels tag position next h e t =
    goes_on_as (byte.read position.offset) (λ later. Ok (tag, later)) ((term_with test fault levels).read position.offset)
    ((body_of (levels - 1) tag).read position.offset) position next
    (whatever_follows byte byte-exact position.offset position next tag e)
    (λ here later same. term_step test fault levels tag position.offset (record { offset = position.offset; left = here })
    (record { offset = next.offset; left = later }) h same t)

pub tag_fault : (role : Role) (before behind : Position) (answer : Result ℕ EtfFault) (fault : EtfFault) → IsErrAnd answer (λ y. y ≡ fault)
    → ((levels : ℕ) → 0 < levels → (terms_of role levels).read before.offset before ≡ Err fault) → TagReads role before behind answer
tag_fault role before behind (Ok tag) fault h e = absurd h
tag_fault role before behind (Err y) fault h e = λ levels l. e levels l ∙ ap Err (sym h)
