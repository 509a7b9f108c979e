-- What the judgement on open units comes to.
use Rattle.std.proofs.Common.{◌≡◌, inl, inr, List, [], ◌∷◌, find, Option, Some, None, Ok, Err, refl, subst}
use Rattle.file_model.specs.declared.reject.Reason.{Reason}
use Rattle.file_model.specs.Block.{Block, Standing}
use Rattle.file_model.specs.View.{OpenUnit, View}
use Rattle.file_model.specs.Taken.{covers, block_has, by_key, by_cover, judged, taken_next, taken_above, taken}
use Rattle.file_model.specs.Judgement.{IsTaken, IsReason, AreTaken}

-- ---- taken

key_taken : (below : List Block) (b c : Block) (o : Option Block) → find (covers b.unit) below ≡ None → find (block_has b.key) below ≡ o
    → by_key b o ≡ Ok c → (b ≡ c) × IsTaken below b
key_taken below b c None cover key e = (cc e, record { uncovered = cover; other_keys = key })
key_taken below b c (Some other) cover key e = absurd (cc e)

cover_taken : (below : List Block) (b c : Block) (o : Option Block) → find (covers b.unit) below ≡ o → by_cover below b o ≡ Ok c
    → (b ≡ c) × IsTaken below b
cover_taken below b c None cover e = key_taken below b c (find (block_has b.key) below) cover refl e
cover_taken below b c (Some other) cover e = absurd (cc e)

-- what is taken is what stands there, and is covered by no block below and has the key of none
pub is_taken : (below : List Block) (s : Standing) (c : Block) → judged below s ≡ Ok c → (s ≡ Ok c) × IsTaken below c
is_taken below (Err reason) c e = absurd (cc e)
is_taken below (Ok b) c e =
    let r = cover_taken below b c (find (covers b.unit) below) refl e in
    (λ i. Ok (r.0 i), subst (IsTaken below) r.0 r.1)

-- and such a block is taken
pub takes : (below : List Block) (b : Block) → IsTaken below b → judged below (Ok b) ≡ Ok b
takes below b t = rw (t.uncovered, t.other_keys) refl

next_taken : (rest : List Block → List Block) (below : List Block) (j : Standing) → ((c : Block) → j ≡ Ok c → IsTaken below c)
    → ((bs : List Block) → AreTaken (rest bs) bs) → AreTaken (taken_next rest below j) below
next_taken rest below (Err reason) is go = go below
next_taken rest below (Ok b) is go = (is b refl, go (b ∷ below))

are_taken : (os : List OpenUnit) (below : List Block) → AreTaken (taken_above os below) below
are_taken [] below = tt
are_taken (o ∷ os) below =
    next_taken (taken_above os) below (judged below o.stands) (λ c e. (is_taken below o.stands c e).1) (λ bs. are_taken os bs)

pub taken_are_taken : (v : View) → AreTaken (taken v) []
taken_are_taken v = are_taken v.open_units []

-- ---- rejected

key_reason : (below : List Block) (b : Block) (o : Option Block) (reason : Reason) → find (covers b.unit) below ≡ None
    → find (block_has b.key) below ≡ o → by_key b o ≡ Err reason → IsReason below (Ok b) reason
key_reason below b None reason cover key e = absurd (cc e)
key_reason below b (Some other) reason cover key e = inr (other, cover, key, cc e)

cover_reason : (below : List Block) (b : Block) (o : Option Block) (reason : Reason) → find (covers b.unit) below ≡ o
    → by_cover below b o ≡ Err reason → IsReason below (Ok b) reason
cover_reason below b (Some other) reason cover e = inl (other, cover, cc e)
cover_reason below b None reason cover e = key_reason below b (find (block_has b.key) below) reason cover refl e

pub is_reason : (below : List Block) (s : Standing) (reason : Reason) → judged below s ≡ Err reason → IsReason below s reason
is_reason below (Err found) reason e = cc e
is_reason below (Ok b) reason e = cover_reason below b (find (covers b.unit) below) reason refl e
