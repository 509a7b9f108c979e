-- Spellings that are passed over: more tags are known than those of this project's terms, and no range, text, bits or
-- repeated key is judged. Layouts of the External Term Format chapter of the ERTS User's Guide.
use Rattle.std.specs.Prelude.{ℕ, zero, suc, ◌+◌, ◌*◌, Bool, false, ◌||◌, ◌==◌, List, [], ◌∷◌, Result, Ok, Err, ◌≢◌}
use Rattle.std.specs.List.{list_any}
use Rattle.etf_model.specs.declared.fault.EtfFault.{EtfFault}
use Rattle.etf_model.specs.declared.fault.EtfFault.TheVariants.{Short, Unsupported, Depth, Memory}
use Rattle.etf_model.specs.declared.tags.TheConstants.{SMALL_INTEGER, INTEGER, SMALL_BIG, LARGE_BIG, ATOM, SMALL_ATOM, ATOM_UTF8, SMALL_ATOM_UTF8, SMALL_TUPLE}
use Rattle.etf_model.specs.declared.tags.TheConstants.{LARGE_TUPLE, STRING, LIST, BINARY, BIT_BINARY, MAP, NEW_FLOAT, PID, NEW_PID, PORT, NEW_PORT, V4_PORT}
use Rattle.etf_model.specs.declared.tags.TheConstants.{NEW_REFERENCE, NEWER_REFERENCE}
use Rattle.etf_model.specs.Format.{Format, byte, followed, framed, changed, either, times}
use Rattle.etf_model.specs.Fronts.{Begins}
use Rattle.etf_model.specs.Answers.{IsFront, Answers}
use Rattle.etf_model.specs.Layout.{known_tags}
use Rattle.etf_model.specs.Spelling.{number, tag_of}

-- the tags of terms that are only passed over
abbrev pub further_tags : List ℕ
further_tags = NEW_FLOAT ∷ PID ∷ NEW_PID ∷ PORT ∷ NEW_PORT ∷ V4_PORT ∷ NEW_REFERENCE ∷ NEWER_REFERENCE ∷ []

-- a tag whose layout is known
abbrev pub has_layout : ℕ → Bool
has_layout tag = list_any (λ t. t == tag) known_tags || list_any (λ t. t == tag) further_tags

-- a tag that begins a node: an atom
abbrev pub begins_node : ℕ → Bool
begins_node tag = list_any (λ t. t == tag) (ATOM ∷ SMALL_ATOM ∷ ATOM_UTF8 ∷ SMALL_ATOM_UTF8 ∷ [])

-- so many bytes, whatever they are
abbrev pub gap : ℕ → Format (Unit {0})
gap n = changed (times n byte) (λ bytes. tt)

-- a number of bytes, and then those bytes and so many more
abbrev pub sized_gap : ℕ → ℕ → Format (Unit {0})
sized_gap size extra = followed (number size) (λ n. gap (n + extra))

-- the name of a node, which is at no level
abbrev pub node : Format (Unit {0})
node =
    framed (followed (tag_of begins_node (λ term x. Unsupported term x))
    (λ tag. either (tag == SMALL_ATOM || tag == SMALL_ATOM_UTF8) (sized_gap 1 0) (sized_gap 2 0)))

-- a node and so many bytes behind it
abbrev pub at_node : ℕ → Format (Unit {0})
at_node n = followed node (λ name. gap n)

-- a reference: how many numbers of four bytes it has, a node, its creation of so many bytes, these numbers
abbrev pub reference : ℕ → Format (Unit {0})
reference creation = followed (number 2) (λ n. at_node (creation + 4 * n))

-- so many terms
abbrev pub parts : Format (Unit {0}) → ℕ → Format (Unit {0})
parts part n = changed (times n part) (λ ts. tt)

-- a number of so many bytes, for each one so many terms, and so many more
abbrev pub counted : Format (Unit {0}) → (size each extra : ℕ) → Format (Unit {0})
counted part size each extra = followed (number size) (λ n. parts part (each * n + extra))

-- what follows a tag, one case for each
abbrev pub skip_body : Format (Unit {0}) → ℕ → Format (Unit {0})
skip_body part tag =
    either (tag == SMALL_INTEGER) (gap 1)
    (either (tag == INTEGER) (gap 4)
    (either (tag == NEW_FLOAT) (gap 8)
    (either (tag == SMALL_BIG) (sized_gap 1 1)
    (either (tag == LARGE_BIG) (sized_gap 4 1)
    (either (tag == ATOM) (sized_gap 2 0)
    (either (tag == SMALL_ATOM) (sized_gap 1 0)
    (either (tag == ATOM_UTF8) (sized_gap 2 0)
    (either (tag == SMALL_ATOM_UTF8) (sized_gap 1 0)
    (either (tag == STRING) (sized_gap 2 0)
    (either (tag == BINARY) (sized_gap 4 0)
    (either (tag == BIT_BINARY) (sized_gap 4 1)
    (either (tag == SMALL_TUPLE) (counted part 1 1 0)
    (either (tag == LARGE_TUPLE) (counted part 4 1 0)
    (either (tag == LIST) (counted part 4 1 1)
    (either (tag == MAP) (counted part 4 2 0)
    (either (tag == PID) (at_node 9)
    (either (tag == NEW_PID) (at_node 12)
    (either (tag == PORT) (at_node 5)
    (either (tag == NEW_PORT) (at_node 8)
    (either (tag == V4_PORT) (at_node 12)
    (either (tag == NEW_REFERENCE) (reference 1)
    (either (tag == NEWER_REFERENCE) (reference 4) (gap 0)))))))))))))))))))))))

-- A term with so many levels below and at it. At level 257 each tag is refused.
abbrev pub skipped_at : ℕ → Format (Unit {0})
skipped_at zero = framed (changed (tag_of (λ x. false) (λ term x. Depth term)) (λ x. tt))
skipped_at (suc levels) =
    framed (followed (tag_of has_layout (λ term x. Unsupported term x)) (skip_body (skipped_at levels)))

-- a term of at most 256 levels
abbrev pub skipped : Format (Unit {0})
skipped = skipped_at 256

-- bytes that are one term, bytes that end before it does, and bytes that break a rule with their last one
abbrev pub SkipSpelled : List ℕ → Type 0
SkipSpelled bytes = skipped.Whole tt bytes

abbrev pub SkipPart : List ℕ → Type 0
SkipPart bytes = skipped.Part bytes

abbrev pub SkipBreak : List ℕ → EtfFault → Type 0
SkipBreak bytes fault = skipped.Break 0 0 bytes fault

-- a front of some bytes breaks a rule with its last byte
abbrev pub BeginsWithSkipBreak : List ℕ → Type 0
BeginsWithSkipBreak bytes = (fault : EtfFault) × Begins (λ front. SkipBreak front fault) bytes

-- what `skip` answers: the length of the term in front, or the fault; it needs no memory
abbrev pub SkipsBy : List ℕ → Result ℕ EtfFault → Type 0
SkipsBy bytes (Ok count) = IsFront skipped bytes tt count
SkipsBy bytes (Err fault) = (fault ≢ Memory) × Answers skipped 0 bytes (Err fault)

-- the faults among its answers
abbrev pub IsSkipFault : EtfFault → Type 0
IsSkipFault Short = Unit {0}
IsSkipFault (Unsupported at tag) = Unit {0}
IsSkipFault (Depth at) = Unit {0}
IsSkipFault other = ⊥
