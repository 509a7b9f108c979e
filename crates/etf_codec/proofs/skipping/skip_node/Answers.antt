use Rattle.std.proofs.Common.{ℕ, ◌≡◌, ◌≢◌, ◌∙◌, true, false, refl, arith, ◌||◌, ◌==◌, Result, Ok, Err, ap, sym, subst}
use Rattle.std.proofs.lemmas.Bool.Decides.{nat_tests}
use Rattle.etf_model.specs.declared.fault.EtfFault.{EtfFault}
use Rattle.etf_model.specs.declared.fault.EtfFault.TheVariants.{Unsupported}
use Rattle.etf_model.specs.declared.tags.TheConstants.{ATOM, SMALL_ATOM, ATOM_UTF8, SMALL_ATOM_UTF8}
use Rattle.etf_model.specs.Format.{Format, Position, byte, followed, either}
use Rattle.etf_model.specs.Spelling.{tag_of}
use Rattle.etf_model.specs.Skipping.{begins_node, sized_gap, node}
use Rattle.etf_codec.specs.Reads.{Reads}
use Rattle.etf_codec.proofs.Reading.{reads_fault, reads_framed, reads_tagged, tag_refused, no_tag}
use Rattle.etf_codec.proofs.skipping.skip_node.Goals as goal

-- what a node's tag is refused with, and what follows it
abbrev refuse : ℕ → ℕ → EtfFault
refuse term x = Unsupported term x

abbrev name : ℕ → Format (Unit {0})
name tag = either (tag == SMALL_ATOM || tag == SMALL_ATOM_UTF8) (sized_gap 1 0) (sized_gap 2 0)

-- a tag that is known
node_at : (k term : ℕ) (before between behind : Position) (tag : ℕ) (answer : Result (Unit {0}) EtfFault)
    → byte.read before.offset before ≡ Ok (tag, between) → tag ≡ k → begins_node k ≡ true → Reads (name k) before.offset between behind answer
    → Reads node term before behind answer
node_at k term before between behind tag answer e same known h =
    reads_framed (followed (tag_of begins_node refuse) name) term before behind answer
    (reads_tagged begins_node refuse name before.offset before between behind k answer
    (subst (λ t. byte.read before.offset before ≡ Ok (t, between)) same e) known h)

no_node : (tag : ℕ) → tag ≢ ATOM → tag ≢ SMALL_ATOM → tag ≢ ATOM_UTF8 → tag ≢ SMALL_ATOM_UTF8 → begins_node tag ≡ false
no_node tag a b d e = grind (arith, nat_tests)

pub returns-in_err-tag : goal.returns-in_err-tag
returns-in_err-tag c term =
    reads_fault node term c.args.cursor.now c.byte.new.self c.from_residual.result _ c.from_residual.ensures.1
    (no_tag begins_node refuse name c.args.cursor.now.offset c.args.cursor.now _ (c.in_err-tag.ensures.reads term))

pub returns-in-100 : goal.returns-in-100
returns-in-100 c term =
    node_at 100 term c.args.cursor.now c.byte.new.self c.skip_sized.new.cursor c.in_ok-tag.tag c.skip_sized.result
    (c.in_ok-tag.ensures.reads term) c.in-100.is refl (c.skip_sized.ensures c.args.cursor.now.offset)

pub returns-in_default : goal.returns-in_default
returns-in_default c term =
    let no_100 : c.in_ok-tag.tag ≢ ATOM = omega arith in
    let no_118 : c.in_ok-tag.tag ≢ ATOM_UTF8 = omega arith in
    let no_115 : c.in_ok-tag.tag ≢ SMALL_ATOM = omega arith in
    let no_119 : c.in_ok-tag.tag ≢ SMALL_ATOM_UTF8 = omega arith in
    tag_refused begins_node refuse name c.args.cursor.now.offset c.args.cursor.now c.byte.new.self c.in_ok-tag.tag (c.in_ok-tag.ensures.reads term)
    (no_node c.in_ok-tag.tag no_100 no_115 no_118 no_119)
    ∙ ap (λ at. Err (Unsupported at c.in_ok-tag.tag)) (sym c.offset-at.ensures)

pub returns-in-118 : goal.returns-in-118
returns-in-118 c term =
    node_at 118 term c.args.cursor.now c.byte.new.self c.skip_sized-in-118.new.cursor c.in_ok-tag.tag c.skip_sized-in-118.result
    (c.in_ok-tag.ensures.reads term) c.in-118.is refl (c.skip_sized-in-118.ensures c.args.cursor.now.offset)

pub returns-in-115 : goal.returns-in-115
returns-in-115 c term =
    node_at 115 term c.args.cursor.now c.byte.new.self c.skip_sized-in-115.new.cursor c.in_ok-tag.tag c.skip_sized-in-115.result
    (c.in_ok-tag.ensures.reads term) c.in-115.is refl (c.skip_sized-in-115.ensures c.args.cursor.now.offset)

pub returns-in-119 : goal.returns-in-119
returns-in-119 c term =
    node_at 119 term c.args.cursor.now c.byte.new.self c.skip_sized-in-119.new.cursor c.in_ok-tag.tag c.skip_sized-in-119.result
    (c.in_ok-tag.ensures.reads term) c.in-119.is refl (c.skip_sized-in-119.ensures c.args.cursor.now.offset)
