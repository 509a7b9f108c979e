use Rattle.std.proofs.Common.{pos, true, false, arith}
use Rattle.dets_term.specs.TermValue.{integer}
use Rattle.etf_model.specs.Format.{byte, changed}
use Rattle.etf_model.specs.Layout.{signed_32}
use Rattle.etf_model.specs.Spelling.{number, name, binary, bit_binary, body_of}
use Rattle.etf_codec.proofs.Bodies.{body-empty_list, body-small_integer, body-integer_32, body-atom, body-small_atom, body-atom_utf8, body-small_atom_utf8}
use Rattle.etf_codec.proofs.Bodies.{body-binary, body-bit_binary}
use Rattle.etf_codec.proofs.Within.{within_reads, within_same, within_made}
use Rattle.etf_codec.proofs.leaves.read_leaf.Goals as goal

pub returns-in-97-clause-reads : goal.returns-in-97-clause-reads
returns-in-97-clause-reads c levels =
    within_reads (changed byte (λ x. integer (pos x)))
    (body_of levels c.args.tag) c.args.term c.args.cursor.now c.small_integer.new.cursor c.small_integer.result
    (body-small_integer levels c.args.tag c.args.term c.args.cursor.now c.in-97.is) (c.small_integer.ensures.reads c.args.term)

pub returns-in-98-clause-reads : goal.returns-in-98-clause-reads
returns-in-98-clause-reads c levels =
    within_reads (changed (number 4) (λ n. integer (signed_32 n)))
    (body_of levels c.args.tag) c.args.term c.args.cursor.now c.integer_32.new.cursor c.integer_32.result
    (body-integer_32 levels c.args.tag c.args.term c.args.cursor.now c.in-98.is) (c.integer_32.ensures.reads c.args.term)

pub returns-in-100-clause-reads : goal.returns-in-100-clause-reads
returns-in-100-clause-reads c levels =
    within_same (name false 2) (body_of levels c.args.tag) c.args.term c.args.cursor.now c.read_atom.new.cursor c.read_atom.result
    (body-atom levels c.args.tag c.args.term c.args.cursor.now c.in-100.is) c.read_atom.ensures.reads

pub returns-in-115-clause-reads : goal.returns-in-115-clause-reads
returns-in-115-clause-reads c levels =
    within_same (name false 1) (body_of levels c.args.tag) c.args.term c.args.cursor.now c.read_atom-in-115.new.cursor c.read_atom-in-115.result
    (body-small_atom levels c.args.tag c.args.term c.args.cursor.now c.in-115.is) c.read_atom-in-115.ensures.reads

pub returns-in-118-clause-reads : goal.returns-in-118-clause-reads
returns-in-118-clause-reads c levels =
    within_same (name true 2) (body_of levels c.args.tag) c.args.term c.args.cursor.now c.read_atom-in-118.new.cursor c.read_atom-in-118.result
    (body-atom_utf8 levels c.args.tag c.args.term c.args.cursor.now c.in-118.is) c.read_atom-in-118.ensures.reads

pub returns-in-119-clause-reads : goal.returns-in-119-clause-reads
returns-in-119-clause-reads c levels =
    within_same (name true 1) (body_of levels c.args.tag) c.args.term c.args.cursor.now c.read_atom-in-119.new.cursor c.read_atom-in-119.result
    (body-small_atom_utf8 levels c.args.tag c.args.term c.args.cursor.now c.in-119.is) c.read_atom-in-119.ensures.reads

pub returns-in-109-clause-reads : goal.returns-in-109-clause-reads
returns-in-109-clause-reads c levels =
    within_same binary (body_of levels c.args.tag) c.args.term c.args.cursor.now c.read_binary.new.cursor c.read_binary.result
    (body-binary levels c.args.tag c.args.term c.args.cursor.now c.in-109.is) (c.read_binary.ensures.reads c.args.term)

pub returns-in-77-clause-reads : goal.returns-in-77-clause-reads
returns-in-77-clause-reads c levels =
    within_same bit_binary (body_of levels c.args.tag) c.args.term c.args.cursor.now c.read_bit_binary.new.cursor c.read_bit_binary.result
    (body-bit_binary levels c.args.tag c.args.term c.args.cursor.now c.in-77.is) c.read_bit_binary.ensures.reads

pub returns-in_default-clause-reads : goal.returns-in_default-clause-reads
returns-in_default-clause-reads c levels =
    within_made (body_of levels c.args.tag) c.args.term c.args.cursor.now c.args.cursor.now c.empty_list.result _ c.empty_list.ensures.ok
    c.empty_list.ensures.err
    (body-empty_list levels c.args.tag c.args.term c.args.cursor.now (omega arith) (omega arith) (omega arith) (omega arith) (omega arith) (omega arith)
    (omega arith) (omega arith) c.requires.0 c.requires.1 c.requires.2 c.requires.3 (omega arith) (omega arith) c.requires.4)
