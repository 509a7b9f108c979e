use Rattle.std.proofs.Common.{◌+◌, ◌*◌, ◌-◌, Err, refl, ap, ◌∙◌, sym, subst, arith}
use Rattle.etf_model.specs.declared.fault.EtfFault.TheVariants.{Depth}
use Rattle.etf_model.specs.Spelling.{number}
use Rattle.etf_model.specs.Skipping.{parts, skipped_at}
use Rattle.etf_codec.specs.Reads.{Reads}
use Rattle.etf_codec.proofs.Reading.{reads_behind, reads_fault}
use Rattle.etf_codec.proofs.Passing.{parts_more, parts_fail, at_tag, term_behind, term_deep, term_end}
use Rattle.etf_codec.proofs.skipping.+skip.Goals as goal

pub skip_counted-returns : goal.skip_counted-returns
skip_counted-returns t c term =
    reads_behind (number c.args.size)
    (λ n. parts (skipped_at c.args.levels) (c.args.each * n + c.args.extra)) term c.args.cursor.now c.number.new.self c.skip_parts.new.cursor _
    c.skip_parts.result (c.in_ok-number.ensures term)
    (subst (λ n. Reads (parts (skipped_at c.args.levels) (c.args.each * n + c.args.extra)) term c.number.new.self c.skip_parts.new.cursor c.skip_parts.result)
    c.from-count.ensures (c.skip_parts.ensures term))

pub skip_parts-returns-in_err-skip_term : goal.skip_parts-returns-in_err-skip_term
skip_parts-returns-in_err-skip_term t c term =
    reads_fault (parts (skipped_at c.args.levels) c.args.count) term c.args.cursor.now c.skip_term.new.cursor c.from_residual.result _ c.from_residual.ensures.1
    (c.loop.invariant term ∙ parts_fail (skipped_at c.args.levels) (c.args.count - c.loop.counter) term c.loop.cursor _ (omega arith)
    (c.in_err-skip_term.ensures term))

pub skip_parts-loop-preserved : goal.skip_parts-loop-preserved
skip_parts-loop-preserved t c term =
    c.loop.invariant term ∙ parts_more (skipped_at c.args.levels) (c.args.count - c.loop.counter) term c.loop.cursor c.skip_term.new.cursor tt (omega arith)
    (c.in_ok-skip_term.ensures term)
    ∙ ap (λ n. (parts (skipped_at c.args.levels) n).read term c.skip_term.new.cursor) (omega arith)

pub skip_term-returns-in_err-tag : goal.skip_term-returns-in_err-tag
skip_term-returns-in_err-tag t c term =
    reads_fault (skipped_at c.args.levels) term c.args.cursor.now c.byte.new.self c.from_residual.result _ c.from_residual.ensures.1
    (term_end c.args.levels term c.args.cursor.now _ (c.in_err-tag.ensures.reads term))

pub skip_term-returns-then-levels-eq0 : goal.skip_term-returns-then-levels-eq0
skip_term-returns-then-levels-eq0 t c term =
    term_deep c.args.levels term c.args.cursor.now c.byte.new.self c.in_ok-tag.tag (omega arith) (c.in_ok-tag.ensures.reads term)
    ∙ ap (λ at. Err (Depth at)) (sym c.offset-at.ensures)

pub skip_term-returns : goal.skip_term-returns
skip_term-returns t c term =
    term_behind c.args.levels term c.args.cursor.now c.byte.new.self c.skip_tagged.new.cursor c.in_ok-tag.tag c.offset-at.result c.skip_tagged.result
    (omega arith) c.offset-at.ensures (c.in_ok-tag.ensures.reads term) c.skip_tagged.ensures

pub skip_tagged-returns-in-97 : goal.skip_tagged-returns-in-97
skip_tagged-returns-in-97 t c =
    at_tag 97 c.args.levels c.args.at c.args.tag c.args.cursor.now c.skip_bytes.new.cursor c.skip_bytes.result c.in-97.is refl (c.skip_bytes.ensures c.args.at)

pub skip_tagged-returns-in-98 : goal.skip_tagged-returns-in-98
skip_tagged-returns-in-98 t c =
    at_tag 98 c.args.levels c.args.at c.args.tag c.args.cursor.now c.skip_bytes-in-98.new.cursor c.skip_bytes-in-98.result c.in-98.is refl
    (c.skip_bytes-in-98.ensures c.args.at)

pub skip_tagged-returns-in-70 : goal.skip_tagged-returns-in-70
skip_tagged-returns-in-70 t c =
    at_tag 70 c.args.levels c.args.at c.args.tag c.args.cursor.now c.skip_bytes-in-70.new.cursor c.skip_bytes-in-70.result c.in-70.is refl
    (c.skip_bytes-in-70.ensures c.args.at)

pub skip_tagged-returns-in-110 : goal.skip_tagged-returns-in-110
skip_tagged-returns-in-110 t c =
    at_tag 110 c.args.levels c.args.at c.args.tag c.args.cursor.now c.skip_sized.new.cursor c.skip_sized.result c.in-110.is refl
    (c.skip_sized.ensures c.args.at)

pub skip_tagged-returns-in-111 : goal.skip_tagged-returns-in-111
skip_tagged-returns-in-111 t c =
    at_tag 111 c.args.levels c.args.at c.args.tag c.args.cursor.now c.skip_sized-in-111.new.cursor c.skip_sized-in-111.result c.in-111.is refl
    (c.skip_sized-in-111.ensures c.args.at)

pub skip_tagged-returns-in-100 : goal.skip_tagged-returns-in-100
skip_tagged-returns-in-100 t c =
    at_tag 100 c.args.levels c.args.at c.args.tag c.args.cursor.now c.skip_sized-in-100.new.cursor c.skip_sized-in-100.result c.in-100.is refl
    (c.skip_sized-in-100.ensures c.args.at)

pub skip_tagged-returns-in-115 : goal.skip_tagged-returns-in-115
skip_tagged-returns-in-115 t c =
    at_tag 115 c.args.levels c.args.at c.args.tag c.args.cursor.now c.skip_sized-in-115.new.cursor c.skip_sized-in-115.result c.in-115.is refl
    (c.skip_sized-in-115.ensures c.args.at)

pub skip_tagged-returns-in-118 : goal.skip_tagged-returns-in-118
skip_tagged-returns-in-118 t c =
    at_tag 118 c.args.levels c.args.at c.args.tag c.args.cursor.now c.skip_sized-in-118.new.cursor c.skip_sized-in-118.result c.in-118.is refl
    (c.skip_sized-in-118.ensures c.args.at)

pub skip_tagged-returns-in-119 : goal.skip_tagged-returns-in-119
skip_tagged-returns-in-119 t c =
    at_tag 119 c.args.levels c.args.at c.args.tag c.args.cursor.now c.skip_sized-in-119.new.cursor c.skip_sized-in-119.result c.in-119.is refl
    (c.skip_sized-in-119.ensures c.args.at)

pub skip_tagged-returns-in-107 : goal.skip_tagged-returns-in-107
skip_tagged-returns-in-107 t c =
    at_tag 107 c.args.levels c.args.at c.args.tag c.args.cursor.now c.skip_sized-in-107.new.cursor c.skip_sized-in-107.result c.in-107.is refl
    (c.skip_sized-in-107.ensures c.args.at)

pub skip_tagged-returns-in-109 : goal.skip_tagged-returns-in-109
skip_tagged-returns-in-109 t c =
    at_tag 109 c.args.levels c.args.at c.args.tag c.args.cursor.now c.skip_sized-in-109.new.cursor c.skip_sized-in-109.result c.in-109.is refl
    (c.skip_sized-in-109.ensures c.args.at)

pub skip_tagged-returns-in-77 : goal.skip_tagged-returns-in-77
skip_tagged-returns-in-77 t c =
    at_tag 77 c.args.levels c.args.at c.args.tag c.args.cursor.now c.skip_sized-in-77.new.cursor c.skip_sized-in-77.result c.in-77.is refl
    (c.skip_sized-in-77.ensures c.args.at)

pub skip_tagged-returns-in-104 : goal.skip_tagged-returns-in-104
skip_tagged-returns-in-104 t c =
    at_tag 104 c.args.levels c.args.at c.args.tag c.args.cursor.now c.skip_counted.new.cursor c.skip_counted.result c.in-104.is refl
    (c.skip_counted.ensures c.args.at)

pub skip_tagged-returns-in-105 : goal.skip_tagged-returns-in-105
skip_tagged-returns-in-105 t c =
    at_tag 105 c.args.levels c.args.at c.args.tag c.args.cursor.now c.skip_counted-in-105.new.cursor c.skip_counted-in-105.result c.in-105.is refl
    (c.skip_counted-in-105.ensures c.args.at)

pub skip_tagged-returns-in-108 : goal.skip_tagged-returns-in-108
skip_tagged-returns-in-108 t c =
    at_tag 108 c.args.levels c.args.at c.args.tag c.args.cursor.now c.skip_counted-in-108.new.cursor c.skip_counted-in-108.result c.in-108.is refl
    (c.skip_counted-in-108.ensures c.args.at)

pub skip_tagged-returns-in-116 : goal.skip_tagged-returns-in-116
skip_tagged-returns-in-116 t c =
    at_tag 116 c.args.levels c.args.at c.args.tag c.args.cursor.now c.skip_counted-in-116.new.cursor c.skip_counted-in-116.result c.in-116.is refl
    (c.skip_counted-in-116.ensures c.args.at)

pub skip_tagged-returns-in-103 : goal.skip_tagged-returns-in-103
skip_tagged-returns-in-103 t c =
    at_tag 103 c.args.levels c.args.at c.args.tag c.args.cursor.now c.skip_at_node.new.cursor c.skip_at_node.result c.in-103.is refl
    (c.skip_at_node.ensures c.args.at)

pub skip_tagged-returns-in-88 : goal.skip_tagged-returns-in-88
skip_tagged-returns-in-88 t c =
    at_tag 88 c.args.levels c.args.at c.args.tag c.args.cursor.now c.skip_at_node-in-88.new.cursor c.skip_at_node-in-88.result c.in-88.is refl
    (c.skip_at_node-in-88.ensures c.args.at)

pub skip_tagged-returns-in-102 : goal.skip_tagged-returns-in-102
skip_tagged-returns-in-102 t c =
    at_tag 102 c.args.levels c.args.at c.args.tag c.args.cursor.now c.skip_at_node-in-102.new.cursor c.skip_at_node-in-102.result c.in-102.is refl
    (c.skip_at_node-in-102.ensures c.args.at)

pub skip_tagged-returns-in-89 : goal.skip_tagged-returns-in-89
skip_tagged-returns-in-89 t c =
    at_tag 89 c.args.levels c.args.at c.args.tag c.args.cursor.now c.skip_at_node-in-89.new.cursor c.skip_at_node-in-89.result c.in-89.is refl
    (c.skip_at_node-in-89.ensures c.args.at)

pub skip_tagged-returns-in-120 : goal.skip_tagged-returns-in-120
skip_tagged-returns-in-120 t c =
    at_tag 120 c.args.levels c.args.at c.args.tag c.args.cursor.now c.skip_at_node-in-120.new.cursor c.skip_at_node-in-120.result c.in-120.is refl
    (c.skip_at_node-in-120.ensures c.args.at)

pub skip_tagged-returns-in-114 : goal.skip_tagged-returns-in-114
skip_tagged-returns-in-114 t c =
    at_tag 114 c.args.levels c.args.at c.args.tag c.args.cursor.now c.skip_reference.new.cursor c.skip_reference.result c.in-114.is refl
    (c.skip_reference.ensures c.args.at)

pub skip_tagged-returns-in-90 : goal.skip_tagged-returns-in-90
skip_tagged-returns-in-90 t c =
    at_tag 90 c.args.levels c.args.at c.args.tag c.args.cursor.now c.skip_reference-in-90.new.cursor c.skip_reference-in-90.result c.in-90.is refl
    (c.skip_reference-in-90.ensures c.args.at)
