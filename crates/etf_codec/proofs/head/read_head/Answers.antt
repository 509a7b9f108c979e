use Rattle.std.proofs.Common.{◌∙◌, arith}
use Rattle.etf_model.specs.Spelling.{tuple_of, list_of, map_format, big_integer, part_at, tail_at, body_of}
use Rattle.etf_codec.proofs.Bodies.{body-small_tuple, body-large_tuple, body-string, body-list, body-map, body-small_big, body-large_big}
use Rattle.etf_codec.proofs.TermSteps.{or_else}
use Rattle.etf_codec.proofs.HeadSteps.{head_same, head_fault, fits_as}
use Rattle.etf_codec.proofs.head.read_head.Goals as goal

pub returns-in-104-clause-reads : goal.returns-in-104-clause-reads
returns-in-104-clause-reads c =
    head_same (tuple_of (part_at c.args.levels) c.args.levels 1)
    (body_of c.args.levels c.args.tag) c.args.levels c.args.start c.args.cursor.now c.tuple_head.new.cursor c.tuple_head.result
    (λ position. body-small_tuple c.args.levels c.args.tag c.args.start position c.in-104.is) c.tuple_head.ensures.reads

pub returns-in-105-clause-reads : goal.returns-in-105-clause-reads
returns-in-105-clause-reads c =
    head_same (tuple_of (part_at c.args.levels) c.args.levels 4)
    (body_of c.args.levels c.args.tag) c.args.levels c.args.start c.args.cursor.now c.tuple_head-in-105.new.cursor c.tuple_head-in-105.result
    (λ position. body-large_tuple c.args.levels c.args.tag c.args.start position c.in-105.is) c.tuple_head-in-105.ensures.reads

pub returns-in-108-clause-reads : goal.returns-in-108-clause-reads
returns-in-108-clause-reads c =
    head_same (list_of (part_at c.args.levels) (tail_at c.args.levels) c.args.levels)
    (body_of c.args.levels c.args.tag) c.args.levels c.args.start c.args.cursor.now c.list_head.new.cursor c.list_head.result
    (λ position. body-list c.args.levels c.args.tag c.args.start position c.in-108.is) c.list_head.ensures.reads

pub returns-in-116-clause-reads : goal.returns-in-116-clause-reads
returns-in-116-clause-reads c =
    head_same (map_format (part_at c.args.levels) c.args.levels)
    (body_of c.args.levels c.args.tag) c.args.levels c.args.start c.args.cursor.now c.map_head.new.cursor c.map_head.result
    (λ position. body-map c.args.levels c.args.tag c.args.start position c.in-116.is) c.map_head.ensures.reads

pub returns-in_err-read_string-in-107-clause-reads : goal.returns-in_err-read_string-in-107-clause-reads
returns-in_err-read_string-in-107-clause-reads c =
    head_fault (body_of c.args.levels c.args.tag) c.args.levels c.args.start c.args.cursor.now c.read_string.new.cursor c.from_residual.result _
    c.from_residual.ensures.1
    (or_else (λ e. body-string c.args.levels c.args.tag c.args.start c.args.cursor.now c.in-107.is ∙ e) c.in_err-read_string-in-107.ensures.reads)

pub returns-in_ok-read_string-in-107-clause-reads : goal.returns-in_ok-read_string-in-107-clause-reads
returns-in_ok-read_string-in-107-clause-reads c =
    body-string c.args.levels c.args.tag c.args.start c.args.cursor.now c.in-107.is ∙ c.in_ok-read_string-in-107.ensures.reads

pub returns-in-110-clause-reads : goal.returns-in-110-clause-reads
returns-in-110-clause-reads c =
    head_same (big_integer 1) (body_of c.args.levels c.args.tag) c.args.levels c.args.start c.args.cursor.now c.integer_head.new.cursor c.integer_head.result
    (λ position. body-small_big c.args.levels c.args.tag c.args.start position c.in-110.is) (c.integer_head.ensures.reads c.args.levels)

pub returns-in-111-clause-reads : goal.returns-in-111-clause-reads
returns-in-111-clause-reads c =
    head_same (big_integer 4) (body_of c.args.levels c.args.tag) c.args.levels c.args.start c.args.cursor.now c.integer_head-in-111.new.cursor
    c.integer_head-in-111.result
    (λ position. body-large_big c.args.levels c.args.tag c.args.start position c.in-111.is) (c.integer_head-in-111.ensures.reads c.args.levels)

pub returns-in-110-clause-fits : goal.returns-in-110-clause-fits
returns-in-110-clause-fits c =
    fits_as 110 c.args.tag c.args.levels c.integer_head.result (omega arith) (omega arith) (c.integer_head.ensures.fits c.args.levels)

pub returns-in-111-clause-fits : goal.returns-in-111-clause-fits
returns-in-111-clause-fits c =
    fits_as 110 c.args.tag c.args.levels c.integer_head-in-111.result (omega arith) (omega arith) (c.integer_head-in-111.ensures.fits c.args.levels)
