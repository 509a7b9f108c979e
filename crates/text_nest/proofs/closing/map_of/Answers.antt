use Rattle.std.proofs.Common.{arith}
use Rattle.dets_term.specs.TermValue.{map_of}
use Rattle.dets_term.specs.Building.{map_made, made_or_memory}
use Rattle.text_nest.proofs.Closings.{made_term}
use Rattle.text_nest.proofs.closing.map_of.Goals as goal

pub within_limits-requires : goal.within_limits-requires
within_limits-requires c = made_or_memory (map_of c.args.pairs) c.map.result
    (map_made c.args.pairs c.in_ok-pairs.pairs c.map.result c.in_ok-pairs.ensures.pairs c.into_pairs.ensures.ascending
    (omega (arith, c.requires.1)) c.requires.0
    c.map.ensures)

pub returns : goal.returns
returns c = made_term c.map.result c.within_limits.result (map_of c.args.pairs)
    (map_made c.args.pairs c.in_ok-pairs.pairs c.map.result c.in_ok-pairs.ensures.pairs c.into_pairs.ensures.ascending
    (omega (arith, c.requires.1)) c.requires.0
    c.map.ensures) c.within_limits.ensures.ok
