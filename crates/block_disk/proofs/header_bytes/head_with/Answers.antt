use Rattle.std.proofs.Common.{ap, ◌∙◌}
use Rattle.file_model.specs.Header.{the_version, if_allowed, index_of}
use Rattle.block_disk.proofs.header_bytes.head_with.Goals as goal

pub returns-clause-value : goal.returns-clause-value
returns-clause-value c =
    let index = c.index_of.ensures ∙ ap index_of c.number_at-4.ensures in
    c.if_allowed.ensures.value ∙ (λ j. if_allowed (record {
      version = the_version;
      state = c.args.state;
      kind = c.args.kind;
      keypos = c.number_at.ensures j;
      segments = c.number_at-2.ensures j;
      max_segments = c.number_at-3.ensures j;
      index = index j;
    }))
