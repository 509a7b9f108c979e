use Rattle.std.proofs.Common.{append_assoc}
use Rattle.etf_codec.proofs.FewestBytes.{magnitude_bytes-front}
use Rattle.etf_codec.proofs.encoding.encode_big.Goals as goal

pub returns : goal.returns
returns c =
    simp append_assoc at (rw (
      c.in_ok-push-3.ensures.ok,
      c.in_ok-push-2.ensures.ok,
      c.in_ok-push.ensures.ok,
      c.to_le_bytes-bytes.ensures,
      c.byte_count-count.ensures.value,
      magnitude_bytes-front c.args.magnitude,
    ) at c.extend_from_slice.ensures.ok)
