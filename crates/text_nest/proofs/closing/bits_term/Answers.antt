use Rattle.std.proofs.Common.{◌<◌, ◌^◌, subst}
use Rattle.text_nest.specs.NestView.{frame_of}
use Rattle.text_nest.specs.Fits.{load_of}
use Rattle.text_nest.proofs.Closings.{few_bytes}
use Rattle.text_nest.proofs.closing.bits_term.Goals as goal

pub closed_bits-requires : goal.closed_bits-requires
closed_bits-requires c = few_bytes c.in-Bits.bytes (subst (λ b. load_of (frame_of b) < 2 ^ 31) c.in-Bits.is c.requires.light)
