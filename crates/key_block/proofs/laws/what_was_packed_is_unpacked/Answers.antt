use Rattle.std.proofs.Common.{arith}
use Rattle.file_model.specs.Packing.{payload_of, payload_has_bytes}
use Rattle.key_block.proofs.Unpacked.{unpacked}
use Rattle.key_block.proofs.laws.what_was_packed_is_unpacked.Goals as goal

pub returns : goal.returns
returns c = λ kind keypos objects k r may fits key answer other.
    unpacked kind keypos (payload_of objects) objects k r
    (c.a_payload_has_its_objects.ensures objects may (omega (arith, payload_has_bytes objects))) key answer other
