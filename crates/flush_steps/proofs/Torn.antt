-- What a stop leaves of the file of a settled host while ranges of it are torn.
use Rattle.std.proofs.Common.{List}
use Rattle.host_model.specs.Disk.{Range, DiffersIn, IsImage, WhereTold}
use Rattle.host_model.specs.Host.{Shown, IsCoherent, Settled}
use Rattle.host_model.specs.Images.{LeavesImages, images_of_writes, images_weaker}
use Rattle.host_model.specs.Tearing.{Tearing}

pub images_torn : (ranges : List Range) (old new : Shown) → IsCoherent old → Settled old → Tearing ranges old new
    → WhereTold old.file (λ f. LeavesImages old new (DiffersIn ranges f))
images_torn ranges old new coherent settled t f told =
    images_weaker (IsImage ranges f) (DiffersIn ranges f) old new (λ image is. is.differs)
    (images_of_writes ranges old new f coherent settled told t.leaves)
