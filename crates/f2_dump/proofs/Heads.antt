-- The head that a mount keeps is that of its image.
use Rattle.std.proofs.Common.{◌≡◌}
use Rattle.f2_bytes.specs.Bytes.{Image}
use Rattle.f2_bytes.specs.Checkpoint.{head}
use Rattle.f2_view.specs.Mounted.{Mounted, IsMountOf}

pub head_of : (image : Image) (m : Mounted) → IsMountOf image m → m.chosen.head ≡ head image
unfolding head
head_of image m of = λ i. (of.chosen i).head
