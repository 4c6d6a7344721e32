-- An image that meets rule 4 was read whole: all that is kept of its directories is right.
use Rattle.std.proofs.Common.{◌≡◌, []}
use Rattle.f2_bytes.specs.Bytes.{Image}
use Rattle.f2_bytes.specs.Check.{nids, defects}
use Rattle.f2_items.specs.Directories.{IsGathered}
use Rattle.f2_files.specs.Kept.{KeptAfter}
use Rattle.f2_rules.proofs.AddressesMet.{kept-directories}
use Rattle.f2_files.specs.declared.kept_of_files.Kept.{Kept}

pub gathered : (image : Image) (k : Kept) → KeptAfter image (nids image) k → defects image 4 ≡ [] → IsGathered image (nids image) k.directories
gathered image k kept met = kept-directories image k kept met
