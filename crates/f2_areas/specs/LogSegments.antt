-- What is known of a log of an image while the blocks of its segment are compared.
use Rattle.std.specs.Prelude.{◌≡◌, ℕ}
use Rattle.f2_bytes.specs.Bytes.{Image}
use Rattle.f2_bytes.specs.Checkpoint.{Log, log, head}
use Rattle.f2_bytes.specs.Journal.{SitEntry}
use Rattle.f2_bytes.specs.SegmentTable.{sit}

-- this is log t of the image, and the segment that it fills has this entry
pub record FillsSegment (image : Image) (t : ℕ) (at : Log) (e : SitEntry) : Type 0 where
  pub own : at ≡ log (head image) t
  pub entry : e ≡ sit image (log (head image) t).segment
