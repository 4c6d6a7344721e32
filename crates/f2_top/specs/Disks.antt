-- Words for what is said of a disk before and after a job.
use Rattle.std.specs.Prelude.{◌≡◌, Option, Some, false}
use Rattle.f2_bytes.specs.Bytes.{Image}
use Rattle.f2_disk.specs.Disk.{State}
use Rattle.f2_top.specs.Answers.{IsSuccess}
use Rattle.f2_top.specs.declared.answer.Answer.{Answer}

-- where the disk tells its image, this of it
abbrev pub OnImage : State → (Image → Type 0) → Type 0
OnImage disk P = (image : Image) → disk.told ≡ Some image → P image

-- the disk tells an image, and this holds of it
abbrev pub TellsOne : State → (Image → Type 0) → Type 0
TellsOne disk P = (left : Image) × (disk.told ≡ Some left) × P left

-- a success leaves no write pending where none was
abbrev pub IsSettled : Answer → State → State → Type 0
IsSettled answer old new = IsSuccess answer → old.pending ≡ false → new.pending ≡ false
