-- What a repair of the superblock copies may change.
use Rattle.std.specs.Prelude.{◌≡◌, false, Result, Ok, Err}
use Rattle.f2_bytes.specs.Bytes.{Image}
use Rattle.f2_disk.specs.Disk.{State, LeavesOnly}
use Rattle.f2_super.specs.Load.{loaded, IsRepairing}
use Rattle.f2_super.specs.declared.loading.Found.{Found}
use Rattle.f2_super.specs.declared.loading.SuperRefusal.{SuperRefusal}
use Rattle.f2_top.specs.Disks.{OnImage, TellsOne}

-- no block differs but that of the other copy than the one that was loaded, and that is the old one, the new one or torn
abbrev pub IsRepairOf : Result Found SuperRefusal → Image → Image → Type 0
IsRepairOf (Ok found) old new = IsRepairing found old new
IsRepairOf (Err refusal) old new = new ≡ old

-- a disk that told an image tells such a one
abbrev pub Repairs : State → State → Type 0
Repairs old new = OnImage old (λ image. TellsOne new (IsRepairOf (loaded old.size image) image))

-- where nothing was pending, a crash at any moment since then leaves such a one
abbrev pub RepairsAlways : State → State → Type 0
RepairsAlways old new =
    old.pending ≡ false → OnImage old (λ image. LeavesOnly old new (IsRepairOf (loaded old.size image) image))
