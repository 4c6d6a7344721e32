-- What a repair changes, from what its parts say.
use Rattle.std.proofs.Common.{◌≡◌, ◌≤◌, ◌∙◌, ℕ, Option, Some, false, Result, Ok, Err, refl, sym, subst, inl, arith}
use Rattle.f2_bytes.specs.Bytes.{Image}
use Rattle.f2_disk.specs.Disk.{State, Reads, LeavesOnly}
use Rattle.f2_disk.proofs.Runs.{at_rest, quiet_on, reads_first, started}
use Rattle.f2_super.specs.Load.{loaded, IsRepairing}
use Rattle.f2_super.specs.declared.loading.Found.{Found}
use Rattle.f2_super.specs.declared.loading.SuperRefusal.{SuperRefusal}
use Rattle.f2_top.specs.Disks.{OnImage, TellsOne}
use Rattle.f2_top.specs.Repairs.{IsRepairOf, Repairs, RepairsAlways}

-- an image that stays is a repair of itself
untouched : (r : Result Found SuperRefusal) (image : Image) → IsRepairOf r image image
untouched (Ok found) image = inl refl
untouched (Err refusal) image = refl

-- nothing was written
pub repairs_none : (old new : State) → Reads old new → Repairs old new
repairs_none old new reads = λ image told. (image, reads.told ∙ told, untouched (loaded old.size image) image)

-- what was loaded was repaired
pub repairs_then : (found : Found) (old mid new : State) → Reads old mid
    → ((image : Image) → old.told ≡ Some image → Ok found ≡ loaded old.size image)
    → ((image : Image) → mid.told ≡ Some image → (now : Image) × (new.told ≡ Some now) × IsRepairing found image now)
    → Repairs old new
repairs_then found old mid new reads is run = λ image told.
    let left = run image (reads.told ∙ told) in
    (left.0, left.1, subst (λ (r : Result Found SuperRefusal). IsRepairOf r image left.0) (is image told) left.2)

module _ (old : State) (only_now : (c : Image) → old.left_since old.moment c → old.may_leave c) (settled : (c : Image) → old.pending ≡ false → old.may_leave c → old.told ≡ Some c) where
  pub always_none : (new : State) → Reads old new → RepairsAlways old new
  always_none new reads = λ calm image told.
      let start = started old (IsRepairOf (loaded old.size image) image) (at_rest old image (IsRepairOf (loaded old.size image) image) only_now (λ c left. settled c calm left) told (untouched (loaded old.size image) image)) in
      quiet_on {new = new} start (omega arith) reads.since

  pub always_then : (found : Found) (mid new : State) → Reads old mid → old.moment ≤ mid.moment
      → ((image : Image) → old.told ≡ Some image → Ok found ≡ loaded old.size image)
      → (mid.pending ≡ false → (image : Image) → mid.told ≡ Some image → LeavesOnly mid new (IsRepairing found image))
      → RepairsAlways old new
  always_then found mid new reads later is run = λ calm image told.
      let P : Image → Type 0 = IsRepairOf (loaded old.size image) image in
      let own = subst (λ (r : Result Found SuperRefusal). LeavesOnly mid new (IsRepairOf r image)) (is image told) (run (reads.pending ∙ calm) image (reads.told ∙ told)) in
      reads_first reads later (at_rest old image P only_now (λ c left. settled c calm left) told (untouched (loaded old.size image) image)) own
