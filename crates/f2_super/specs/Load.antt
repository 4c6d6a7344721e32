-- What loading and repairing the superblock mean.
use Rattle.std.specs.Prelude.{◌≡◌, ℕ, ◌-◌, ◌^◌, ◌<◌, ◌≤◌, ◌==◌, nat_lt, Bool, true, false, if◌then◌else◌, List, ◌++◌, take, slice_set, Option, Some, None, Result, Ok, Err}
use Rattle.f2_bytes.specs.Bytes.{Image, block_at}
use Rattle.f2_bytes.specs.Superblock.{copy_passes, copy_of, super_copy, super_of, has_twins, block_count, unsupported_features}
use Rattle.f2_disk.specs.Disk.{State, Lands, LeavesOnly}
use Rattle.f2_super.specs.declared.loading.Found.{Found}
use Rattle.f2_super.specs.declared.loading.SuperRefusal.{SuperRefusal}
use Rattle.f2_super.specs.declared.loading.SuperRefusal.TheVariants.{NoSuper, Unsupported, TooLarge, Truncated, DiskFault}

-- what a superblock is refused for on a disk of this many blocks
unfoldable pub refusal_of : ℕ → List ℕ → Option SuperRefusal
refusal_of size c =
    if unsupported_features c == 0 then (if nat_lt (2 ^ 28) (block_count c) then Some (TooLarge (block_count c)) else (if nat_lt size (block_count c) then Some (Truncated (block_count c) size) else None))
    else Some (Unsupported (unsupported_features c))

-- a refusal goes before a value
abbrev pub unless : Option SuperRefusal → Found → Result Found SuperRefusal
unless None found = Ok found
unless (Some refusal) found = Err refusal

-- copy n of an image, or none, where it counts, and whether both are twins
abbrev pub loaded_copy : ℕ → Image → Option ℕ → Bool → Result Found SuperRefusal
loaded_copy size image (Some n) twin = let c = copy_of (block_at image n) in unless (refusal_of size c) (record { sup = c; copy = n; twin = twin })
loaded_copy size image None twin = Err NoSuper

-- What loading an image of a disk of this many blocks answers: the copy that counts, its number, and whether both pass
-- and agree.
abbrev pub loaded : ℕ → Image → Result Found SuperRefusal
loaded size image = loaded_copy size image (super_copy image) (has_twins image)

-- the answer is this one, or a fault of the disk
abbrev pub OrFault : {T : Type 0} → Result T SuperRefusal → Result T SuperRefusal → Type 0
OrFault (Err DiskFault) is = Unit {0}
OrFault answer is = answer ≡ is

-- the image with the bytes of the copy that counts in the other copy's block, from byte 1024 on
abbrev pub repaired : Found → Image → Image
repaired f image = let other = 1 - f.copy in slice_set image other (take 1024 (block_at image other) ++ f.sup)

-- A repair that was done, not done or cut short: the other copy's block is the new one, the old one or torn, and no
-- other block differs.
abbrev pub IsRepairing : Found → Image → Image → Type 0
IsRepairing f old new = let other = 1 - f.copy in Lands other (take 1024 (block_at old other) ++ f.sup) old new

-- Where nothing was pending, a crash at any moment since then leaves an image whose superblock has the bytes of that
-- moment.
abbrev pub KeepsSuper : State → State → Type 0
KeepsSuper old new =
    old.pending ≡ false → (image : Image) → old.told ≡ Some image → (s : List ℕ) → super_of image ≡ Some s → LeavesOnly old new (λ c. super_of c ≡ Some s)

-- what is known of a loaded superblock on every disk of this many blocks
pub record IsSound (size : ℕ) (found : Found) : Type 0 where
  pub copy : found.copy < 2
  pub passes : copy_passes found.sup ≡ true
  pub fits : refusal_of size found.sup ≡ None
  pub few : block_count found.sup ≤ 2 ^ 28
  pub held : block_count found.sup ≤ size
  pub room : 2 ≤ size
