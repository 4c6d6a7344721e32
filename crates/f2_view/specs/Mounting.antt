-- What mounting an image answers.
use Rattle.std.specs.Prelude.{◌≡◌, ℕ, Result, Ok, Err}
use Rattle.f2_bytes.specs.Bytes.{Image}
use Rattle.f2_bytes.specs.Superblock.{layout_of}
use Rattle.f2_super.specs.Load.{loaded}
use Rattle.f2_super.specs.declared.loading.Found.{Found}
use Rattle.f2_super.specs.declared.loading.SuperRefusal.{SuperRefusal}
use Rattle.f2_super.specs.declared.loading.SuperRefusal.TheVariants as super
use Rattle.f2_pack.specs.Choice.{choice}
use Rattle.f2_pack.specs.Held.{Held}
use Rattle.f2_pack.specs.declared.choosing.PackRefusal.{PackRefusal}
use Rattle.f2_pack.specs.declared.choosing.PackRefusal.TheVariants as pack
use Rattle.f2_view.specs.Mounted.{Mounted}
use Rattle.f2_view.specs.declared.mounting.MountRefusal.{MountRefusal}
use Rattle.f2_view.specs.declared.mounting.MountRefusal.TheVariants.{NoSuper, Unsupported, TooLarge, Truncated, NoPack, VersionLimit, BadSummary, DiskFault, NoMemory}

-- the refusals of the superblock, and those of the packs
abbrev pub super_refusal : SuperRefusal → MountRefusal
super_refusal super.NoSuper = NoSuper
super_refusal (super.Unsupported bits) = Unsupported bits
super_refusal (super.TooLarge blocks) = TooLarge blocks
super_refusal (super.Truncated blocks held) = Truncated blocks held
super_refusal super.DiskFault = DiskFault

abbrev pub pack_refusal : PackRefusal → MountRefusal
pack_refusal pack.NoPack = NoPack
pack_refusal (pack.VersionLimit version) = VersionLimit version
pack_refusal (pack.BadSummary count) = BadSummary count
pack_refusal pack.DiskFault = DiskFault
pack_refusal pack.NoMemory = NoMemory

abbrev pub with_pack : Found → Result Held PackRefusal → Result Mounted MountRefusal
with_pack found (Ok held) = Ok (record { found = found; chosen = held })
with_pack found (Err refusal) = Err (pack_refusal refusal)

abbrev pub with_super : Image → Result Found SuperRefusal → Result Mounted MountRefusal
with_super image (Ok found) = with_pack found (choice (layout_of found.sup) image)
with_super image (Err refusal) = Err (super_refusal refusal)

-- What mounting an image of a disk of this many blocks answers: the superblock that counts, and then the pack that
-- counts in its layout, or the first refusal of these.
abbrev pub mounted : ℕ → Image → Result Mounted MountRefusal
mounted size image = with_super image (loaded size image)

-- the answer is this one, or the disk had a fault, or memory was short
abbrev pub OrFails : {T : Type 0} → Result T MountRefusal → Result T MountRefusal → Type 0
OrFails (Err DiskFault) is = Unit {0}
OrFails (Err NoMemory) is = Unit {0}
OrFails answer is = answer ≡ is
