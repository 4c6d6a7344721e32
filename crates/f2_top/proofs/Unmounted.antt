-- An image that can't be mounted has no lines.
use Rattle.std.proofs.Common.{List, [], ℕ, refl}
use Rattle.f2_view.specs.declared.mounting.MountRefusal.{MountRefusal}
use Rattle.f2_view.specs.declared.mounting.MountRefusal.TheVariants as mount
use Rattle.f2_top.specs.Run.{mount_answer}
use Rattle.f2_top.specs.Text.{IsFront}

pub unmounted : (early lines : List ℕ) (refusal : MountRefusal) → IsFront early lines (mount_answer refusal) []
unmounted early lines mount.NoSuper = refl
unmounted early lines (mount.Unsupported bits) = refl
unmounted early lines (mount.TooLarge blocks) = refl
unmounted early lines (mount.Truncated blocks held) = refl
unmounted early lines mount.NoPack = refl
unmounted early lines (mount.VersionLimit version) = refl
unmounted early lines (mount.BadSummary count) = refl
unmounted early lines mount.DiskFault = (0, refl)
unmounted early lines mount.NoMemory = (0, refl)
