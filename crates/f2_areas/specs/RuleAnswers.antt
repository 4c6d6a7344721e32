-- What is answered for a rule.
use Rattle.std.specs.Prelude.{◌≡◌, ℕ, Option, Some}
use Rattle.f2_bytes.specs.Bytes.{Image}
use Rattle.f2_bytes.specs.Check.{defects}
use Rattle.f2_defects.specs.Collected.{Collection, Collects}
use Rattle.f2_view.specs.Mounted.{Mounted, IsMountOf}

-- of an image that is told, and of which the mount is, the defects by this rule are collected
abbrev pub Finds : Option Image → Mounted → ℕ → Collection → Type 0
Finds told m rule c = (image : Image) → told ≡ Some image → IsMountOf image m → Collects c (defects image rule)
