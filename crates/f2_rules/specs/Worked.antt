-- What is found of an image while its rules are looked at one after the other.
use Rattle.std.specs.Prelude.{◌≡◌, ℕ, Option, Some, []}
use Rattle.f2_bytes.specs.Bytes.{Image}
use Rattle.f2_bytes.specs.Check.{nids, defects}
use Rattle.f2_defects.specs.Collected.{Collection, Collects}
use Rattle.f2_files.specs.Kept.{KeptAfter}
use Rattle.f2_survey.specs.Known.{IsKnown}
use Rattle.f2_survey.specs.Parts.{MeetsBefore}
use Rattle.f2_survey.specs.Segments.{HasTable}
use Rattle.f2_areas.specs.Totals.{HasTotals}
use Rattle.f2_rules.specs.declared.rule_3_and_tour.Beginning.{Beginning}
use Rattle.f2_rules.specs.declared.work.Work.{Work}
use Rattle.f2_view.specs.Mounted.{Mounted, IsMountOf}

-- the defects by the third rule are collected, and where there is none, this was found of the nodes and of the files
pub record HasBegun (image : Image) (b : Beginning) : Type 0 where
  pub found : Collects b.found (defects image 3)
  pub nodes : IsKnown image b.nodes
  pub kept : defects image 3 ≡ [] → KeptAfter image (nids image) b.kept
  pub totals : defects image 3 ≡ [] → HasTotals image b.totals

-- this was found of the image: its nodes, its files, what they sum up to, and its segments
pub record IsWork (image : Image) (w : Work) : Type 0 where
  pub nodes : IsKnown image w.nodes
  pub kept : KeptAfter image (nids image) w.kept
  pub totals : HasTotals image w.totals
  pub table : HasTable image w.entries.items

-- the defects by the third rule are collected, and where there is none, this is passed on to the rules after it
pub record Begun (image : Image) (c : Collection) (w : Work) : Type 0 where
  pub found : Collects c (defects image 3)
  pub next : defects image 3 ≡ [] → IsWork image w

-- the same of an image that is told, and of which the mount is
abbrev pub Begins : Option Image → Mounted → Collection → Work → Type 0
Begins told m c w = (image : Image) → told ≡ Some image → IsMountOf image m → Begun image c w

-- the defects by a later rule are collected, where the image meets those before it
abbrev pub Decides : Option Image → Mounted → ℕ → Work → Collection → Type 0
Decides told m rule w c =
    (image : Image) → told ≡ Some image → IsMountOf image m → MeetsBefore image rule → IsWork image w → Collects c (defects image rule)
