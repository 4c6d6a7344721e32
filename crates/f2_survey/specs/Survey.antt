-- What a survey of the nodes finds: the comparisons of rule 3 that each node takes part in alone, and counts of nodes.
use Rattle.std.specs.Prelude.{◌≡◌, ℕ, List, ◌++◌, flat_map}
use Rattle.f2_bytes.specs.Bytes.{Image, numbers_below}
use Rattle.f2_bytes.specs.Check.{Part, Defect, defects_at, part_defects}
use Rattle.f2_defects.specs.Collected.{Collection, Collects}
use Rattle.f2_survey.specs.Parts.{part_in}
use Rattle.f2_survey.specs.declared.rule_3_nodes.NodeDefects.{NodeDefects}

-- ---- comparisons

-- the comparisons of a part at this first number were made; at each one below n
abbrev pub ComparesAt : Part → ℕ → Collection → Collection → Type 0
ComparesAt p a old new = (defects : List Defect) → Collects old defects → Collects new (defects ++ defects_at p a)

abbrev pub ComparedBelow : Part → ℕ → Collection → Type 0
ComparedBelow p n c = Collects c (flat_map (defects_at p) (numbers_below n))

-- which parts of rule 3 the collectors are of
pub record IsNumbered (d : NodeDefects) : Type 0 where
  pub address : d.address.part ≡ 1
  pub number : d.number.part ≡ 2
  pub file : d.file.part ≡ 3
  pub offset : d.offset.part ≡ 4
  pub mode : d.mode.part ≡ 5

-- the comparisons of these parts at a number were made
pub record ComparesNode (image : Image) (nid : ℕ) (old new : NodeDefects) : Type 0 where
  pub address : ComparesAt (part_in image 3 1) nid old.address new.address
  pub number : ComparesAt (part_in image 3 2) nid old.number new.number
  pub file : ComparesAt (part_in image 3 3) nid old.file new.file
  pub offset : ComparesAt (part_in image 3 4) nid old.offset new.offset
  pub mode : ComparesAt (part_in image 3 5) nid old.mode new.mode

-- and at each number below n
pub record HasCompared (image : Image) (n : ℕ) (d : NodeDefects) : Type 0 where
  pub address : ComparedBelow (part_in image 3 1) n d.address
  pub number : ComparedBelow (part_in image 3 2) n d.number
  pub file : ComparedBelow (part_in image 3 3) n d.file
  pub offset : ComparedBelow (part_in image 3 4) n d.offset
  pub mode : ComparedBelow (part_in image 3 5) n d.mode

-- all defects of these parts are collected
pub record HasNodeDefects (image : Image) (d : NodeDefects) : Type 0 where
  pub address : Collects d.address (part_defects (part_in image 3 1))
  pub number : Collects d.number (part_defects (part_in image 3 2))
  pub file : Collects d.file (part_defects (part_in image 3 3))
  pub offset : Collects d.offset (part_defects (part_in image 3 4))
  pub mode : Collects d.mode (part_defects (part_in image 3 5))
