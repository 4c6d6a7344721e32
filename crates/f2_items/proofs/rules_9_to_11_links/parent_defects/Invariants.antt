use Rattle.std.proofs.Common.{take}
use Rattle.f2_bytes.specs.Bytes.{Image}
use Rattle.f2_bytes.specs.Check.{nids}
use Rattle.f2_items.specs.Directories.{IsGathered}
use Rattle.f2_items.specs.EachFile.{HasTaken}
use Rattle.f2_survey.specs.Parts.{part_in}
use Rattle.f2_items.proofs.rules_9_to_11_links.parent_defects.Given as goal

-- the files so far
abbrev pub invariant-loop-file : goal.invariant-loop-file
invariant-loop-file l = (image : Image) → IsGathered image (nids image) l.d → HasTaken l.found (part_in image 10 8) (take l.file-index l.d.files.items)
