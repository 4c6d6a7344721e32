use Rattle.std.proofs.Common.{◌≡◌, take}
use Rattle.f2_bytes.specs.Bytes.{Image}
use Rattle.f2_bytes.specs.Check.{nids}
use Rattle.f2_items.specs.Directories.{visited_below}
use Rattle.f2_items.specs.EachFile.{HasTaken, TellsOwn}
use Rattle.f2_survey.specs.Parts.{part_in}
use Rattle.f2_items.proofs.rule_11_loops.take_all.Given as goal

-- the files so far
abbrev pub invariant-loop-file : goal.invariant-loop-file
invariant-loop-file l = (image : Image) → TellsOwn image l.own → l.files ≡ visited_below image (nids image) → HasTaken l.found (part_in image 11 2) (take l.file-index l.files)
