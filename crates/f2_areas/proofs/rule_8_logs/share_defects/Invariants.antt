use Rattle.f2_bytes.specs.Bytes.{Image}
use Rattle.f2_survey.specs.Parts.{part_in}
use Rattle.f2_areas.specs.Walked.{HasWalked}
use Rattle.f2_view.specs.Mounted.{IsMountOf}
use Rattle.f2_areas.proofs.rule_8_logs.share_defects.Given as goal

-- the logs so far were compared
abbrev pub invariant-loop-t : goal.invariant-loop-t
invariant-loop-t l = (image : Image) → IsMountOf image l.m → HasWalked l.c (part_in image 8 1) l.t 0
