use Rattle.std.proofs.Common.{◌≡◌, Some}
use Rattle.f2_bytes.specs.Bytes.{Image}
use Rattle.f2_rules.specs.Worked.{IsWork}
use Rattle.f2_disk.specs.Disk.{Reads, Goes}
use Rattle.f2_survey.specs.Parts.{MeetsBefore}
use Rattle.f2_view.specs.Mounted.{IsMountOf}
use Rattle.f2_check.proofs.checking.check_rules.Given as goal

-- the rules before this one are met
abbrev pub invariant-loop-rule : goal.invariant-loop-rule
invariant-loop-rule g l = record {
  mount : l.m ≡ l.fn.m;
  reads : Reads (g.D.Disk.state l.fn.d) (g.D.Disk.state l.d);
  goes : Goes (g.D.Disk.state l.fn.d) (g.D.Disk.state l.d);
  met : (image : Image) → (g.D.Disk.state l.fn.d).told ≡ Some image → IsMountOf image l.fn.m → MeetsBefore image 4 → IsWork image l.work → MeetsBefore image l.rule;
}
