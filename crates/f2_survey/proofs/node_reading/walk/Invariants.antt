use Rattle.std.proofs.Common.{◌≡◌, Some, map}
use Rattle.f2_bytes.specs.Bytes.{Image, numbers_below}
use Rattle.f2_bytes.specs.NodeAddressTable.{image_nat_entry}
use Rattle.f2_bytes.specs.Check.{nids}
use Rattle.f2_survey.specs.Seen.{Reaches, HasSeen}
use Rattle.f2_survey.specs.Survey.{IsNumbered}
use Rattle.f2_disk.specs.Disk.{Reads, Goes}
use Rattle.f2_sum.specs.Records.{nat_entry}
use Rattle.f2_view.specs.Mounted.{IsMountOf}
use Rattle.f2_survey.proofs.node_reading.walk.Given as goal

-- what was seen of the lesser numbers, and what the disk did
abbrev pub invariant-loop-nid : goal.invariant-loop-nid
invariant-loop-nid g l = record {
  reads : Reads (g.D.Disk.state l.initial.d) (g.D.Disk.state l.d);
  goes : Goes (g.D.Disk.state l.initial.d) (g.D.Disk.state l.d);
  numbered : IsNumbered l.seen.defects;
  reaches : Reaches l.nid l.seen;
  seen : (image : Image) → (g.D.Disk.state l.initial.d).told ≡ Some image → IsMountOf image l.m → map nat_entry l.entries ≡ map (image_nat_entry image) (numbers_below (nids image)) → HasSeen image l.nid l.seen;
}
