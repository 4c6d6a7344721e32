use Rattle.std.proofs.Common.{◌≡◌}
use Rattle.f2_disk.specs.Disk.{Goes}
use Rattle.f2_image_calls.proofs.segment_tables.put_all_steps.Given as goal

-- the table is that of the same image, and the disk keeps its size
abbrev pub invariant-loop : goal.invariant-loop
invariant-loop g l = record {
  layout : l.sit.layout ≡ l.initial.sit.layout;
  goes : Goes (g.D.Disk.state l.initial.d) (g.D.Disk.state l.d);
}
