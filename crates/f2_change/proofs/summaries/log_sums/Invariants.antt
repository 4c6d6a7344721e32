use Rattle.std.proofs.Common.{◌≡◌, ℕ, ◌<◌, Some, length, drop}
use Rattle.f2_bytes.specs.Bytes.{Image, block_at}
use Rattle.f2_bytes.specs.Summary.{summary_entry}
use Rattle.f2_disk.specs.Disk.{Reads, Goes}
use Rattle.f2_view.specs.Mounted.{IsMountOf}
use Rattle.f2_change.specs.Change.{next_summary, summary_end, kind_of, log_at}
use Rattle.f2_change.proofs.summaries.log_sums.Given as goal

-- the summary blocks of the first logs
abbrev pub invariant-loop-t : goal.invariant-loop-t
invariant-loop-t g l = record {
  reads : Reads (g.D.Disk.state l.fn.d) (g.D.Disk.state l.d);
  goes : Goes (g.D.Disk.state l.fn.d) (g.D.Disk.state l.d);
  mount : l.m ≡ l.fn.m;
  six : length l.blocks ≡ 6;
  entries : (image : Image) → (g.D.Disk.state l.fn.d).told ≡ Some image → IsMountOf image l.fn.m → (t k : ℕ) → t < l.t → k < 512 → summary_entry (block_at l.blocks t) k ≡ next_summary image l.sums (log_at l.logs t).segno k;
  ends : (t : ℕ) → t < l.t → drop 3584 (block_at l.blocks t) ≡ summary_end (kind_of t);
}
