use Rattle.std.proofs.Common.{◌≡◌, ◌+◌, ◌<◌, ℕ, length, Some}
use Rattle.std.specs.Prelude.{unwrap_or}
use Rattle.f2_bytes.specs.Bytes.{Image}
use Rattle.f2_bytes.specs.Checkpoint.{pack}
use Rattle.f2_bytes.specs.Summary.{summary_entry, pack_summary, missing_summary}
use Rattle.f2_disk.specs.Disk.{Reads, Goes}
use Rattle.f2_view.specs.Mounted.{IsMountOf}
use Rattle.f2_view.proofs.accessors.Mount.log_summaries.Given as goal

-- the entries so far, and what the disk did
abbrev pub invariant-loop-k : goal.invariant-loop-k
invariant-loop-k g l = record {
  reads : Reads (g.D.Disk.state l.initial.d) (g.D.Disk.state l.d);
  goes : Goes (g.D.Disk.state l.initial.d) (g.D.Disk.state l.d);
  size : length l.bytes ≡ 4096;
  entries : (image : Image) → (g.D.Disk.state l.initial.d).told ≡ Some image → IsMountOf image l.self
      → (j : ℕ) → j < l.k → summary_entry l.bytes j ≡ unwrap_or (pack_summary (pack image) l.t j) (missing_summary image l.t (l.first + j));
}
