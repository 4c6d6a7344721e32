use Rattle.std.proofs.Common.{◌≡◌, ◌≤◌, ◌<◌, ◌-◌, ◌/◌, ℕ, length}
use Rattle.std.specs.Prelude.{slice_index}
use Rattle.f2_commit.proofs.moved_segments.segment_end.Given as goal

-- the addresses up to here lie in the same segment
abbrev pub invariant-loop-end : goal.invariant-loop-end
invariant-loop-end l = record {
  some : l.from < l.end;
  inside : l.end ≤ length l.addresses;
  same : (j : ℕ) → l.from ≤ j → j < l.end → (slice_index l.addresses j - l.main) / 512 ≡ (slice_index l.addresses l.from - l.main) / 512;
}

abbrev pub decreases-loop-end : goal.decreases-loop-end
decreases-loop-end l = length l.addresses - l.end
