use Rattle.std.proofs.Common.{◌≡◌, ◌+◌, ◌||◌, nat_le, cond, filter, take}
use Rattle.f2_bytes.specs.Superblock.{segment_start, segment_of}
use Rattle.f2_reloc.specs.Emptying.{end_of}
use Rattle.f2_reloc.proofs.targets.targets.Given as goal

-- those among the first ones
abbrev pub invariant-loop-segno : goal.invariant-loop-segno
invariant-loop-segno l =
    l.chosen.items
    ≡ filter (λ segment. cond l.down (nat_le segment (segment_of l.l l.target)) (nat_le (segment_of l.l l.target) segment))
    (filter (λ segment. nat_le (end_of l.range) (segment_start l.l segment) || nat_le (segment_start l.l (segment + 1)) l.range.start) (take l.segno-index l.free))
