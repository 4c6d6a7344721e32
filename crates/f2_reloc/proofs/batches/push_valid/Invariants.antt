use Rattle.std.proofs.Common.{◌≡◌, ◌++◌, ◌&&◌, nat_le, nat_lt, filter}
use Rattle.std.specs.List.{range_with_len}
use Rattle.f2_bytes.specs.Bits.{bit_msb}
use Rattle.f2_bytes.specs.Superblock.{place_of, segment_start}
use Rattle.f2_reloc.specs.Emptying.{end_of}
use Rattle.f2_reloc.proofs.batches.push_valid.Given as goal

-- those of the first blocks
abbrev pub invariant-loop-k : goal.invariant-loop-k
invariant-loop-k l =
    l.into.items
    ≡ l.fn.into.items ++ filter (λ a. bit_msb l.entry.map (place_of l.l a)) (filter (λ a. nat_le l.range.start a && nat_lt a (end_of l.range)) (range_with_len (segment_start l.l l.segno) l.k))
