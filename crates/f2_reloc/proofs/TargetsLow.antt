-- The chosen targets are among the segments that they are chosen from.
use Rattle.std.proofs.Common.{ℕ, ◌+◌, ◌||◌, List, Bool, true, false, nat_le, filter, All}
use Rattle.std.proofs.lemmas.List.Elements.{All-filter}
use Rattle.f2_bytes.specs.declared.layout.Layout.{Layout}
use Rattle.f2_bytes.specs.Superblock.{segment_start, segment_of}
use Rattle.f2_bytes.specs.Defragment.{move_targets}
use Rattle.f2_reloc.proofs.Distinct.{All-reverse}

pub targets_among : (P : ℕ → Type 0) (l : Layout) (free : List ℕ) (start end target : ℕ) (down : Bool) → All P free → All P (move_targets l free start end target down)
targets_among P l free start end target down all = go down
  where
    rest : All P (filter (λ segment. nat_le end (segment_start l segment) || nat_le (segment_start l (segment + 1)) start) free)
    rest = All-filter (λ segment. nat_le end (segment_start l segment) || nat_le (segment_start l (segment + 1)) start) P free all

    go : (b : Bool) → All P (move_targets l free start end target b)
    go true =
        All-reverse P (filter (λ segment. nat_le segment (segment_of l target)) (filter (λ segment. nat_le end (segment_start l segment) || nat_le (segment_start l (segment + 1)) start) free))
        (All-filter (λ segment. nat_le segment (segment_of l target)) P (filter (λ segment. nat_le end (segment_start l segment) || nat_le (segment_start l (segment + 1)) start) free) rest)
    go false = All-filter (λ segment. nat_le (segment_of l target) segment) P (filter (λ segment. nat_le end (segment_start l segment) || nat_le (segment_start l (segment + 1)) start) free) rest
