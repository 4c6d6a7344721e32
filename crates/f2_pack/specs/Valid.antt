-- When a pack is valid, by its head and its tail.
use Rattle.std.specs.Prelude.{Bool, not, ◌&&◌, ◌==◌, nat_le, if◌then◌else◌, Option, Some, None}
use Rattle.f2_bytes.specs.Bytes.{Block}
use Rattle.f2_bytes.specs.Checksum.{is_sealed}
use Rattle.f2_bytes.specs.Checkpoint.{Pack, pack_head, checkpoint_ver, pack_total_block_count, has_large_nat_bitmap, agrees_with_layout, has_room_for_summaries, is_pack_valid}
use Rattle.f2_bytes.specs.declared.layout.Layout.{Layout}

-- all that a head says by itself
unfoldable pub is_head_valid : Layout → Block → Bool
is_head_valid l head =
    is_sealed head
    && not (has_large_nat_bitmap head)
    && nat_le (pack_total_block_count head) 512
    && agrees_with_layout l head
    && has_room_for_summaries head

-- a block is the tail of a pack with this head: sealed, with the same version
abbrev pub is_tail_of : Block → Block → Bool
is_tail_of head tail = is_sealed tail && (checkpoint_ver tail == checkpoint_ver head)

-- the head of a pack, where the pack is valid
abbrev pub head_in : Layout → Pack → Option Block
head_in l pack = if is_pack_valid l pack then Some (pack_head pack) else None
