-- The checkpoint: its packs, when one is valid, and which one counts.
use Rattle.std.specs.Prelude.{ℕ, ◌+◌, ◌-◌, ◌*◌, ◌/◌, ◌^◌, Bool, not, ◌||◌, ◌&&◌, ◌==◌, nat_le, nat_lt, if◌then◌else◌, List, [], ◌∷◌, map, flat_map, sum_by, min, Option, Some, None, unwrap_or, is_some}
use Rattle.std.specs.List.{list_all, list_any, range_with_len}
use Rattle.f2_bytes.specs.declared.layout.Layout.{Layout}
use Rattle.f2_bytes.specs.declared.fields.Field.{Field}
use Rattle.f2_bytes.specs.Bytes.{Block, Image, block_at, bytes_at, number_at, word, has_bit, count_below}
use Rattle.f2_bytes.specs.Checksum.{is_sealed}
use Rattle.f2_bytes.specs.Fields.{field, field_at}
use Rattle.f2_bytes.specs.Superblock.{layout}

-- the rows of a checkpoint
abbrev pub checkpoint_rows : List Field
checkpoint_rows =
    field 0 8 ∷ field 8 8 ∷ field 16 8 ∷ field 24 4 ∷ field 28 4 ∷ field 32 4
    ∷ field 36 4 ∷ field 40 4 ∷ field 44 4 ∷ field 48 4 ∷ field 52 4 ∷ field 56 4 ∷ field 60 4 ∷ field 64 4
    ∷ field 68 2 ∷ field 70 2 ∷ field 72 2 ∷ field 74 2 ∷ field 76 2 ∷ field 78 2 ∷ field 80 2 ∷ field 82 2
    ∷ field 84 4 ∷ field 88 4 ∷ field 92 4 ∷ field 96 4 ∷ field 100 4 ∷ field 104 4 ∷ field 108 4 ∷ field 112 4
    ∷ field 116 2 ∷ field 118 2 ∷ field 120 2 ∷ field 122 2 ∷ field 124 2 ∷ field 126 2 ∷ field 128 2 ∷ field 130 2
    ∷ field 132 4 ∷ field 136 4 ∷ field 140 4 ∷ field 144 4 ∷ field 148 4 ∷ field 152 4 ∷ field 156 4 ∷ field 160 4
    ∷ field 164 4 ∷ field 168 8
    ∷ field 176 1 ∷ field 177 1 ∷ field 178 1 ∷ field 179 1 ∷ field 180 1 ∷ field 181 1 ∷ field 182 1 ∷ field 183 1
    ∷ field 184 1 ∷ field 185 1 ∷ field 186 1 ∷ field 187 1 ∷ field 188 1 ∷ field 189 1 ∷ field 190 1 ∷ field 191 1
    ∷ field 4092 4 ∷ []

-- row k of the checkpoint in block b
abbrev pub checkpoint_row : Block → ℕ → ℕ
checkpoint_row b k = field_at checkpoint_rows b k

abbrev pub checkpoint_ver : Block → ℕ
checkpoint_ver b = checkpoint_row b 0

abbrev pub user_block_count : Block → ℕ
user_block_count b = checkpoint_row b 1

abbrev pub valid_block_count : Block → ℕ
valid_block_count b = checkpoint_row b 2

abbrev pub rsvd_segment_count : Block → ℕ
rsvd_segment_count b = checkpoint_row b 3

abbrev pub overprov_segment_count : Block → ℕ
overprov_segment_count b = checkpoint_row b 4

abbrev pub free_segment_count : Block → ℕ
free_segment_count b = checkpoint_row b 5

abbrev pub ckpt_flags : Block → ℕ
ckpt_flags b = checkpoint_row b 38

abbrev pub pack_total_block_count : Block → ℕ
pack_total_block_count b = checkpoint_row b 39

abbrev pub pack_start_sum : Block → ℕ
pack_start_sum b = checkpoint_row b 40

abbrev pub valid_node_count : Block → ℕ
valid_node_count b = checkpoint_row b 41

abbrev pub valid_inode_count : Block → ℕ
valid_inode_count b = checkpoint_row b 42

abbrev pub next_free_nid : Block → ℕ
next_free_nid b = checkpoint_row b 43

abbrev pub sit_ver_bitmap_bytesize : Block → ℕ
sit_ver_bitmap_bytesize b = checkpoint_row b 44

abbrev pub nat_ver_bitmap_bytesize : Block → ℕ
nat_ver_bitmap_bytesize b = checkpoint_row b 45

abbrev pub checkpoint_checksum : Block → ℕ
checkpoint_checksum b = checkpoint_row b 64

-- flags of a checkpoint, as bits
abbrev pub is_umount : Block → Bool
is_umount b = has_bit (ckpt_flags b) 0

abbrev pub has_orphans : Block → Bool
has_orphans b = has_bit (ckpt_flags b) 1

abbrev pub is_compact : Block → Bool
is_compact b = has_bit (ckpt_flags b) 2

abbrev pub is_fastboot : Block → Bool
is_fastboot b = has_bit (ckpt_flags b) 5

-- which of the version and the checksum a node that was written after the checkpoint carries
abbrev pub has_crc_recovery : Block → Bool
has_crc_recovery b = has_bit (ckpt_flags b) 6

abbrev pub has_nocrc_recovery : Block → Bool
has_nocrc_recovery b = has_bit (ckpt_flags b) 9

abbrev pub has_large_nat_bitmap : Block → Bool
has_large_nat_bitmap b = has_bit (ckpt_flags b) 10

-- a log: the segment that it fills, its next block there, and whether it reuses holes (1) or appends (0)
pub record Log : Type 0 where
  pub segment : ℕ
  pub offset : ℕ
  pub allocation : ℕ

-- log t of the checkpoint with this head: 0 to 2 are hot, warm and cold data, 3 to 5 hot, warm and cold nodes
abbrev pub log : Block → ℕ → Log
log head t =
    if nat_lt t 3
    then record { segment = checkpoint_row head (22 + t); offset = checkpoint_row head (30 + t); allocation = checkpoint_row head (48 + t) }
    else record { segment = checkpoint_row head (3 + t); offset = checkpoint_row head (11 + t); allocation = checkpoint_row head (48 + t) }

-- the numbers of the six logs, and of the three for data
abbrev pub log_numbers : List ℕ
log_numbers = 0 ∷ 1 ∷ 2 ∷ 3 ∷ 4 ∷ 5 ∷ []

abbrev pub data_log_numbers : List ℕ
data_log_numbers = 0 ∷ 1 ∷ 2 ∷ []

-- whether a log of the checkpoint fills this segment
abbrev pub is_log_segment : Block → ℕ → Bool
is_log_segment head segment = list_any (λ t. (log head t).segment == segment) log_numbers

-- how many summary entries of data log t the compact form holds
abbrev pub compact_count : Block → ℕ → ℕ
compact_count head t = if (log head t).allocation == 1 then 512 else (log head t).offset

-- the blocks that summaries of the data logs take in the compact form
abbrev pub compact_blocks : Block → ℕ
compact_blocks head =
    let entries = sum_by (compact_count head) data_log_numbers in
    if nat_le entries 439 then 1 else (if nat_le entries 1023 then 2 else 3)

-- whether the pack has summaries of the node logs
abbrev pub has_node_summaries : Block → Bool
has_node_summaries head = is_umount head || is_fastboot head

abbrev pub data_summary_blocks : Block → ℕ
data_summary_blocks head = if is_compact head then compact_blocks head else 3

abbrev pub node_summary_blocks : Block → ℕ
node_summary_blocks head = if has_node_summaries head then 3 else 0

-- a pack: its blocks, by their number in it
abbrev pub Pack : Type 0
Pack = ℕ → Block

-- pack 0 or 1 of an image
abbrev pub pack_at : Layout → Image → ℕ → Pack
pack_at l image k = λ j. block_at image (l.cp + 512 * k + j)

-- the first and the last block of a pack, which both are the checkpoint
abbrev pub pack_head : Pack → Block
pack_head pack = pack 0

abbrev pub pack_tail : Pack → Block
pack_tail pack = pack (pack_total_block_count (pack_head pack) - 1)

-- the log lies in a main segment
abbrev pub is_log_valid : Layout → Log → Bool
is_log_valid l at = nat_lt at.segment l.segments && nat_lt at.offset 512 && nat_le at.allocation 1

-- both ends of a pack are sealed, with one version
unfoldable pub has_sealed_ends : Pack → Bool
has_sealed_ends pack =
    is_sealed (pack_head pack)
    && not (has_large_nat_bitmap (pack_head pack))
    && nat_le (pack_total_block_count (pack_head pack)) 512
    && is_sealed (pack_tail pack)
    && (checkpoint_ver (pack_tail pack) == checkpoint_ver (pack_head pack))

-- the head's bitmaps and logs agree with the layout
unfoldable pub agrees_with_layout : Layout → Block → Bool
agrees_with_layout l head =
    (sit_ver_bitmap_bytesize head == l.sit_half / 8)
    && (nat_ver_bitmap_bytesize head == l.nat_half / 8)
    && list_all (λ t. is_log_valid l (log head t)) log_numbers

-- the pack has room for its orphans, its summaries and its tail
unfoldable pub has_room_for_summaries : Block → Bool
has_room_for_summaries head =
    nat_le 1 (pack_start_sum head)
    && nat_le (pack_start_sum head + data_summary_blocks head + node_summary_blocks head + 1) (pack_total_block_count head)

-- a pack is valid
unfoldable pub is_pack_valid : Layout → Pack → Bool
is_pack_valid l pack = has_sealed_ends pack && agrees_with_layout l (pack_head pack) && has_room_for_summaries (pack_head pack)

-- the pack that counts: the valid one of the higher version, pack 0 at a tie
unfoldable pub chosen_pack : Layout → Image → Option ℕ
chosen_pack l image =
    let first = pack_at l image 0 in
    let second = pack_at l image 1 in
    if is_pack_valid l first && (not (is_pack_valid l second) || nat_le (checkpoint_ver (pack_head second)) (checkpoint_ver (pack_head first)))
    then Some 0
    else (if is_pack_valid l second then Some 1 else None)

-- the number of the pack of an image that counts, the pack, and its head
abbrev pub pack_number : Image → ℕ
pack_number image = unwrap_or (chosen_pack (layout image) image) 0

unfoldable pub pack : Image → Pack
pack image = pack_at (layout image) image (pack_number image)

unfoldable pub head : Image → Block
head image = pack_head (pack image)

abbrev pub has_checkpoint : Image → Bool
has_checkpoint image = is_some (chosen_pack (layout image) image)

-- the version bitmaps of the two tables
abbrev pub sit_bits : Block → List ℕ
sit_bits head = bytes_at head 192 (sit_ver_bitmap_bytesize head)

abbrev pub nat_bits : Block → List ℕ
nat_bits head = bytes_at head (192 + sit_ver_bitmap_bytesize head) (nat_ver_bitmap_bytesize head)

-- the inode numbers in an orphan block
abbrev pub orphans_in : Block → List ℕ
orphans_in b = map (word b) (range_with_len 0 (min (number_at b 4088 4) 1020))

-- the inode numbers in the orphan blocks of a pack, in order
unfoldable pub orphans : Pack → List ℕ
orphans pack =
    if has_orphans (pack_head pack) then flat_map (λ j. orphans_in (pack j)) (range_with_len 1 (pack_start_sum (pack_head pack) - 1)) else []

-- how many inodes of an image are orphans, each counted once
unfoldable pub orphan_count : Image → ℕ
orphan_count image = count_below (2 ^ 32) (λ ino. list_any (λ x. x == ino) (orphans (pack image)))
