-- The superblock: its rows, when a copy passes, which copy counts, and where it says that the areas lie.
use Rattle.std.specs.Prelude.{◌≡◌, ℕ, ◌+◌, ◌-◌, ◌*◌, ◌/◌, ◌%◌, ◌^◌, ◌≤◌, ◌<◌, Bool, not, ◌||◌, ◌&&◌, ◌==◌, nat_le, nat_lt, List, [], ◌∷◌, length, map, drop, take, take_while, find, Option, option_map, unwrap_or, is_some, bit_and}
use Rattle.std.specs.List.{list_all}
use Rattle.f2_bytes.specs.declared.layout.Layout.{Layout}
use Rattle.f2_bytes.specs.declared.fields.Field.{Field}
use Rattle.f2_bytes.specs.Bytes.{Block, Image, block_at, bytes_at, number_at, has_bit, numbers_below}
use Rattle.f2_bytes.specs.Checksum.{crc, magic_number}
use Rattle.f2_bytes.specs.Fields.{field, field_at}

-- the rows of a superblock copy
abbrev pub superblock_rows : List Field
superblock_rows =
    field 0 4 ∷ field 4 2 ∷ field 6 2 ∷ field 8 4 ∷ field 12 4 ∷ field 16 4 ∷ field 20 4 ∷ field 24 4 ∷ field 28 4
    ∷ field 32 4 ∷ field 36 8 ∷ field 44 4 ∷ field 48 4 ∷ field 52 4 ∷ field 56 4 ∷ field 60 4 ∷ field 64 4
    ∷ field 68 4 ∷ field 72 4 ∷ field 76 4 ∷ field 80 4 ∷ field 84 4 ∷ field 88 4 ∷ field 92 4 ∷ field 96 4
    ∷ field 100 4 ∷ field 104 4 ∷ field 108 8 ∷ field 116 8 ∷ field 1148 4 ∷ field 1664 4 ∷ field 2180 4
    ∷ field 3068 4 ∷ []

-- row k of the copy with the bytes c
abbrev pub copy_row : List ℕ → ℕ → ℕ
copy_row c k = field_at superblock_rows c k

abbrev pub magic : List ℕ → ℕ
magic c = copy_row c 0

abbrev pub log_sectorsize : List ℕ → ℕ
log_sectorsize c = copy_row c 3

abbrev pub log_sectors_per_block : List ℕ → ℕ
log_sectors_per_block c = copy_row c 4

abbrev pub log_blocksize : List ℕ → ℕ
log_blocksize c = copy_row c 5

abbrev pub log_blocks_per_seg : List ℕ → ℕ
log_blocks_per_seg c = copy_row c 6

abbrev pub segs_per_sec : List ℕ → ℕ
segs_per_sec c = copy_row c 7

abbrev pub secs_per_zone : List ℕ → ℕ
secs_per_zone c = copy_row c 8

abbrev pub checksum_offset : List ℕ → ℕ
checksum_offset c = copy_row c 9

abbrev pub block_count : List ℕ → ℕ
block_count c = copy_row c 10

abbrev pub section_count : List ℕ → ℕ
section_count c = copy_row c 11

abbrev pub segment_count : List ℕ → ℕ
segment_count c = copy_row c 12

abbrev pub segment_count_ckpt : List ℕ → ℕ
segment_count_ckpt c = copy_row c 13

abbrev pub segment_count_sit : List ℕ → ℕ
segment_count_sit c = copy_row c 14

abbrev pub segment_count_nat : List ℕ → ℕ
segment_count_nat c = copy_row c 15

abbrev pub segment_count_ssa : List ℕ → ℕ
segment_count_ssa c = copy_row c 16

abbrev pub segment_count_main : List ℕ → ℕ
segment_count_main c = copy_row c 17

abbrev pub segment0_blkaddr : List ℕ → ℕ
segment0_blkaddr c = copy_row c 18

abbrev pub cp_blkaddr : List ℕ → ℕ
cp_blkaddr c = copy_row c 19

abbrev pub sit_blkaddr : List ℕ → ℕ
sit_blkaddr c = copy_row c 20

abbrev pub nat_blkaddr : List ℕ → ℕ
nat_blkaddr c = copy_row c 21

abbrev pub ssa_blkaddr : List ℕ → ℕ
ssa_blkaddr c = copy_row c 22

abbrev pub main_blkaddr : List ℕ → ℕ
main_blkaddr c = copy_row c 23

abbrev pub root_ino : List ℕ → ℕ
root_ino c = copy_row c 24

abbrev pub node_ino : List ℕ → ℕ
node_ino c = copy_row c 25

abbrev pub meta_ino : List ℕ → ℕ
meta_ino c = copy_row c 26

abbrev pub cp_payload : List ℕ → ℕ
cp_payload c = copy_row c 30

abbrev pub feature : List ℕ → ℕ
feature c = copy_row c 31

abbrev pub crc_field : List ℕ → ℕ
crc_field c = copy_row c 32

-- the uuid of the image, and its label: UTF-16 units up to the first zero
abbrev pub uuid : List ℕ → List ℕ
uuid c = bytes_at c 108 16

unfoldable pub volume_name : List ℕ → List ℕ
volume_name c = take_while (λ u. not (u == 0)) (map (λ i. number_at c (124 + 2 * i) 2) (numbers_below 512))

-- the copy has the magic number, the sizes that this project reads, and the usual inode numbers
unfoldable pub has_known_form : List ℕ → Bool
has_known_form c =
    (magic c == magic_number)
    && nat_le 9 (log_sectorsize c)
    && nat_le (log_sectorsize c) 12
    && (log_sectors_per_block c == 12 - log_sectorsize c)
    && (log_blocksize c == 12)
    && (log_blocks_per_seg c == 9)
    && (segs_per_sec c == 1)
    && nat_le 1 (secs_per_zone c)
    && (cp_payload c == 0)
    && (root_ino c == 3)
    && (node_ino c == 1)
    && (meta_ino c == 2)

-- each area has segments, the two tables an even number of them
unfoldable pub has_known_counts : List ℕ → Bool
has_known_counts c =
    (segment_count_ckpt c == 2)
    && nat_le 2 (segment_count_sit c)
    && (segment_count_sit c % 2 == 0)
    && nat_le 2 (segment_count_nat c)
    && (segment_count_nat c % 2 == 0)
    && nat_le 1 (segment_count_ssa c)
    && nat_le 1 (segment_count_main c)
    && (section_count c == segment_count_main c)

-- the areas follow each other without a gap, and end within the image
unfoldable pub has_joined_areas : List ℕ → Bool
has_joined_areas c =
    (cp_blkaddr c == segment0_blkaddr c)
    && nat_le 2 (cp_blkaddr c)
    && (sit_blkaddr c == cp_blkaddr c + 512 * segment_count_ckpt c)
    && (nat_blkaddr c == sit_blkaddr c + 512 * segment_count_sit c)
    && (ssa_blkaddr c == nat_blkaddr c + 512 * segment_count_nat c)
    && (main_blkaddr c == ssa_blkaddr c + 512 * segment_count_ssa c)
    && nat_le (main_blkaddr c + 512 * segment_count_main c) (block_count c)

-- the segments are no fewer than the areas take, the summaries and the segment table reach for main, and both
-- version bitmaps fit their checkpoint block
unfoldable pub has_enough_room : List ℕ → Bool
has_enough_room c =
    nat_le (segment_count_ckpt c + segment_count_sit c + segment_count_nat c + segment_count_ssa c + segment_count_main c) (segment_count c)
    && nat_le (segment_count_main c) (512 * segment_count_ssa c)
    && nat_le (segment_count_main c) (28160 * (segment_count_sit c / 2))
    && nat_le (32 * (segment_count_sit c + segment_count_nat c)) 3900

-- the feature sb_checksum: the copy ends in a checksum of the bytes before
abbrev pub has_checksum : List ℕ → Bool
has_checksum c = has_bit (feature c) 11

-- where the copy has a checksum, it stands at its place and is right
unfoldable pub has_right_checksum : List ℕ → Bool
has_right_checksum c = not (has_checksum c) || ((checksum_offset c == 3068) && (crc_field c == crc magic_number (take 3068 c)))

-- the copy with the bytes c passes
unfoldable pub copy_passes : List ℕ → Bool
copy_passes c = has_known_form c && has_known_counts c && has_joined_areas c && has_enough_room c && has_right_checksum c

-- the bytes of the copy in a block
unfoldable pub copy_of : Block → List ℕ
copy_of b = drop 1024 b

-- the copy in block b passes
abbrev pub passes : Block → Bool
passes b = copy_passes (copy_of b)

-- the number of the copy that counts: 0 where that copy passes, else 1 where that one does
abbrev pub super_copy : Image → Option ℕ
super_copy image = find (λ n. passes (block_at image n)) (0 ∷ 1 ∷ [])

-- the bytes of the copy that counts
abbrev pub super_of : Image → Option (List ℕ)
super_of image = option_map (λ n. copy_of (block_at image n)) (super_copy image)

-- the same, and those of copy 0 where none counts
abbrev pub super_bytes : Image → List ℕ
super_bytes image = copy_of (block_at image (unwrap_or (super_copy image) 0))

-- the rows in which both copies are to agree: all but the versions, checksums and the number of extensions
abbrev pub is_compared_row : ℕ → Bool
is_compared_row row = (nat_le 3 row && nat_le row 8) || (nat_le 10 row && nat_le row 28) || (row == 30) || (row == 31)

-- two copies agree in this row, if they are to
abbrev pub agree_at : List ℕ → List ℕ → ℕ → Bool
agree_at c d row = not (is_compared_row row) || (copy_row c row == copy_row d row)

-- two copies agree in all rows in which they are to
unfoldable pub agree : List ℕ → List ℕ → Bool
agree c d = list_all (agree_at c d) (numbers_below 33)

-- both copies pass and agree
abbrev pub has_twins : Image → Bool
has_twins image = passes (block_at image 0) && passes (block_at image 1) && agree (copy_of (block_at image 0)) (copy_of (block_at image 1))

-- the feature bits that are read: lost_found and sb_checksum
abbrev pub profile : ℕ
profile = 0xA00

-- the feature bits outside the profile
unfoldable pub unsupported_features : List ℕ → ℕ
unsupported_features c = bit_and (feature c) (2 ^ 32 - 1 - profile)

-- the image has a copy that counts, no feature outside the profile, and all the blocks that it says
abbrev pub is_loadable : Image → Bool
is_loadable image = is_some (super_copy image)
    && (unsupported_features (super_bytes image) == 0)
    && nat_le (block_count (super_bytes image)) (2 ^ 28)
    && nat_le (block_count (super_bytes image)) (length image)

-- where the copy with the bytes c says that the areas lie
abbrev pub layout_of : List ℕ → Layout
layout_of c = record {
  blocks = block_count c;
  cp = cp_blkaddr c;
  sit = sit_blkaddr c;
  nat = nat_blkaddr c;
  ssa = ssa_blkaddr c;
  main = main_blkaddr c;
  sit_half = 512 * (segment_count_sit c / 2);
  nat_half = 512 * (segment_count_nat c / 2);
  segments = segment_count_main c;
}

-- where the areas of an image lie
unfoldable pub layout : Image → Layout
layout image = layout_of (super_bytes image)

-- the address is that of a block of the main area
abbrev pub is_main : Layout → ℕ → Bool
is_main l address = nat_le l.main address && nat_lt address (l.main + 512 * l.segments)

-- the address of the first block of a main segment
abbrev pub segment_start : Layout → ℕ → ℕ
segment_start l segment = l.main + 512 * segment

-- the main segment of such an address, and the place of the block in it
abbrev pub segment_of : Layout → ℕ → ℕ
segment_of l address = (address - l.main) / 512

abbrev pub place_of : Layout → ℕ → ℕ
place_of l address = (address - l.main) % 512

-- A layout whose areas follow each other: what each call that takes a layout needs.
pub record IsInOrder (l : Layout) : Type 0 where
  pub cp : 2 ≤ l.cp
  pub sit : l.sit ≡ l.cp + 1024
  pub nat : l.nat ≡ l.sit + 2 * l.sit_half
  pub ssa : l.ssa ≡ l.nat + 2 * l.nat_half
  pub sit_whole : l.sit_half % 512 ≡ 0
  pub sit_some : 512 ≤ l.sit_half
  pub nat_whole : l.nat_half % 512 ≡ 0
  pub nat_some : 512 ≤ l.nat_half
  pub halves : l.sit_half + l.nat_half ≤ 30720
  pub main : l.ssa < l.main
  pub main_whole : (l.main - l.ssa) % 512 ≡ 0
  pub segments_some : 1 ≤ l.segments
  pub summaries : l.segments ≤ l.main - l.ssa
  pub entries : l.segments ≤ 55 * l.sit_half
  pub inside : l.main + 512 * l.segments ≤ l.blocks
  pub few : l.blocks ≤ 2 ^ 28
