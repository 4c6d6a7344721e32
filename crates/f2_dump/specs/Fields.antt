-- The lines of a checkpoint.
use Rattle.std.specs.Prelude.{ℕ, List, [], ◌∷◌, ◌++◌, flat_map, codes, decimal, get_or, length}
use Rattle.f2_bytes.specs.declared.fields.Field.{Field}
use Rattle.f2_bytes.specs.Bytes.{numbers_below}
use Rattle.f2_bytes.specs.Fields.{field_at}

-- the line of a field: its name and its number
abbrev pub field_line : List ℕ → ℕ → List ℕ
field_line name number = name ++ codes " " ++ decimal number ++ codes "\n"

-- the lines of a record's fields with these names and places
abbrev pub field_lines : List (List ℕ) → List Field → List ℕ → List ℕ
field_lines names rows b = flat_map (λ k. field_line (get_or names k []) (field_at rows b k)) (numbers_below (length names))

-- the names of a checkpoint's fields
abbrev pub checkpoint_names : List (List ℕ)
checkpoint_names =
    codes "checkpoint_ver" ∷ codes "user_block_count" ∷ codes "valid_block_count" ∷ codes "rsvd_segment_count" ∷ codes "overprov_segment_count"
    ∷ codes "free_segment_count" ∷ codes "cur_node_segno[0]" ∷ codes "cur_node_segno[1]" ∷ codes "cur_node_segno[2]" ∷ codes "cur_node_segno[3]"
    ∷ codes "cur_node_segno[4]" ∷ codes "cur_node_segno[5]" ∷ codes "cur_node_segno[6]" ∷ codes "cur_node_segno[7]" ∷ codes "cur_node_blkoff[0]"
    ∷ codes "cur_node_blkoff[1]" ∷ codes "cur_node_blkoff[2]" ∷ codes "cur_node_blkoff[3]" ∷ codes "cur_node_blkoff[4]" ∷ codes "cur_node_blkoff[5]"
    ∷ codes "cur_node_blkoff[6]" ∷ codes "cur_node_blkoff[7]" ∷ codes "cur_data_segno[0]" ∷ codes "cur_data_segno[1]" ∷ codes "cur_data_segno[2]"
    ∷ codes "cur_data_segno[3]" ∷ codes "cur_data_segno[4]" ∷ codes "cur_data_segno[5]" ∷ codes "cur_data_segno[6]" ∷ codes "cur_data_segno[7]"
    ∷ codes "cur_data_blkoff[0]" ∷ codes "cur_data_blkoff[1]" ∷ codes "cur_data_blkoff[2]" ∷ codes "cur_data_blkoff[3]" ∷ codes "cur_data_blkoff[4]"
    ∷ codes "cur_data_blkoff[5]" ∷ codes "cur_data_blkoff[6]" ∷ codes "cur_data_blkoff[7]" ∷ codes "ckpt_flags" ∷ codes "cp_pack_total_block_count"
    ∷ codes "cp_pack_start_sum" ∷ codes "valid_node_count" ∷ codes "valid_inode_count" ∷ codes "next_free_nid" ∷ codes "sit_ver_bitmap_bytesize"
    ∷ codes "nat_ver_bitmap_bytesize" ∷ codes "checksum_offset" ∷ codes "elapsed_time" ∷ codes "alloc_type[0]" ∷ codes "alloc_type[1]"
    ∷ codes "alloc_type[2]" ∷ codes "alloc_type[3]" ∷ codes "alloc_type[4]" ∷ codes "alloc_type[5]" ∷ codes "alloc_type[6]"
    ∷ codes "alloc_type[7]" ∷ codes "alloc_type[8]" ∷ codes "alloc_type[9]" ∷ codes "alloc_type[10]" ∷ codes "alloc_type[11]"
    ∷ codes "alloc_type[12]" ∷ codes "alloc_type[13]" ∷ codes "alloc_type[14]" ∷ codes "alloc_type[15]" ∷ codes "checksum" ∷ []
