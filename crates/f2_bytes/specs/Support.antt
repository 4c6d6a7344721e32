-- The support of an image: the blocks that its trees depend on, and the segments without any.
use Rattle.std.specs.Prelude.{ℕ, ◌+◌, ◌*◌, Bool, false, not, ◌||◌, ◌&&◌, ◌==◌, nat_le, nat_lt, if◌then◌else◌, List, filter}
use Rattle.std.specs.Option.{option_map_or}
use Rattle.std.specs.List.{list_any, list_all}
use Rattle.f2_bytes.specs.Bytes.{Block, Image, block_at, word, numbers_below}
use Rattle.f2_bytes.specs.Superblock.{passes, layout, is_main, segment_start}
use Rattle.f2_bytes.specs.Checkpoint.{pack_total_block_count, sit_bits, nat_bits, head, pack_number, is_log_segment}
use Rattle.f2_bytes.specs.NodeAddressTable.{nid_limit, nat, nat_block_address}
use Rattle.f2_bytes.specs.SegmentTable.{sit_block_address, has_valid_block}
use Rattle.f2_bytes.specs.Node.{node_offset, has_slots, is_direct, address_count, address_word}
use Rattle.f2_bytes.specs.RollForward.{found_place, node_block, chain, chain_stop}
use Rattle.f2_bytes.specs.Check.{is_checked}

-- a superblock copy that passes
abbrev pub is_passing_copy : Image → ℕ → Bool
is_passing_copy image address = nat_lt address 2 && passes (block_at image address)

-- a block of the pack that counts
abbrev pub is_pack_block : Image → ℕ → Bool
is_pack_block image address =
    let start = (layout image).cp + 512 * pack_number image in
    nat_le start address && nat_lt address (start + pack_total_block_count (head image))

-- a block of a table, in the copy in use
abbrev pub is_table_block : Image → ℕ → Bool
is_table_block image address =
    list_any (λ k. nat_block_address (layout image) (nat_bits (head image)) k == address) (numbers_below (layout image).nat_half)
    || list_any (λ k. sit_block_address (layout image) (sit_bits (head image)) k == address) (numbers_below (layout image).sit_half)

-- the address of a node, in the table or after roll-forward
abbrev pub is_node_place : Image → ℕ → Bool
is_node_place image address =
    list_any (λ nid. option_map_or (λ e. e.address == address) (nat image nid) false || option_map_or (λ at. at.address == address) (found_place image nid) false)
    (numbers_below (nid_limit (layout image)))

-- a node has this address among its slots
unfoldable pub has_slot_word : Block → ℕ → Bool
has_slot_word b address =
    if node_offset b == 0
    then has_slots b && list_any (λ j. address_word b j == address) (numbers_below (address_count b))
    else is_direct (node_offset b) && list_any (λ j. word b j == address) (numbers_below 1018)

abbrev pub is_slot_address : Image → ℕ → Bool
is_slot_address image address = list_any (λ nid. option_map_or (λ b. has_slot_word b address) (node_block image nid) false) (numbers_below (nid_limit (layout image)))

-- a block of the chain, or the one behind it
abbrev pub is_chain_block : Image → ℕ → Bool
is_chain_block image address =
    list_any (λ a. a == address) (chain image) || option_map_or (λ a. a == address) (chain_stop image) false

-- on a checked image, the summary block of a segment with valid blocks that is no log's
abbrev pub is_needed_summary : Image → ℕ → Bool
is_needed_summary image address =
    is_checked image
    && list_any (λ segment. ((layout image).ssa + segment == address) && has_valid_block image segment && not (is_log_segment (head image) segment))
    (numbers_below (layout image).segments)

-- the trees of the image depend on this block
unfoldable pub is_support : Image → ℕ → Bool
is_support image address =
    is_passing_copy image address
    || is_pack_block image address
    || is_table_block image address
    || (is_main (layout image) address && (is_node_place image address || is_slot_address image address || is_chain_block image address))
    || is_needed_summary image address

-- a segment without any such block that is no log's
unfoldable pub is_free : Image → ℕ → Bool
is_free image segment =
    nat_lt segment (layout image).segments
    && not (is_log_segment (head image) segment)
    && list_all (λ k. not (is_support image (segment_start (layout image) segment + k))) (numbers_below 512)

-- the free segments, in order
abbrev pub free_segments : Image → List ℕ
free_segments image = filter (is_free image) (numbers_below (layout image).segments)
