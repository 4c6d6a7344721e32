-- What the tables, the summaries and the inodes of an image say of blocks that are to move.
use Rattle.std.specs.Prelude.{◌≡◌, ℕ, ◌+◌, ◌<◌, Bool, true, nat_lt, if◌then◌else◌, List, [], ◌∷◌, map, All}
use Rattle.std.specs.Option.{option_map_or}
use Rattle.std.specs.List.{list_any}
use Rattle.f2_bytes.specs.declared.layout.Layout.{Layout}
use Rattle.f2_bytes.specs.Bytes.{Image}
use Rattle.f2_bytes.specs.Superblock.{layout, is_main, segment_of, segment_start}
use Rattle.f2_bytes.specs.SegmentTable.{sit}
use Rattle.f2_bytes.specs.Summary.{summary, summary_entry}
use Rattle.f2_bytes.specs.NodeAddressTable.{nid_limit, image_nat_entry}
use Rattle.f2_bytes.specs.Tree.{read_node}
use Rattle.f2_bytes.specs.Defragment.{regular_extent, is_covered}
use Rattle.f2_gather.specs.declared.gathering.MovedBlock.{MovedBlock}
use Rattle.f2_gather.specs.declared.segments.Segment.{Segment}

-- a segment at hand is as its image says
pub record Shows (image : Image) (s : Segment) : Type 0 where
  pub is_data : s.is_data ≡ nat_lt (sit image s.number).kind 3
  pub summaries : (k : ℕ) → k < 512 → summary_entry s.summaries k ≡ summary image (segment_start (layout image) s.number + k)

-- ---- what is said of one number

-- the segment of an address is one of data
abbrev pub holds_data : Image → ℕ → Bool
holds_data image address = nat_lt (sit image (segment_of (layout image) address)).kind 3

-- the block at an address with its summary, where the segment is one of data
abbrev pub moved_block : Image → ℕ → MovedBlock
moved_block image address =
    record { address = address; nid = (summary image address).nid; version = (summary image address).version; place = (summary image address).place }

unfoldable pub data_at : Image → ℕ → List MovedBlock
data_at image address = if holds_data image address then moved_block image address ∷ [] else []

-- the number, if it may be that of a node
unfoldable pub number_within : ℕ → ℕ → List ℕ
number_within limit number = if nat_lt number limit then number ∷ [] else []

-- the node that the block at an address belongs to
unfoldable pub node_at : Image → ℕ → List ℕ
node_at image address = number_within (nid_limit (layout image)) (summary image address).nid

-- the file of a node
unfoldable pub file_at : Image → ℕ → List ℕ
file_at image nid = if nat_lt nid (nid_limit (layout image)) then number_within (nid_limit (layout image)) (image_nat_entry image nid).ino else []

-- the file, if its extent covers one of these addresses
unfoldable pub covering_at : Image → List ℕ → ℕ → List ℕ
covering_at image addresses file =
    if list_any (is_covered (option_map_or regular_extent (read_node image file) (0, 0))) addresses then file ∷ [] else []

-- ---- what is said of all

-- each of these blocks stands in main
abbrev pub AllMain : Layout → List MovedBlock → Type 0
AllMain l blocks = All (λ b. is_main l b.address ≡ true) blocks

-- the addresses of blocks
abbrev pub addresses_of : List MovedBlock → List ℕ
addresses_of blocks = map (λ b. b.address) blocks

-- the nodes that hold the addresses of blocks
abbrev pub holders_of : List MovedBlock → List ℕ
holders_of blocks = map (λ b. b.nid) blocks
