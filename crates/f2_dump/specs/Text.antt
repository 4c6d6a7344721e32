-- The lines of a dump, and the numbers for which there is none.
use Rattle.std.specs.Prelude.{ℕ, ◌+◌, ◌-◌, ◌*◌, ◌/◌, ◌%◌, ◌||◌, nat_le, nat_lt, if◌then◌else◌, List, [], ◌∷◌, ◌++◌, flat_map, codes, decimal, Option, Some, None, is_some}
use Rattle.std.specs.List.{range_with_len}
use Rattle.std.specs.Option.{option_map_or}
use Rattle.f2_bytes.specs.declared.layout.Layout.{Layout}
use Rattle.f2_bytes.specs.Bytes.{Block, Image, block_at, bytes_at, numbers_below}
use Rattle.f2_bytes.specs.Checkpoint.{checkpoint_rows, head}
use Rattle.f2_bytes.specs.Journal.{NatEntry, SitEntry}
use Rattle.f2_bytes.specs.NodeAddressTable.{nat, nid_limit}
use Rattle.f2_bytes.specs.SegmentTable.{sit}
use Rattle.f2_bytes.specs.Summary.{Summary, summary, summary_entry}
use Rattle.f2_bytes.specs.Superblock.{layout}
use Rattle.f2_dump.specs.Files.{inode_of, inode_lines, file_bytes, has_file}
use Rattle.f2_dump.specs.Fields.{field_lines, checkpoint_names}
use Rattle.f2_dump.specs.declared.dumping.What.{What}
use Rattle.f2_dump.specs.declared.dumping.What.TheVariants.{Cp, Nat, Sit, Raw, Ssa, Inode, Cat}

-- a hexadecimal digit, in lower case, and the two of a byte
abbrev pub hex_digit : ℕ → ℕ
hex_digit n = if nat_lt n 10 then 48 + n else 87 + n

abbrev pub hex_byte : ℕ → List ℕ
hex_byte b = hex_digit (b / 16) ∷ hex_digit (b % 16) ∷ []

-- the digits of bytes, in their order
abbrev pub hex_bytes : List ℕ → List ℕ
hex_bytes bytes = flat_map hex_byte bytes

-- the number that lies outside of the numbers below a limit: the first of a range, where it does so or lies above the
-- last, or else the last; a range without a last goes up to the limit
abbrev pub outside_of : ℕ → ℕ → Option ℕ → Option ℕ
outside_of limit first None = if nat_le limit first then Some first else None
outside_of limit first (Some last) = if nat_le limit first || nat_lt last first then Some first else (if nat_le limit last then Some last else None)

-- what lies outside, for what is dumped of an image with this layout
abbrev pub outside : Layout → What → Option ℕ
outside l Cp = None
outside l (Nat first last) = outside_of (nid_limit l) first last
outside l (Sit first last) = outside_of l.segments first last
outside l (Raw address) = outside_of l.blocks address None
outside l (Ssa first last) = outside_of l.segments first last
outside l (Inode ino) = None
outside l (Cat ino) = None

-- the number for which an image has no inode, or no file with bytes, for what is dumped
abbrev pub missing : Image → What → Option ℕ
missing image (Inode ino) = if is_some (inode_of image ino) then None else Some ino
missing image (Cat ino) = if has_file image ino then None else Some ino
missing image what = None

-- the numbers of a range, in order
abbrev pub numbers_of : ℕ → ℕ → Option ℕ → List ℕ
numbers_of limit first None = range_with_len first (limit - first)
numbers_of limit first (Some last) = range_with_len first (last + 1 - first)

-- the line of a node: its number, its inode, its address and its version; there is none for another number
abbrev pub nat_line : ℕ → Option NatEntry → List ℕ
nat_line nid None = []
nat_line nid (Some e) = decimal nid ++ codes " " ++ decimal e.ino ++ codes " " ++ decimal e.address ++ codes " " ++ decimal e.version ++ codes "\n"

-- the line of a segment: its number, its type, its count of valid blocks, its time, and its map
abbrev pub sit_line : ℕ → SitEntry → List ℕ
sit_line segment e =
    decimal segment ++ codes " " ++ decimal e.kind ++ codes " " ++ decimal e.count ++ codes " " ++ decimal e.mtime ++ codes " " ++ hex_bytes e.map ++ codes "\n"

-- the line of the 16 bytes from byte 16 k on of a block: the number of that byte in three digits, and the bytes
abbrev pub row_line : Block → ℕ → List ℕ
row_line b k = hex_digit (k / 16) ∷ hex_digit (k % 16) ∷ codes "0: " ++ hex_bytes (bytes_at b (16 * k) 16) ++ codes "\n"

-- the line of a number of an image, where it is that of a node, and that of a segment
abbrev pub node_line : Image → ℕ → List ℕ
node_line image nid = nat_line nid (nat image nid)

abbrev pub segment_line : Image → ℕ → List ℕ
segment_line image segment = sit_line segment (sit image segment)

-- the line of the summary of block k of a segment: both numbers, the nid, the version and the place in the node
abbrev pub summary_line : ℕ → ℕ → Summary → List ℕ
summary_line segment k s =
    decimal segment ++ codes " " ++ decimal k ++ codes " " ++ decimal s.nid ++ codes " " ++ decimal s.version ++ codes " " ++ decimal s.place ++ codes "\n"

-- the lines of the entries of a segment's summary block
abbrev pub entry_line : ℕ → Block → ℕ → List ℕ
entry_line segment b k = summary_line segment k (summary_entry b k)

unfoldable pub entry_lines : ℕ → Block → List ℕ
entry_lines segment b = flat_map (entry_line segment b) (numbers_below 512)

-- the lines of the summaries of a segment's 512 blocks
unfoldable pub summary_lines : Image → ℕ → List ℕ
summary_lines image segment =
    flat_map (λ k. summary_line segment k (summary image ((layout image).main + 512 * segment + k))) (numbers_below 512)

-- the lines of the numbers below one, and from one up to another
abbrev pub lines_below : (ℕ → List ℕ) → ℕ → List ℕ
lines_below line end = flat_map line (numbers_below end)

abbrev pub lines_between : (ℕ → List ℕ) → ℕ → ℕ → List ℕ
lines_between line first end = flat_map line (range_with_len first (end - first))

-- the lines of the checkpoint that counts
abbrev pub checkpoint_lines : Image → List ℕ
checkpoint_lines image = field_lines checkpoint_names checkpoint_rows (head image)

-- the lines of the nodes of a range, of its segments, and of a block
unfoldable pub nat_lines : Image → ℕ → Option ℕ → List ℕ
nat_lines image first last = flat_map (node_line image) (numbers_of (nid_limit (layout image)) first last)

unfoldable pub sit_lines : Image → ℕ → Option ℕ → List ℕ
sit_lines image first last = flat_map (segment_line image) (numbers_of (layout image).segments first last)

unfoldable pub ssa_lines : Image → ℕ → Option ℕ → List ℕ
ssa_lines image first last = flat_map (summary_lines image) (numbers_of (layout image).segments first last)

unfoldable pub block_lines : Block → List ℕ
block_lines b = flat_map (row_line b) (numbers_below 256)

-- the lines of the inode with this number, and the bytes of the file; none where there isn't one
abbrev pub lines_of_inode : Image → ℕ → List ℕ
lines_of_inode image ino = option_map_or inode_lines (inode_of image ino) []

abbrev pub bytes_of_file : Image → ℕ → List ℕ
bytes_of_file image ino = if has_file image ino then option_map_or (file_bytes image ino) (inode_of image ino) [] else []

-- the lines of what is dumped of an image
abbrev pub dump_lines : Image → What → List ℕ
dump_lines image Cp = checkpoint_lines image
dump_lines image (Nat first last) = nat_lines image first last
dump_lines image (Sit first last) = sit_lines image first last
dump_lines image (Raw address) = block_lines (block_at image address)
dump_lines image (Ssa first last) = ssa_lines image first last
dump_lines image (Inode ino) = lines_of_inode image ino
dump_lines image (Cat ino) = bytes_of_file image ino
