-- The lines of a tree: one for each name, and below that of a directory those of the names in it.
use Rattle.std.specs.Prelude.{ℕ, zero, suc, Bool, false, not, ◌&&◌, ◌==◌, nat_le, if◌then◌else◌, List, [], ◌∷◌, ◌++◌, filter, flat_map, codes}
use Rattle.std.specs.Cmp.Lexicographic.{slice_cmp}
use Rattle.std.specs.Option.{option_map_or}
use Rattle.std.specs.Ordering.{is_lt, nat_cmp}
use Rattle.f2_bytes.specs.Bytes.{Image}
use Rattle.f2_bytes.specs.Directory.{Item}
use Rattle.f2_bytes.specs.Node.{is_directory}
use Rattle.f2_bytes.specs.NodeAddressTable.{nid_limit}
use Rattle.f2_bytes.specs.Object.{is_name}
use Rattle.f2_bytes.specs.Superblock.{layout}
use Rattle.f2_bytes.specs.Tree.{tree_items}
use Rattle.f2_dump.specs.Files.{inode_of}
use Rattle.f2_dump.specs.Orders.{in_order}
use Rattle.f2_dump.specs.Text.{hex_byte, lines_below}

-- ---- a line

-- a byte of a name as it is printed: as it is where that is a visible character other than the backslash, else as `\x` and
-- its two digits
abbrev pub is_plain : ℕ → Bool
is_plain c = nat_le 0x21 c && nat_le c 0x7E && not (c == 92)

abbrev pub printed_byte : ℕ → List ℕ
printed_byte c = if is_plain c then c ∷ [] else 92 ∷ 120 ∷ hex_byte c

abbrev pub printed_name : List ℕ → List ℕ
printed_name name = flat_map printed_byte name

-- two spaces for each level
unfoldable pub indent : ℕ → List ℕ
indent level = lines_below (λ _. codes "  ") level

-- what ends the line of a name: that of a directory has a slash
abbrev pub line_end : Bool → List ℕ
line_end directory = if directory then codes "/\n" else codes "\n"

unfoldable pub tree_line : ℕ → Bool → List ℕ → List ℕ
tree_line level directory name = indent level ++ (printed_name name ++ line_end directory)

-- ---- the lines of an image

-- the number is that of a directory's inode
unfoldable pub is_directory_of : Image → ℕ → Bool
is_directory_of image ino = option_map_or is_directory (inode_of image ino) false

-- names in the order of their bytes
abbrev pub is_before : Item → Item → Bool
is_before x y = is_lt (slice_cmp nat_cmp x.name y.name)

-- the names in a directory, in that order; none where the number is no directory's
unfoldable pub names_of : Image → ℕ → List Item
names_of image ino = if is_directory_of image ino then in_order is_before (filter is_name (tree_items image ino)) else []

-- the lines of a name at a level: its own, and those that are below the number which it names
abbrev pub item_lines : Image → ℕ → (ℕ → List ℕ) → Item → List ℕ
item_lines image level below item = tree_line level (is_directory_of image item.ino) item.name ++ below item.ino

-- the lines of the names in a directory and below, in at most n levels from this one on
unfoldable pub lines_within : ℕ → Image → ℕ → ℕ → List ℕ
lines_within zero image level ino = []
lines_within (suc n) image level ino = flat_map (item_lines image level (lines_within n image (suc level))) (names_of image ino)

-- The lines of the tree. A directory with a name above itself would have no end of them: they end at as many levels as
-- there are numbers, and no chain of different directories is longer.
unfoldable pub tree_lines : Image → List ℕ
tree_lines image = lines_within (nid_limit (layout image)) image 0 3
