-- The blocks of a directory.
use Rattle.std.specs.Prelude.{ℕ, ◌&&◌, if◌then◌else◌, List, [], filter_map, Option, Some, None, option_map}
use Rattle.f2_bytes.specs.Bytes.{Block, Image, numbers_below}
use Rattle.f2_bytes.specs.Node.{is_directory, has_slots, most_blocks}
use Rattle.f2_bytes.specs.Tree.{main_block, tree_slot}
use Rattle.f2_bytes.specs.Check.{inode_of}

-- the blocks of a directory that stand in blocks, each with its number, in order; of any other file there are none here
abbrev pub blocks_in : Image → ℕ → Option Block → List (ℕ × Block)
blocks_in image ino None = []
blocks_in image ino (Some inode) =
    if is_directory inode && has_slots inode
    then filter_map (λ k. option_map (λ b. (k, b)) (main_block image (tree_slot image ino k))) (numbers_below most_blocks)
    else []

unfoldable pub directory_blocks : Image → ℕ → List (ℕ × Block)
directory_blocks image ino = blocks_in image ino (inode_of image ino)
