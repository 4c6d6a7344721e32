-- What a node says of itself.
use Rattle.std.specs.Prelude.{ℕ, Option, option_map}
use Rattle.f2_bytes.specs.Bytes.{Block, Image}
use Rattle.f2_bytes.specs.Node.{footer_nid, footer_ino, node_offset, mode}
use Rattle.f2_bytes.specs.Tree.{read_node}
use Rattle.f2_bytes.specs.Check.{inode_of}
use Rattle.f2_survey.specs.declared.node_words.Said.{Said}

-- what the node in a block says
abbrev pub said_by : Block → Said
said_by b = record { nid = footer_nid b; ino = footer_ino b; offset = node_offset b; mode = mode b }

-- what the node of a number says, and the inode of a number, where the table has it in main
abbrev pub said_at : Image → ℕ → Option Said
said_at image nid = option_map said_by (read_node image nid)

abbrev pub inode_said : Image → ℕ → Option Said
inode_said image nid = option_map said_by (inode_of image nid)
