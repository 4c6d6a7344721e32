-- The records of the code as those of the format.
use Rattle.std.specs.Prelude.{ℕ, ◌^◌, ◌<◌, List, ◌++◌}
use Rattle.byteorder.specs.Endian.{little_bytes}
use Rattle.f2_bytes.specs.Bytes.{Block}
use Rattle.f2_bytes.specs.Node.{footer_nid, footer_ino, footer_flag, footer_cp_ver, footer_next}
use Rattle.f2_node.specs.declared.records.Footer.{Footer}
use Rattle.f2_node.specs.declared.records.Spot.{Spot}
use Rattle.f2_node.specs.declared.records.Kind.{Kind}
use Rattle.f2_node.specs.declared.records.Kind.TheVariants.{Regular, Directory, Character, BlockDevice, Fifo, Socket, Symlink}

-- the footer of a node
abbrev pub footer_of : Block → Footer
footer_of b = record { nid = footer_nid b; ino = footer_ino b; flag = footer_flag b; cp_ver = footer_cp_ver b; next = footer_next b }

-- the 24 bytes of a footer
abbrev pub footer_bytes : Footer → List ℕ
footer_bytes f = little_bytes 4 f.nid ++ little_bytes 4 f.ino ++ little_bytes 4 f.flag ++ little_bytes 8 f.cp_ver ++ little_bytes 4 f.next

-- the numbers fit these bytes
pub record FitsFooter (f : Footer) : Type 0 where
  pub nid : f.nid < 2 ^ 32
  pub ino : f.ino < 2 ^ 32
  pub flag : f.flag < 2 ^ 32
  pub cp_ver : f.cp_ver < 2 ^ 64
  pub next : f.next < 2 ^ 32

-- a node offset and a place in that node
abbrev pub spot_of : Spot → ℕ × ℕ
spot_of s = (s.offset, s.slot)

-- the number of a kind in a directory's entries
abbrev pub type_of : Kind → ℕ
type_of Regular = 1
type_of Directory = 2
type_of Character = 3
type_of BlockDevice = 4
type_of Fifo = 5
type_of Socket = 6
type_of Symlink = 7
