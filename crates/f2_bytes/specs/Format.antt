-- New images: their geometry, and the trees that they begin with.
use Rattle.std.specs.Prelude.{ℕ, ◌+◌, ◌-◌, ◌*◌, ◌/◌, min, Bool, false, ◌&&◌, ◌==◌, if◌then◌else◌, List, ◌++◌, replicate, Some, None, codes}
use Rattle.std.specs.Int.{bytes_low_first}
use Rattle.std.specs.Str.{bytes_eq}
use Rattle.f2_bytes.specs.Bytes.{quotient_up}
use Rattle.f2_bytes.specs.Object.{empty, Object, FileTree}

-- ---- geometry

-- the blocks of an image, all its segments, and those of four areas; the checkpoints take two
pub record Geometry : Type 0 where
  pub blocks : ℕ
  pub segments : ℕ
  pub sit : ℕ
  pub nat : ℕ
  pub ssa : ℕ
  pub main : ℕ

-- the segments for a table of this many entries per block, twice, in whole segments
abbrev pub segments_for : ℕ → ℕ → ℕ
segments_for entries per_block = quotient_up (quotient_up entries per_block) 512

-- the segments of the segment table, where n segments follow the first
abbrev pub sit_segments : ℕ → ℕ
sit_segments n = 2 * segments_for n 55

-- the segments of the node address table: an entry for each block that is left, as far as both bitmaps fit
abbrev pub nat_segments : ℕ → ℕ → ℕ
nat_segments n sit = 2 * min (segments_for (512 * (n - 2 - sit)) 455) (60 - sit / 2)

-- the segments of the summaries: a block for each segment that is left
abbrev pub ssa_segments : ℕ → ℕ → ℕ → ℕ
ssa_segments n sit nat = quotient_up (n - 2 - sit - nat) 512

-- the geometry of an image of this many blocks
unfoldable pub geometry_of : ℕ → Geometry
geometry_of blocks =
    let n = blocks / 512 - 1 in
    let sit = sit_segments n in
    let nat = nat_segments n sit in
    let ssa = ssa_segments n sit nat in
    let main = n - 2 - sit - nat - ssa in
    record { blocks = blocks; segments = 2 + sit + nat + ssa + main; sit = sit; nat = nat; ssa = ssa; main = main }

-- the geometry of an image of this many sectors
abbrev pub geometry : ℕ → Geometry
geometry sectors = geometry_of (sectors / 8)

-- the least number of main segments
abbrev pub least_main : ℕ
least_main = 24

-- reserved segments, overprovision segments, and the blocks for users
abbrev pub reserved_count : ℕ
reserved_count = 8

abbrev pub overprovision_count : ℕ → ℕ
overprovision_count main = 12 + main / 50

abbrev pub user_blocks : ℕ → ℕ → ℕ
user_blocks main overprovision = 512 * (main - overprovision)

-- where the main area begins
abbrev pub main_start : Geometry → ℕ
main_start g = 512 * (3 + g.sit + g.nat + g.ssa)

-- ---- new trees

-- attributes with this mode and these times; all other bytes are zeros
abbrev pub new_attributes : ℕ → ℕ → List ℕ
new_attributes mode second =
    let time = bytes_low_first 0 8 second in
    bytes_low_first 0 2 mode ++ replicate 9 0 ++ time ++ time ++ time ++ replicate 20 0

abbrev pub new_directory : ℕ → ℕ → (List ℕ → ℕ → Bool) → Object
new_directory mode second names = record {
  kind = 2;
  attributes = new_attributes mode second;
  content = empty;
  attribute_area = None;
  attribute_node = None;
  names = names;
}

-- the tree of a new image: the root, and `lost+found` where it is asked for
unfoldable pub new_tree : Bool → ℕ → FileTree
new_tree lost_found second ino =
    if ino == 3 then Some (new_directory 0x41ED second (λ name target. lost_found && (target == 4) && bytes_eq name (codes "lost+found")))
    else (if (ino == 4) && lost_found then Some (new_directory 0x41C0 second (λ _ _. false))
    else None)
