-- What is known of an aim, as statements that contracts cite.
use Rattle.std.specs.Prelude.{◌≡◌, ℕ, ◌+◌, ◌*◌, ◌^◌, ◌≤◌, List, IsTrue}
use Rattle.f2_bytes.specs.Superblock.{copy_passes, block_count, segment_count_sit, segment_count_nat, segment_count_ssa, segment_count_main, main_blkaddr, IsInOrder}
use Rattle.f2_bytes.specs.Resize.{aim_of, aimed_layout}

-- the layout of an aim is in order, where it has main segments
abbrev pub AimIsInOrder : Type 0
AimIsInOrder = (c : List ℕ) (blocks : ℕ) → IsTrue (copy_passes c) → blocks ≤ 2 ^ 28 → 1 ≤ (aim_of c blocks).main
    → IsInOrder (aimed_layout c (aim_of c blocks))

-- the main area never begins earlier: it begins later by just as many segments as the aim says
abbrev pub AimMovesMain : Type 0
AimMovesMain = (c : List ℕ) (blocks : ℕ) → IsTrue (copy_passes c) → blocks ≤ 2 ^ 28
    → (aimed_layout c (aim_of c blocks)).main ≡ main_blkaddr c + 512 * (aim_of c blocks).delta

-- an image that does not get smaller keeps all its main segments but the first ones, into which the other areas grow
abbrev pub GrowthKeepsSegments : Type 0
GrowthKeepsSegments = (c : List ℕ) (blocks : ℕ) → IsTrue (copy_passes c) → block_count c ≤ blocks → blocks ≤ 2 ^ 28
    → segment_count_main c ≤ (aim_of c blocks).delta + (aim_of c blocks).main

-- the size that an image has leaves all as it is
abbrev pub HeldSizeKeepsAreas : Type 0
HeldSizeKeepsAreas = (c : List ℕ) → IsTrue (copy_passes c) → aim_of c (block_count c) ≡ record {
  blocks = block_count c;
  sit = segment_count_sit c;
  nat = segment_count_nat c;
  ssa = segment_count_ssa c;
  main = segment_count_main c;
  delta = 0;
}
