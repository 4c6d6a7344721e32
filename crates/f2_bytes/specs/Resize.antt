-- The resize of an image: the areas that a new size gives, and the segments that it needs.
use Rattle.std.specs.Prelude.{ℕ, ◌+◌, ◌-◌, ◌*◌, ◌/◌, max, min, Bool, not, ◌&&◌, nat_le, nat_lt, if◌then◌else◌, List, filter, find, length, Option, is_some}
use Rattle.f2_bytes.specs.declared.layout.Layout.{Layout}
use Rattle.f2_bytes.specs.Bytes.{Image, numbers_below, quotient_up}
use Rattle.f2_bytes.specs.Superblock.{super_bytes, layout, block_count, segment0_blkaddr, segment_count_sit, segment_count_nat, segment_count_ssa, segment_count_main, cp_blkaddr, main_blkaddr, segment_start}
use Rattle.f2_bytes.specs.Checkpoint.{head, log, log_numbers, overprov_segment_count, valid_block_count}
use Rattle.f2_bytes.specs.NodeAddressTable.{nat, nid_limit}
use Rattle.f2_bytes.specs.Support.{free_segments}
use Rattle.f2_bytes.specs.Defragment.{main_end, defrag_need}
use Rattle.f2_bytes.specs.Format.{sit_segments, nat_segments, ssa_segments, least_main}
use Rattle.f2_bytes.specs.declared.aim.Aim.{Aim}

-- a smaller size leaves the areas as they are, and cuts the main area
abbrev pub aim_down : List ℕ → ℕ → Aim
aim_down c blocks = record {
  blocks = blocks;
  sit = segment_count_sit c;
  nat = segment_count_nat c;
  ssa = segment_count_ssa c;
  main = min (segment_count_main c) ((blocks - main_blkaddr c) / 512);
  delta = 0;
}

-- a greater size gives each area what a new image of that size has, where that is more and both version bitmaps fit
abbrev pub aim_up : List ℕ → ℕ → Aim
aim_up c blocks =
    let n = (blocks - segment0_blkaddr c) / 512 in
    let sit = max (segment_count_sit c) (sit_segments n) in
    let nat = min (max (segment_count_nat c) (nat_segments n sit)) (2 * (60 - sit / 2)) in
    let ssa = max (segment_count_ssa c) (ssa_segments n sit nat) in
    record {
      blocks = blocks;
      sit = sit;
      nat = nat;
      ssa = ssa;
      main = n - 2 - sit - nat - ssa;
      delta = sit + nat + ssa - (segment_count_sit c + segment_count_nat c + segment_count_ssa c);
    }

-- what a resize to this many blocks aims at, where the copy that counts has the bytes c
unfoldable pub aim_of : List ℕ → ℕ → Aim
aim_of c blocks = if nat_lt (block_count c) blocks then aim_up c blocks else aim_down c blocks

-- where the areas lie then
abbrev pub aimed_layout : List ℕ → Aim → Layout
aimed_layout c aim =
    let sit = cp_blkaddr c + 1024 in
    let nat = sit + 512 * aim.sit in
    let ssa = nat + 512 * aim.nat in
    record {
      blocks = aim.blocks;
      cp = cp_blkaddr c;
      sit = sit;
      nat = nat;
      ssa = ssa;
      main = ssa + 512 * aim.ssa;
      sit_half = 512 * (aim.sit / 2);
      nat_half = 512 * (aim.nat / 2);
      segments = aim.main;
    }

-- the numbers of nodes that the table then has entries for are those below this
abbrev pub aimed_nid_limit : List ℕ → Aim → ℕ
aimed_nid_limit c aim = nid_limit (aimed_layout c aim)

-- the least number of main segments: some remain for users
abbrev pub least_aimed_main : Image → ℕ
least_aimed_main image = max least_main (overprov_segment_count (head image) + 1)

-- the blocks for users
abbrev pub aimed_user_blocks : Image → Aim → ℕ
aimed_user_blocks image aim = 512 * (aim.main - overprov_segment_count (head image))

-- ---- a job on an image

module _ (image : Image) (blocks : ℕ) where
  -- what the job aims at
  abbrev pub aim : Aim
  aim = aim_of (super_bytes image) blocks

  -- a segment keeps its place: it lies neither in the areas that grow nor past the end
  abbrev pub is_kept_segment : ℕ → Bool
  is_kept_segment segment = nat_le aim.delta segment && nat_lt segment (aim.delta + aim.main)

  -- the image gets larger
  abbrev pub is_growth : Bool
  is_growth = nat_lt (block_count (super_bytes image)) blocks

  -- the addresses of the segments that are emptied: from here, up to there
  abbrev pub emptied_start : ℕ
  emptied_start = if is_growth then (layout image).main else segment_start (layout image) aim.main

  abbrev pub emptied_end : ℕ
  emptied_end =
      if is_growth then min (main_end (layout image)) (segment_start (layout image) aim.delta)
      else main_end (layout image)

  -- the segments that the blocks and the overprovision take; main is to have as many
  unfoldable pub room_need : ℕ
  room_need = overprov_segment_count (head image) + quotient_up (valid_block_count (head image)) 512

  -- the logs in emptied segments
  abbrev pub logs_to_move : List ℕ
  logs_to_move = filter (λ t. not (is_kept_segment (log (head image) t).segment)) log_numbers

  -- the segments that moving needs, a whole one for each such log, and the free ones that are kept
  unfoldable pub resize_need : ℕ
  resize_need = length logs_to_move + defrag_need image emptied_start emptied_end

  unfoldable pub resize_have : ℕ
  resize_have = length (filter is_kept_segment (free_segments image))

  -- the least number of a node that has no room in the new table
  unfoldable pub nid_too_high : Option ℕ
  nid_too_high =
      find (λ nid. nat_le (aimed_nid_limit (super_bytes image) aim) nid && is_some (nat image nid))
      (numbers_below (nid_limit (layout image)))
