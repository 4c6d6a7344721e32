-- What is known of a superblock copy that passes.
use Rattle.std.proofs.Common.{◌≡◌, ℕ, ◌+◌, ◌*◌, ◌/◌, ◌%◌, ◌^◌, ◌≤◌, ◌<◌, List, true, refl, arith}
use Rattle.std.specs.Prelude.{nat_le}
use Rattle.std.proofs.lemmas.Bool.{and_parts, leb-true, eqb-true}
use Rattle.f2_bytes.specs.Fields.{field, row_at, lies_in}
use Rattle.f2_bytes.specs.declared.fields.Field.{Field}
use Rattle.f2_bytes.specs.Superblock.{superblock_rows, copy_passes, has_known_counts, has_joined_areas, has_enough_room, layout_of, IsInOrder, block_count, segment_count_ckpt, segment_count_sit, segment_count_nat, segment_count_ssa, segment_count_main, cp_blkaddr, sit_blkaddr, nat_blkaddr, ssa_blkaddr, main_blkaddr}
use Rattle.f2_bytes.proofs.Tables.{row_passes}

-- each row lies in the copy, and is a number of at most 8 bytes
pub record IsRow (row : Field) : Type 0 where
  pub inside : row.offset + row.width ≤ 3072
  pub narrow : row.width ≤ 8

pub superblock_row : (k : ℕ) → k < 33 → IsRow (row_at superblock_rows k)
superblock_row k below =
    let row = row_at superblock_rows k in
    record {
      inside = leb-true (row.offset + row.width) 3072 (row_passes (lies_in 3072) superblock_rows k (field 0 0) below refl);
      narrow = leb-true row.width 8 (row_passes (λ (r : Field). nat_le r.width 8) superblock_rows k (field 0 0) below refl);
    }

-- the sizes of the areas
pub record Counts (c : List ℕ) : Type 0 where
  pub ckpt : segment_count_ckpt c ≡ 2
  pub sit : 2 ≤ segment_count_sit c
  pub sit_even : segment_count_sit c % 2 ≡ 0
  pub nat : 2 ≤ segment_count_nat c
  pub nat_even : segment_count_nat c % 2 ≡ 0
  pub ssa : 1 ≤ segment_count_ssa c
  pub main : 1 ≤ segment_count_main c

pub counts : (c : List ℕ) → copy_passes c ≡ true → Counts c
unfolding copy_passes has_known_counts
counts c pass =
    let p = (and_parts _ _ (and_parts _ _ (and_parts _ _ (and_parts _ _ pass).0).0).0).1 in
    let p6 = (and_parts _ _ p).0 in
    let p5 = (and_parts _ _ p6).0 in
    let p4 = (and_parts _ _ p5).0 in
    let p3 = (and_parts _ _ p4).0 in
    let p2 = (and_parts _ _ p3).0 in
    let p1 = (and_parts _ _ p2).0 in
    record {
      ckpt = eqb-true (segment_count_ckpt c) 2 (and_parts _ _ p1).0;
      sit = leb-true 2 (segment_count_sit c) (and_parts _ _ p1).1;
      sit_even = eqb-true (segment_count_sit c % 2) 0 (and_parts _ _ p2).1;
      nat = leb-true 2 (segment_count_nat c) (and_parts _ _ p3).1;
      nat_even = eqb-true (segment_count_nat c % 2) 0 (and_parts _ _ p4).1;
      ssa = leb-true 1 (segment_count_ssa c) (and_parts _ _ p5).1;
      main = leb-true 1 (segment_count_main c) (and_parts _ _ p6).1;
    }

-- the places of the areas
pub record Places (c : List ℕ) : Type 0 where
  pub cp : 2 ≤ cp_blkaddr c
  pub sit : sit_blkaddr c ≡ cp_blkaddr c + 512 * segment_count_ckpt c
  pub nat : nat_blkaddr c ≡ sit_blkaddr c + 512 * segment_count_sit c
  pub ssa : ssa_blkaddr c ≡ nat_blkaddr c + 512 * segment_count_nat c
  pub main : main_blkaddr c ≡ ssa_blkaddr c + 512 * segment_count_ssa c
  pub end : main_blkaddr c + 512 * segment_count_main c ≤ block_count c

pub places : (c : List ℕ) → copy_passes c ≡ true → Places c
unfolding copy_passes has_joined_areas
places c pass =
    let p = (and_parts _ _ (and_parts _ _ (and_parts _ _ pass).0).0).1 in
    let p5 = (and_parts _ _ p).0 in
    let p4 = (and_parts _ _ p5).0 in
    let p3 = (and_parts _ _ p4).0 in
    let p2 = (and_parts _ _ p3).0 in
    let p1 = (and_parts _ _ p2).0 in
    record {
      cp = leb-true 2 (cp_blkaddr c) (and_parts _ _ p1).1;
      sit = eqb-true (sit_blkaddr c) (cp_blkaddr c + 512 * segment_count_ckpt c) (and_parts _ _ p2).1;
      nat = eqb-true (nat_blkaddr c) (sit_blkaddr c + 512 * segment_count_sit c) (and_parts _ _ p3).1;
      ssa = eqb-true (ssa_blkaddr c) (nat_blkaddr c + 512 * segment_count_nat c) (and_parts _ _ p4).1;
      main = eqb-true (main_blkaddr c) (ssa_blkaddr c + 512 * segment_count_ssa c) (and_parts _ _ p5).1;
      end = leb-true (main_blkaddr c + 512 * segment_count_main c) (block_count c) (and_parts _ _ p).1;
    }

-- what the summaries, the segment table and the version bitmaps have room for
pub record Room (c : List ℕ) : Type 0 where
  pub summaries : segment_count_main c ≤ 512 * segment_count_ssa c
  pub entries : segment_count_main c ≤ 28160 * (segment_count_sit c / 2)
  pub bitmaps : 32 * (segment_count_sit c + segment_count_nat c) ≤ 3900

pub room : (c : List ℕ) → copy_passes c ≡ true → Room c
unfolding copy_passes has_enough_room
room c pass =
    let p = (and_parts _ _ (and_parts _ _ pass).0).1 in
    let p2 = (and_parts _ _ p).0 in
    record {
      summaries = leb-true (segment_count_main c) (512 * segment_count_ssa c) (and_parts _ _ (and_parts _ _ p2).0).1;
      entries = leb-true (segment_count_main c) (28160 * (segment_count_sit c / 2)) (and_parts _ _ p2).1;
      bitmaps = leb-true (32 * (segment_count_sit c + segment_count_nat c)) 3900 (and_parts _ _ p).1;
    }

-- a copy that passes has at least the two blocks of the copies
pub two_blocks : (c : List ℕ) → copy_passes c ≡ true → 2 ≤ block_count c
two_blocks c pass = let at = places c pass in omega (arith, at.cp, at.sit, at.nat, at.ssa, at.main, at.end)

-- its layout is in order, unless it has too many blocks
pub layout_in_order : (c : List ℕ) → copy_passes c ≡ true → block_count c ≤ 2 ^ 28 → IsInOrder (layout_of c)
layout_in_order c pass few =
    let at = places c pass in
    let n = counts c pass in
    let r = room c pass in
    let sit = segment_count_sit c in
    let nat = segment_count_nat c in
    let sit_halves : sit ≡ 2 * (sit / 2) = omega (arith, n.sit_even) in
    let nat_halves : nat ≡ 2 * (nat / 2) = omega (arith, n.nat_even) in
    record {
      cp = at.cp;
      sit = omega (arith, at.sit, n.ckpt);
      nat = omega (arith, at.nat, sit_halves);
      ssa = omega (arith, at.ssa, nat_halves);
      sit_whole = omega arith;
      sit_some = omega (arith, sit_halves, n.sit);
      nat_whole = omega arith;
      nat_some = omega (arith, nat_halves, n.nat);
      halves = omega (arith, r.bitmaps, sit_halves, nat_halves);
      main = omega (arith, at.main, n.ssa);
      main_whole = omega (arith, at.main);
      segments_some = n.main;
      summaries = omega (arith, at.main, r.summaries);
      entries = omega (arith, r.entries, sit_halves);
      inside = at.end;
      few = few;
    }
