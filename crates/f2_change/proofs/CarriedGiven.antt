-- What is given of a pack and blocks that are prepared for a change, so that the image that a commit makes carries it.
use Rattle.std.specs.Prelude.{◌≡◌, ℕ, ◌<◌, ◌≤◌, true, All, length, unwrap_or}
use Rattle.f2_bytes.specs.Bytes.{Image, block_at}
use Rattle.f2_bytes.specs.Checkpoint.{checkpoint_ver}
use Rattle.f2_bytes.specs.NodeAddressTable.{image_nat_entry}
use Rattle.f2_bytes.specs.SegmentTable.{sit}
use Rattle.f2_bytes.specs.Summary.{summary_entry}
use Rattle.f2_bytes.specs.Superblock.{is_main}
use Rattle.f2_view.specs.Mounted.{Mounted, layout_in, IsMountOf, IsKept}
use Rattle.f2_change.specs.declared.change.Change.{Change}
use Rattle.f2_change.specs.Carried.{IsFor, Carries, next_address}
use Rattle.f2_change.specs.Change.{given, nat_given, sit_given, log_at, next_version, nat_turned, sit_turned, turned_below, next_summary}
use Rattle.f2_change.specs.TableBlocks.{IsNatBlock, IsSitBlock, AreEach}
use Rattle.f2_change.specs.Writes.{Prepared, IsPrepared, Follows, committed}

pub record Given (image : Image) (m : Mounted) (c : Change) (r : Prepared) : Type 0 where
  pub mount : IsMountOf image m
  pub kept : IsKept m
  pub inside : (layout_in m).blocks ≤ length image
  pub follows : Follows m r
  pub prepared : IsPrepared r
  pub plan : IsFor m c r
  pub main : All (λ w. is_main (layout_in m) w.0 ≡ true) c.blocks.items
  pub sums : All (λ w. w.0 < (layout_in m).segments) c.sums.items
  -- the blocks of the tables have all entries of now
  pub sit_entries : AreEach (IsSitBlock (layout_in m).segments (λ s. unwrap_or (sit_given c.sit.items s) (sit image s)))
      (turned_below (layout_in m).sit_half (sit_turned (layout_in m) c.sit.items m.chosen.sit_journal)) plan.sit_blocks
  pub nat_entries : AreEach (IsNatBlock (λ n. unwrap_or (nat_given c.nat.items n) (image_nat_entry image n)))
      (turned_below (layout_in m).nat_half (nat_turned (layout_in m) c.nat.items m.chosen.nat_journal)) plan.nat_blocks
  pub log_entries : (t k : ℕ) → t < 6 → k < 512 → summary_entry (block_at r.pack.sums t) k ≡ next_summary image c.sums.items (log_at c.logs t).segno k
  pub version : checkpoint_ver r.pack.head ≡ next_version (checkpoint_ver m.chosen.head) (unwrap_or (given c.blocks.items (next_address (layout_in m) (log_at c.logs 4))) (block_at image (next_address (layout_in m) (log_at c.logs 4))))

-- then the image that a commit makes carries the change
abbrev pub CarriesChange : Type 0
CarriesChange = (image : Image) (m : Mounted) (c : Change) (r : Prepared) → Given image m c r → Carries image c r.pack (committed r image)
