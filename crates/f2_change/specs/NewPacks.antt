-- The pack that is made for a change.
use Rattle.std.specs.Prelude.{◌≡◌, ℕ, ◌+◌, ◌-◌, ◌<◌, ◌≤◌, List, length, drop, unwrap_or}
use Rattle.f2_bytes.specs.Bytes.{Image, block_at}
use Rattle.f2_bytes.specs.Checkpoint.{checkpoint_ver}
use Rattle.f2_bytes.specs.Summary.{summary_entry}
use Rattle.f2_pack.specs.declared.writing.NewPack.{NewPack}
use Rattle.f2_view.specs.Mounted.{Mounted, layout_in}
use Rattle.f2_change.specs.declared.change.Change.{Change}
use Rattle.f2_change.specs.Carried.{next_address}
use Rattle.f2_change.specs.Change.{given, log_at, next_rows, IsNextHead, next_version, nat_turned, sit_turned, next_summary, summary_end, kind_of}

-- the head that follows that of a mount
abbrev pub FollowsHead : Mounted → Change → List ℕ → Type 0
FollowsHead m c head = IsNextHead m.chosen.head (next_rows (checkpoint_ver head) c.logs c.counts)
    (sit_turned (layout_in m) c.sit.items m.chosen.sit_journal) (nat_turned (layout_in m) c.nat.items m.chosen.nat_journal) head

-- what is known of the pack whatever the disk
pub record IsNewPack (m : Mounted) (c : Change) (p : NewPack) : Type 0 where
  pub number : p.pack ≡ 1 - m.chosen.number
  pub head : FollowsHead m c p.head
  pub version : checkpoint_ver m.chosen.head < checkpoint_ver p.head
  pub near : checkpoint_ver p.head ≤ checkpoint_ver m.chosen.head + 2
  pub six : length p.sums ≡ 6
  pub ends : (t : ℕ) → t < 6 → drop 3584 (block_at p.sums t) ≡ summary_end (kind_of t)

-- the version of a new head, where the image has this block behind the log of warm nodes, or the change gives it one
abbrev pub version_after : Image → Mounted → Change → ℕ
version_after image m c =
    let next = next_address (layout_in m) (log_at c.logs 4) in
    next_version (checkpoint_ver m.chosen.head) (unwrap_or (given c.blocks.items next) (block_at image next))

-- and what it says of the image of the mount
pub record IsPackOf (image : Image) (m : Mounted) (c : Change) (p : NewPack) : Type 0 where
  pub version : checkpoint_ver p.head ≡ version_after image m c
  pub entries : (t k : ℕ) → t < 6 → k < 512 → summary_entry (block_at p.sums t) k ≡ next_summary image c.sums.items (log_at c.logs t).segno k
