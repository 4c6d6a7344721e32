-- Laws over packs, as statements that contracts cite.
use Rattle.std.specs.Prelude.{◌≡◌, ℕ, ◌-◌, ◌^◌, ◌<◌, true, length, Some, Ok}
use Rattle.f2_bytes.specs.Bytes.{Image}
use Rattle.f2_bytes.specs.Checkpoint.{Pack, pack_at, pack_head, chosen_pack, is_pack_valid, checkpoint_ver, pack_total_block_count}
use Rattle.f2_bytes.specs.Journal.{are_journals_bounded}
use Rattle.f2_bytes.specs.Summary.{pack_summary}
use Rattle.f2_bytes.specs.declared.layout.Layout.{Layout}
use Rattle.f2_pack.specs.declared.writing.NewPack.{NewPack}
use Rattle.f2_pack.specs.Choice.{choice}
use Rattle.f2_pack.specs.Held.{chosen_of, held_summary}
use Rattle.f2_pack.specs.Written.{written, IsNormal}

-- the summaries that are kept of a valid pack are those of the pack
abbrev pub KeepsSummaries : Type 0
KeepsSummaries = (l : Layout) (pack : Pack) (number : ℕ) → is_pack_valid l pack ≡ true → (t k : ℕ) → t < 6 → k < 512 → held_summary (chosen_of pack number) t k ≡ pack_summary pack t k

-- what is kept of a valid pack stands in the blocks that its head counts
abbrev pub ReadsItsBlocks : Type 0
ReadsItsBlocks =
    (l : Layout) (pack other : Pack) (number : ℕ) → is_pack_valid l pack ≡ true → ((j : ℕ) → j < pack_total_block_count (pack_head pack) → other j ≡ pack j) → chosen_of other number ≡ chosen_of pack number

-- a valid pack counts where the other isn't valid or has a lower version
abbrev pub HigherCounts : Type 0
HigherCounts =
    (l : Layout) (image : Image) (number : ℕ) → number < 2 → is_pack_valid l (pack_at l image number) ≡ true
    → (is_pack_valid l (pack_at l image (1 - number)) ≡ true → checkpoint_ver (pack_head (pack_at l image (1 - number))) < checkpoint_ver (pack_head (pack_at l image number)))
    → chosen_pack l image ≡ Some number

-- where the pack that counts has the 8 blocks of a written one, it is read as the written one
abbrev pub WrittenIsRead : Type 0
WrittenIsRead =
    (l : Layout) (image : Image) (p : NewPack) → length p.head ≡ 4096 → length p.sums ≡ 6 → IsNormal p.head → chosen_pack l image ≡ Some p.pack → ((j : ℕ) → j < 8 → pack_at l image p.pack j ≡ written p j)
    → chosen_of (pack_at l image p.pack) p.pack ≡ chosen_of (written p) p.pack

-- and that is what choosing answers, below the limit of versions and with bounded journals
abbrev pub WrittenIsChosen : Type 0
WrittenIsChosen =
    (l : Layout) (image : Image) (p : NewPack) → length p.head ≡ 4096 → length p.sums ≡ 6 → IsNormal p.head → chosen_pack l image ≡ Some p.pack → ((j : ℕ) → j < 8 → pack_at l image p.pack j ≡ written p j)
    → are_journals_bounded (written p) ≡ true → checkpoint_ver p.head < 2 ^ 62 → choice l image ≡ Ok (chosen_of (written p) p.pack)
