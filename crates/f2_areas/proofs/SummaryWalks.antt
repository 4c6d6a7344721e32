-- The comparisons of rule 6 for a whole segment.
use Rattle.std.proofs.Common.{◌≡◌, ℕ, ◌+◌, ◌<◌, Bool, true, false, not, sym, subst}
use Rattle.std.specs.Prelude.{nat_lt}
use Rattle.std.specs.List.{list_any}
use Rattle.f2_bytes.specs.Bits.{bit_msb}
use Rattle.f2_bytes.specs.Bytes.{Block, Image, block_at, numbers_below}
use Rattle.f2_bytes.specs.Checkpoint.{head}
use Rattle.f2_bytes.specs.Journal.{SitEntry}
use Rattle.f2_bytes.specs.SegmentTable.{sit}
use Rattle.f2_bytes.specs.Summary.{entry_type}
use Rattle.f2_bytes.specs.Superblock.{layout}
use Rattle.f2_bytes.specs.Check.{same, where_true, digit}
use Rattle.f2_defects.specs.Collected.{Collection, Compares}
use Rattle.f2_survey.specs.Parts.{part_in}
use Rattle.f2_areas.specs.Walked.{WalksRow}
use Rattle.f2_bytes.specs.Checkpoint.{is_log_segment}
use Rattle.f2_survey.proofs.Counted.{none_pass}
use Rattle.f2_areas.proofs.SummaryParts.{nids-blocks, places-blocks, types-one, nid-none, place-none, type-none, type-at}
use Rattle.f2_areas.proofs.Walking.{walk-more, walk-row, walk-clear}

module _ (image : Image) (segno : ℕ) (e : SitEntry) (is : e ≡ sit image segno) where
  -- a segment with no mark
  module _ (none : list_any (bit_msb e.map) (numbers_below 512) ≡ false) (c : Collection) where
    pub nids-clear : WalksRow c c (part_in image 6 1) segno
    nids-clear = walk-clear (part_in image 6 1) c segno
        (λ k below.
        let low : k < 512 = subst (λ n. k < n) (sym (nids-blocks image segno)) below in
        nid-none image segno e is k low (none_pass (bit_msb e.map) 512 k none low))

    pub places-clear : WalksRow c c (part_in image 6 2) segno
    places-clear = walk-clear (part_in image 6 2) c segno
        (λ k below.
        let low : k < 512 = subst (λ n. k < n) (sym (places-blocks image segno)) below in
        place-none image segno e is k low (none_pass (bit_msb e.map) 512 k none low))

    pub types-clear : WalksRow c c (part_in image 6 3) segno
    types-clear = walk-clear (part_in image 6 3) c segno (λ k below. type-none image segno e is none k)

  -- one with a mark
  module _ (some : list_any (bit_msb e.map) (numbers_below 512) ≡ true) (b : Block) (stored : Bool) (no_log : stored ≡ not (is_log_segment (head image) segno))
      (there : stored ≡ true → b ≡ block_at image ((layout image).ssa + segno)) where
    pub types-row : (old new : Collection) → new.part ≡ old.part → Compares old new segno 0 (where_true stored (same (entry_type b) (digit (nat_lt 2 e.kind)))) → WalksRow old new (part_in image 6 3) segno
    types-row old new part compares start =
        walk-row (part_in image 6 3) new segno 1 (types-one image segno)
        (walk-more (part_in image 6 3) old new segno 0 (where_true stored (same (entry_type b) (digit (nat_lt 2 e.kind)))) part compares (type-at image segno e is b stored some no_log there) start)
