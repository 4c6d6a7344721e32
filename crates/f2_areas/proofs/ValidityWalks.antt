-- The comparisons of rule 5 for a whole segment.
use Rattle.std.proofs.Common.{◌≡◌, ℕ, ◌+◌, ◌<◌, ap, sym, ◌∙◌, subst}
use Rattle.f2_bytes.specs.Bits.{bit_msb}
use Rattle.f2_bytes.specs.Bytes.{Image, count_below}
use Rattle.f2_bytes.specs.Journal.{SitEntry}
use Rattle.f2_bytes.specs.SegmentTable.{sit}
use Rattle.f2_bytes.specs.Superblock.{layout, segment_start}
use Rattle.f2_bytes.specs.Check.{same}
use Rattle.f2_defects.specs.Collected.{Collection, Compares}
use Rattle.f2_survey.specs.Owners.{owner_of}
use Rattle.f2_survey.specs.Parts.{part_in}
use Rattle.f2_areas.specs.Walked.{WalksRow}
use Rattle.f2_survey.specs.declared.owners.Owner.TheVariants.{Nobody}
use Rattle.f2_survey.proofs.Counted.{none_counted}
use Rattle.f2_areas.proofs.ValidityParts.{marks-blocks, counts-one, kinds-blocks, count-at, mark-none, kind-none}
use Rattle.f2_areas.proofs.Walking.{walk-more, walk-row, walk-clear}

module _ (image : Image) (segno : ℕ) (e : SitEntry) (is : e ≡ sit image segno) (marked : ℕ) (counted : marked ≡ count_below 512 (bit_msb e.map)) where
  pub counts-row : (old new : Collection) → new.part ≡ old.part → Compares old new segno 0 (same e.count marked) → WalksRow old new (part_in image 5 2) segno
  counts-row old new part compares start =
      walk-row (part_in image 5 2) new segno 1 (counts-one image segno)
      (walk-more (part_in image 5 2) old new segno 0 (same e.count marked) part compares (ap (same e.count) counted ∙ count-at image segno e is) start)

  -- a segment with no mark and no owner
  module _ (none : marked ≡ 0) (free : (k : ℕ) → k < 512 → owner_of image (segment_start (layout image) segno + k) ≡ Nobody) where
    pub marks-idle : (c : Collection) → WalksRow c c (part_in image 5 1) segno
    marks-idle c = walk-clear (part_in image 5 1) c segno
        (λ k below.
        let low : k < 512 = subst (λ n. k < n) (sym (marks-blocks image segno)) below in
        mark-none image segno e is k low Nobody (sym (free k low)) (none_counted (bit_msb e.map) 512 k (sym counted ∙ none) low) (λ _. Nobody))

    pub kinds-idle : (c : Collection) → WalksRow c c (part_in image 5 3) segno
    kinds-idle c = walk-clear (part_in image 5 3) c segno
        (λ k below.
        let low : k < 512 = subst (λ n. k < n) (sym (kinds-blocks image segno)) below in
        kind-none image segno e is k low Nobody (sym (free k low)) (none_counted (bit_msb e.map) 512 k (sym counted ∙ none) low) (λ _. Nobody))
