-- The parts of rule 5, block by block and segment by segment.
use Rattle.std.proofs.Common.{◌≡◌, ℕ, ◌+◌, ◌<◌, false, None, refl, sym, ap, ◌∙◌}
use Rattle.f2_bytes.specs.Bits.{bit_msb}
use Rattle.f2_bytes.specs.Bytes.{Image, count_below}
use Rattle.f2_bytes.specs.Journal.{SitEntry}
use Rattle.f2_bytes.specs.SegmentTable.{sit}
use Rattle.f2_bytes.specs.Superblock.{layout, segment_start}
use Rattle.f2_bytes.specs.Check.{validity_parts, defect_of, same, where_true, digit, is_marked, kind_at}
use Rattle.f2_survey.specs.OwnedBlocks.{is_somebody, kind_comparison}
use Rattle.f2_survey.specs.Owners.{owner_of}
use Rattle.f2_survey.specs.Parts.{part_in}
use Rattle.f2_survey.specs.declared.owners.Owner.{Owner}
use Rattle.f2_survey.specs.declared.owners.Owner.TheVariants.{Nobody}
use Rattle.f2_survey.proofs.OwnerFacts.{owned, kinds_agree, block-segment, block-marked}

module _ (image : Image) where
  pub marks-number : 1 ≡ (part_in image 5 1).number
  unfolding validity_parts
  marks-number = refl

  pub counts-number : 2 ≡ (part_in image 5 2).number
  unfolding validity_parts
  counts-number = refl

  pub kinds-number : 3 ≡ (part_in image 5 3).number
  unfolding validity_parts
  kinds-number = refl

  pub marks-segments : (layout image).segments ≡ (part_in image 5 1).first_limit
  unfolding validity_parts
  marks-segments = refl

  pub counts-segments : (layout image).segments ≡ (part_in image 5 2).first_limit
  unfolding validity_parts
  counts-segments = refl

  pub kinds-segments : (layout image).segments ≡ (part_in image 5 3).first_limit
  unfolding validity_parts
  kinds-segments = refl

  module _ (segno : ℕ) where
    pub marks-blocks : 512 ≡ (part_in image 5 1).second_limit segno
    unfolding validity_parts
    marks-blocks = refl

    pub counts-one : 1 ≡ (part_in image 5 2).second_limit segno
    unfolding validity_parts
    counts-one = refl

    pub kinds-blocks : 512 ≡ (part_in image 5 3).second_limit segno
    unfolding validity_parts
    kinds-blocks = refl

    module _ (entry : SitEntry) (is : entry ≡ sit image segno) where
      pub count-at : same entry.count (count_below 512 (bit_msb entry.map)) ≡ (part_in image 5 2).comparison segno 0
      unfolding validity_parts
      count-at = ap (λ (e : SitEntry). same e.count (count_below 512 (bit_msb e.map))) is

      module _ (k : ℕ) (low : k < 512) where
        kind : entry.kind ≡ kind_at image (segment_start (layout image) segno + k)
        kind = ap (λ (e : SitEntry). e.kind) is ∙ ap (λ n. (sit image n).kind) (sym (block-segment image segno k low))

        module _ (owner : Owner) (of : owner ≡ owner_of image (segment_start (layout image) segno + k)) where
          pub mark-at : same (digit (bit_msb entry.map k)) (digit (is_somebody owner)) ≡ (part_in image 5 1).comparison segno k
          unfolding validity_parts
          mark-at = λ i. same (digit (block-marked image segno k low entry is i)) (digit ((ap is_somebody of ∙ owned image (segment_start (layout image) segno + k)) i))

          pub kind-at : where_true (bit_msb entry.map k) (kind_comparison entry.kind owner) ≡ (part_in image 5 3).comparison segno k
          unfolding validity_parts
          kind-at =
              (λ i. where_true (block-marked image segno k low entry is i) (kind_comparison (kind i) (of i)))
              ∙ ap (where_true (is_marked image (segment_start (layout image) segno + k))) (kinds_agree image (segment_start (layout image) segno + k))

          -- an unmarked block that nobody has
          module _ (unmarked : bit_msb entry.map k ≡ false) (free : owner ≡ Nobody) where
            pub mark-none : defect_of (part_in image 5 1).number segno k ((part_in image 5 1).comparison segno k) ≡ None
            mark-none =
                ap (defect_of (part_in image 5 1).number segno k) (sym mark-at ∙ (λ i. same (digit (unmarked i)) (digit (is_somebody (free i)))))

            pub kind-none : defect_of (part_in image 5 3).number segno k ((part_in image 5 3).comparison segno k) ≡ None
            kind-none =
                ap (defect_of (part_in image 5 3).number segno k) (sym kind-at ∙ (λ i. where_true (unmarked i) (kind_comparison entry.kind (free i))))
