-- The parts of rule 6, block by block and segment by segment.
use Rattle.std.proofs.Common.{◌≡◌, ℕ, ◌+◌, ◌<◌, ◌&&◌, Bool, true, false, not, None, refl, sym, ap, ◌∙◌}
use Rattle.std.specs.Prelude.{nat_lt}
use Rattle.std.specs.List.{list_any}
use Rattle.f2_bytes.specs.Bits.{bit_msb}
use Rattle.f2_bytes.specs.Bytes.{Image, Block, block_at, numbers_below}
use Rattle.f2_bytes.specs.Checkpoint.{head}
use Rattle.f2_bytes.specs.Journal.{SitEntry}
use Rattle.f2_bytes.specs.SegmentTable.{sit}
use Rattle.f2_bytes.specs.Summary.{Summary, summary, entry_type}
use Rattle.f2_bytes.specs.Superblock.{layout, segment_start}
use Rattle.f2_bytes.specs.Check.{summary_parts, defect_of, same, where_true, of_value, digit, is_marked, slot_with, spot_of, nid_wanted}
use Rattle.f2_survey.specs.OwnedBlocks.{nid_of_owner, place_comparison}
use Rattle.f2_survey.specs.Owners.{owner_of}
use Rattle.f2_survey.specs.Parts.{part_in}
use Rattle.f2_bytes.specs.Checkpoint.{is_log_segment}
use Rattle.f2_bytes.specs.SegmentTable.{has_valid_block}
use Rattle.f2_survey.specs.declared.owners.Owner.{Owner}
use Rattle.f2_survey.proofs.OwnerFacts.{nid_of, place_in, block-marked}

module _ (image : Image) where
  pub nids-number : 1 ≡ (part_in image 6 1).number
  unfolding summary_parts
  nids-number = refl

  pub places-number : 2 ≡ (part_in image 6 2).number
  unfolding summary_parts
  places-number = refl

  pub types-number : 3 ≡ (part_in image 6 3).number
  unfolding summary_parts
  types-number = refl

  pub nids-segments : (layout image).segments ≡ (part_in image 6 1).first_limit
  unfolding summary_parts
  nids-segments = refl

  pub places-segments : (layout image).segments ≡ (part_in image 6 2).first_limit
  unfolding summary_parts
  places-segments = refl

  pub types-segments : (layout image).segments ≡ (part_in image 6 3).first_limit
  unfolding summary_parts
  types-segments = refl

  module _ (segno : ℕ) where
    pub nids-blocks : 512 ≡ (part_in image 6 1).second_limit segno
    unfolding summary_parts
    nids-blocks = refl

    pub places-blocks : 512 ≡ (part_in image 6 2).second_limit segno
    unfolding summary_parts
    places-blocks = refl

    pub types-one : 1 ≡ (part_in image 6 3).second_limit segno
    unfolding summary_parts
    types-one = refl

    abbrev at : ℕ → ℕ
    at k = segment_start (layout image) segno + k

    module _ (entry : SitEntry) (is : entry ≡ sit image segno) where
      module _ (k : ℕ) (low : k < 512) where
        marked : bit_msb entry.map k ≡ is_marked image (at k)
        marked = block-marked image segno k low entry is

        module _ (s : Summary) (says : s ≡ summary image (at k)) (owner : Owner) (of : owner ≡ owner_of image (at k)) where
          pub nid-at : where_true (bit_msb entry.map k) (same s.nid (nid_of_owner owner)) ≡ (part_in image 6 1).comparison segno k
          unfolding summary_parts
          nid-at = λ i. where_true (marked i) (same (says i).nid ((ap nid_of_owner of ∙ nid_of image (at k)) i))

          pub place-at : where_true (bit_msb entry.map k) (place_comparison s.place owner) ≡ (part_in image 6 2).comparison segno k
          unfolding summary_parts
          place-at =
              (λ i. where_true (marked i) (place_comparison (says i).place (of i)))
              ∙ ap (where_true (is_marked image (at k))) (place_in image (at k) (summary image (at k)).place)

        pub nid-none : bit_msb entry.map k ≡ false → defect_of (part_in image 6 1).number segno k ((part_in image 6 1).comparison segno k) ≡ None
        unfolding summary_parts
        nid-none unmarked =
            ap (λ b. defect_of 1 segno k (where_true b (same (summary image (at k)).nid (nid_wanted image (at k))))) (sym marked ∙ unmarked)

        pub place-none : bit_msb entry.map k ≡ false → defect_of (part_in image 6 2).number segno k ((part_in image 6 2).comparison segno k) ≡ None
        unfolding summary_parts
        place-none unmarked =
            ap (λ b. defect_of 2 segno k (where_true b (of_value (slot_with image (at k)) (λ place. same (summary image (at k)).place (spot_of image place).1)))) (sym marked ∙ unmarked)

      -- whether some block is marked
      valid : list_any (bit_msb entry.map) (numbers_below 512) ≡ has_valid_block image segno
      valid = ap (λ (e : SitEntry). list_any (bit_msb e.map) (numbers_below 512)) is

      module _ (b : Block) (stored : Bool) (some : list_any (bit_msb entry.map) (numbers_below 512) ≡ true)
          (no_log : stored ≡ not (is_log_segment (head image) segno))
          (there : stored ≡ true → b ≡ block_at image ((layout image).ssa + segno)) where
        pub type-at : where_true stored (same (entry_type b) (digit (nat_lt 2 entry.kind))) ≡ (part_in image 6 3).comparison segno 0
        unfolding summary_parts
        type-at = go stored refl ∙ λ i. where_true (((sym some ∙ valid) i) && no_log i) (same (entry_type (block_at image ((layout image).ssa + segno))) (digit (nat_lt 2 (is i).kind)))
          where
            go : (t : Bool) → stored ≡ t → where_true stored (same (entry_type b) (digit (nat_lt 2 entry.kind))) ≡ where_true stored (same (entry_type (block_at image ((layout image).ssa + segno))) (digit (nat_lt 2 entry.kind)))
            go true e = ap (λ x. where_true stored (same (entry_type x) (digit (nat_lt 2 entry.kind)))) (there e)
            go false e = (λ i. where_true (e i) (same (entry_type b) (digit (nat_lt 2 entry.kind)))) ∙ sym (λ i. where_true (e i) (same (entry_type (block_at image ((layout image).ssa + segno))) (digit (nat_lt 2 entry.kind))))

      pub type-none : list_any (bit_msb entry.map) (numbers_below 512) ≡ false → (k : ℕ) → defect_of (part_in image 6 3).number segno k ((part_in image 6 3).comparison segno k) ≡ None
      unfolding summary_parts
      type-none none k =
          ap (λ b. defect_of 3 segno k (where_true (b && not (is_log_segment (head image) segno)) (same (entry_type (block_at image ((layout image).ssa + segno))) (digit (nat_lt 2 (sit image segno).kind))))) (sym valid ∙ none)
