-- The parts of rule 8: the six logs, and the blocks of their segments.
use Rattle.std.proofs.Common.{◌≡◌, ℕ, Bool, not, true, false, cond, refl, ap}
use Rattle.std.specs.Prelude.{◌==◌, ◌&&◌, nat_lt, unwrap_or}
use Rattle.std.specs.List.{list_any}
use Rattle.f2_bytes.specs.Bits.{bit_msb}
use Rattle.f2_bytes.specs.Bytes.{Image, numbers_below}
use Rattle.f2_bytes.specs.Checkpoint.{Log, log, head}
use Rattle.f2_bytes.specs.Journal.{SitEntry}
use Rattle.f2_bytes.specs.SegmentTable.{sit}
use Rattle.f2_bytes.specs.Summary.{log_of}
use Rattle.f2_bytes.specs.Check.{log_parts, same, where_true, fails_where, digit}
use Rattle.f2_areas.specs.LogSegments.{FillsSegment}
use Rattle.f2_survey.specs.Parts.{part_in}

-- whether a log appends, and a later block is thus one that it is to write
pub later-is : (reuse : Bool) (offset k : ℕ) → (not reuse && nat_lt offset k) ≡ ((cond {A = ℕ} reuse 1 0 == 0) && nat_lt offset k)
later-is true offset k = refl
later-is false offset k = refl

module _ (image : Image) where
  pub shares-number : 1 ≡ (part_in image 8 1).number
  unfolding log_parts
  shares-number = refl

  pub kinds-number : 2 ≡ (part_in image 8 2).number
  unfolding log_parts
  kinds-number = refl

  pub next-number : 3 ≡ (part_in image 8 3).number
  unfolding log_parts
  next-number = refl

  pub later-number : 4 ≡ (part_in image 8 4).number
  unfolding log_parts
  later-number = refl

  pub shares-logs : 6 ≡ (part_in image 8 1).first_limit
  unfolding log_parts
  shares-logs = refl

  pub kinds-logs : 6 ≡ (part_in image 8 2).first_limit
  unfolding log_parts
  kinds-logs = refl

  pub next-logs : 6 ≡ (part_in image 8 3).first_limit
  unfolding log_parts
  next-logs = refl

  pub later-logs : 6 ≡ (part_in image 8 4).first_limit
  unfolding log_parts
  later-logs = refl

  module _ (t : ℕ) where
    pub shares-one : 1 ≡ (part_in image 8 1).second_limit t
    unfolding log_parts
    shares-one = refl

    pub kinds-one : 1 ≡ (part_in image 8 2).second_limit t
    unfolding log_parts
    kinds-one = refl

    pub next-blocks : 512 ≡ (part_in image 8 3).second_limit t
    unfolding log_parts
    next-blocks = refl

    pub later-blocks : 512 ≡ (part_in image 8 4).second_limit t
    unfolding log_parts
    later-blocks = refl

    pub share-at : (first : ℕ) → first ≡ unwrap_or (log_of (head image) (log (head image) t).segment) 0 → same first t ≡ (part_in image 8 1).comparison t 0
    unfolding log_parts
    share-at first is = ap (λ n. same n t) is

    module _ (e : SitEntry) (is : e ≡ sit image (log (head image) t).segment) where
      pub kind-at : where_true (list_any (bit_msb e.map) (numbers_below 512)) (fails_where (not (digit (nat_lt e.kind 3) == digit (nat_lt t 3))) e.kind t)
          ≡ (part_in image 8 2).comparison t 0
      unfolding log_parts
      kind-at = ap (λ (x : SitEntry). where_true (list_any (bit_msb x.map) (numbers_below 512)) (fails_where (not (digit (nat_lt x.kind 3) == digit (nat_lt t 3))) x.kind t)) is

    module _ (at : Log) (e : SitEntry) (fills : FillsSegment image t at e) (k : ℕ) where
      pub next-at : where_true (k == at.offset) (same (digit (bit_msb e.map k)) 0) ≡ (part_in image 8 3).comparison t k
      unfolding log_parts
      next-at = λ i. where_true (k == (fills.own i).offset) (same (digit (bit_msb (fills.entry i).map k)) 0)

      pub later-at : where_true ((at.allocation == 0) && nat_lt at.offset k) (same (digit (bit_msb e.map k)) 0) ≡ (part_in image 8 4).comparison t k
      unfolding log_parts
      later-at = λ i. where_true (((fills.own i).allocation == 0) && nat_lt (fills.own i).offset k) (same (digit (bit_msb (fills.entry i).map k)) 0)
