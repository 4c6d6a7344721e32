-- The journals that are read from the areas that hold their records.
use Rattle.std.proofs.Common.{◌≡◌, ◌≤◌, ◌+◌, ◌*◌, List, length, map, ap, ◌∙◌, arith}
use Rattle.std.specs.Prelude.{All, flat_map}
use Rattle.std.specs.List.{range_with_len}
use Rattle.f2_bytes.specs.Journal.{NatRecord, nat_record_at, nat_record_bytes, nat_records, nat_area, SitRecord, sit_record_at, sit_record_bytes, sit_records, sit_area, journal_count}
use Rattle.f2_sum.specs.Records.{FitsNatRecord, FitsSitRecord}
use Rattle.f2_sum.proofs.Areas.{area-count, area-read}
use Rattle.f2_sum.proofs.Fields.{nat_record_width, nat_record_at-bytes, sit_record_width, sit_record_at-bytes}

pub nat_area-count : (records : List NatRecord) → length records ≤ 38 → journal_count (nat_area records) ≡ length records
nat_area-count records short = area-count (length records) (flat_map nat_record_bytes records) (omega arith)

pub nat_area-read : (records : List NatRecord) → length records ≤ 38 → All FitsNatRecord records → nat_records (nat_area records) ≡ records
nat_area-read records short fits =
    ap (λ n. map (λ k. nat_record_at (nat_area records) (2 + 13 * k)) (range_with_len 0 n)) (nat_area-count records short)
    ∙ area-read nat_record_bytes 13 FitsNatRecord nat_record_width nat_record_at (λ r front rest i. nat_record_at-bytes r front rest i) records fits

pub sit_area-count : (records : List SitRecord) → length records ≤ 6 → journal_count (sit_area records) ≡ length records
sit_area-count records short = area-count (length records) (flat_map sit_record_bytes records) (omega arith)

pub sit_area-read : (records : List SitRecord) → length records ≤ 6 → All FitsSitRecord records → sit_records (sit_area records) ≡ records
sit_area-read records short fits =
    ap (λ n. map (λ k. sit_record_at (sit_area records) (2 + 78 * k)) (range_with_len 0 n)) (sit_area-count records short)
    ∙ area-read sit_record_bytes 78 FitsSitRecord sit_record_width sit_record_at (λ r front rest i. sit_record_at-bytes r front rest i) records fits
