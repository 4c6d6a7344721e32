-- What is known of a main segment of an image while its blocks are compared.
use Rattle.std.specs.Prelude.{◌≡◌, ℕ, ◌+◌, ◌<◌, ◌&&◌, not, List, map}
use Rattle.f2_bytes.specs.Bytes.{Block, Image, numbers_below, count_below}
use Rattle.f2_bytes.specs.Checkpoint.{head}
use Rattle.f2_bytes.specs.Journal.{SitEntry}
use Rattle.f2_bytes.specs.SegmentTable.{sit}
use Rattle.f2_bytes.specs.Summary.{summary, summary_entry}
use Rattle.f2_bytes.specs.Superblock.{layout, segment_start}
use Rattle.f2_sum.specs.Records.{sit_entry}
use Rattle.f2_sum.specs.declared.records.SitEntry.{SitEntry as HeldSitEntry}
use Rattle.f2_survey.specs.OwnerTables.{OwnerTable, IsOwners}
use Rattle.f2_bytes.specs.SegmentTable.{has_valid_block}
use Rattle.f2_bytes.specs.Checkpoint.{is_log_segment}

-- these are the entries of all main segments of the image
abbrev pub HasTable : Image → List HeldSitEntry → Type 0
HasTable image entries = map sit_entry entries ≡ map (sit image) (numbers_below (layout image).segments)

-- these are the summaries of the 512 blocks from this address on
abbrev pub HasSummaries : Image → ℕ → Block → Type 0
HasSummaries image at b = (k : ℕ) → k < 512 → summary_entry b k ≡ summary image (at + k)

-- these owners are the image's, and its segment of this number begins at this address and has this entry
pub record IsSegment (image : Image) (o : OwnerTable) (segno at : ℕ) (e : SitEntry) : Type 0 where
  pub owners : IsOwners image o
  pub inside : segno < (layout image).segments
  pub first : at ≡ segment_start (layout image) segno
  pub entry : e ≡ sit image segno

-- how many main segments have no valid block and are no log's
abbrev pub free_segments : Image → ℕ
free_segments image = count_below (layout image).segments (λ segment. not (has_valid_block image segment) && not (is_log_segment (head image) segment))
