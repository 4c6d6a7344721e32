-- What is known of the logs of a mounted image whose segment table was read.
use Rattle.std.proofs.Common.{◌≡◌, ℕ, ◌<◌, List, get_or, ap, ◌∙◌, arith}
use Rattle.f2_bytes.specs.declared.layout.Layout.{Layout}
use Rattle.f2_bytes.specs.Bytes.{Image, Block}
use Rattle.f2_bytes.specs.Checkpoint.{Log, log, head}
use Rattle.f2_bytes.specs.SegmentTable.{sit}
use Rattle.f2_bytes.specs.Superblock.{layout}
use Rattle.f2_areas.specs.LogSegments.{FillsSegment}
use Rattle.f2_survey.specs.Segments.{HasTable}
use Rattle.f2_areas.proofs.SegmentFacts.{table-entry}
use Rattle.f2_sum.specs.Records.{sit_entry}
use Rattle.f2_sum.specs.declared.records.SitEntry.{SitEntry as HeldSitEntry}
use Rattle.f2_view.proofs.TableReadings.{own_layout, own_head}
use Rattle.f2_view.specs.Mounted.{Mounted, IsMountOf, IsKept, layout_in}

module _ (m : Mounted) (t : ℕ) (at : Log) (is : at ≡ log m.chosen.head t) where
  -- its segment lies in the main area
  pub log-inside : IsKept m → t < 6 → at.segment < (layout_in m).segments
  log-inside kept few =
      let low = kept.chosen.segments t few in
      let same : at.segment ≡ (log m.chosen.head t).segment = ap (λ (l : Log). l.segment) is in
      omega (arith, low, same)

  module _ (image : Image) (of : IsMountOf image m) where
    -- the log is the image's
    pub own-log : at ≡ log (head image) t
    own-log = is ∙ ap (λ (b : Block). log b t) (own_head image m of)

    -- and the segment's entry is in the table
    pub fills-segment : IsKept m → t < 6 → (entries : List HeldSitEntry) → HasTable image entries → (d : HeldSitEntry) → FillsSegment image t at (sit_entry (get_or entries at.segment d))
    fills-segment kept few entries table d =
        let low = log-inside kept few in
        let own : (layout_in m).segments ≡ (layout image).segments = ap (λ (l : Layout). l.segments) (own_layout image m of) in
        record {
          own = own-log;
          entry = table-entry image entries table at.segment d (omega (arith, low, own)) ∙ ap (λ (l : Log). sit image l.segment) own-log;
        }
