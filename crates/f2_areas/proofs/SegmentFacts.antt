-- What is known of a segment of a mounted image whose segment table was read.
use Rattle.std.proofs.Common.{◌≡◌, ℕ, ◌+◌, ◌*◌, ◌<◌, List, length, get_or, sym, ap, ◌∙◌, arith}
use Rattle.std.proofs.lemmas.List.{length-map, get_or-map}
use Rattle.f2_bytes.specs.declared.layout.Layout.{Layout}
use Rattle.f2_bytes.specs.Bytes.{Image, numbers_below}
use Rattle.f2_bytes.specs.Journal.{SitEntry}
use Rattle.f2_bytes.specs.SegmentTable.{sit}
use Rattle.f2_bytes.specs.Superblock.{layout}
use Rattle.f2_bytes.proofs.Below.{length-numbers_below, get_or-numbers_below}
use Rattle.f2_survey.specs.OwnerTables.{OwnerTable, IsOwners}
use Rattle.f2_survey.specs.Segments.{IsSegment, HasTable}
use Rattle.f2_sum.specs.Records.{sit_entry}
use Rattle.f2_sum.specs.declared.records.SitEntry.{SitEntry as HeldSitEntry}
use Rattle.f2_view.proofs.TableReadings.{own_layout}
use Rattle.f2_view.specs.Mounted.{Mounted, IsMountOf, layout_in}

module _ (image : Image) (entries : List HeldSitEntry) (table : HasTable image entries) where
  pub table-length : length entries ≡ (layout image).segments
  table-length =
      sym (length-map entries sit_entry)
      ∙ ap (length {A = SitEntry}) table
      ∙ length-map (numbers_below (layout image).segments) (sit image)
      ∙ length-numbers_below (layout image).segments

  pub table-entry : (segno : ℕ) (d : HeldSitEntry) → segno < (layout image).segments → sit_entry (get_or entries segno d) ≡ sit image segno
  table-entry segno d inside =
      sym (get_or-map sit_entry entries segno d (sit_entry d) (let all = table-length in omega (arith, inside, all)))
      ∙ ap (λ l. get_or l segno (sit_entry d)) table
      ∙ get_or-map (sit image) (numbers_below (layout image).segments) segno 0 (sit_entry d) (let all = length-numbers_below (layout image).segments in omega (arith, inside, all))
      ∙ ap (sit image) (get_or-numbers_below (layout image).segments segno 0 inside)

  module _ (m : Mounted) (of : IsMountOf image m) (l : Layout) (is : l ≡ layout_in m) (segno : ℕ) (inside : segno < l.segments) where
    own : l ≡ layout image
    own = is ∙ own_layout image m of

    pub own-inside : segno < (layout image).segments
    own-inside = let same : l.segments ≡ (layout image).segments = ap (λ (k : Layout). k.segments) own in omega (arith, inside, same)

    pub is_segment : (o : OwnerTable) → IsOwners image o → (d : HeldSitEntry) → IsSegment image o segno (l.main + 512 * segno) (sit_entry (get_or entries segno d))
    is_segment o owners d = record {
      owners = owners;
      inside = own-inside;
      first = ap (λ (k : Layout). k.main + 512 * segno) own;
      entry = table-entry segno d own-inside;
    }
