-- What is found of an image by the survey of its nodes and the first tour over its files.
use Rattle.std.proofs.Common.{◌≡◌, List, map, length, sym, ap, ◌∙◌, arith}
use Rattle.std.proofs.lemmas.List.{ext_get_or, get_or-map, length-map}
use Rattle.f2_bytes.specs.Bytes.{Image, numbers_below}
use Rattle.f2_bytes.specs.declared.layout.Layout.{Layout}
use Rattle.f2_bytes.specs.SegmentTable.{sit}
use Rattle.f2_bytes.specs.Check.{nids}
use Rattle.f2_survey.proofs.NumberLists.{length-numbers, get_or-numbers}
use Rattle.f2_survey.specs.Segments.{HasTable}
use Rattle.f2_survey.specs.Tallies.{IsTally}
use Rattle.f2_files.specs.Usage.{nodes_of, CountsNodes}
use Rattle.f2_survey.specs.declared.node_counts.Tally.{Tally}
use Rattle.f2_sum.specs.Records.{sit_entry}
use Rattle.f2_sum.specs.declared.records.SitEntry.{SitEntry}
use Rattle.f2_view.specs.Mounted.{Mounted, IsMountOf, layout_in}
use Rattle.f2_view.proofs.TableReadings.{own_layout}

-- the tally has how many nodes each file has
pub counts_nodes : (image : Image) (t : Tally) → IsTally image t → CountsNodes image t.of_files.items
unfolding CountsNodes
counts_nodes image t is =
    let long = length-numbers (nids image) in
    let same_length : length t.of_files.items ≡ length (map (nodes_of image) (numbers_below (nids image))) =
    is.each ∙ sym (length-map (numbers_below (nids image)) (nodes_of image) ∙ long) in
    ext_get_or 0 t.of_files.items (map (nodes_of image) (numbers_below (nids image))) same_length (λ i below.
    let each = is.each in
    is.counts.of_files i below
    ∙ sym (get_or-map (nodes_of image) (numbers_below (nids image)) i 0 0 (omega (arith, below, each, long)) ∙ ap (nodes_of image) (get_or-numbers (nids image) i 0 (omega (arith, below, each)))))

-- the segment table, read whole
pub table_read : (image : Image) (m : Mounted) (entries : List SitEntry) → IsMountOf image m
    → map sit_entry entries ≡ map (sit image) (numbers_below (layout_in m).segments) → HasTable image entries
table_read image m entries of read = read ∙ ap (λ (l : Layout). map (sit image) (numbers_below l.segments)) (own_layout image m of)
