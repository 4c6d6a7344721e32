use Rattle.std.proofs.Common.{◌≡◌, ◌<◌, subst, arith}
use Rattle.std.specs.List.{list_any}
use Rattle.f2_bytes.specs.Bytes.{numbers_below}
use Rattle.f2_bytes.specs.NodeAddressTable.{nid_limit}
use Rattle.f2_bytes.specs.Superblock.{layout}
use Rattle.f2_free.specs.NodePlaces.{is_in_table}
use Rattle.f2_free.specs.SegmentMarks.{MarksBlocks}
use Rattle.f2_free.proofs.FoundPlaces.{table-limit, place-table, named-table}
use Rattle.f2_free.proofs.MarkSteps.{marks-same, marks-below_none, marks-below_more, keeps-none, keeps-then, keeps-more}
use Rattle.f2_free.proofs.marking.mark_entries.Goals as goal

pub loop-nid-init : goal.loop-nid-init
loop-nid-init c = record { keeps = keeps-none c.args.marks.now; marks = λ image has. marks-below_none c.args.marks.now (λ nid a. is_in_table image nid a) }

pub loop-nid-preserved : goal.loop-nid-preserved
loop-nid-preserved c =
    let nid = c.loop-nid.nid in
    let so_far = c.loop-nid.invariant in
    record {
      keeps = keeps-then so_far.keeps (keeps-more _ c.mark_entry.ensures);
      marks = λ image has.
          let low : nid < nid_limit (layout image) =
          let all = table-limit image c.args.entries.now has in let end = c.nid_limit-nid-end.ensures in let each = c.requires in let here = c.loop-nid-test.true in
          omega (arith, all, end, each, here) in
          marks-below_more (λ n a. is_in_table image n a) nid (so_far.marks image has)
          (marks-same _ (is_in_table image nid) (λ a. named-table image nid _ a (place-table image c.args.entries.now nid _ has low)) c.mark_entry.ensures);
    }

pub returns-clause-marks : goal.returns-clause-marks
returns-clause-marks c = λ image has.
    let all : c.loop-nid.nid ≡ nid_limit (layout image) =
    let all = table-limit image c.args.entries.now has in let end = c.nid_limit-nid-end.ensures in let each = c.requires in let past = c.loop-nid-test.false in let within = c.loop-nid.auto.nid-end in
    omega (arith, all, end, each, past, within) in
    subst (λ n. MarksBlocks c.args.marks.now c.loop-nid.marks (λ a. list_any (λ nid. is_in_table image nid a) (numbers_below n))) all (c.loop-nid.invariant.marks image has)
