use Rattle.std.proofs.Common.{rules, ◌≡◌, ◌<◌, subst, ◌∙◌, arith}
use Rattle.std.specs.List.{list_any}
use Rattle.f2_bytes.specs.Bytes.{numbers_below}
use Rattle.f2_bytes.specs.NodeAddressTable.{nid_limit}
use Rattle.f2_bytes.specs.Superblock.{layout}
use Rattle.f2_free.specs.NodePlaces.{uses}
use Rattle.f2_free.specs.SegmentMarks.{MarksBlocks}
use Rattle.f2_free.proofs.MarkSteps.{marks-below_none, marks-below_more, keeps-none, keeps-then}
use Rattle.f2_free.proofs.marking.mark_nodes.Goals as goal
use Rattle.f2_disk.proofs.Runs.{reads_same, reads_then, goes_then}

pub loop-nid-init : goal.loop-nid-init
loop-nid-init g c = record {
  reads = reads_same (g.D.Disk.state c.args.d.now);
  goes = search rules;
  keeps = keeps-none c.args.marks.now;
  marks = λ image told of has. marks-below_none c.args.marks.now (λ nid a. uses image nid a);
}

pub loop-nid-preserved : goal.loop-nid-preserved
loop-nid-preserved g c =
    let nid = c.loop-nid.nid in
    let so_far = c.loop-nid.invariant in
    record {
      reads = reads_then so_far.goes.later so_far.reads c.in_ok-mark_node.ensures.reads;
      goes = goes_then so_far.goes c.in_ok-mark_node.ensures.goes;
      keeps = keeps-then so_far.keeps c.in_ok-mark_node.ensures.keeps;
      marks = λ image told of has.
          let low : nid < nid_limit (layout image) =
          let all = has.count in let end = c.nid_limit-nid-end.ensures in let each = c.requires.entries in let here = c.loop-nid-test.true in
          omega (arith, all, end, each, here) in
          marks-below_more (λ n a. uses image n a) nid (so_far.marks image told of has)
          (c.in_ok-mark_node.ensures.marks image (so_far.reads.told ∙ told) of (has.found nid _ low));
    }

pub returns-clause-marks : goal.returns-clause-marks
returns-clause-marks g c = λ image told of has.
    let all : c.loop-nid.nid ≡ nid_limit (layout image) =
    let all = has.count in let end = c.nid_limit-nid-end.ensures in let each = c.requires.entries in let past = c.loop-nid-test.false in let within = c.loop-nid.auto.nid-end in
    omega (arith, all, end, each, past, within) in
    subst (λ n. MarksBlocks c.args.marks.now c.loop-nid.marks (λ a. list_any (λ nid. uses image nid a) (numbers_below n))) all (c.loop-nid.invariant.marks image told of has)
