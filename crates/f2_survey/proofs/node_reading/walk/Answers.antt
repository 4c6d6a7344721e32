use Rattle.std.proofs.Common.{◌≡◌, ◌<◌, ap, subst, ◌∙◌, length, rules, arith}
use Rattle.f2_bytes.specs.declared.layout.Layout.{Layout}
use Rattle.f2_bytes.specs.NodeAddressTable.{nid_limit}
use Rattle.f2_bytes.specs.Check.{nids}
use Rattle.f2_survey.specs.Known.{offset_said, kind_said}
use Rattle.f2_survey.specs.Seen.{HasSeen}
use Rattle.f2_disk.proofs.Runs.{reads_then, goes_then}
use Rattle.f2_sum.specs.Records.{nat_entry}
use Rattle.f2_view.specs.Mounted.{layout_in}
use Rattle.f2_view.proofs.TableReadings.{own_layout}
use Rattle.f2_survey.proofs.KnownNodes.{listed_entry}
use Rattle.f2_survey.proofs.SeenNodes.{none_yet}
use Rattle.f2_survey.proofs.node_reading.walk.Goals as goal

pub loop-nid-init : goal.loop-nid-init
loop-nid-init g c = record {
  reads = search rules;
  goes = search rules;
  numbered = c.new-3.ensures.numbered;
  reaches = record { offsets = ap length c.new.ensures.items; kinds = ap length c.new-2.ensures.items };
  seen = λ image told of entries. record {
    offsets = none_yet (offset_said image) c.new.result.items c.new.ensures.items;
    kinds = none_yet (kind_said image) c.new-2.result.items c.new-2.ensures.items;
    defects = c.new-3.ensures.none image;
  };
}

pub loop-nid-preserved : goal.loop-nid-preserved
loop-nid-preserved g c =
    let so_far = c.loop-nid.invariant in
    record {
      reads = reads_then so_far.goes.later so_far.reads c.in_ok-said.ensures.reads;
      goes = goes_then so_far.goes c.in_ok-said.ensures.goes;
      numbered = c.in_ok-take.ensures.numbered;
      reaches = c.in_ok-take.ensures.reaches so_far.reaches;
      seen = λ image told of entries.
          let own = own_layout image c.args.m.now of in
          let limit : nid_limit (layout_in c.args.m.now) ≡ nids image = ap nid_limit own in
          let low : c.loop-nid.nid < nids image = omega (arith, limit, c.nid_limit-nid-end.ensures, c.loop-nid-test.true) in
          let entry = c.live-entry.ensures image low (listed_entry image c.loop-nid.nid nat_entry c.args.entries.now _ entries (omega (arith, limit, low, c.requires.entries))) in
          c.in_ok-take.ensures.seen image entry (c.in_ok-said.ensures.said image c.loop-nid.nid (so_far.reads.told ∙ told) of entry)
          (ap (λ (l : Layout). l.main) (c.layout-main.ensures.value ∙ own)) (so_far.seen image told of entries);
    }

pub returns-clause-seen : goal.returns-clause-seen
returns-clause-seen g c = λ image told of entries.
    let own = own_layout image c.args.m.now of in
    let limit : nid_limit (layout_in c.args.m.now) ≡ nids image = ap nid_limit own in
    let all : c.loop-nid.nid ≡ nids image = omega (arith, limit, c.nid_limit-nid-end.ensures, c.loop-nid-test.false) in
    subst (λ n. HasSeen image n c.loop-nid.seen) all (c.loop-nid.invariant.seen image told of entries)
