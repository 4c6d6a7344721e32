use Rattle.std.proofs.Common.{◌≡◌, ℕ, true, map, take, get_or, All, refl, sym, ap, subst, ◌∙◌}
use Rattle.std.proofs.lemmas.List.{take_more}
use Rattle.std.proofs.lemmas.List.Elements.{All-push}
use Rattle.f2_bytes.specs.declared.layout.Layout.{Layout}
use Rattle.f2_bytes.specs.NodeAddressTable.{image_nat_entry}
use Rattle.f2_bytes.specs.Superblock.{is_main}
use Rattle.f2_disk.proofs.Runs.{reads_then, goes_then}
use Rattle.f2_sum.specs.Records.{nat_entry}
use Rattle.f2_sum.specs.declared.records.NatEntry.{NatEntry}
use Rattle.f2_view.specs.Mounted.{layout_in, IsMountOf}
use Rattle.f2_gather.proofs.GatheredSteps.{maps}
use Rattle.f2_commit.proofs.PlacedBlocks.{firsts_more, not_main}
use Rattle.f2_commit.proofs.moved_blocks.node_entries.Goals as goal

pub returns-then-not-is_in_main-clause-all : goal.returns-then-not-is_in_main-clause-all
returns-then-not-is_in_main-clause-all g c = λ image told of all none.
    let so_far = c.loop-nid.invariant in
    let nids = c.args.nids.now in
    let i = c.loop-nid.nid-index in
    not_main image c.args.m.now c.layout-l.result c.in_ok-entry.entry (image_nat_entry image (get_or nids i 0)) of c.layout-l.ensures.value
    (c.in_ok-entry.ensures.entry image (so_far.reads.told ∙ told) (subst (IsMountOf image) (sym so_far.mount) of)) c.if-not-is_in_main.ensures (all i 0 c.loop-nid-test.true)

pub returns-then-not-is_in_main-clause-reads : goal.returns-then-not-is_in_main-clause-reads
returns-then-not-is_in_main-clause-reads g c = let so_far = c.loop-nid.invariant in reads_then so_far.goes.later so_far.reads c.in_ok-entry.ensures.reads

pub returns-then-not-is_in_main-clause-goes : goal.returns-then-not-is_in_main-clause-goes
returns-then-not-is_in_main-clause-goes g c = goes_then c.loop-nid.invariant.goes c.in_ok-entry.ensures.goes

pub returns-in_err-push-clause-reads : goal.returns-in_err-push-clause-reads
returns-in_err-push-clause-reads g c = let so_far = c.loop-nid.invariant in reads_then so_far.goes.later so_far.reads c.in_ok-entry.ensures.reads

pub returns-in_err-push-clause-goes : goal.returns-in_err-push-clause-goes
returns-in_err-push-clause-goes g c = goes_then c.loop-nid.invariant.goes c.in_ok-entry.ensures.goes

pub loop-nid-preserved : goal.loop-nid-preserved
loop-nid-preserved g c =
    let so_far = c.loop-nid.invariant in
    let done = c.in_ok-entry.ensures in
    let nids = c.args.nids.now in
    let i = c.loop-nid.nid-index in
    let old = c.loop-nid.entries.items in
    record {
      mount = done.mount ∙ so_far.mount;
      reads = reads_then so_far.goes.later so_far.reads done.reads;
      goes = goes_then so_far.goes done.goes;
      entries = λ image told of.
          ap (map (λ (w : ℕ × NatEntry). nat_entry w.1)) c.in_ok-push.ensures.items
          ∙ firsts_more (λ (w : ℕ × NatEntry). nat_entry w.1) old (get_or nids i 0, c.in_ok-entry.entry) (map (image_nat_entry image) (take i nids)) (image_nat_entry image (get_or nids i 0))
          (so_far.entries image told of) (done.entry image (so_far.reads.told ∙ told) (subst (IsMountOf image) (sym so_far.mount) of))
          ∙ maps (image_nat_entry image) nids i 0 c.loop-nid-test.true (map (image_nat_entry image) (take i nids)) refl;
      nids =
          ap (map (λ (w : ℕ × NatEntry). w.0)) c.in_ok-push.ensures.items
          ∙ firsts_more (λ (w : ℕ × NatEntry). w.0) old (get_or nids i 0, c.in_ok-entry.entry) (take i nids) (get_or nids i 0) so_far.nids refl
          ∙ sym (take_more nids i 0 c.loop-nid-test.true);
      main =
          subst (All (λ (w : ℕ × NatEntry). is_main (layout_in c.args.m.now) w.1.addr ≡ true)) (sym c.in_ok-push.ensures.items)
          (All-push (λ (w : ℕ × NatEntry). is_main (layout_in c.args.m.now) w.1.addr ≡ true) old (get_or nids i 0, c.in_ok-entry.entry) so_far.main
          (subst (λ (l : Layout). is_main l c.in_ok-entry.entry.addr ≡ true) c.layout-l.ensures.value (sym c.if-not-is_in_main.ensures)));
    }
