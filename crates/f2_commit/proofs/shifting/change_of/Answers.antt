use Rattle.std.proofs.Common.{◌≡◌, ℕ, ◌+◌, ◌^◌, ◌<◌, All, true, length, refl, sym, ap, subst, ◌∙◌, arith}
use Rattle.std.specs.Prelude.{drop}
use Rattle.std.proofs.lemmas.List.{length-map}
use Rattle.std.proofs.lemmas.List.Elements.{All-drop}
use Rattle.f2_bytes.specs.declared.layout.Layout.{Layout}
use Rattle.f2_bytes.specs.Bytes.{Block, quotient_up}
use Rattle.f2_bytes.specs.Checkpoint.{head, log, user_block_count, valid_block_count, valid_node_count, valid_inode_count, free_segment_count}
use Rattle.f2_sum.specs.declared.records.NatEntry.{NatEntry as HeldNatEntry}
use Rattle.f2_view.specs.Mounted.{Mounted, IsKept, IsMountOf, layout_in}
use Rattle.f2_view.proofs.TableReadings.{own_layout, own_head}
use Rattle.f2_bytes.specs.Superblock.{layout, is_main}
use Rattle.f2_bytes.specs.NodeAddressTable.{nid_limit}
use Rattle.f2_pack.specs.declared.checkpoint.Log.{Log}
use Rattle.f2_commit.specs.Shifting.{HavePlaces, HasBlocks, HasSegments, HasSummaries}
use Rattle.f2_commit.proofs.ShiftSafe.{all_keys}
use Rattle.f2_commit.proofs.ShiftWhole.{few_free}
use Rattle.f2_commit.proofs.shifting.change_of.Goals as goal

pub returns-clause-parts : goal.returns-clause-parts
returns-clause-parts g c = λ image told of h.
    let m = c.args.m.now in
    let targets = c.args.targets.now in
    let moved = c.args.moved.now in
    let nodes = c.args.nodes.now in
    let blocks = c.in_ok-blocks.ensures in
    let segments = c.in_ok-sit.ensures in
    let freed = c.in_ok-sit.freed in
    let told_then = blocks.reads.told ∙ told in
    let told_last = segments.reads.told ∙ told_then in
    let behind = c.behind-node_targets.ensures in
    let its_layout : c.layout-l.result ≡ layout image = c.layout-l.ensures.value ∙ own_layout image m of in
    let same_head : c.moved_segments.new.m.chosen.head ≡ head image = ap (λ (x : Mounted). x.chosen.head) segments.mount ∙ own_head image m of in
    let counts = c.counts_after-counts.ensures in
    let fits = few_free image m freed of c.layout-l.ensures.kept h segments.few in
    let many : length nodes ≡ length c.args.nids.now = sym (length-map nodes (λ (w : ℕ × HeldNatEntry). w.0)) ∙ ap length c.requires.nids in
    record {
      behind = refl;
      entries = subst (λ (l : Layout). HavePlaces l (drop (quotient_up (length moved) 512) targets) nodes c.in_ok-nat.nat.items) its_layout
          (subst (λ ts. HavePlaces c.layout-l.result ts nodes c.in_ok-nat.nat.items) behind c.in_ok-nat.ensures);
      blocks = subst (λ ts. HasBlocks image targets ts moved nodes c.in_ok-blocks.blocks.items) behind (blocks.blocks image told its_layout);
      freed = freed;
      segments = subst (λ ts. HasSegments image targets ts moved nodes freed c.in_ok-sit.sit.items) behind (segments.entries image told_then of);
      sums = subst (λ ts. HasSummaries targets ts moved nodes c.in_ok-sums.sums.items) behind (c.in_ok-sums.ensures.sums nodes c.requires.nids);
      six = c.six_logs-logs.ensures.six;
      logs = λ t low. c.six_logs-logs.ensures.logs t low ∙ ap (λ (b : Block). log b t) same_head;
      user = counts.user ∙ ap user_block_count same_head;
      valid = counts.valid ∙ ap valid_block_count same_head;
      node_count = counts.nodes ∙ ap valid_node_count same_head;
      inode_count = counts.inodes ∙ ap valid_inode_count same_head;
      next_free = counts.next ∙ c.in_ok-next_nid.ensures.least image told_last (subst (IsMountOf image) (sym segments.mount) of);
      free =
          let free = counts.free (subst (λ (x : Mounted). free_segment_count x.chosen.head + freed < 2 ^ 32) (sym segments.mount) fits) in
          let old = ap free_segment_count same_head in
          omega (arith, free, old, many, c.segments_for.ensures, c.segments_for-2.ensures);
    }

pub returns-clause-safe : goal.returns-clause-safe
returns-clause-safe g c =
    let l = layout_in c.args.m.now in
    let behind = c.behind-node_targets.ensures in
    let rest = subst (λ ts. All (λ s. s < l.segments) ts) (sym behind) (All-drop (λ s. s < l.segments) (quotient_up (length c.args.moved.now) 512) c.args.targets.now c.requires.targets) in
    record {
      blocks = subst (λ (x : Layout). All (λ (w : ℕ × Block). is_main x w.0 ≡ true) c.in_ok-blocks.blocks.items) c.layout-l.ensures.value c.in_ok-blocks.ensures.main;
      sums = c.in_ok-sums.ensures.below l.segments c.requires.targets rest;
      nids = all_keys (λ n. n < nid_limit l) c.in_ok-nat.nat.items (subst (All (λ n. n < nid_limit l)) (sym (c.in_ok-nat.ensures.nids ∙ c.requires.nids)) c.requires.below);
      segments = c.in_ok-sit.ensures.fits;
      logs = subst (λ (x : Mounted). IsKept x → All (λ (at : Log). (at.segno < (layout_in x).segments) × (at.offset < 512)) c.six_logs-logs.result) c.in_ok-sit.ensures.mount c.six_logs-logs.ensures.safe c.layout-l.ensures.kept;
    }
