use Rattle.std.proofs.Common.{rules, ◌≡◌, ◌<◌, ◌+◌, ◌-◌, [], ◌∷◌, ◌/◌, All, length, map, refl, sym, ap, subst, ◌∙◌, arith}
use Rattle.std.proofs.lemmas.List.Elements.{All-append, All-cons, All-nil}
use Rattle.f2_bytes.specs.declared.layout.Layout.{Layout}
use Rattle.f2_bytes.specs.Defragment.{placement, part_in, defrag_batches, batches_of}
use Rattle.f2_bytes.specs.NodeAddressTable.{nid_limit}
use Rattle.f2_bytes.specs.Superblock.{layout, segment_of}
use Rattle.std.specs.List.{range_with_len}
use Rattle.f2_disk.proofs.Runs.{reads_same, reads_then, goes_then}
use Rattle.f2_view.proofs.TableReadings.{own_layout}
use Rattle.f2_view.specs.Mounted.{Mounted, IsMountOf, layout_in}
use Rattle.f2_reloc.specs.Emptying.{end_of, part_of, parts_between, valid_among, IsCutting, IsWithin}
use Rattle.f2_reloc.proofs.CutEnds.{cut_starts, cut_next, cut_ends, part_held}
use Rattle.f2_reloc.proofs.batches.cut.Goals as goal

pub loop-segno-init : goal.loop-segno-init
loop-segno-init g c =
    let l = layout_in c.args.m.now in
    let range = c.args.range in
    let same : c.layout-l.result ≡ l = c.layout-l.ensures.value in
    let main : c.from.result ≡ l.main = c.from.ensures ∙ ap (λ (x : Layout). x.main) same in
    let main2 : c.from-2.result ≡ l.main = c.from-2.ensures ∙ ap (λ (x : Layout). x.main) same in
    let none = c.new.ensures.items in
    let some = c.requires.range.some in
    let first = (range.start - c.from.result) / 512 in
    let last = (range.start + (range.blocks - 1) - c.from-2.result) / 512 in
    let is_first : first ≡ segment_of l range.start = omega (arith, main) in
    let is_last : last ≡ segment_of l (end_of range - 1) = omega (arith, main2, some) in
    record {
      mount = refl;
      reads = reads_same (g.D.Disk.state c.args.d.now);
      goes = search rules;
      next = refl;
      order = omega arith;
      held = omega arith;
      within = subst (All (IsWithin l)) (sym none) (All-nil (IsWithin l));
      count = rw none (omega arith);
      cut = λ image told of h.
          subst
          (λ (x : Layout). IsCutting l range (nid_limit (layout image)) (placement image) (map (part_in l range.start (end_of range)) (range_with_len first (last + 1 - first)))
          (batches_of x (nid_limit (layout image)) (placement image) range.start (end_of range)) c.new.result.items (record { first = first; end = first }) 0)
          (own_layout image c.args.m.now of) (cut_starts l range (nid_limit (layout image)) (placement image) first last c.new.result.items is_first is_last none);
    }

pub loop-segno-preserved : goal.loop-segno-preserved
loop-segno-preserved g c =
    let m = c.args.m.now in
    let l = layout_in m in
    let range = c.args.range in
    let segno = c.loop-segno.segno in
    let so_far = c.loop-segno.invariant in
    let read = c.in_ok-valid_in.ensures in
    let step = c.in_ok-cutting.ensures in
    let old = c.loop-segno.cutting in
    let same : c.layout-l.result ≡ l = c.layout-l.ensures.value in
    let main : c.from.result ≡ l.main = c.from.ensures ∙ ap (λ (x : Layout). x.main) same in
    let main2 : c.from-2.result ≡ l.main = c.from-2.ensures ∙ ap (λ (x : Layout). x.main) same in
    let some = c.requires.range.some in
    let above = c.requires.range.above in
    let below = c.requires.range.below in
    let here = c.loop-segno-test.true in
    let next = so_far.next in
    let order = so_far.order in
    let in_main : segno < l.segments = omega (arith, main, main2, some, above, below, here) in
    let own : IsWithin l old.batch = record { order = omega (arith, order, next); below = omega (arith, next, in_main) } in
    record {
      mount = read.mount ∙ so_far.mount;
      reads = reads_then so_far.goes.later so_far.reads read.reads;
      goes = goes_then so_far.goes read.goes;
      next = step.next;
      order = let first = step.first order in omega (arith, first);
      held = step.held;
      within = (step.within l in_main so_far.within own).0;
      count = let one = step.count in let before = so_far.count in omega (arith, one, before);
      cut = λ image told of h.
          let nids = nid_limit (layout image) in
          let all = defrag_batches image range.start (end_of range) in
          let was = so_far.cut image told of h in
          let now = subst (IsMountOf image) (sym so_far.mount) of in
          let says = read.valid image (so_far.reads.told ∙ told) now ∙ ap (λ (x : Mounted). valid_among image (parts_between (layout_in x) range segno (segno + 1))) so_far.mount in
          let right = c.in_ok-valid_in.field-0.ok.0 in
          let long : c.in_ok-valid_in.field-0.len ≡ length c.in_ok-valid_in.field-0.items = omega (arith, right) in
          let held = c.len-more.ensures ∙ long ∙ part_held image h l (own_layout image m of) range c.requires.range segno c.in_ok-valid_in.field-0.items says in
          step.cut l range nids (placement image) _ all order held (cut_next l range nids (placement image) all old.cut.items old.batch old.held segno _ here was);
    }

pub returns-clause-batches : goal.returns-clause-batches
returns-clause-batches g c = λ image told of h.
    let l = layout_in c.args.m.now in
    let range = c.args.range in
    let old = c.loop-segno.cutting in
    let past = c.loop-segno-test.false in
    let within = c.loop-segno.auto.segno-end in
    ap (map (part_of l range)) c.in_ok-push.ensures.items
    ∙ cut_ends l range (nid_limit (layout image)) (placement image) (defrag_batches image range.start (end_of range)) old.cut.items old.batch old.held c.loop-segno.segno _ (omega (arith, past, within)) (c.loop-segno.invariant.cut image told of h)

pub returns-clause-within : goal.returns-clause-within
returns-clause-within g c =
    let l = layout_in c.args.m.now in
    let range = c.args.range in
    let so_far = c.loop-segno.invariant in
    let old = c.loop-segno.cutting in
    let same : c.layout-l.result ≡ l = c.layout-l.ensures.value in
    let main : c.from.result ≡ l.main = c.from.ensures ∙ ap (λ (x : Layout). x.main) same in
    let main2 : c.from-2.result ≡ l.main = c.from-2.ensures ∙ ap (λ (x : Layout). x.main) same in
    let some = c.requires.range.some in
    let above = c.requires.range.above in
    let below = c.requires.range.below in
    let within = c.loop-segno.auto.segno-end in
    let next = so_far.next in
    let order = so_far.order in
    let own : IsWithin l old.batch = record { order = omega (arith, order, next); below = omega (arith, next, main, main2, some, above, below, within) } in
    subst (All (IsWithin l)) (sym c.in_ok-push.ensures.items) (All-append (IsWithin l) old.cut.items (old.batch ∷ []) so_far.within (All-cons (IsWithin l) old.batch [] own (All-nil (IsWithin l))))
