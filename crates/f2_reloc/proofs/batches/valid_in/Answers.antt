use Rattle.std.proofs.Common.{rules, ◌≡◌, ◌++◌, filter, refl, sym, ap, subst, ◌∙◌, arith}
use Rattle.f2_bytes.specs.Bits.{bit_msb}
use Rattle.f2_bytes.specs.Defragment.{part_in}
use Rattle.f2_bytes.specs.Journal.{SitEntry}
use Rattle.f2_bytes.specs.Superblock.{place_of}
use Rattle.f2_disk.specs.Disk.{Rose}
use Rattle.f2_disk.proofs.Runs.{reads_same, reads_then, goes_then}
use Rattle.f2_view.proofs.TableReadings.{own_layout}
use Rattle.f2_view.specs.Mounted.{IsMountOf, layout_in}
use Rattle.f2_reloc.specs.Emptying.{end_of, parts_between, valid_among}
use Rattle.f2_reloc.proofs.Parts.{HasGrown, grown_none, grown_more, grown_main, parts_none, valid_more}
use Rattle.f2_reloc.proofs.batches.valid_in.Goals as goal

pub loop-segno-init : goal.loop-segno-init
loop-segno-init g c =
    let l = layout_in c.args.m.now in
    let none = c.new-addresses.ensures.items in
    record {
      mount = refl;
      reads = reads_same (g.D.Disk.state c.args.d.now);
      goes = search rules;
      grown = subst (HasGrown l c.args.batch.first c.args.batch.first) (sym none) (grown_none l c.args.batch.first);
      valid = λ image told of. none ∙ sym (ap (valid_among image) (parts_none l c.args.range c.args.batch.first));
    }

pub loop-segno-preserved : goal.loop-segno-preserved
loop-segno-preserved g c =
    let m = c.args.m.now in
    let range = c.args.range in
    let segno = c.loop-segno.segno in
    let so_far = c.loop-segno.invariant in
    let entry = c.in_ok-entry.ensures in
    let same = c.layout-l.ensures.value in
    let bits = c.in_ok-entry.entry.map in
    let xs = c.loop-segno.addresses.items in
    let added = c.in_ok-push_valid.ensures.added ∙ (λ i. xs ++ filter (λ a. bit_msb bits (place_of (same i) a)) (part_in (same i) range.start (end_of range) segno)) in
    record {
      mount = entry.mount ∙ so_far.mount;
      reads = reads_then so_far.goes.later so_far.reads entry.reads;
      goes = goes_then so_far.goes entry.goes;
      grown = grown_more (layout_in m) c.args.batch.first segno range.start (end_of range) (λ a. bit_msb bits (place_of (layout_in m) a)) xs _ so_far.grown added;
      valid = λ image told of.
          let says = entry.entry image (so_far.reads.told ∙ told) (subst (IsMountOf image) (sym so_far.mount) of) in
          valid_more image (layout_in m) (own_layout image m of) range c.args.batch.first segno so_far.grown.order bits xs _ (sym (ap (λ (e : SitEntry). e.map) says)) (so_far.valid image told of) added;
    }

pub returns-in_err-entry-clause-reads : goal.returns-in_err-entry-clause-reads
returns-in_err-entry-clause-reads g c = reads_then c.loop-segno.invariant.goes.later c.loop-segno.invariant.reads c.sit_entry.ensures.reads

pub returns-in_err-entry-clause-goes : goal.returns-in_err-entry-clause-goes
returns-in_err-entry-clause-goes g c = goes_then c.loop-segno.invariant.goes c.sit_entry.ensures.goes

pub returns-in_err-push_valid-clause-reads : goal.returns-in_err-push_valid-clause-reads
returns-in_err-push_valid-clause-reads g c = reads_then c.loop-segno.invariant.goes.later c.loop-segno.invariant.reads c.sit_entry.ensures.reads

pub returns-in_err-push_valid-clause-goes : goal.returns-in_err-push_valid-clause-goes
returns-in_err-push_valid-clause-goes g c = goes_then c.loop-segno.invariant.goes c.sit_entry.ensures.goes

pub returns-clause-valid : goal.returns-clause-valid
returns-clause-valid g c = λ image told of.
    let past = c.loop-segno-test.false in
    let within = c.loop-segno.auto.segno-end in
    let order = c.requires.batch.order in
    let all : c.loop-segno.segno ≡ c.args.batch.end = omega (arith, past, within, order) in
    c.loop-segno.invariant.valid image told of ∙ ap (λ n. valid_among image (parts_between (layout_in c.args.m.now) c.args.range c.args.batch.first n)) all

pub returns-clause-main : goal.returns-clause-main
returns-clause-main g c =
    let past = c.loop-segno-test.false in
    let within = c.loop-segno.auto.segno-end in
    let order = c.requires.batch.order in
    let below = c.requires.batch.below in
    grown_main (layout_in c.args.m.now) c.args.batch.first c.loop-segno.segno c.loop-segno.addresses.items c.loop-segno.invariant.grown (omega (arith, past, within, order, below))

pub returns-in_err-entry-clause-fault : goal.returns-in_err-entry-clause-fault
returns-in_err-entry-clause-fault g c = λ e.
    let mid = c.loop-segno.invariant.goes.faults in
    let rose : Rose (g.D.Disk.state c.loop-segno.d).faults (g.D.Disk.state c.sit_entry.new.d).faults = search rules in
    omega (arith, mid, rose)
