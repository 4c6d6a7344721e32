use Rattle.std.proofs.Common.{◌≡◌, ◌-◌, ◌/◌, ◌+◌, ℕ, All, cond, rules, refl, sym, ap, subst, ◌∙◌, arith}
use Rattle.std.specs.Prelude.{slice_index}
use Rattle.std.proofs.lemmas.List.Elements.{All-append}
use Rattle.f2_bytes.specs.declared.layout.Layout.{Layout}
use Rattle.f2_bytes.proofs.CheckedBlocks.{segment_below}
use Rattle.f2_disk.proofs.Runs.{reads_then, goes_then}
use Rattle.f2_view.specs.Mounted.{Mounted, layout_in, IsMountOf}
use Rattle.f2_commit.specs.Shifting.{is_freed}
use Rattle.f2_commit.proofs.LeftSegments.{Fits, left_none, left_more, left_all}
use Rattle.f2_commit.proofs.moved_segments.push_left.Goals.{then-is_freed, else-is_freed}
use Rattle.f2_commit.proofs.moved_segments.push_left.Goals as goal

no_more : (n : ℕ) → n ≡ n + 0
no_more n = omega arith

pub loop-from-init : goal.loop-from-init
loop-from-init g c = record {
  reads = search rules;
  goes = search rules;
  mount = refl;
  entries = left_none (g.D.Disk.state c.args.d.now).told c.args.m.now c.args.addresses.now c.args.into.now.items;
}

pub loop-from-preserved : goal.loop-from-preserved
loop-from-preserved g c =
    let so_far = c.loop-from.invariant in
    let m = c.args.m.now in
    let addresses = c.args.addresses.now in
    let from = c.loop-from.from in
    let main = c.layout-main.result.main in
    let base : main ≡ (layout_in m).main = ap (λ (l : Layout). l.main) c.layout-main.ensures.value in
    let segno = (slice_index addresses from - main) / 512 in
    let entry = c.in_ok-entry.entry in
    let same : c.left_entry.new.m ≡ m = c.in_ok-entry.ensures.mount ∙ so_far.mount in
    let below = segment_below (layout_in m) (slice_index addresses from) (c.requires.main from 0 c.loop-from-test.true) in
    let free : c.is_freed.result ≡ is_freed m.chosen.head (segno, entry) = c.is_freed.ensures ∙ ap (λ (x : Mounted). is_freed x.chosen.head (segno, entry)) same in
    let counts : c.if-is_freed.freed ≡ c.loop-from.freed + cond (is_freed m.chosen.head (segno, entry)) 1 0
    = elim c.if-is_freed.branch [
      | then-is_freed w ↦ w.freed-is ∙ ap (λ b. c.loop-from.freed + cond {A = ℕ} b 1 0) (sym w.if-is_freed.true ∙ free)
      | else-is_freed w ↦ w.freed-is ∙ no_more c.loop-from.freed ∙ ap (λ b. c.loop-from.freed + cond {A = ℕ} b 1 0) (sym w.if-is_freed.false ∙ free)
    ] in
    record {
      reads = reads_then so_far.goes.later so_far.reads c.in_ok-entry.ensures.reads;
      goes = goes_then so_far.goes c.in_ok-entry.ensures.goes;
      mount = same;
      entries = left_more (g.D.Disk.state c.args.d.now).told m addresses main from c.loop-from.freed segno c.segment_end-end.result c.if-is_freed.freed entry c.args.into.now.items c.loop-from.into.items _ base
          so_far.entries c.segment_end-end.ensures.some c.segment_end-end.ensures.inside c.segment_end-end.ensures.same c.segment_end-end.ensures.later refl (omega (arith, base, below)) c.in_ok-entry.ensures.fits
          (λ image told of. c.in_ok-entry.ensures.entry image (so_far.reads.told ∙ told) (subst (IsMountOf image) (sym so_far.mount) of)) counts c.in_ok-push.ensures.items;
    }

pub returns-clause-entries : goal.returns-clause-entries
returns-clause-entries g c = λ image told of.
    let all = c.loop-from.invariant.entries in
    (all.new, all.appended, left_all (g.D.Disk.state c.args.d.now).told c.args.m.now c.args.addresses.now image c.loop-from.from c.loop-from.freed c.args.into.now.items c.loop-from.into.items all told of c.loop-from-test.false, all.freed)

pub returns-clause-fits : goal.returns-clause-fits
returns-clause-fits g c = λ before.
    let all = c.loop-from.invariant.entries in
    subst (All (Fits (layout_in c.args.m.now).segments)) (sym all.appended) (All-append (Fits (layout_in c.args.m.now).segments) c.args.into.now.items all.new before all.fits)
