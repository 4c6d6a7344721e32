use Rattle.std.proofs.Common.{rules, ◌≡◌, ◌≤◌, ◌<◌, ◌+◌, ℕ, List, All, length, get_or, map, refl, sym, ap, subst, ◌∙◌, arith}
use Rattle.std.specs.Prelude.{drop}
use Rattle.std.proofs.lemmas.List.{length-drop}
use Rattle.std.proofs.lemmas.List.Elements.{All-drop}
use Rattle.f2_bytes.specs.declared.layout.Layout.{Layout}
use Rattle.f2_bytes.specs.Bytes.{Image}
use Rattle.f2_commit.specs.Moves.{HasSameFiles}
use Rattle.f2_disk.proofs.Runs.{started, at_rest, goes_then, was_told}
use Rattle.f2_view.specs.Mounted.{layout_in, IsMountOf}
use Rattle.f2_view.proofs.TableReadings.{own_layout}
use Rattle.f2_reloc.specs.Emptying.{part_of, end_of, moved_with, IsReady, HasStepped, IsOnWay}
use Rattle.f2_reloc.specs.declared.batches.Batch.{Batch}
use Rattle.f2_commit.specs.declared.relocating.Moved.{Moved}
use Rattle.f2_reloc.proofs.Rests.{own_files, files_then, told_once, then_same, whole_blocks}
use Rattle.f2_reloc.proofs.Steps.{stepped_kept, moved_once}
use Rattle.f2_reloc.proofs.WaySteps.{ways_start, ways_ready, ways_on, ways_end}
use Rattle.f2_reloc.proofs.emptying.move_all.Goals as goal

pub loop-batch-init : goal.loop-batch-init
loop-batch-init g c =
    let d = c.args.d.now in
    record {
      layout = refl;
      version = omega arith;
      taken = omega arith;
      blocks = omega arith;
      batches = omega arith;
      goes = search rules;
      calm = λ calm. calm;
      way = λ image told.
          let of = c.requires.of_image image told in
          let h = c.requires.checked image told in (
            image,
            told,
            of,
            own_files image h,
            λ target down chosen enough.
                ways_start image (layout_in c.args.m) (own_layout image c.args.m of) c.args.range c.requires.range c.args.batches.now c.args.targets.now target down h (whole_blocks (g.met.D.Disk.whole d image told)) (c.requires.cut image told) chosen enough,
          );
      any_moment = λ calm image told.
          started (g.D.Disk.state d) (HasSameFiles image)
          (at_rest (g.D.Disk.state d) image (HasSameFiles image) (g.met.D.Disk.only_now d) (λ x left. g.met.D.Disk.settled d x calm left) told (own_files image (c.requires.checked image told)));
    }

pub returns-clause-moved : goal.returns-clause-moved
returns-clause-moved g c = λ image told.
    let way = c.loop-batch.invariant.way image told in
    let past = c.loop-batch-test.false in
    let of = c.requires.of_image image told in (
      way.0,
      way.1,
      way.2,
      λ target down chosen enough.
          ways_end image (layout_in c.args.m) (own_layout image c.args.m of) c.args.range c.requires.range c.args.batches.now c.args.targets.now target down c.loop-batch.taken c.loop-batch.batch-index c.loop-batch.moved way.0 (omega (arith, past)) chosen enough (way.4 target down chosen enough),
    )

pub move_batch-requires-clause-below : goal.move_batch-requires-clause-below
move_batch-requires-clause-below g c =
    let same = c.loop-batch.invariant.layout in
    let taken = c.loop-batch.taken in
    let targets = c.args.targets.now in
    subst (All (λ s. s < (layout_in c.loop-batch.m).segments)) (sym c.left.ensures)
    (subst (λ (l : Layout). All (λ s. s < l.segments) (drop taken targets)) (sym same)
    (All-drop (λ s. s < (layout_in c.args.m).segments) taken targets c.requires.below))

pub move_batch-requires-clause-of_image : goal.move_batch-requires-clause-of_image
move_batch-requires-clause-of_image g c = λ now told.
    let was = was_told c.loop-batch.invariant.goes now told in
    let way = c.loop-batch.invariant.way was.0 was.1 in
    subst (λ (x : Image). IsMountOf x c.loop-batch.m) (told_once way.1 told) way.2

pub move_batch-requires-clause-ready : goal.move_batch-requires-clause-ready
move_batch-requires-clause-ready g c = λ now told.
    let so_far = c.loop-batch.invariant in
    let was = was_told so_far.goes now told in
    let way = so_far.way was.0 was.1 in
    let chosen = c.requires.targets was.0 was.1 in
    let range = c.args.range in
    let batches = c.args.batches.now in
    let targets = c.args.targets.now in
    let taken = c.loop-batch.taken in
    let i = c.loop-batch.batch-index in
    let batch : Batch = get_or batches i (record { first = 0; end = 0 }) in
    subst (IsReady now (part_of (layout_in c.loop-batch.m) range batch)) (sym c.left.ensures)
    (subst (λ (l : Layout). IsReady now (part_of l range batch) (drop taken targets)) (sym so_far.layout)
    (subst (λ (x : Image). IsReady x (part_of (layout_in c.args.m) range batch) (drop taken targets)) (told_once way.1 told)
    (ways_ready was.0 (layout_in c.args.m) (own_layout was.0 c.args.m (c.requires.of_image was.0 was.1)) range c.requires.range batches targets chosen.target chosen.down taken i (record { first = 0; end = 0 }) c.loop-batch.moved way.0 c.loop-batch-test.true
    (way.4 chosen.target chosen.down chosen.chosen chosen.enough))))

pub returns-in_err-n-clause-either : goal.returns-in_err-n-clause-either
returns-in_err-n-clause-either g c = λ image told.
    let way = c.loop-batch.invariant.way image told in
    let now = c.move_batch.ensures.either way.0 way.1 in
    (now.0, now.1, files_then image way.0 now.0 way.3 now.2)

pub returns-in_err-n-clause-any_moment : goal.returns-in_err-n-clause-any_moment
returns-in_err-n-clause-any_moment g c = λ calm image told.
    let so_far = c.loop-batch.invariant in
    let way = so_far.way image told in
    then_same image way.0 so_far.goes.later way.3 (so_far.any_moment calm image told) (c.move_batch.ensures.any_moment (so_far.calm calm) way.0 way.1)

pub returns-in_err-n-clause-goes : goal.returns-in_err-n-clause-goes
returns-in_err-n-clause-goes g c = goes_then c.loop-batch.invariant.goes c.move_batch.ensures.goes

pub loop-batch-preserved : goal.loop-batch-preserved
loop-batch-preserved g c =
    let so_far = c.loop-batch.invariant in
    let step = c.in_ok-n.step in
    let n = c.in_ok-n.ensures in
    let range = c.args.range in
    let batches = c.args.batches.now in
    let targets = c.args.targets.now in
    let taken = c.loop-batch.taken in
    let i = c.loop-batch.batch-index in
    let batch : Batch = get_or batches i (record { first = 0; end = 0 }) in
    let more : moved_with c.loop-batch.moved step ≡ c.more_moved-moved.result = sym c.more_moved-moved.ensures in
    record {
      layout = n.layout ∙ so_far.layout;
      version = let before = so_far.version in let now = n.version in omega (arith, before, now);
      taken =
          let long = length-drop taken targets in
          let fits = so_far.taken in
          let few = subst (λ (ts : List ℕ). step.targets ≤ length ts) c.left.ensures n.taken in
          omega (arith, long, fits, few);
      blocks =
          let before = so_far.blocks in
          let few = n.few in
          let is = ap (λ (x : Moved). x.blocks) c.more_moved-moved.ensures in
          omega (arith, before, few, is);
      batches =
          let before = so_far.batches in
          let few = moved_once c.loop-batch.moved step in
          let is = ap (λ (x : Moved). x.batches) c.more_moved-moved.ensures in
          omega (arith, before, few, is);
      goes = goes_then so_far.goes c.move_batch.ensures.goes;
      calm = λ calm. n.durable (so_far.calm calm);
      way = λ image told.
          let way = so_far.way image told in
          let new = n.moved way.0 way.1 in
          let stepped : HasStepped way.0 (part_of (layout_in c.args.m) range batch) (drop taken targets) step new.0
          = subst (λ (l : Layout). HasStepped way.0 (part_of l range batch) (drop taken targets) step new.0) so_far.layout
          (subst (λ (ts : List ℕ). HasStepped way.0 (part_of (layout_in c.loop-batch.m) range batch) ts step new.0) c.left.ensures new.3) in
          let kept = stepped_kept way.0 (part_of (layout_in c.args.m) range batch) (drop taken targets) step new.0 stepped way.3.0 in (
            new.0,
            new.1,
            new.2,
            files_then image way.0 new.0 way.3 kept,
            λ target down chosen enough.
                subst (λ (x : Moved). IsOnWay image range.start (end_of range) target down (drop (taken + step.targets) targets) x (map (part_of (layout_in c.args.m) range) (drop (i + 1) batches)) new.0) more
                (ways_on image (layout_in c.args.m) (own_layout image c.args.m (c.requires.of_image image told)) range c.requires.range batches targets target down taken i (record { first = 0; end = 0 }) c.loop-batch.moved way.0 step new.0 c.loop-batch-test.true
                (way.4 target down chosen enough) stepped),
          );
      any_moment = λ calm image told.
          let way = so_far.way image told in
          then_same image way.0 so_far.goes.later way.3 (so_far.any_moment calm image told) (c.move_batch.ensures.any_moment (so_far.calm calm) way.0 way.1);
    }
