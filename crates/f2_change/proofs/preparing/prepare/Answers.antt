use Rattle.std.proofs.Common.{ℕ, ◌+◌, ◌≤◌, ◌<◌, List, length, sym, subst, ◌∙◌, arith}
use Rattle.std.specs.Prelude.{All}
use Rattle.f2_bytes.specs.Bytes.{Block}
use Rattle.f2_bytes.specs.Checkpoint.{checkpoint_ver}
use Rattle.f2_bytes.specs.declared.layout.Layout.{Layout}
use Rattle.f2_disk.proofs.Runs.{reads_then, goes_then}
use Rattle.f2_view.specs.Mounted.{layout_in}
use Rattle.f2_change.specs.Carried.{IsFor, Carries}
use Rattle.f2_change.specs.Writes.{Prepared, AvoidsSupport, committed}
use Rattle.f2_change.proofs.MadeReady.{prepared, plan, avoids, carried}
use Rattle.f2_change.proofs.preparing.prepare.Goals as goal

pub push_blocks-requires-clause-segments : goal.push_blocks-requires-clause-segments
push_blocks-requires-clause-segments g c =
    let few = subst (λ (ws : List (ℕ × Block)). All (λ (w : ℕ × Block). w.0 < (layout_in c.args.m.now).segments) ws) (sym c.deref-5.ensures.value) c.requires.sums in
    subst (λ (l : Layout). All (λ (w : ℕ × Block). w.0 < l.segments) c.deref-5.result.now) (sym c.layout-l.ensures.value) few

pub ready-requires : goal.ready-requires
ready-requires g c =
    let m = c.args.m.now in
    let change = c.args.c in
    let r : Prepared = record { layout = c.layout-l.result; pack = c.in_ok-pack.pack; blocks = c.push_blocks.new.into.items } in
    prepared m change r c.layout-l.ensures.kept c.layout-l.ensures.value c.in_ok-pack.ensures.pack c.in_ok-sit.sit.blocks.items c.in_ok-nat.nat.blocks.items
    c.deref-6.result.now c.deref-7.result.now c.deref-5.result.now c.deref.result.now c.deref-2.result.now c.deref-6.ensures.value c.deref-7.ensures.value c.deref-5.ensures.value c.deref.ensures.value c.deref-2.ensures.value
    c.in_ok-push_blocks.ensures.blocks c.in_ok-sit.ensures.addresses c.in_ok-nat.ensures.addresses c.new_pack.ensures.six c.requires.logs c.requires.blocks c.requires.sums c.in_ok-push_blocks.ensures.whole

pub returns-clause-made : goal.returns-clause-made
returns-clause-made g c =
    let m = c.args.m.now in
    let change = c.args.c in
    let r : Prepared = record { layout = c.layout-l.result; pack = c.in_ok-pack.pack; blocks = c.push_blocks.new.into.items } in
    subst (IsFor m change) (sym c.in_ok-ready.ensures)
    (plan m change r c.layout-l.ensures.kept c.layout-l.ensures.value c.in_ok-pack.ensures.pack c.in_ok-sit.sit.blocks.items c.in_ok-nat.nat.blocks.items
    c.deref-6.result.now c.deref-7.result.now c.deref-5.result.now c.deref.result.now c.deref-2.result.now c.deref-6.ensures.value c.deref-7.ensures.value c.deref-5.ensures.value c.deref.ensures.value c.deref-2.ensures.value
    c.in_ok-push_blocks.ensures.blocks c.in_ok-sit.ensures.addresses c.in_ok-nat.ensures.addresses c.new_pack.ensures.six c.requires.logs c.requires.blocks c.requires.sums c.in_ok-push_blocks.ensures.whole)

pub returns-clause-near : goal.returns-clause-near
returns-clause-near g c = subst (λ (r : Prepared). checkpoint_ver r.pack.head ≤ checkpoint_ver c.args.m.now.chosen.head + 2) (sym c.in_ok-ready.ensures) c.in_ok-pack.ensures.pack.near

pub returns-clause-avoids : goal.returns-clause-avoids
returns-clause-avoids g c = λ image told.
    let m = c.args.m.now in
    let change = c.args.c in
    let r : Prepared = record { layout = c.layout-l.result; pack = c.in_ok-pack.pack; blocks = c.push_blocks.new.into.items } in
    subst (AvoidsSupport image) (sym c.in_ok-ready.ensures)
    (avoids m change r c.layout-l.ensures.kept c.layout-l.ensures.value c.in_ok-pack.ensures.pack c.in_ok-sit.sit.blocks.items c.in_ok-nat.nat.blocks.items
    c.deref-6.result.now c.deref-7.result.now c.deref-5.result.now c.deref.result.now c.deref-2.result.now c.deref-6.ensures.value c.deref-7.ensures.value c.deref-5.ensures.value c.deref.ensures.value c.deref-2.ensures.value
    c.in_ok-push_blocks.ensures.blocks c.in_ok-sit.ensures.addresses c.in_ok-nat.ensures.addresses c.new_pack.ensures.six c.requires.logs c.requires.blocks c.requires.sums c.in_ok-push_blocks.ensures.whole
    image (c.requires.of_image image told) (c.requires.free image told) (c.requires.spare image told))

pub returns-clause-carries : goal.returns-clause-carries
returns-clause-carries g c = λ image told.
    let m = c.args.m.now in
    let change = c.args.c in
    let r : Prepared = record { layout = c.layout-l.result; pack = c.in_ok-pack.pack; blocks = c.push_blocks.new.into.items } in
    let of = c.requires.of_image image told in
    let inside : (layout_in m).blocks ≤ length image = omega (arith, c.requires.lies, (g.met.D.Disk.whole c.args.d.now image told).size) in
    let told_then = c.in_ok-sit.ensures.reads.told ∙ told in
    subst (λ (x : Prepared). Carries image change x.pack (committed x image)) (sym c.in_ok-ready.ensures)
    (carried m change r c.layout-l.ensures.kept c.layout-l.ensures.value c.in_ok-pack.ensures.pack c.in_ok-sit.sit.blocks.items c.in_ok-nat.nat.blocks.items
    c.deref-6.result.now c.deref-7.result.now c.deref-5.result.now c.deref.result.now c.deref-2.result.now c.deref-6.ensures.value c.deref-7.ensures.value c.deref-5.ensures.value c.deref.ensures.value c.deref-2.ensures.value
    c.in_ok-push_blocks.ensures.blocks c.in_ok-sit.ensures.addresses c.in_ok-nat.ensures.addresses c.new_pack.ensures.six c.requires.logs c.requires.blocks c.requires.sums c.in_ok-push_blocks.ensures.whole
    image of inside (c.in_ok-sit.ensures.entries image told of) (c.in_ok-nat.ensures.entries image told_then of) (c.in_ok-pack.ensures.of_image image (c.in_ok-nat.ensures.reads.told ∙ told_then) of))

pub returns-clause-reads : goal.returns-clause-reads
returns-clause-reads g c =
    let first = c.in_ok-sit.ensures in
    let second = c.in_ok-nat.ensures in
    reads_then (goes_then first.goes second.goes).later (reads_then first.goes.later first.reads second.reads) c.in_ok-pack.ensures.reads

pub returns-clause-goes : goal.returns-clause-goes
returns-clause-goes g c = goes_then (goes_then c.in_ok-sit.ensures.goes c.in_ok-nat.ensures.goes) c.in_ok-pack.ensures.goes
