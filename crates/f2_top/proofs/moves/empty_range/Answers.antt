use Rattle.std.proofs.Common.{◌≡◌, ◌∙◌, List, [], ℕ, None, ap, sym, subst, inl, inr, ⊎_elim}
use Rattle.f2_bytes.specs.declared.layout.Layout.{Layout}
use Rattle.f2_disk.proofs.Runs.{goes_then, reads_then}
use Rattle.f2_top.specs.Answers.{IsWhole}
use Rattle.f2_top.specs.Ranges.{HasNone, aim_at, aim_of, outside_aim}
use Rattle.f2_top.specs.Text.{IsFront}
use Rattle.f2_top.proofs.Moving.{always_read, always_then, range_answer, range_left, range_lines}
use Rattle.f2_top.proofs.Readable.{layout_same, readable}
use Rattle.f2_top.proofs.moves.empty_range.Goals as goal

pub empty_mounted-requires-clause-readable : goal.empty_mounted-requires-clause-readable
empty_mounted-requires-clause-readable g c = λ image told.
    let d = c.args.disk.now in
    let was = sym c.mount.ensures.reads.told ∙ told in
    readable (g.D.Disk.state d).size image c.in-Ok.m (g.met.D.Disk.whole d image was).size (c.in-Ok.ensures.exact image was) (c.in-Ok.ensures.of_image image was)

pub returns-in-Ok-aim-clause-exact : goal.returns-in-Ok-aim-clause-exact
returns-in-Ok-aim-clause-exact g c = λ image told.
    let w = c.args.request.now in
    let none = subst (λ (l : Layout). outside_aim l w ≡ None) c.layout.ensures.value c.in-Ok-aim.ensures.none in
    let aim = c.in-Ok-aim.ensures.aim ∙ ap (λ (l : Layout). aim_of l w) c.layout.ensures.value in
    let is = range_answer w image c.in-Ok.m _ (aim_at c.in-Ok-aim.range c.in-Ok-aim.target w.down) (c.in-Ok.ensures.exact image told) none aim in
    ⊎_elim (λ own. inl (own ∙ is)) (λ fails. inr fails) (c.empty_mounted.ensures.exact image (c.mount.ensures.reads.told ∙ told))

pub returns-in-Ok-aim-clause-sink_fault : goal.returns-in-Ok-aim-clause-sink_fault
returns-in-Ok-aim-clause-sink_fault g c = λ image told fault.
    let w = c.args.request.now in
    let none = subst (λ (l : Layout). outside_aim l w ≡ None) c.layout.ensures.value c.in-Ok-aim.ensures.none in
    let aim = c.in-Ok-aim.ensures.aim ∙ ap (λ (l : Layout). aim_of l w) c.layout.ensures.value in
    let is = range_answer w image c.in-Ok.m _ (aim_at c.in-Ok-aim.range c.in-Ok-aim.target w.down) (c.in-Ok.ensures.exact image told) none aim in
    subst IsWhole is (c.empty_mounted.ensures.sink_fault image (c.mount.ensures.reads.told ∙ told) fault)

pub returns-in-Ok-aim-clause-lines : goal.returns-in-Ok-aim-clause-lines
returns-in-Ok-aim-clause-lines g c = λ image told' had told.
    let w = c.args.request.now in
    let none = subst (λ (l : Layout). outside_aim l w ≡ None) c.layout.ensures.value c.in-Ok-aim.ensures.none in
    let aim = c.in-Ok-aim.ensures.aim ∙ ap (λ (l : Layout). aim_of l w) c.layout.ensures.value in
    let are = range_lines w image c.in-Ok.m _ (aim_at c.in-Ok-aim.range c.in-Ok-aim.target w.down) (c.in-Ok.ensures.exact image told') none aim in
    let front = c.empty_mounted.ensures.lines image (c.mount.ensures.reads.told ∙ told') had told in
    (front.0, subst (λ (l : List ℕ). IsFront [] l c.empty_mounted.result front.0) are front.1, front.2)

pub returns-in-Ok-aim-clause-image : goal.returns-in-Ok-aim-clause-image
returns-in-Ok-aim-clause-image g c = λ image told fault memory.
    let w = c.args.request.now in
    let none = subst (λ (l : Layout). outside_aim l w ≡ None) c.layout.ensures.value c.in-Ok-aim.ensures.none in
    let aim = c.in-Ok-aim.ensures.aim ∙ ap (λ (l : Layout). aim_of l w) c.layout.ensures.value in
    let left = c.empty_mounted.ensures.image image (c.mount.ensures.reads.told ∙ told) fault memory in
    (left.0, left.1, range_left w image c.in-Ok.m _ (aim_at c.in-Ok-aim.range c.in-Ok-aim.target w.down) (c.in-Ok.ensures.exact image told) none aim left.0 left.2)

pub returns-in-Ok-aim-clause-idle : goal.returns-in-Ok-aim-clause-idle
returns-in-Ok-aim-clause-idle g c = λ idle. reads_then c.mount.ensures.goes.later c.mount.ensures.reads (c.empty_mounted.ensures.idle idle)

pub returns-in-Ok-aim-clause-none : goal.returns-in-Ok-aim-clause-none
returns-in-Ok-aim-clause-none g c = λ image told none.
    let w = c.args.request.now in
    let own = layout_same image c.in-Ok.m (c.in-Ok.ensures.of_image image told) in
    let aim = c.in-Ok-aim.ensures.aim ∙ ap (λ (l : Layout). aim_of l w) (c.layout.ensures.value ∙ own) in
    reads_then c.mount.ensures.goes.later c.mount.ensures.reads (c.empty_mounted.ensures.none image (c.mount.ensures.reads.told ∙ told) (subst (HasNone image) (sym aim) none))

pub returns-in-Ok-aim-clause-either : goal.returns-in-Ok-aim-clause-either
returns-in-Ok-aim-clause-either g c = λ image told checked. c.empty_mounted.ensures.either image (c.mount.ensures.reads.told ∙ told) checked

pub returns-in-Ok-aim-clause-any_moment : goal.returns-in-Ok-aim-clause-any_moment
returns-in-Ok-aim-clause-any_moment g c =
    let d = c.args.disk.now in
    always_then (g.met.D.Disk.only_now d) (λ x calm left. g.met.D.Disk.settled d x calm left) c.mount.ensures.reads c.mount.ensures.goes.later c.empty_mounted.ensures.any_moment

pub returns-in-Ok-aim-clause-goes : goal.returns-in-Ok-aim-clause-goes
returns-in-Ok-aim-clause-goes g c = goes_then c.mount.ensures.goes c.empty_mounted.ensures.goes

pub returns-in-Err-aim-clause-any_moment : goal.returns-in-Err-aim-clause-any_moment
returns-in-Err-aim-clause-any_moment g c =
    let d = c.args.disk.now in
    always_read (g.met.D.Disk.only_now d) (λ x calm left. g.met.D.Disk.settled d x calm left) c.mount.ensures.reads

pub returns-in-Err-clause-any_moment : goal.returns-in-Err-clause-any_moment
returns-in-Err-clause-any_moment g c =
    let d = c.args.disk.now in
    always_read (g.met.D.Disk.only_now d) (λ x calm left. g.met.D.Disk.settled d x calm left) c.mount.ensures.reads

pub empty_mounted-requires-clause-of_image : goal.empty_mounted-requires-clause-of_image
empty_mounted-requires-clause-of_image g c = λ image now. c.in-Ok.ensures.of_image image (sym c.mount.ensures.reads.told ∙ now)
