use Rattle.std.proofs.Common.{ℕ, ◌≡◌, ◌≤◌, ◌-◌, sym, ◌∙◌, ap, arith, length, take}
use Rattle.std.proofs.lemmas.List.{length-take-le}
use Rattle.f2_disk.proofs.Runs.{first_write, quiet_on, was_told, on_ok}
use Rattle.f2_super.proofs.Repairs.{landed, repairing, twins}
use Rattle.f2_super.proofs.loading.repair.Goals as goal

pub returns-in_err-write-clause-any_moment : goal.returns-in_err-write-clause-any_moment
returns-in_err-write-clause-any_moment g c = λ calm image told s has.
    let d = c.args.d.now in
    let front = take 1024 c.read.new.into in
    let long : length front ≡ 1024 = length-take-le 1024 c.read.new.into (omega (arith, c.write_copy.ensures.block.length)) in
    let two : 2 ≤ length image = omega (arith, c.requires.room, (g.met.D.Disk.whole d image told).size) in
    first_write image (g.met.D.Disk.only_now d) (λ x left. g.met.D.Disk.settled d x calm left) told c.read.ensures.reads c.read.ensures.goes.later c.write.ensures.writes
    (λ x lands. landed image c.args.f.now (g.D.Disk.state d).size (c.requires.found image told) front c.write_copy.new.b (1 - c.from-at.result) (ap (λ (n : ℕ). 1 - n) c.from-at.ensures) c.write_copy.ensures.bytes long two s has x lands)

pub returns-clause-any_moment : goal.returns-clause-any_moment
returns-clause-any_moment g c = λ calm image told s has.
    let d = c.args.d.now in
    let front = take 1024 c.read.new.into in
    let long : length front ≡ 1024 = length-take-le 1024 c.read.new.into (omega (arith, c.write_copy.ensures.block.length)) in
    let two : 2 ≤ length image = omega (arith, c.requires.room, (g.met.D.Disk.whole d image told).size) in
    let written = first_write image (g.met.D.Disk.only_now d) (λ x left. g.met.D.Disk.settled d x calm left) told c.read.ensures.reads c.read.ensures.goes.later c.write.ensures.writes
    (λ x lands. landed image c.args.f.now (g.D.Disk.state d).size (c.requires.found image told) front c.write_copy.new.b (1 - c.from-at.result) (ap (λ (n : ℕ). 1 - n) c.from-at.ensures) c.write_copy.ensures.bytes long two s has x lands) in
    quiet_on written (omega (arith, c.read.ensures.goes.later, c.write.ensures.goes.later)) c.sync.ensures.syncs.since

pub returns-clause-twins : goal.returns-clause-twins
returns-clause-twins g c = on_ok c.sync.result (λ now is_now.
    let d = c.args.d.now in
    let front = take 1024 c.read.new.into in
    let long : length front ≡ 1024 = length-take-le 1024 c.read.new.into (omega (arith, c.write_copy.ensures.block.length)) in
    let before = was_told c.write.ensures.goes now (sym c.sync.ensures.syncs.told ∙ is_now) in
    let image = before.0 in
    let told = sym c.read.ensures.reads.told ∙ before.1 in
    let two : 2 ≤ length image = omega (arith, c.requires.room, (g.met.D.Disk.whole d image told).size) in
    let done = c.in_ok-write.ensures.done.told image before.1 in
    let at_now = sym is_now ∙ c.sync.ensures.syncs.told ∙ done in
    twins image c.args.f.now (g.D.Disk.state d).size (c.requires.found image told) front c.write_copy.new.b (1 - c.from-at.result) (ap (λ (n : ℕ). 1 - n) c.from-at.ensures) c.write_copy.ensures.bytes long two now (cc at_now))

pub returns-in_err-write-clause-either : goal.returns-in_err-write-clause-either
returns-in_err-write-clause-either g c = λ image told.
    let at_read = c.read.ensures.reads.told ∙ told in
    let put = c.write.ensures.writes.lands image at_read in
    (put.0, put.1, repairing c.args.f.now image put.0 c.from-at.result c.read.new.into c.write_copy.new.b c.from-at.ensures (c.in_ok-read.ensures.block image told) c.write_copy.ensures.bytes put.2)

pub returns-in_err-write-clause-repairing : goal.returns-in_err-write-clause-repairing
returns-in_err-write-clause-repairing g c = λ calm image told.
    let d = c.args.d.now in
    first_write image (g.met.D.Disk.only_now d) (λ x left. g.met.D.Disk.settled d x calm left) told c.read.ensures.reads c.read.ensures.goes.later c.write.ensures.writes
    (λ x lands. repairing c.args.f.now image x c.from-at.result c.read.new.into c.write_copy.new.b c.from-at.ensures (c.in_ok-read.ensures.block image told) c.write_copy.ensures.bytes lands)

pub returns-clause-repairing : goal.returns-clause-repairing
returns-clause-repairing g c = λ calm image told.
    let d = c.args.d.now in
    let written = first_write image (g.met.D.Disk.only_now d) (λ x left. g.met.D.Disk.settled d x calm left) told c.read.ensures.reads c.read.ensures.goes.later c.write.ensures.writes
    (λ x lands. repairing c.args.f.now image x c.from-at.result c.read.new.into c.write_copy.new.b c.from-at.ensures (c.in_ok-read.ensures.block image told) c.write_copy.ensures.bytes lands) in
    quiet_on written (omega (arith, c.read.ensures.goes.later, c.write.ensures.goes.later)) c.sync.ensures.syncs.since
