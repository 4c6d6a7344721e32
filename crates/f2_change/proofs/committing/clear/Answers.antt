use Rattle.std.proofs.Common.{◌≡◌, false, set, Some, OnOk}
use Rattle.f2_bytes.specs.Bytes.{Image}
use Rattle.f2_disk.specs.Disk.{Lands, LeavesOnly}
use Rattle.f2_change.proofs.CommitSteps.{zeros_same}
use Rattle.f2_change.proofs.WriteRuns.{at_same}
use Rattle.f2_change.proofs.committing.clear.Goals as goal

pub returns-clause-done : goal.returns-clause-done
returns-clause-done g c =
    at_same
    (λ at b. OnOk c.write_through.result ((image : Image) → (g.D.Disk.state c.args.d.now).told ≡ Some image → (g.D.Disk.state c.write_through.new.d).told ≡ Some (set image at b)))
    c.address_of_head.ensures.address (zeros_same c.zeros.result c.zeros.ensures) c.write_through.ensures.done

pub returns-clause-either : goal.returns-clause-either
returns-clause-either g c =
    at_same
    (λ at b. (image : Image) → (g.D.Disk.state c.args.d.now).told ≡ Some image → (now : Image) × ((g.D.Disk.state c.write_through.new.d).told ≡ Some now) × Lands at b image now)
    c.address_of_head.ensures.address (zeros_same c.zeros.result c.zeros.ensures) c.write_through.ensures.either

pub returns-clause-any_moment : goal.returns-clause-any_moment
returns-clause-any_moment g c =
    at_same
    (λ at b. (g.D.Disk.state c.args.d.now).pending ≡ false → (image : Image) → (g.D.Disk.state c.args.d.now).told ≡ Some image → LeavesOnly (g.D.Disk.state c.args.d.now) (g.D.Disk.state c.write_through.new.d) (Lands at b image))
    c.address_of_head.ensures.address (zeros_same c.zeros.result c.zeros.ensures) c.write_through.ensures.any_moment
