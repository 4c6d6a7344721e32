use Rattle.std.proofs.Common.{◌≡◌, ◌∙◌, Some, ap}
use Rattle.f2_bytes.specs.Bytes.{Image}
use Rattle.f2_disk.specs.Disk.{Lands}
use Rattle.f2_pack.specs.Written.{written}
use Rattle.f2_change.specs.Writes.{Prepared}
use Rattle.f2_change.proofs.WriteRuns.{at_same}
use Rattle.f2_change.proofs.committing.write_new_head.Goals as goal

pub returns-clause-either : goal.returns-clause-either
returns-clause-either g c =
    at_same
    (λ at b. (image : Image) → (g.D.Disk.state c.args.d.now).told ≡ Some image → (now : Image) × ((g.D.Disk.state c.write_through.new.d).told ≡ Some now) × Lands at b image now)
    c.address_of_head.ensures.address (c.write_head.ensures ∙ ap (λ (x : Prepared). written x.pack 0) c.r.view_is) c.write_through.ensures.either
