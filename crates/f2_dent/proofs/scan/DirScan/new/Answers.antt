use Rattle.std.proofs.Common.{ap, map}
use Rattle.std.proofs.Math.Nat.{sub-zero}
use Rattle.f2_bytes.specs.Directory.{items_from}
use Rattle.f2_dent.specs.Scan.{items_left, item_in_area}
use Rattle.f2_dent.proofs.scan.DirScan.new.Goals as goal

pub returns : goal.returns
unfolding items_left
returns c = ap (λ n. map (item_in_area c.args.area.now c.args.slots) (items_from c.args.area.now c.args.slots n 0)) (sub-zero c.args.slots)
