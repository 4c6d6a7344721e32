use Rattle.std.proofs.Common.{refl}
use Rattle.f2_files.proofs.ExtentDefects.{extents-begin}
use Rattle.f2_files.proofs.rule_9_extents.Extents.begin.Goals as goal

pub returns : goal.returns
returns c = λ image ino is after. extents-begin image ino c.args.inode.now c.args.self.now _ is after refl c.of_inode-self.ensures.says c.of_inode-self.ensures.begins
