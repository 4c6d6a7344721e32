use Rattle.std.proofs.Common.{refl}
use Rattle.std.proofs.lemmas.Result.{on_ok_weaker}
use Rattle.f2_files.proofs.KeptFiles.{kept-begin}
use Rattle.f2_files.proofs.kept_of_files.Kept.begin.Goals as goal

pub returns : goal.returns
returns c = on_ok_weaker c.begin-3.result (λ begun image known is after.
    kept-begin image c.args.ino c.args.inode.now c.args.self.now _ is after refl (c.begin.ensures image c.args.ino is after.usage) (c.begin-2.ensures image c.args.ino is after.extents)
    (c.in_ok-compare_attributes.ensures image known is after.attributes) c.is_in_blocks-self.ensures (begun image known is)) c.begin-3.ensures.begins
