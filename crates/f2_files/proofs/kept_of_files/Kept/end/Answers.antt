use Rattle.std.proofs.Common.{refl}
use Rattle.std.proofs.lemmas.Result.{on_ok_weaker}
use Rattle.f2_files.proofs.KeptFiles.{kept-end}
use Rattle.f2_files.proofs.kept_of_files.Kept.end.Goals as goal

pub returns : goal.returns
returns c = on_ok_weaker c.end-3.result (λ ended image inode known is inside.
    kept-end image c.args.ino inode c.args.self.now _ is inside refl (c.in_ok-end.ensures image inode is inside.usage) (c.in_ok-end-2.ensures image inode is inside.extents) refl (ended image inode known is)) c.end-3.ensures.ends
