use Rattle.std.proofs.lemmas.Result.{on_ok_weaker}
use Rattle.f2_files.proofs.VisitedFiles.{end-kept, end-claims, end-repeats}
use Rattle.f2_files.proofs.files.Files.end.Goals as goal

pub returns-in-Kept : goal.returns-in-Kept
returns-in-Kept c = record {
  ends = on_ok_weaker c.end.result (λ ended image inode known is. end-kept image c.args.ino c.args.self.now c.in-Kept.kept c.end.new.self c.in-Kept.is (ended image inode known is)) c.end.ensures;
}

pub returns-in-Claims : goal.returns-in-Claims
returns-in-Claims c = record { ends = λ image inode known is. end-claims image c.args.ino inode c.args.self.now _ c.in-Claims.is is }

pub returns-in-Repeats : goal.returns-in-Repeats
returns-in-Repeats c = record { ends = λ image inode known is. end-repeats image c.args.ino inode c.args.self.now _ c.in-Repeats.is is }
