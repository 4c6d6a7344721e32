use Rattle.std.proofs.lemmas.Result.{on_ok_weaker}
use Rattle.f2_files.proofs.VisitedFiles.{begin-kept, begin-claims, begin-repeats}
use Rattle.f2_files.proofs.files.Files.begin.Goals as goal

pub returns-in-Kept : goal.returns-in-Kept
returns-in-Kept c = record {
  begins = on_ok_weaker c.begin.result (λ begun image known is. begin-kept image c.args.ino c.args.self.now c.in-Kept.kept c.begin.new.self c.in-Kept.is (begun image known is)) c.begin.ensures;
}

pub returns-in-Claims : goal.returns-in-Claims
returns-in-Claims c = record { begins = λ image known is. begin-claims image c.args.ino c.args.self.now _ c.in-Claims.is }

pub returns-in-Repeats : goal.returns-in-Repeats
returns-in-Repeats c = record { begins = λ image known is. begin-repeats image c.args.ino c.args.self.now _ c.in-Repeats.is }
