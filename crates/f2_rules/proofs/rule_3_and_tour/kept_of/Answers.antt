use Rattle.f2_bytes.specs.Check.{nids}
use Rattle.f2_files.proofs.VisitedFiles.{kept_after}
use Rattle.f2_rules.proofs.rule_3_and_tour.kept_of.Goals as goal

pub returns-in-Kept : goal.returns-in-Kept
returns-in-Kept c = λ image after. kept_after image (nids image) c.args.files c.in-Kept.kept c.in-Kept.is after
