use Rattle.f2_bytes.specs.Check.{nids}
use Rattle.f2_files.proofs.VisitedFiles.{repeats_after}
use Rattle.f2_rules.proofs.rule_4_repeats.repeats_of.Goals as goal

pub returns-in-Repeats : goal.returns-in-Repeats
returns-in-Repeats c = λ image after. repeats_after image (nids image) c.args.files c.in-Repeats.repeats c.in-Repeats.is after
