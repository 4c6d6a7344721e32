use Rattle.f2_bytes.specs.Check.{nids}
use Rattle.f2_files.proofs.VisitedFiles.{claims_after}
use Rattle.f2_rules.proofs.rule_4_repeats.claims_of.Goals as goal

pub returns-in-Claims : goal.returns-in-Claims
returns-in-Claims c = λ image after. claims_after image (nids image) c.args.files c.in-Claims.claims c.in-Claims.is after
