use Rattle.std.proofs.Common.{refl}
use Rattle.f2_files.proofs.VisitedFiles.{repeats_start}
use Rattle.f2_rules.proofs.rule_4_repeats.count_claims.Goals as goal

pub returns-clause-repeats : goal.returns-clause-repeats
returns-clause-repeats g c = λ image told of known places has.
    c.in_ok-repeats_of.ensures image
    (c.in_ok-tour_files.ensures.files image told of known refl places (repeats_start image c.of_claims.result (c.of_claims.ensures image has)))
