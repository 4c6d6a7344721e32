use Rattle.std.proofs.Common.{refl}
use Rattle.f2_files.proofs.VisitedFiles.{claims_start}
use Rattle.f2_rules.proofs.rule_4_repeats.take_claims.Goals as goal

pub returns-clause-claims : goal.returns-clause-claims
returns-clause-claims g c = λ image told of known places.
    c.in_ok-claims_of.ensures image
    (c.in_ok-tour_files.ensures.files image told of known refl places (claims_start image c.in_ok-of_nodes.field-0 (c.in_ok-of_nodes.ensures image known)))
