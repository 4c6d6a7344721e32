use Rattle.f2_rules.proofs.rule_3_and_tour.visit_files.Goals as goal

pub returns-clause-kept : goal.returns-clause-kept
returns-clause-kept g c = λ image told of known counts gives places.
    c.in_ok-kept.ensures image (c.in_ok-toured.ensures.files image told of known gives places (c.in_ok-files.ensures image of known counts))
