use Rattle.std.proofs.Common.{[], sym, ap, ◌∙◌, subst}
use Rattle.f2_bytes.specs.Check.{same}
use Rattle.f2_defects.specs.Collected.{Collects, defects_of}
use Rattle.f2_survey.proofs.PartDefects.{defects_of_single}
use Rattle.f2_areas.proofs.rule_2_checkpoint.single_defects.Goals as goal

pub returns : goal.returns
returns c =
    let comparison = same c.args.found c.args.wanted in
    subst (Collects c.same.new.self) (ap (λ k. defects_of k 0 0 comparison) c.new-c.ensures.part ∙ sym (defects_of_single c.args.part comparison))
    (c.in_ok-same.ensures.compares [] c.new-c.ensures.none)
