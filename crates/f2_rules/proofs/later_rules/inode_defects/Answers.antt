use Rattle.std.proofs.Common.{refl, subst, arith}
use Rattle.std.proofs.lemmas.Result.{IfOk-weaker}
use Rattle.f2_bytes.specs.Check.{inode_parts}
use Rattle.f2_defects.specs.Collected.{Collects}
use Rattle.f2_items.proofs.FoundParts.{found_of_files}
use Rattle.f2_rules.proofs.Gathered.{gathered}
use Rattle.f2_survey.proofs.RuleParts.{inode_parts_all}
use Rattle.f2_rules.proofs.later_rules.inode_defects.Goals as goal

pub returns : goal.returns
unfolding inode_parts
returns c = λ told.
    IfOk-weaker c.three_parts.result _ _
    (λ found collects image is of before work.
    let k = c.args.work.now.kept in
    let read = gathered image k work.kept (before 4 (omega arith) (omega arith)) in
    subst (Collects found) (inode_parts_all image)
    (collects image 9
    (subst (Collects k.usage.defects) (found_of_files image 1 refl) work.kept.usage.defects)
    (c.in_ok-links.ensures image read)
    (subst (Collects k.extents.defects) (found_of_files image 3 refl) work.kept.extents.defects)))
    c.three_parts.ensures
