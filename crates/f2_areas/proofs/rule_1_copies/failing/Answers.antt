use Rattle.std.proofs.Common.{◌≡◌, ◌++◌, [], sym, ◌∙◌, subst}
use Rattle.f2_bytes.specs.Superblock.{passes}
use Rattle.f2_bytes.specs.Check.{same, digit}
use Rattle.f2_defects.specs.Collected.{Collects, defects_of}
use Rattle.f2_areas.proofs.CopyParts.{passing_parts}
use Rattle.f2_areas.proofs.rule_1_copies.failing.Goals as goal

pub returns : goal.returns
returns c = λ image first second.
    let one = c.in_ok-compare_copy.ensures.compares [] c.new-c.ensures.none in
    let both = c.in_ok-compare_copy-2.ensures.compares (defects_of c.new-c.result.part 0 0 (same (digit (passes c.args.first.now)) 1)) one in
    let part : c.compare_copy.new.c.part ≡ 1 = c.in_ok-compare_copy.ensures.part ∙ c.new-c.ensures.part in
    subst (Collects c.compare_copy-2.new.c)
    ((λ i. defects_of (c.new-c.ensures.part i) 0 0 (same (digit (passes (sym first i))) 1) ++ defects_of (part i) 1 0 (same (digit (passes (sym second i))) 1))
    ∙ sym (passing_parts image))
    both
