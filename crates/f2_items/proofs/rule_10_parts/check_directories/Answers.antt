use Rattle.std.proofs.Common.{refl, subst}
use Rattle.f2_bytes.specs.Check.{item_parts}
use Rattle.f2_defects.specs.Collected.{Collects}
use Rattle.f2_items.proofs.FoundParts.{found}
use Rattle.f2_survey.proofs.PartDefects.{part_more}
use Rattle.f2_survey.proofs.RuleParts.{directory_parts_all}
use Rattle.f2_items.proofs.rule_10_parts.check_directories.Goals as goal

pub returns : goal.returns
unfolding item_parts
returns c = λ image gathered.
    let w = c.args.d.now.wholes in
    let five = c.in_ok-c.ensures image gathered.rules in
    let six = part_more image 10 5 c.in_ok-c.c w.depths c.append.new.self five (found image 6 w.depths refl gathered.wholes.depths) c.in_ok-append.ensures.appends in
    let seven = part_more image 10 6 c.append.new.self w.dots c.append-2.new.self six (found image 7 w.dots refl gathered.wholes.dots) c.in_ok-append-2.ensures.appends in
    let eight = part_more image 10 7 c.append-2.new.self c.in_ok-parent_defects.field-0 c.append-3.new.self seven (c.in_ok-parent_defects.ensures image gathered) c.in_ok-append-3.ensures.appends in
    let nine = part_more image 10 8 c.append-3.new.self w.sizes c.append-4.new.self eight (found image 9 w.sizes refl gathered.wholes.sizes) c.in_ok-append-4.ensures.appends in
    subst (Collects c.append-4.new.self) (directory_parts_all image) nine
