use Rattle.std.proofs.Common.{◌≡◌, Some, sym, ap, ◌∙◌, arith}
use Rattle.f2_bytes.specs.Check.{nids, least_parent}
use Rattle.f2_items.specs.Directories.{name_limit, namings_below}
use Rattle.f2_items.specs.EachFile.{above}
use Rattle.f2_items.proofs.NameCounts.{least_parent-is, within_limit}
use Rattle.f2_items.proofs.ParentLists.{above-least}
use Rattle.f2_items.proofs.rule_11_loops.parent_below.Goals as goal

pub returns-in-Some-clause-parent : goal.returns-in-Some-clause-parent
returns-in-Some-clause-parent c = λ image names all.
    let number = c.args.number in
    let told : Some c.in-Some.up ≡ least_parent image c.args.number =
    sym c.in-Some.is ∙ c.parent.ensures (name_limit image) (namings_below image (nids image)) names (within_limit image number (omega arith)) ∙ sym (least_parent-is image number) in
    ap above c.below.ensures ∙ above-least image number c.in-Some.up c.args.limit told all

pub returns-in-None-clause-parent : goal.returns-in-None-clause-parent
returns-in-None-clause-parent c = λ image names all.
    let number = c.args.number in
    sym c.in-None.is ∙ c.parent.ensures (name_limit image) (namings_below image (nids image)) names (within_limit image number (omega arith)) ∙ sym (least_parent-is image number)
