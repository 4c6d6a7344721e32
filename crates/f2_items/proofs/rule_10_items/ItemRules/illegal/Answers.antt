use Rattle.std.proofs.Common.{refl, ◌∙◌, sym}
use Rattle.f2_items.proofs.ItemRuleSteps.{illegal_item}
use Rattle.f2_items.proofs.rule_10_items.ItemRules.illegal.Goals as goal

pub returns : goal.returns
returns c = λ before kind depth items item bad place len is.
    illegal_item before kind c.args.directory depth items item c.args.self.now _ is bad
    c.in_ok-compare.ensures.part c.from.result c.args.place c.from-2.result c.from.ensures place (len ∙ sym c.from-2.ensures) c.in_ok-compare.ensures.compares refl
