use Rattle.f2_items.specs.ItemComparisons.{item_defects}
use Rattle.f2_items.proofs.rule_10_items.ItemRules.new.Goals as goal

pub returns : goal.returns
unfolding item_defects
returns c = λ kind ino depth. record {
  illegal = record { number = c.new.ensures.part; collects = c.new.ensures.none };
  twins = record { number = c.new-2.ensures.part; collects = c.new-2.ensures.none };
  hashes = record { number = c.new-3.ensures.part; collects = c.new-3.ensures.none };
  buckets = record { number = c.new-4.ensures.part; collects = c.new-4.ensures.none };
  kinds = record { number = c.new-5.ensures.part; collects = c.new-5.ensures.none };
}
