use Rattle.std.proofs.Common.{◌≡◌, refl, ◌∙◌, sym, ap}
use Rattle.f2_bytes.specs.Names.{name_hash}
use Rattle.f2_bytes.specs.Check.{same}
use Rattle.f2_items.specs.declared.rule_10_items.ItemRules.{ItemRules}
use Rattle.f2_items.proofs.ItemRuleSteps.{legal_item}
use Rattle.f2_items.proofs.ItemSteps.{compares_as}
use Rattle.f2_items.proofs.rule_10_items.ItemRules.legal.Goals as goal

pub returns : goal.returns
returns c = λ before kind depth items x legal first types stands is.
    let old = c.args.self.now in
    let item = c.args.item.now in
    let later : ItemRules = c.buckets.new.self in
    let directory = c.from-directory.result in
    let others = c.in_ok-buckets.ensures.others in
    let hash : c.name_hash-hash.result ≡ name_hash x.name = c.name_hash-hash.ensures ∙ λ t. name_hash (sym legal.name t) in
    legal_item before kind c.args.directory depth items x old _ is item legal c.args.first c.args.kind c.name_hash-hash.result directory c.args.block
    first types hash c.from-directory.ensures stands
    (ap (λ (r : ItemRules). r.illegal) others)
    (ap (λ (r : ItemRules). r.twins.part) others ∙ c.in_ok-same.ensures.part)
    (compares_as old.twins old.twins c.same.new.self later.twins directory item.place (same c.args.first item.place) (same c.args.first item.place) refl (sym (ap (λ (r : ItemRules). r.twins) others)) refl c.in_ok-same.ensures.compares)
    (ap (λ (r : ItemRules). r.hashes.part) others ∙ c.in_ok-same-2.ensures.part)
    (compares_as old.hashes old.hashes c.same-2.new.self later.hashes directory item.place (same c.from.result c.from-2.result) (same item.hash c.name_hash-hash.result)
    refl (sym (ap (λ (r : ItemRules). r.hashes) others)) (λ t. same (c.from.ensures t) (c.from-2.ensures t)) c.in_ok-same-2.ensures.compares)
    c.in_ok-buckets.ensures.part c.in_ok-buckets.ensures.compares
    (c.in_ok-same-3.ensures.part ∙ ap (λ (r : ItemRules). r.kinds.part) others)
    (compares_as later.kinds old.kinds c.same-3.new.self c.same-3.new.self directory item.place (same c.from-3.result c.args.kind) (same item.kind c.args.kind)
    (ap (λ (r : ItemRules). r.kinds) others) refl (λ t. same (c.from-3.ensures t) c.args.kind) c.in_ok-same-3.ensures.compares)
