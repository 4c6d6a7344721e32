use Rattle.std.proofs.Common.{ap, ◌∙◌, false, get_or}
use Rattle.std.proofs.lemmas.Result.{IfOk-weaker}
use Rattle.f2_items.proofs.ParentLists.{tells_own}
use Rattle.f2_items.proofs.rule_11_loops.loop_defects.Goals as goal

pub returns : goal.returns
returns c =
    IfOk-weaker c.take_all.result _ _
    (λ found collects image known gathered.
    let all = c.limit.ensures image known in
    let parents = c.in_ok-parents.ensures in
    let own = tells_own image c.in_ok-parents.parents.items c.limit.result parents.length all parents.low (parents.parents image gathered.tally all)
    c.deref.result.now c.deref.ensures.value c.in_ok-own.own.items c.in_ok-own.ensures.own in
    collects image (λ k low. ap (λ l. get_or l k false) c.deref-2.ensures.value ∙ own k low) (c.deref-3.ensures.value ∙ gathered.files))
    c.take_all.ensures
