use Rattle.std.proofs.Common.{◌≡◌, length, sym, ap, subst, ◌∙◌, arith}
use Rattle.f2_bytes.specs.Defragment.{defrag_have}
use Rattle.f2_view.specs.Mounted.{IsMountOf}
use Rattle.f2_reloc.proofs.Refused.{same_numbers}
use Rattle.f2_reloc.proofs.emptying.planned.Goals as goal

pub returns-then-need-have-clause-no_space : goal.returns-then-need-have-clause-no_space
unfolding defrag_have
returns-then-need-have-clause-no_space g c = λ need have e image told.
    let range = c.args.range in
    let of = c.requires.of_image image told in
    let read = c.cut.ensures in
    let more = c.need_of_all.ensures in
    let is = same_numbers c.in_ok-need.need c.len-have.result need have e in
    let wants = c.in_ok-need.ensures.need image (read.reads.told ∙ told) in
    let chosen = c.in_ok-targets.ensures.targets image (more.reads.told ∙ read.reads.told ∙ told) (subst (IsMountOf image) (sym (more.mount ∙ read.mount)) of) in
    let right = c.in_ok-targets.targets.ok.0 in
    let long : c.in_ok-targets.targets.len ≡ length c.in_ok-targets.targets.items = omega (arith, right) in
    let over = c.if-need-have.true in
    (sym is.0 ∙ wants, sym is.1 ∙ c.len-have.ensures ∙ long ∙ ap length chosen, let first = is.0 in let second = is.1 in omega (arith, first, second, over))

pub need_of_all-requires-clause-of_image : goal.need_of_all-requires-clause-of_image
need_of_all-requires-clause-of_image g c = λ image now.
    subst (IsMountOf image) (sym c.in_ok-batches.ensures.mount) (c.requires.of_image image (sym c.in_ok-batches.ensures.reads.told ∙ now))
