use Rattle.std.proofs.Common.{◌+◌, ◌*◌, ◌∙◌}
use Rattle.std.specs.Prelude.{nat_eq, slice_range}
use Rattle.std.specs.Cmp.Lexicographic.{pointwise}
use Rattle.f2_node.proofs.ZeroWords.{zero_run}
use Rattle.f2_node.proofs.words.is_zero_run.Goals as goal

pub returns : goal.returns
returns c =
    let at = c.args.at in
    zero_run c.args.b.now at c.eq.result
    (c.eq.ensures ∙ λ i. pointwise nat_eq (slice_range (c.bytes.ensures.same i) (4 * at) (4 * at + 256)) (c.as_slice.ensures i))
