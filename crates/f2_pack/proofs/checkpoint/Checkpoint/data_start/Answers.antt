use Rattle.std.proofs.Common.{arith, sym, ◌∙◌}
use Rattle.f2_pack.proofs.Kept.{wide_data}
use Rattle.f2_pack.proofs.PackReads.{room}
use Rattle.f2_pack.proofs.checkpoint.Checkpoint.data_start.Goals as goal

pub overflow_sub-result : goal.overflow_sub-result
overflow_sub-result c =
    let r = room c.args.self.now c.requires in
    let wide = wide_data c.args.self.now (sym c.is_compact.ensures ∙ c.if-is_compact.false) in
    omega (arith, r.0, r.1, wide, c.field-else-is_compact.ensures.value, c.node_blocks.ensures.value)

pub overflow_sub-result-else-is_compact : goal.overflow_sub-result-else-is_compact
overflow_sub-result-else-is_compact c =
    let r = room c.args.self.now c.requires in
    let wide = wide_data c.args.self.now (sym c.is_compact.ensures ∙ c.if-is_compact.false) in
    omega (arith, r.0, r.1, wide, c.field-else-is_compact.ensures.value, c.node_blocks.ensures.value)
