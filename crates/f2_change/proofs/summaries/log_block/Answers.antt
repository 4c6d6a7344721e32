use Rattle.std.proofs.Common.{◌∙◌, ap, take, length, arith}
use Rattle.std.proofs.lemmas.List.{length-take-le}
use Rattle.f2_bytes.specs.Bytes.{with_bytes}
use Rattle.f2_change.proofs.LogBlocks.{log_entries, log_end}
use Rattle.f2_change.proofs.summaries.log_block.Goals as goal

pub put-requires : goal.put-requires
put-requires c =
    let long = c.bytes.ensures.block.length in
    omega (arith, ap length (c.front.ensures ∙ ap (take 3584) c.bytes.ensures.same), length-take-le 3584 c.args.entries.now (omega (arith, long)))

pub returns-clause-entries : goal.returns-clause-entries
returns-clause-entries c =
    log_entries c.args.entries.now c.zeros-b.result c.put.new.self c.put-2.new.self c.args.kind c.bytes.ensures.block.length c.zeros-b.ensures
    (c.put.ensures.bytes ∙ ap (with_bytes c.zeros-b.result 0) (c.front.ensures ∙ ap (take 3584) c.bytes.ensures.same)) c.put-2.ensures.bytes

pub returns-clause-end : goal.returns-clause-end
returns-clause-end c =
    log_end c.args.entries.now c.zeros-b.result c.put.new.self c.put-2.new.self c.args.kind c.bytes.ensures.block.length c.zeros-b.ensures
    (c.put.ensures.bytes ∙ ap (with_bytes c.zeros-b.result 0) (c.front.ensures ∙ ap (take 3584) c.bytes.ensures.same)) c.put-2.ensures.bytes
