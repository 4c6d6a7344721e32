use Rattle.std.proofs.Common.{◌≡◌, ◌-◌, ap, ◌∙◌, sym, arith}
use Rattle.f2_bytes.specs.Bytes.{block_at}
use Rattle.f2_bytes.specs.Checkpoint.{pack_at, pack_total_block_count}
use Rattle.f2_pack.proofs.ValidHeads.{head_facts, head_in-bad, head_in-other, head_in-good}
use Rattle.f2_pack.proofs.validity.valid_head.Goals as goal

pub returns-then-not-is_head_valid-clause-head : goal.returns-then-not-is_head_valid-clause-head
returns-then-not-is_head_valid-clause-head g c = λ image told.
    let is_head : c.of-head.result ≡ pack_at c.args.l.now image c.args.pack 0 = c.of-head.ensures ∙ c.in_ok-read.ensures.block image told ∙ ap (block_at image) (omega arith) in
    head_in-bad c.args.l.now (pack_at c.args.l.now image c.args.pack) c.of-head.result is_head (sym c.is_head_valid.ensures ∙ c.if-not-is_head_valid.true)

pub overflow_sub-last : goal.overflow_sub-last
overflow_sub-last g c =
    let facts = head_facts c.args.l.now c.of-head.result (sym c.is_head_valid.ensures ∙ c.if-not-is_head_valid.false) in
    omega (arith, facts.room, c.field.ensures.value)

pub read-requires-2 : goal.read-requires-2
read-requires-2 g c =
    let facts = head_facts c.args.l.now c.of-head.result (sym c.is_head_valid.ensures ∙ c.if-not-is_head_valid.false) in
    let order = c.requires.in_order in
    omega (arith, facts.total, c.field.ensures.value, c.read.ensures.goes.size, order.sit, order.nat, order.ssa, order.main, order.inside, c.requires.inside, c.requires.pack, c.from.ensures, c.from-2.ensures)

pub returns-then-is_tail_of-clause-head : goal.returns-then-is_tail_of-clause-head
returns-then-is_tail_of-clause-head g c = λ image told.
    let pack = pack_at c.args.l.now image c.args.pack in
    let is_head : c.of-head.result ≡ pack 0 = c.of-head.ensures ∙ c.in_ok-read.ensures.block image told ∙ ap (block_at image) (omega arith) in
    let is_tail : c.read-2.new.into ≡ pack (pack_total_block_count c.of-head.result - 1) =
    c.in_ok-read-2.ensures.block image (c.read.ensures.reads.told ∙ told) ∙ ap (block_at image) (omega (arith, c.field.ensures.value)) in
    head_in-good c.args.l.now pack c.of-head.result is_head c.read-2.new.into is_tail (sym c.is_head_valid.ensures ∙ c.if-not-is_head_valid.false) (sym c.is_tail_of.ensures ∙ c.if-is_tail_of.true)

pub returns-else-is_tail_of-clause-head : goal.returns-else-is_tail_of-clause-head
returns-else-is_tail_of-clause-head g c = λ image told.
    let pack = pack_at c.args.l.now image c.args.pack in
    let is_head : c.of-head.result ≡ pack 0 = c.of-head.ensures ∙ c.in_ok-read.ensures.block image told ∙ ap (block_at image) (omega arith) in
    let is_tail : c.read-2.new.into ≡ pack (pack_total_block_count c.of-head.result - 1) =
    c.in_ok-read-2.ensures.block image (c.read.ensures.reads.told ∙ told) ∙ ap (block_at image) (omega (arith, c.field.ensures.value)) in
    head_in-other c.args.l.now pack c.of-head.result is_head c.read-2.new.into is_tail (sym c.is_head_valid.ensures ∙ c.if-not-is_head_valid.false) (sym c.is_tail_of.ensures ∙ c.if-is_tail_of.false)
