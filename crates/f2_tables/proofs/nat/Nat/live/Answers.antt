use Rattle.std.proofs.Common.{◌∙◌, sym, ap, arith}
use Rattle.f2_tables.specs.Tables.{NatTable}
use Rattle.f2_tables.proofs.Walk.{live-some, live-none}
use Rattle.f2_tables.proofs.nat.Nat.live.Goals as goal

pub returns-in-Some-clause-next : goal.returns-in-Some-clause-next
returns-in-Some-clause-next g c = λ image told.
    sym (live-some c.args.self.now image c.in_ok-block.block c.loop-k.k c.args.from c.max-from.result c.max-first.result c.in-Some.nid c.max-from.ensures c.max-first.ensures (omega (arith, ap (λ (t : NatTable). t.layout.nat_half) c.self.view_is))
    (c.in_ok-block.ensures.block image (c.loop-k.invariant.reads.told ∙ told)) c.in-Some.ensures (c.loop-k.invariant.none image told))

pub returns-clause-next : goal.returns-clause-next
returns-clause-next g c = λ image told.
    sym (live-none c.args.self.now image c.loop-k.k c.args.from c.max-from.result c.max-from.ensures (omega (arith, ap (λ (t : NatTable). t.layout.nat_half) c.self.view_is, c.loop-k-test.false)) (c.loop-k.invariant.none image told))
