use Rattle.std.proofs.Common.{get_or, ◌∙◌, subst}
use Rattle.f2_disk.proofs.Runs.{reads_then, goes_then}
use Rattle.f2_tables.specs.Tables.{NatTable, nat_in}
use Rattle.f2_change.specs.Change.{nat_other_address}
use Rattle.f2_change.specs.TableBlocks.{IsNatBlock}
use Rattle.f2_change.proofs.TableChanges.{blocks-more, addresses-more}
use Rattle.f2_change.proofs.tables.nat_blocks.Goals as goal

pub loop-k-preserved : goal.loop-k-preserved
loop-k-preserved g c =
    let so_far = c.loop-k.invariant in
    let ks = c.args.blocks.now in
    let i = c.loop-k.k-index in
    let at = nat_other_address c.args.l.now c.args.bits.now in
    record {
      reads = reads_then so_far.goes.later so_far.reads c.in_ok-block.ensures.reads;
      goes = goes_then so_far.goes c.in_ok-block.ensures.goes;
      table = c.in_ok-block.ensures.table ∙ so_far.table;
      addresses = addresses-more ks i 0 c.loop-k.written.items c.push.new.self.items (c.nat_other.result, c.in_ok-block.block) at c.loop-k-test.true so_far.addresses c.nat_other.ensures c.in_ok-push.ensures.items;
      entries = λ image told.
          blocks-more (IsNatBlock (nat_in c.args.nat.now image)) ks i 0 c.loop-k.written.items c.push.new.self.items (c.nat_other.result, c.in_ok-block.block) at c.loop-k-test.true so_far.addresses (so_far.entries image told)
          (subst (λ (t : NatTable). IsNatBlock (nat_in t image) (get_or ks i 0) c.in_ok-block.block) so_far.table (record { entries = c.in_ok-block.ensures.entries image (so_far.reads.told ∙ told) })) c.in_ok-push.ensures.items;
    }
