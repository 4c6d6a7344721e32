use Rattle.std.proofs.Common.{◌*◌, ◌+◌, length, ap, ◌∙◌, rules, arith}
use Rattle.f2_disk.proofs.Runs.{reads_then, goes_then}
use Rattle.f2_sum.specs.Records.{nat_entry}
use Rattle.f2_tables.specs.Tables.{nat_in, nat_over}
use Rattle.f2_tables.proofs.Appends.{block-more, block-none}
use Rattle.f2_tables.proofs.Walk.{over_in}
use Rattle.f2_tables.proofs.nat.Nat.entries.Goals as goal

pub loop-k-init : goal.loop-k-init
loop-k-init g c = record {
  reads = search rules;
  goes = search rules;
  entries = λ image told. block-none nat_entry (nat_in c.args.self.now image) c.in_ok-entries.entries.items c.in_ok-entries.ensures.items;
  length = ap length c.in_ok-entries.ensures.items;
}

pub loop-k-preserved : goal.loop-k-preserved
loop-k-preserved g c =
    let so_far = c.loop-k.invariant in
    let t = c.args.self.now in
    let k = c.loop-k.k in
    record {
      reads = reads_then so_far.goes.later so_far.reads c.in_ok-block.ensures.reads;
      goes = goes_then so_far.goes c.in_ok-block.ensures.goes;
      entries = λ image told.
          block-more nat_entry (nat_in t image) (nat_over t c.in_ok-block.block) (455 * k) (455 * (k + 1)) c.loop-k.entries.items c.push_entries.new.into.items (omega arith) (so_far.entries image told) c.in_ok-push_entries.ensures.entries
          (λ m low high. over_in t image c.in_ok-block.block k m (c.in_ok-block.ensures.block image (so_far.reads.told ∙ told)) (omega arith));
      length = omega (arith, so_far.length, c.in_ok-push_entries.ensures.length);
    }
