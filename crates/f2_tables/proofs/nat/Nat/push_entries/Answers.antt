use Rattle.std.proofs.Common.{◌-◌, ◌++◌, map, ap, ◌∙◌, arith}
use Rattle.std.specs.List.{range_with_len}
use Rattle.f2_sum.specs.Records.{nat_entry}
use Rattle.f2_tables.specs.Tables.{nat_over}
use Rattle.f2_tables.proofs.Appends.{entry-more, length-more}
use Rattle.f2_tables.proofs.nat.Nat.push_entries.Goals as goal

pub loop-nid-preserved : goal.loop-nid-preserved
loop-nid-preserved c =
    let so_far = c.loop-nid.invariant in
    let pushed = c.in_ok-push.ensures.items in
    record {
      after = omega arith;
      entries = entry-more nat_entry (nat_over c.args.self.now c.args.block.now) (map nat_entry c.args.into.now.items) c.loop-nid.into.items c.push.new.self.items c.entry.result c.args.from c.loop-nid.nid so_far.after so_far.entries pushed c.entry.ensures;
      length = omega (arith, length-more c.loop-nid.into.items c.push.new.self.items c.entry.result pushed);
    }

pub returns-clause-entries : goal.returns-clause-entries
returns-clause-entries c =
    c.loop-nid.invariant.entries
    ∙ ap (λ n. map nat_entry c.args.into.now.items ++ map (nat_over c.args.self.now c.args.block.now) (range_with_len c.args.from (n - c.args.from))) (omega arith)
