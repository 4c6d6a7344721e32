use Rattle.std.proofs.Common.{◌+◌, ◌<◌, length, cond, sym, ap, ◌∙◌, ℕ, arith}
use Rattle.std.specs.Prelude.{◌==◌, option_map}
use Rattle.f2_sum.specs.Records.{nat_entry}
use Rattle.f2_survey.proofs.NodeCounts.{byte, no_node_more, no_inode_more, no_file_more, node_more, inode_more, file_more}
use Rattle.f2_survey.proofs.node_counts.Tally.take.Goals as goal

pub returns-in-None-clause-counts : goal.returns-in-None-clause-counts
returns-in-None-clause-counts c = λ image entry counts.
    let none = ap (option_map nat_entry) (sym c.in-None.is) ∙ entry in
    record {
      nodes = counts.nodes ∙ sym (no_node_more image c.args.nid none);
      inodes = counts.inodes ∙ sym (no_inode_more image c.args.nid none);
      of_files = λ ino low. counts.of_files ino low ∙ sym (no_file_more image c.args.nid none ino);
    }

pub returns-clause-counts : goal.returns-clause-counts
returns-clause-counts c = λ image entry counts.
    let e = nat_entry c.in-Some.entry in
    let some = ap (option_map nat_entry) (sym c.in-Some.is) ∙ entry in
    record {
      nodes = ap (λ n. n + 1) counts.nodes ∙ sym (node_more image c.args.nid e some);
      inodes = (λ i. counts.inodes i + (c.from.ensures ∙ byte (e.ino == c.args.nid)) i) ∙ sym (inode_more image c.args.nid e some);
      of_files = λ ino low.
          let before : ino < length c.args.self.now.of_files.items = omega (arith, low, c.count.ensures.length) in
          c.count.ensures.counts ino before
          ∙ ap (λ n. n + cond {A = ℕ} (e.ino == ino) 1 0) (counts.of_files ino before)
          ∙ sym (file_more image c.args.nid e some ino);
    }
