use Rattle.std.proofs.Common.{◌≡◌, false, None, sym, subst, ◌∙◌, arith}
use Rattle.std.specs.BTreeMap.{get}
use Rattle.std.specs.BTreeSet.{contains}
use Rattle.std.specs.Ordering.{nat_cmp}
use Rattle.std.proofs.lemmas.Grind.{common_steps}
use Rattle.f2_bytes.specs.RollForward.{is_marked_inode, chain_length}
use Rattle.f2_free.specs.ChainNodes.{HasEnds}
use Rattle.f2_free.proofs.FsyncSteps.{read-many, read-node, marked-more, ends-none, ends-more}
use Rattle.f2_free.proofs.NumbersBelow.{any-none}
use Rattle.f2_free.proofs.fsyncs.last_ends.Goals as goal

pub loop-n-init : goal.loop-n-init
loop-n-init c = record {
  marked = λ image are ino.
      let none : contains nat_cmp c.new-marked.result ino ≡ false = grind (arith, common_steps, c.new-marked.ensures.empty) in
      none ∙ sym (any-none (is_marked_inode image ino));
  ends = λ image are ino k.
      let none : get nat_cmp c.new-ends.result ino ≡ None = grind (arith, common_steps, c.new-ends.ensures.empty) in
      ends-none image ino k (get nat_cmp c.new-ends.result ino) none;
}

pub loop-n-preserved : goal.loop-n-preserved
loop-n-preserved c =
    let n = c.loop-n.n in
    let so_far = c.loop-n.invariant in
    record {
      marked = λ image are ino.
          marked-more image n _ c.loop-n.marked c.take_inode.new.marked ino (read-node image c.args.nodes.now n _ are c.loop-n-test.true) (so_far.marked image are ino) (c.in_ok-take_inode.ensures ino);
      ends = λ image are.
          let node = read-node image c.args.nodes.now n _ are c.loop-n-test.true in
          ends-more image n _ c.take_inode.new.marked c.loop-n.ends c.take_end.new.ends node
          (λ ino. marked-more image n _ c.loop-n.marked c.take_inode.new.marked ino node (so_far.marked image are ino) (c.in_ok-take_inode.ensures ino))
          (so_far.ends image are) c.in_ok-take_end.ensures;
    }

pub returns : goal.returns
returns c = λ image are.
    let all : c.loop-n.n ≡ chain_length image = let many = read-many image c.args.nodes.now are in omega (arith, many) in
    subst (λ n. HasEnds image n c.loop-n.ends) all (c.loop-n.invariant.ends image are)
