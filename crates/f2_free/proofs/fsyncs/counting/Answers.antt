use Rattle.std.proofs.Common.{◌≡◌, ◌<◌, ◌+◌, ◌++◌, ◌∷◌, [], length, map, sym, ap, ◌∙◌, arith}
use Rattle.std.proofs.lemmas.List.{length-append}
use Rattle.f2_bytes.specs.Bytes.{numbers_below}
use Rattle.f2_bytes.specs.RollForward.{chain_length, is_counting}
use Rattle.f2_free.specs.declared.chain_reading.ChainNode.{ChainNode}
use Rattle.f2_free.proofs.FsyncSteps.{read-many, read-node, counts-is}
use Rattle.f2_free.proofs.NumbersBelow.{map-none, map-more}
use Rattle.f2_free.proofs.fsyncs.counting.Goals as goal

pub loop-n-init : goal.loop-n-init
loop-n-init c = record {
  each = ap length c.new-counts.ensures.items;
  counts = λ image are. c.new-counts.ensures.items ∙ sym (map-none (is_counting image));
}

pub loop-n-preserved : goal.loop-n-preserved
loop-n-preserved c =
    let n = c.loop-n.n in
    let so_far = c.loop-n.invariant in
    let items = c.in_ok-push.ensures.items in
    record {
      each = ap length items ∙ length-append c.loop-n.counts.items (c.ends_there.result ∷ []) ∙ ap (λ k. k + 1) so_far.each;
      counts = λ image are.
          let many = read-many image c.args.nodes.now are in
          let low : n < chain_length image = let here = c.loop-n-test.true in omega (arith, many, here) in
          let here : c.ends_there.result ≡ is_counting image n =
          counts-is image n _ c.ends_there.result low (ap (λ (x : ChainNode). x.ino) (read-node image c.args.nodes.now n _ are c.loop-n-test.true))
          (c.ends_there.ensures ∙ c.in_ok-ends.ensures image are _ n) in
          items ∙ (λ i. so_far.counts image are i ++ here i ∷ []) ∙ sym (map-more (is_counting image) n);
    }

pub returns-clause-counts : goal.returns-clause-counts
returns-clause-counts c = λ image are.
    let all : c.loop-n.n ≡ chain_length image = let many = read-many image c.args.nodes.now are in omega (arith, many) in
    c.loop-n.invariant.counts image are ∙ ap (λ n. map (is_counting image) (numbers_below n)) all
