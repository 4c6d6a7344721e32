use Rattle.std.proofs.Common.{rules, ◌≡◌, ◌<◌, ◌++◌, ◌∷◌, [], length, map, get_or, sym, ap, ◌∙◌, arith}
use Rattle.f2_bytes.specs.Bytes.{numbers_below}
use Rattle.f2_bytes.specs.RollForward.{chain, chain_address, chain_length}
use Rattle.f2_free.specs.ChainNodes.{node_read}
use Rattle.f2_free.proofs.NumbersBelow.{map-none, map-more, at_number, many}
use Rattle.f2_free.proofs.chain_reading.chain_nodes.Goals as goal
use Rattle.f2_disk.proofs.Runs.{reads_same, reads_then, goes_then}
use Rattle.f2_roll.specs.Chain.{Followed}

pub loop-address-init : goal.loop-address-init
loop-address-init g c = record {
  reads = reads_same (g.D.Disk.state c.args.d.now);
  goes = search rules;
  nodes = λ image told of is has. c.new-nodes.ensures.items ∙ sym (map-none (node_read image));
}

pub loop-address-preserved : goal.loop-address-preserved
loop-address-preserved g c =
    let so_far = c.loop-address.invariant in
    let i = c.loop-address.address-index in
    record {
      reads = reads_then so_far.goes.later so_far.reads c.in_ok-node.ensures.reads;
      goes = goes_then so_far.goes c.in_ok-node.ensures.goes;
      nodes = λ image told of is has.
          let are : c.nodes-address-items.result.now ≡ chain image = c.nodes-address-items.ensures ∙ ap (λ (f : Followed). f.nodes) is in
          let long : length c.nodes-address-items.result.now ≡ chain_length image = ap length are ∙ many (chain_address image) (chain_length image) in
          let low : i < chain_length image = let here = c.loop-address-test.true in omega (arith, long, here) in
          let address : get_or c.nodes-address-items.result.now i 0 ≡ chain_address image i = ap (λ l. get_or l i 0) are ∙ at_number (chain_address image) (chain_length image) i 0 low in
          let node = c.in_ok-node.ensures.node image i (so_far.reads.told ∙ told) has address in
          c.in_ok-add.ensures ∙ (λ k. so_far.nodes image told of is has k ++ node k ∷ []) ∙ sym (map-more (node_read image) i);
    }

pub returns-clause-nodes : goal.returns-clause-nodes
returns-clause-nodes g c = λ image told of is has.
    let are : c.nodes-address-items.result.now ≡ chain image = c.nodes-address-items.ensures ∙ ap (λ (f : Followed). f.nodes) is in
    let long : length c.nodes-address-items.result.now ≡ chain_length image = ap length are ∙ many (chain_address image) (chain_length image) in
    let all : c.loop-address.address-index ≡ chain_length image = let past = c.loop-address-test.false in let within = c.loop-address.auto.address-index-end in omega (arith, long, past, within) in
    c.loop-address.invariant.nodes image told of is has ∙ ap (λ n. map (node_read image) (numbers_below n)) all
