use Rattle.std.proofs.Common.{◌≡◌, ◌<◌, false, get_or, length, refl, ap, ◌∙◌, arith}
use Rattle.f2_bytes.specs.RollForward.{chain_length, is_counting}
use Rattle.f2_free.proofs.FoundPlaces.{table-limit, found_before, found-none, found-more, found-all}
use Rattle.f2_free.proofs.FsyncSteps.{read-many, read-node}
use Rattle.f2_free.proofs.NumbersBelow.{at_number}
use Rattle.f2_free.proofs.rolling.put_counting.Goals as goal

pub loop-n-init : goal.loop-n-init
loop-n-init c = record { each = refl; found = λ image has are counts zero nid d low. found-none image c.args.entries.now.items nid d has low }

pub loop-n-preserved : goal.loop-n-preserved
loop-n-preserved c =
    let n = c.loop-n.n in
    let so_far = c.loop-n.invariant in
    record {
      each = c.put.ensures.length ∙ so_far.each;
      found = λ image has are counts zero nid d low.
          let many = read-many image c.args.nodes.now are in
          let within : n < chain_length image = let here = c.loop-n-test.true in omega (arith, many, here) in
          let inside : nid < length c.loop-n.entries.items = let all = table-limit image c.args.entries.now.items has in let each = so_far.each in omega (arith, all, each, low) in
          found-more image n nid _ _ (get_or c.loop-n.entries.items nid d) (get_or c.put.new.entries.items nid d) within zero low
          (ap (λ l. get_or l n false) counts ∙ at_number (is_counting image) (chain_length image) n false within)
          (read-node image c.args.nodes.now n _ are c.loop-n-test.true)
          (c.put.ensures.entries nid d inside)
          (so_far.found image has are counts zero nid d low);
    }

pub returns-clause-found : goal.returns-clause-found
returns-clause-found c = λ image has are counts zero. record {
  count = c.loop-n.invariant.each ∙ table-limit image c.args.entries.now.items has;
  found = λ nid d low.
      let all : c.loop-n.n ≡ chain_length image = let many = read-many image c.args.nodes.now are in omega (arith, many) in
      c.loop-n.invariant.found image has are counts zero nid d low ∙ ap (λ n. found_before image n nid) all ∙ found-all image nid;
}
