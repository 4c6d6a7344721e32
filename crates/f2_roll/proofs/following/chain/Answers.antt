use Rattle.std.proofs.Common.{ℕ, ◌≡◌, ◌+◌, ◌∙◌, Bool, true, ◌&&◌, List, [], ◌∷◌, ◌++◌, length, ap, sym, arith, rules}
use Rattle.std.specs.List.{list_all}
use Rattle.std.proofs.lemmas.List.{length-append}
use Rattle.std.proofs.lemmas.List.Folds.{list_all-append}
use Rattle.f2_disk.proofs.Runs.{reads_then, goes_then, reads_same}
use Rattle.f2_bytes.specs.Superblock.{is_main}
use Rattle.f2_roll.proofs.Walks.{walk-start, walk-more, walk-ends, walk-full}
use Rattle.f2_roll.proofs.following.chain.Goals as goal

all-more : (test : ℕ → Bool) (xs : List ℕ) (x : ℕ) → list_all test xs ≡ true → test x ≡ true → list_all test (xs ++ x ∷ []) ≡ true
all-more test xs x all here = list_all-append test xs (x ∷ []) ∙ λ i. all i && (here i && true)

pub loop-init : goal.loop-init
loop-init g c = record {
  reads = reads_same (g.D.Disk.state c.args.d.now);
  goes = search rules;
  walk = λ image told l_is head_is. walk-start image c.args.l.now c.args.head.now c.new-walked.result c.first_address-address.result l_is head_is c.new-walked.ensures c.first_address-address.ensures;
  within = ap (list_all (is_main c.args.l.now)) c.new-walked.ensures;
  count = ap length c.new-walked.ensures;
}

pub returns-in-None-clause-chain : goal.returns-in-None-clause-chain
returns-in-None-clause-chain g c = λ image told l_is head_is.
    walk-ends image c.args.l.now c.args.head.now c.loop.counter c.loop.walked c.loop.address c.main_address.result c.chain.result l_is head_is (c.loop.invariant.walk image told l_is head_is)
    (sym c.in-None.is ∙ c.in_ok-link.ensures.link image (c.loop.invariant.reads.told ∙ told)) (omega arith) c.main_address.ensures.address c.chain.ensures

pub returns-clause-chain : goal.returns-clause-chain
returns-clause-chain g c = λ image told l_is head_is.
    walk-full image c.args.l.now c.loop.counter c.loop.walked c.loop.address c.main_address-2.result c.chain-2.result l_is (c.loop.invariant.walk image told l_is head_is)
    (omega arith) c.main_address-2.ensures.address c.chain-2.ensures

pub loop-preserved : goal.loop-preserved
loop-preserved g c = let main = rw c.in-Some.is at c.in_ok-link.ensures.within in record {
  reads = reads_then c.loop.invariant.goes.later c.loop.invariant.reads c.in_ok-link.ensures.reads;
  goes = goes_then c.loop.invariant.goes c.in_ok-link.ensures.goes;
  walk = λ image told l_is head_is.
      walk-more image c.args.l.now c.args.head.now c.loop.counter c.loop.walked c.loop.address c.in-Some.link c.in_ok-walked-in-Some.walked c.from-address.result l_is head_is (c.loop.invariant.walk image told l_is head_is)
      (sym c.in-Some.is ∙ c.in_ok-link.ensures.link image (c.loop.invariant.reads.told ∙ told)) c.in_ok-walked-in-Some.ensures.done c.from-address.ensures;
  within = ap (list_all (is_main c.args.l.now)) c.in_ok-walked-in-Some.ensures.done ∙ all-more (is_main c.args.l.now) c.loop.walked c.in-Some.link.at c.loop.invariant.within main;
  count = ap length c.in_ok-walked-in-Some.ensures.done ∙ length-append c.loop.walked (c.in-Some.link.at ∷ []) ∙ ap (λ n. n + 1) c.loop.invariant.count;
}
