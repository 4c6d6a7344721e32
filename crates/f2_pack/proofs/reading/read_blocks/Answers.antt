use Rattle.std.proofs.Common.{◌≡◌, ℕ, ◌+◌, ◌++◌, ◌∷◌, [], map, length, ap, ◌∙◌, sym, arith, length-append}
use Rattle.std.specs.List.{range_with_len}
use Rattle.std.proofs.lemmas.List.FromFn.{map-range_with_len_more}
use Rattle.f2_bytes.specs.Bytes.{block_at}
use Rattle.f2_disk.proofs.Runs.{reads_then, goes_then}
use Rattle.f2_pack.proofs.reading.read_blocks.Goals as goal

pub loop-k-preserved : goal.loop-k-preserved
loop-k-preserved g c =
    let so_far = c.loop-k.invariant in
    let start = c.args.start in
    let k = c.loop-k.k in
    record {
      reads = reads_then so_far.goes.later so_far.reads c.read.ensures.reads;
      goes = goes_then so_far.goes c.read.ensures.goes;
      count = ap length c.in_ok-push.ensures.items ∙ omega (arith, length-append c.loop-k.blocks.items (c.read.new.into ∷ []), so_far.count);
      blocks = λ image told.
          let block = λ (j : ℕ). block_at image (c.args.pack + j) in
          let read : c.read.new.into ≡ block (start + k) = c.in_ok-read.ensures.block image (so_far.reads.told ∙ told) ∙ ap (block_at image) (omega arith) in
          c.in_ok-push.ensures.items ∙ (λ i. so_far.blocks image told i ++ read i ∷ []) ∙ sym (map-range_with_len_more block start k (start + k) (omega arith));
    }

pub returns-clause-blocks : goal.returns-clause-blocks
returns-clause-blocks g c = λ image told.
    let all : c.loop-k.k ≡ c.args.count = omega arith in
    c.loop-k.invariant.blocks image told ∙ ap (λ n. map (λ j. block_at image (c.args.pack + j)) (range_with_len c.args.start n)) all
