use Rattle.std.proofs.Common.{◌≡◌, ℕ, ◌+◌, ◌-◌, ◌++◌, ◌∷◌, [], ap, ◌∙◌, sym, arith}
use Rattle.std.specs.Prelude.{flat_map}
use Rattle.std.specs.List.{range_with_len}
use Rattle.std.proofs.lemmas.List.{flat_map_more}
use Rattle.f2_bytes.specs.Bytes.{block_at}
use Rattle.f2_bytes.specs.Checkpoint.{orphans_in, has_orphans, pack_start_sum}
use Rattle.f2_disk.proofs.Runs.{reads_then, goes_then}
use Rattle.f2_pack.proofs.Kept.{range_more, when_true}
use Rattle.f2_pack.proofs.reading.read_orphans.Goals as goal

pub loop-j-preserved : goal.loop-j-preserved
loop-j-preserved g c =
    let so_far = c.loop-j.invariant in
    let j = c.loop-j.j in
    record {
      first = omega arith;
      reads = reads_then so_far.goes.later so_far.reads c.read.ensures.reads;
      goes = goes_then so_far.goes c.read.ensures.goes;
      orphans = λ image told.
          let here = λ (k : ℕ). orphans_in (block_at image (c.args.pack + k)) in
          let count : j + 1 - 1 ≡ j - 1 + 1 = omega (arith, so_far.first) in
          let more : range_with_len 1 (j + 1 - 1) ≡ range_with_len 1 (j - 1) ++ j ∷ [] = ap (range_with_len 1) count ∙ range_more 1 (j - 1) j (omega (arith, so_far.first)) in
          let read : orphans_in c.read.new.into ≡ here j = ap orphans_in (c.in_ok-read.ensures.block image (so_far.reads.told ∙ told)) in
          c.in_ok-push_orphans.ensures
          ∙ (λ i. so_far.orphans image told i ++ read i)
          ∙ flat_map_more here [] (range_with_len 1 (j - 1)) j
          ∙ ap (flat_map here) (sym more);
    }

pub returns-clause-orphans : goal.returns-clause-orphans
returns-clause-orphans g c = λ image told.
    let here = λ (k : ℕ). orphans_in (block_at image (c.args.pack + k)) in
    let head = c.args.head.now in
    let all : c.loop-j.j - 1 ≡ pack_start_sum head - 1 = omega (arith, c.field-j-end.ensures.value, c.loop-j.invariant.first, c.requires.first) in
    c.loop-j.invariant.orphans image told
    ∙ ap (λ n. flat_map here (range_with_len 1 n)) all
    ∙ sym (when_true (has_orphans head) (flat_map here (range_with_len 1 (pack_start_sum head - 1))) [] (sym c.has_orphans.ensures ∙ c.if-not-has_orphans.false))
