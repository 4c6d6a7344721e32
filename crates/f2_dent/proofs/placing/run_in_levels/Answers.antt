use Rattle.std.proofs.Common.{◌≡◌, ℕ, ◌-◌, refl, ap, ◌∙◌, arith}
use Rattle.f2_bytes.specs.Buckets.{bucket_start, bucket_blocks}
use Rattle.f2_dent.specs.Places.{block_in, place_at}
use Rattle.f2_dent.proofs.LevelStarts.{bucket_small}
use Rattle.f2_dent.proofs.Places.{levels_none, levels_found, levels_next, levels_all}
use Rattle.f2_dent.proofs.placing.run_in_levels.Goals as goal

pub loop-level-init : goal.loop-level-init
loop-level-init c = record { same = λ k. refl; none = levels_none (block_in c.args.pages.now) c.args.hash c.args.slots c.args.from (c.args.from - c.args.from) (omega arith) }

pub run_in_blocks-requires-clause-fits : goal.run_in_blocks-requires-clause-fits
run_in_blocks-requires-clause-fits c =
    let first : c.bucket_range-first.result.0 ≡ bucket_start c.loop-level.level 0 c.args.hash = ap (λ (r : ℕ × ℕ). r.0) c.bucket_range-first.ensures in
    let blocks : c.bucket_range-first.result.1 ≡ bucket_blocks c.loop-level.level = ap (λ (r : ℕ × ℕ). r.1) c.bucket_range-first.ensures in
    omega (arith, first, blocks, bucket_small c.loop-level.level c.args.levels c.args.hash c.loop-level-test.true c.requires.levels)

pub returns-in-Some-clause-first : goal.returns-in-Some-clause-first
returns-in-Some-clause-first c =
    let l = c.loop-level in
    levels_found (block_in c.args.pages.now) (block_in l.pages) c.args.hash c.args.slots c.args.from l.level c.bucket_range-first.result.0 c.bucket_range-first.result.1
    l.invariant.same l.auto.level l.invariant.none c.bucket_range-first.ensures (c.args.levels - c.args.from) (place_at c.args.slots c.in-Some.place) (omega (arith, c.loop-level-test.true, l.auto.level)) c.in-Some.ensures.first

pub loop-level-preserved : goal.loop-level-preserved
loop-level-preserved c =
    let l = c.loop-level in
    record {
      same = λ k. c.run_in_blocks.ensures.same k ∙ l.invariant.same k;
      none = levels_next (block_in c.args.pages.now) (block_in l.pages) c.args.hash c.args.slots c.args.from l.level c.bucket_range-first.result.0 c.bucket_range-first.result.1
          l.invariant.same l.auto.level l.invariant.none c.bucket_range-first.ensures c.in-None.ensures.first;
    }

pub returns-clause-first : goal.returns-clause-first
returns-clause-first c =
    let l = c.loop-level in
    levels_all (block_in c.args.pages.now) c.args.hash c.args.slots c.args.from l.level c.args.levels l.auto.level-end c.loop-level-test.false l.invariant.none
