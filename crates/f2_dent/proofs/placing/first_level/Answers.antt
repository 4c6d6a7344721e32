use Rattle.std.proofs.Common.{◌≡◌, ℕ, ◌<◌, length, ap, arith}
use Rattle.f2_bytes.specs.Buckets.{level_start, level_of_block}
use Rattle.f2_dent.specs.Places.{block_in}
use Rattle.f2_dent.proofs.Lows.{full_set, lower_lacks, level_begins}
use Rattle.f2_dent.proofs.placing.first_level.Goals as goal

pub returns-clause-full : goal.returns-clause-full
returns-clause-full c =
    let inside : c.args.slots < length c.args.full.now = omega (arith, c.requires.few) in
    full_set (block_in c.args.pages.now) c.args.full.now c.args.slots c.first_with_run-first.result inside c.requires.full c.first_with_run-first.ensures.lacks

pub returns-clause-lower : goal.returns-clause-lower
returns-clause-lower c = λ k below.
    let level : c.level_of.result.0 ≡ level_of_block 0 c.first_with_run-first.result = ap (λ (r : ℕ × ℕ). r.0) c.level_of.ensures in
    let same : level_start c.level_of.result.0 0 ≡ level_start (level_of_block 0 c.first_with_run-first.result) 0 = ap (λ l. level_start l 0) level in
    lower_lacks (block_in c.args.pages.now) c.args.full.now c.args.slots c.first_with_run-first.result k c.requires.full c.first_with_run-first.ensures.lacks
    (omega (arith, below, same, level_begins c.first_with_run-first.result))
