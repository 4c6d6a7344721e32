use Rattle.std.proofs.Common.{◌≡◌, ℕ, ◌+◌, List, ap, refl, ◌∙◌, arith}
use Rattle.std.specs.Map.{lookup}
use Rattle.std.specs.Option.{option_map}
use Rattle.std.specs.Ordering.{nat_cmp}
use Rattle.std.specs.BTreeMap.{is_at}
use Rattle.f2_bytes.specs.Buckets.{level_of_block}
use Rattle.f2_dent.specs.Places.{block_in}
use Rattle.f2_dent.specs.declared.page.Page.{Page}
use Rattle.std.specs.Prelude.{replicate}
use Rattle.f2_dent.proofs.SoFar.{so_far_none}
use Rattle.f2_dent.proofs.Lows.{full_none, zeros_at}
use Rattle.f2_dent.proofs.Finish.{larger_is, blocks_small, level_small, full_at, placed_at, built_of}
use Rattle.f2_dent.proofs.building.build.Goals as goal

pub loop-i-init : goal.loop-i-init
loop-i-init c = record {
  so_far = so_far_none c.args.levels (block_in c.new-pages.result) (λ k. ap (λ (es : List (ℕ × Page)). option_map (λ (p : Page). p.block) (lookup (is_at (nat_cmp k)) es)) c.new-pages.ensures.empty);
  full = full_none (block_in c.new-pages.result) (replicate 33 0) (λ slots. zeros_at 33 slots);
}

pub level_of-requires : goal.level_of-requires
level_of-requires c =
    let placed = rw c.in-Ok-Some.field-0-is at c.in-Ok-Some.ensures.places in
    omega (arith, placed.within, blocks_small c.args.levels c.requires.levels)

pub overflow_add-level_of : goal.overflow_add-level_of
overflow_add-level_of c =
    let level : c.level_of.result.0 ≡ level_of_block 0 c.in-Ok-Some.block = ap (λ (r : ℕ × ℕ). r.0) c.level_of.ensures in
    omega (arith, level, level_small 0 c.in-Ok-Some.block)

pub overflow_add-block : goal.overflow_add-block
overflow_add-block c =
    let placed = rw c.in-Ok-Some.field-0-is at c.in-Ok-Some.ensures.places in
    omega (arith, placed.within, blocks_small c.args.levels c.requires.levels)

pub returns-in-Ok-None-clause-full : goal.returns-in-Ok-None-clause-full
returns-in-Ok-None-clause-full c =
    let l = c.loop-i in
    full_at c.args.levels c.args.entries.now l.i c.index-entries-i.result (block_in l.pages) l.depth l.end c.loop-i-test.true c.index-entries-i.is l.invariant.so_far (rw c.in-Ok-None.field-0-is at c.in-Ok-None.ensures.places)

pub loop-i-preserved : goal.loop-i-preserved
loop-i-preserved c =
    let l = c.loop-i in
    record {
      so_far = placed_at c.args.levels c.args.entries.now l.i c.index-entries-i.result (block_in l.pages) (block_in c.place_entry.new.pages) l.depth l.end c.in-Ok-Some.block c.level_of.result.0 c.max-depth.result c.max-end.result
          c.loop-i-test.true c.index-entries-i.is l.invariant.so_far (rw c.in-Ok-Some.field-0-is at c.in-Ok-Some.ensures.places) (ap (λ (r : ℕ × ℕ). r.0) c.level_of.ensures)
          (c.max-depth.ensures ∙ larger_is l.depth (c.level_of.result.0 + 1)) (c.max-end.ensures ∙ larger_is l.end (c.in-Ok-Some.block + 1));
      full = c.in-Ok-Some.ensures.full;
    }

pub overflow_mul-result : goal.overflow_mul-result
overflow_mul-result c = omega (arith, c.loop-i.invariant.so_far.end_low, blocks_small c.args.levels c.requires.levels)

pub returns-in-Ok-clause-built : goal.returns-in-Ok-clause-built
returns-in-Ok-clause-built c =
    let l = c.loop-i in
    built_of c.args.levels c.args.entries.now l.i l.pages l.depth l.end _ c.loop-i-test.false l.invariant.so_far c.in-Ok.ensures.ordered c.in-Ok.ensures.found c.in-Ok.ensures.items refl refl
