use Rattle.std.proofs.Common.{◌≡◌, ◌≤◌, ◌*◌, min, map, length, All, sym, subst, ap, ◌∙◌, rules, arith}
use Rattle.std.proofs.lemmas.List.Elements.{All-nil}
use Rattle.f2_bytes.specs.Bytes.{numbers_below}
use Rattle.f2_bytes.specs.Journal.{FitsSitEntry}
use Rattle.f2_disk.proofs.Runs.{reads_then, goes_then}
use Rattle.f2_sum.specs.Records.{sit_entry}
use Rattle.f2_tables.specs.Tables.{sit_in, sit_over}
use Rattle.f2_tables.proofs.Appends.{block-more, block-none}
use Rattle.f2_tables.proofs.Walk.{sit_over_in}
use Rattle.f2_tables.proofs.sit.Sit.entries.Goals as goal

pub loop-k-init : goal.loop-k-init
loop-k-init g c = record {
  reads = search rules;
  goes = search rules;
  entries = λ image told.
      block-none sit_entry (sit_in c.args.self.now image) c.in_ok-entries.entries.items c.in_ok-entries.ensures.items
      ∙ ap (λ n. map (sit_in c.args.self.now image) (numbers_below n)) (omega arith);
  length = omega (arith, ap length c.in_ok-entries.ensures.items);
  fits = subst (All (λ e. FitsSitEntry (sit_entry e))) (sym c.in_ok-entries.ensures.items) (All-nil (λ e. FitsSitEntry (sit_entry e)));
}

pub loop-k-preserved : goal.loop-k-preserved
loop-k-preserved g c =
    let so_far = c.loop-k.invariant in
    let t = c.args.self.now in
    let k = c.loop-k.k in
    let segments = c.self.inside.layout.segments in
    let inside : 55 * c.loop-k.k ≤ c.self.inside.layout.segments = omega (arith, c.div_ceil-k-end.ensures, c.loop-k-test.true) in
    let first : min segments (55 * k) ≡ 55 * k = omega (arith, inside) in
    record {
      reads = reads_then so_far.goes.later so_far.reads c.in_ok-block.ensures.reads;
      goes = goes_then so_far.goes c.in_ok-block.ensures.goes;
      entries = λ image told.
          block-more sit_entry (sit_in t image) (sit_over t c.in_ok-block.block) (55 * k) c.min-end.result c.loop-k.entries.items c.push_entries.new.into.items (omega (arith, inside, c.min-end.ensures))
          (so_far.entries image told ∙ ap (λ n. map (sit_in t image) (numbers_below n)) first) c.in_ok-push_entries.ensures.entries
          (λ m low high. sit_over_in t image c.in_ok-block.block k m (c.in_ok-block.ensures.block image (so_far.reads.told ∙ told)) (omega (arith, low, high, c.min-end.ensures)))
          ∙ ap (λ n. map (sit_in t image) (numbers_below n)) c.min-end.ensures;
      length = omega (arith, so_far.length, c.in_ok-push_entries.ensures.length, c.min-end.ensures, inside);
      fits = c.in_ok-push_entries.ensures.fits so_far.fits;
    }
