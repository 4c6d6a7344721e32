use Rattle.std.proofs.Common.{◌-◌, ◌++◌, map, All, ap, sym, subst, ◌∙◌, arith}
use Rattle.std.specs.List.{range_with_len}
use Rattle.std.proofs.lemmas.List.Elements.{All-push}
use Rattle.f2_bytes.specs.Journal.{FitsSitEntry}
use Rattle.f2_sum.specs.Records.{sit_entry}
use Rattle.f2_tables.specs.Tables.{sit_over}
use Rattle.f2_tables.proofs.Appends.{entry-more, length-more}
use Rattle.f2_tables.proofs.sit.Sit.push_entries.Goals as goal

pub loop-segno-preserved : goal.loop-segno-preserved
loop-segno-preserved c =
    let so_far = c.loop-segno.invariant in
    let pushed = c.in_ok-push.ensures.items in
    record {
      after = omega arith;
      entries = entry-more sit_entry (sit_over c.args.self.now c.args.block.now) (map sit_entry c.args.into.now.items) c.loop-segno.into.items c.push.new.self.items c.entry.result c.args.from c.loop-segno.segno so_far.after so_far.entries pushed c.entry.ensures.entry;
      fits = λ before. subst (All (λ e. FitsSitEntry (sit_entry e))) (sym pushed) (All-push (λ e. FitsSitEntry (sit_entry e)) c.loop-segno.into.items c.entry.result (so_far.fits before) c.entry.ensures.fits);
      length = omega (arith, length-more c.loop-segno.into.items c.push.new.self.items c.entry.result pushed);
    }

pub returns-clause-entries : goal.returns-clause-entries
returns-clause-entries c =
    c.loop-segno.invariant.entries
    ∙ ap (λ n. map sit_entry c.args.into.now.items ++ map (sit_over c.args.self.now c.args.block.now) (range_with_len c.args.from (n - c.args.from))) (omega arith)
