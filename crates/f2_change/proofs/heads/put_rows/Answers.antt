use Rattle.std.proofs.Common.{get_or, ◌∙◌}
use Rattle.f2_change.proofs.HeadRows.{puts-none, puts-more, fit_at, get_or-any}
use Rattle.f2_change.proofs.heads.put_rows.Goals as goal

pub loop-w-init : goal.loop-w-init
loop-w-init c = puts-none c.args.rows.now c.args.b.now

pub set_row-requires : goal.set_row-requires
set_row-requires c =
    let fits = fit_at c.args.rows.now c.loop-w.w-index (0, 0) c.requires.fits c.loop-w-test.true in
    record { size = c.loop-w.invariant.size ∙ c.requires.size; row = fits.0; fits = fits.1 }

pub loop-w-preserved : goal.loop-w-preserved
loop-w-preserved c =
    let rows = c.args.rows.now in
    let i = c.loop-w.w-index in
    puts-more rows i (get_or rows i (0, 0)) c.args.b.now c.loop-w.b c.set_row.new.b c.loop-w-test.true (get_or-any rows i (0, 0) c.loop-w-test.true) (fit_at rows i (0, 0) c.requires.fits c.loop-w-test.true) c.requires.size c.loop-w.invariant
    c.set_row.ensures.bytes c.set_row.ensures.read
