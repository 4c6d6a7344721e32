use Rattle.std.proofs.Common.{◌<◌, ◌^◌, ℕ, subst}
use Rattle.f2_pack.proofs.Rows.{data_offset-width}
use Rattle.f2_pack.proofs.checkpoint.Checkpoint.offset.Goals as goal

pub returns-then-t-lt3-clause-fits : goal.returns-then-t-lt3-clause-fits
returns-then-t-lt3-clause-fits c = subst (λ (n : ℕ). c.field.result < 256 ^ n) (data_offset-width c.args.t c.if-t-lt3.true) c.field.ensures.fits
