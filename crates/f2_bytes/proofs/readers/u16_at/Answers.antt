use Rattle.std.proofs.Common.{◌∙◌}
use Rattle.f2_bytes.proofs.Numbers.{number_at-read}
use Rattle.f2_bytes.proofs.readers.u16_at.Goals as goal

pub returns : goal.returns
returns c = c.read_u16.ensures ∙ number_at-read c.args.b.now c.args.at 2
