use Rattle.std.proofs.Common.{sym}
use Rattle.f2_bytes.proofs.Numbers.{number_at-byte}
use Rattle.f2_bytes.proofs.readers.u8_at.Goals as goal

pub returns : goal.returns
returns c = sym (number_at-byte c.args.b.now c.args.at)
