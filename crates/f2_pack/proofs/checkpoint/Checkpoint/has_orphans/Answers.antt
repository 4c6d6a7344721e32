use Rattle.std.proofs.Common.{◌∙◌, refl}
use Rattle.f2_bytes.specs.Checkpoint.{ckpt_flags}
use Rattle.f2_pack.proofs.FlagBits.{flag_is_bit}
use Rattle.f2_pack.proofs.checkpoint.Checkpoint.has_orphans.Goals as goal

pub returns : goal.returns
returns c = c.has.ensures ∙ flag_is_bit (ckpt_flags c.args.self.now) 1 1 refl refl
