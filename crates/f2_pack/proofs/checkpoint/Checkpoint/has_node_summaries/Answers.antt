use Rattle.std.proofs.Common.{◌≡◌, ◌∙◌, refl, sym, ap, false}
use Rattle.std.specs.Prelude.{◌||◌}
use Rattle.f2_bytes.specs.Checkpoint.{ckpt_flags, is_umount, is_fastboot}
use Rattle.f2_pack.proofs.FlagBits.{flag_is_bit}
use Rattle.f2_pack.proofs.checkpoint.Checkpoint.has_node_summaries.Goals as goal

pub returns-else-has : goal.returns-else-has
returns-else-has c =
    let head = c.args.self.now in
    let mounted : is_umount head ≡ false = sym (flag_is_bit (ckpt_flags head) 0 0 refl refl) ∙ sym c.has.ensures ∙ c.if-has.false in
    c.has-else-has.ensures ∙ flag_is_bit (ckpt_flags head) 5 31 refl refl ∙ ap (λ t. t || is_fastboot head) (sym mounted)
