use Rattle.std.proofs.Common.{sym, ap, ◌∙◌, subst}
use Rattle.std.proofs.lemmas.Result.{IfOk-weaker}
use Rattle.std.specs.Prelude.{bit_and}
use Rattle.f2_bytes.specs.Checkpoint.{ckpt_flags}
use Rattle.f2_bytes.specs.Check.{part_defects, same, single}
use Rattle.f2_defects.specs.Collected.{Collects}
use Rattle.f2_areas.proofs.CheckpointParts.{flag_part}
use Rattle.f2_pack.specs.Held.{Held}
use Rattle.f2_view.proofs.TableReadings.{own_head}
use Rattle.f2_areas.proofs.rule_2_checkpoint.flag_defects.Goals as goal

pub returns : goal.returns
returns c =
    IfOk-weaker c.single_defects.result _ _
    (λ found collects image of.
    let head = c.head.ensures.value ∙ ap (λ (h : Held). h.head) c.chosen.ensures ∙ own_head image c.args.m.now of in
    let flags = c.field-flags.ensures.value ∙ ap ckpt_flags head in
    subst (Collects found) (ap (λ n. part_defects (single 3 (same (bit_and n 0x1018) 0))) flags ∙ sym (flag_part image)) collects)
    c.single_defects.ensures
