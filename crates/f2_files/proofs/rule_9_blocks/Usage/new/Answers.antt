use Rattle.std.proofs.Common.{List, length, sym, ap, subst}
use Rattle.std.specs.Prelude.{flat_map}
use Rattle.f2_bytes.specs.Check.{defects_at}
use Rattle.f2_defects.specs.Collected.{Collects}
use Rattle.f2_survey.specs.Parts.{part_in}
use Rattle.f2_survey.specs.Slots.{Slot}
use Rattle.f2_items.specs.Visits.{capped}
use Rattle.f2_items.proofs.FileSlots.{slots_below-none}
use Rattle.f2_survey.proofs.NumberLists.{numbers-none}
use Rattle.f2_files.proofs.rule_9_blocks.Usage.new.Goals as goal

pub returns : goal.returns
returns c = λ image of. record {
  nodes = of;
  part = c.new.ensures.part;
  defects = subst (Collects c.new.result) (sym (ap (flat_map (defects_at (part_in image 9 1))) numbers-none)) c.new.ensures.none;
  used = sym (ap (λ (l : List Slot). capped (length l)) (slots_below-none image));
}
