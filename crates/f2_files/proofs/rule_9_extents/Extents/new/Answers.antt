use Rattle.std.proofs.Common.{sym, ap, subst}
use Rattle.std.specs.Prelude.{flat_map}
use Rattle.f2_bytes.specs.Check.{defects_at}
use Rattle.f2_defects.specs.Collected.{Collects}
use Rattle.f2_survey.specs.Parts.{part_in}
use Rattle.f2_survey.proofs.NumberLists.{numbers-none}
use Rattle.f2_files.proofs.rule_9_extents.Extents.new.Goals as goal

pub returns : goal.returns
returns c = λ image. record {
  part = c.new.ensures.part;
  defects = subst (Collects c.new.result) (sym (ap (flat_map (defects_at (part_in image 9 3))) numbers-none)) c.new.ensures.none;
}
