use Rattle.std.proofs.Common.{sym, ap, subst}
use Rattle.std.specs.Prelude.{flat_map}
use Rattle.f2_files.specs.Addresses.{HasAddresses}
use Rattle.f2_bytes.specs.Check.{defects_at}
use Rattle.f2_defects.specs.Collected.{Collects}
use Rattle.f2_survey.specs.Parts.{part_in}
use Rattle.f2_items.proofs.FileSlots.{slots_below-none}
use Rattle.f2_survey.proofs.NumberLists.{numbers-none}
use Rattle.f2_files.proofs.kept_of_files.Kept.new.Goals as goal

pub returns : goal.returns
returns c = λ image known order is counts first. record {
  addresses = subst (λ slots. HasAddresses image slots c.in_ok-new.field-0) (sym (slots_below-none image)) (c.in_ok-new.ensures image known order is);
  usage = c.new-2.ensures image counts;
  extents = c.new-3.ensures image;
  attributes = record {
    part = c.new-4.ensures.part;
    defects = subst (Collects c.new-4.result) (sym (ap (flat_map (defects_at (part_in image 12 1))) numbers-none)) c.new-4.ensures.none;
  };
  directories = λ sound. first;
}
