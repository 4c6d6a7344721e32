use Rattle.std.proofs.Common.{refl, sym, subst, ◌∙◌}
use Rattle.std.specs.Prelude.{filter_map}
use Rattle.std.proofs.lemmas.Result.{on_ok_weaker}
use Rattle.f2_files.specs.Addresses.{slot_of, outside_defect}
use Rattle.f2_defects.specs.Collected.{Collects}
use Rattle.f2_survey.specs.OwnerTables.{OwnerTable, HasOwners}
use Rattle.f2_files.proofs.AddressTakes.{take-none}
use Rattle.f2_items.proofs.GrownLists.{filter_map_push}
use Rattle.f2_files.proofs.rule_4_addresses.Addresses.take.Goals as goal

pub returns-then-not-is_address-clause-takes : goal.returns-then-not-is_address-clause-takes
returns-then-not-is_address-clause-takes c = λ image slots has.
    take-none image slots (slot_of c.args.slot.now) c.args.self.now (sym c.is_address.ensures ∙ c.if-not-is_address.true) has

pub returns-clause-takes : goal.returns-clause-takes
returns-clause-takes c = on_ok_weaker c.claim.result (λ claimed image slots has.
    let s = slot_of c.args.slot.now in
    let names = sym c.is_address.ensures ∙ c.if-not-is_address.false in
    let looked = c.in_ok-look.ensures in
    record {
      owners = claimed image slots s refl refl refl names (subst (λ (o : OwnerTable). HasOwners image slots o) (sym looked.owners) has.owners);
      part = looked.part ∙ has.part;
      outside = subst (Collects c.look.new.self.outside) (sym (filter_map_push (outside_defect image) slots s))
          (looked.outside image (filter_map (outside_defect image) slots) has.owners.lies has.part names has.outside);
    }) c.claim.ensures.claims
