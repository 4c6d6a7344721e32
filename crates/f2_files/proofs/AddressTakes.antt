-- What one more slot makes of what is kept of addresses.
use Rattle.std.proofs.Common.{◌≡◌, false, not, List, [], ◌∷◌, ◌++◌, None, sym, ap, subst, ◌∙◌}
use Rattle.std.specs.Prelude.{filter_map}
use Rattle.std.proofs.lemmas.List.{append-nil}
use Rattle.f2_bytes.specs.Bytes.{Image}
use Rattle.f2_bytes.specs.Superblock.{layout, is_main}
use Rattle.f2_files.specs.Addresses.{outside_defect, HasAddresses}
use Rattle.f2_bytes.specs.Check.{is_address, where_true, fails_where, defect_of}
use Rattle.f2_defects.specs.Collected.{Collects}
use Rattle.f2_survey.specs.Slots.{Slot}
use Rattle.f2_files.specs.declared.rule_4_addresses.Addresses.{Addresses}
use Rattle.f2_items.proofs.GrownLists.{optional, filter_map_push}
use Rattle.f2_survey.proofs.OwnerClaims.{claim-none}

-- a slot that names no block gives no defect
pub no_block : (image : Image) (s : Slot) → is_address s.address ≡ false → outside_defect image s ≡ None
no_block image s none = ap (λ b. defect_of 1 s.ino s.k (where_true b (fails_where (not (is_main (layout image) s.address)) s.address (layout image).main))) none

pub take-none : (image : Image) (slots : List Slot) (s : Slot) (a : Addresses) → is_address s.address ≡ false → HasAddresses image slots a → HasAddresses image (slots ++ s ∷ []) a
take-none image slots s a none has = record {
  owners = claim-none image slots s a.owners none has.owners;
  part = has.part;
  outside = subst (Collects a.outside)
      (sym (append-nil (filter_map (outside_defect image) slots))
      ∙ ap (λ o. filter_map (outside_defect image) slots ++ optional o) (sym (no_block image s none))
      ∙ sym (filter_map_push (outside_defect image) slots s)) has.outside;
}
