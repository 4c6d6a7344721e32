-- What is kept of the addresses in slots: the owners of blocks, and which slots name none.
use Rattle.std.specs.Prelude.{◌≡◌, not, List, filter_map, Option}
use Rattle.f2_bytes.specs.Bytes.{Image}
use Rattle.f2_bytes.specs.Superblock.{layout, is_main}
use Rattle.f2_bytes.specs.Check.{Comparison, Defect, is_address, where_true, fails_where, defect_of}
use Rattle.f2_defects.specs.Collected.{Collects}
use Rattle.f2_survey.specs.OwnerTables.{HasOwners}
use Rattle.f2_survey.specs.Slots.{Slot}
use Rattle.f2_files.specs.declared.slots.Slot.{Slot as CodeSlot}
use Rattle.f2_files.specs.declared.rule_4_addresses.Addresses.{Addresses}

-- a slot of the code as one of the format
abbrev pub slot_of : CodeSlot → Slot
slot_of s = record { ino = s.ino; k = s.k; address = s.address; nid = s.nid; place = s.place }

-- the address in a slot has to lie in main
abbrev pub outside_comparison : Image → Slot → Option Comparison
outside_comparison image s = where_true (is_address s.address) (fails_where (not (is_main (layout image) s.address)) s.address (layout image).main)

abbrev pub outside_defect : Image → Slot → Option Defect
outside_defect image s = defect_of 1 s.ino s.k (outside_comparison image s)

-- this is kept of these slots
pub record HasAddresses (image : Image) (slots : List Slot) (a : Addresses) : Type 0 where
  pub owners : HasOwners image slots a.owners
  pub part : a.outside.part ≡ 1
  pub outside : Collects a.outside (filter_map (outside_defect image) slots)
