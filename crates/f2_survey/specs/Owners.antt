-- Which node each block of the main area belongs to.
use Rattle.std.specs.Prelude.{ℕ, Option, Some, None}
use Rattle.f2_bytes.specs.Bytes.{Image}
use Rattle.f2_bytes.specs.Check.{slot_with, nid_with, spot_of, nid_of_spot}
use Rattle.f2_survey.specs.declared.owners.Owner.{Owner}
use Rattle.f2_survey.specs.declared.owners.Owner.TheVariants.{Nobody, Node, Slot}

-- the owner of a block that no slot names, and of one that this slot names
abbrev pub node_owner : Option ℕ → Owner
node_owner None = Nobody
node_owner (Some nid) = Node nid

abbrev pub slot_owner : Image → Option ℕ → Option (ℕ × ℕ) → Owner
slot_owner image nid None = node_owner nid
slot_owner image nid (Some place) = Slot (nid_of_spot image place) (spot_of image place).1

-- the owner of the block at an address: the node that has it in a slot, or that stands there
unfoldable pub owner_of : Image → ℕ → Owner
owner_of image address = slot_owner image (nid_with image address) (slot_with image address)
