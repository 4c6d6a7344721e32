-- What is kept of addresses where some block was claimed twice, to count exactly how often.
use Rattle.std.specs.Prelude.{◌≡◌, ℕ, ◌+◌, true, ◌==◌, List, ◌++◌, map, filter, filter_map, count_by, Option, option_map}
use Rattle.f2_bytes.specs.Bytes.{Image, numbers_below}
use Rattle.f2_bytes.specs.NodeAddressTable.{nat}
use Rattle.f2_bytes.specs.Check.{Comparison, Defect, nids, is_address, slots_with, nodes_with, where_true, same, defect_of}
use Rattle.f2_defects.specs.Collected.{Collects}
use Rattle.f2_survey.specs.Slots.{Slot}
use Rattle.f2_files.specs.declared.repeated_claims.Claims.{Claims}
use Rattle.f2_files.specs.declared.repeated_claims.Repeats.{Repeats}

-- the addresses of the nodes below a number, and those of blocks in slots
abbrev pub node_address : Image → ℕ → Option ℕ
node_address image nid = option_map (λ e. e.address) (nat image nid)

abbrev pub node_addresses : Image → ℕ → List ℕ
node_addresses image n = filter_map (node_address image) (numbers_below n)

abbrev pub slot_addresses : List Slot → List ℕ
slot_addresses slots = filter is_address (map (λ s. s.address) slots)

-- these are the addresses of all nodes and of these slots
unfoldable pub HasClaims : Image → List Slot → Claims → Type 0
HasClaims image slots c = c.addresses.items ≡ node_addresses image (nids image) ++ slot_addresses slots

-- just one slot or node has the address in a slot
abbrev pub repeat_comparison : Image → Slot → Option Comparison
repeat_comparison image s = where_true (is_address s.address) (same (slots_with image s.address + nodes_with image s.address) 1)

abbrev pub repeat_defect : Image → Slot → Option Defect
repeat_defect image s = defect_of 2 s.ino s.k (repeat_comparison image s)

-- the addresses say how many slots and nodes of the image have each
pub record CountsAddresses (image : Image) (addresses : List ℕ) : Type 0 where
  pub counts : (a : ℕ) → is_address a ≡ true → count_by (λ x. x == a) addresses ≡ slots_with image a + nodes_with image a

-- the addresses in these slots were compared
pub record HasRepeats (image : Image) (slots : List Slot) (r : Repeats) : Type 0 where
  pub addresses : CountsAddresses image r.addresses.items
  pub part : r.defects.part ≡ 2
  pub defects : Collects r.defects (filter_map (repeat_defect image) slots)
