-- Where nodes stand after roll-forward, and which blocks they use.
use Rattle.std.specs.Prelude.{◌≡◌, ℕ, ◌<◌, Bool, false, not, ◌||◌, ◌&&◌, ◌==◌, nat_le, if◌then◌else◌, List, length, get_or, map, Option, Some, None}
use Rattle.std.specs.List.{list_any}
use Rattle.std.specs.Option.{option_map_or}
use Rattle.f2_bytes.specs.Bytes.{Image, numbers_below}
use Rattle.f2_bytes.specs.NodeAddressTable.{first_nid, nid_limit, nat, image_nat_entry}
use Rattle.f2_bytes.specs.RollForward.{NodePlace, chain_address, chain_length, found_place, node_block}
use Rattle.f2_bytes.specs.Superblock.{layout}
use Rattle.f2_bytes.specs.Support.{has_slot_word, is_chain_block}
use Rattle.f2_free.specs.declared.chain_reading.ChainNode.{ChainNode}
use Rattle.f2_sum.specs.Records.{nat_entry}
use Rattle.f2_sum.specs.declared.records.NatEntry.{NatEntry}

-- these are the entries of the node address table of the image
abbrev pub HasTable : Image → List NatEntry → Type 0
HasTable image entries = map nat_entry entries ≡ map (image_nat_entry image) (numbers_below (nid_limit (layout image)))

-- where an entry says that the node of this number stands
abbrev pub place_said : ℕ → NatEntry → Option NodePlace
place_said nid e = if nat_le first_nid nid && not (e.addr == 0) then Some (record { ino = e.ino; address = e.addr }) else None

-- the entries say where each node stands after roll-forward
pub record HasFound (image : Image) (entries : List NatEntry) : Type 0 where
  pub count : length entries ≡ nid_limit (layout image)
  pub found : (nid : ℕ) (d : NatEntry) → nid < nid_limit (layout image) → place_said nid (get_or entries nid d) ≡ found_place image nid

-- the entry of a node that stands in the chain
abbrev pub entry_of : ChainNode → NatEntry
entry_of node = record { version = 0; ino = node.ino; addr = node.address }

-- no node of the chain stands at address 0, which says that there is none
abbrev pub IsOffZero : Image → Type 0
IsOffZero image = (n : ℕ) → n < chain_length image → (chain_address image n == 0) ≡ false

-- the table has the node at this address
abbrev pub is_in_table : Image → ℕ → ℕ → Bool
is_in_table image nid address = option_map_or (λ e. e.address == address) (nat image nid) false

-- after roll-forward it stands there, or has the address in a slot
abbrev pub is_found_at : Image → ℕ → ℕ → Bool
is_found_at image nid address = option_map_or (λ at. at.address == address) (found_place image nid) false

abbrev pub has_in_slot : Image → ℕ → ℕ → Bool
has_in_slot image nid address = option_map_or (λ b. has_slot_word b address) (node_block image nid) false

abbrev pub uses : Image → ℕ → ℕ → Bool
uses image nid address = is_found_at image nid address || has_in_slot image nid address

-- some node does; the table or the chain has a block there; or one of both
abbrev pub some_uses : Image → ℕ → Bool
some_uses image address = list_any (λ nid. uses image nid address) (numbers_below (nid_limit (layout image)))

abbrev pub some_in_table : Image → ℕ → Bool
some_in_table image address = list_any (λ nid. is_in_table image nid address) (numbers_below (nid_limit (layout image)))

abbrev pub stands_at : Image → ℕ → Bool
stands_at image address = some_in_table image address || is_chain_block image address

abbrev pub is_used : Image → ℕ → Bool
is_used image address = stands_at image address || some_uses image address
