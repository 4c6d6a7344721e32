-- What is kept of the owners of main blocks, and when it is right.
use Rattle.std.specs.Prelude.{◌≡◌, ◌⊎◌, ℕ, ◌+◌, ◌-◌, ◌*◌, ◌/◌, ◌%◌, ◌≤◌, Bool, true, false, ◌&&◌, ◌==◌, nat_le, nat_lt, List, [], length, get_or, find, count_by, Option, Some, None}
use Rattle.std.specs.Option.{option_map_or}
use Rattle.f2_bytes.specs.declared.layout.Layout.{Layout}
use Rattle.f2_bytes.specs.Bytes.{Image}
use Rattle.f2_bytes.specs.Journal.{NatEntry}
use Rattle.f2_bytes.specs.Superblock.{layout, is_main, IsInOrder}
use Rattle.f2_bytes.specs.Check.{is_address, nid_with, nodes_with}
use Rattle.f2_survey.specs.Owners.{node_owner, owner_of}
use Rattle.f2_survey.specs.Slots.{Slot}
use Rattle.f2_survey.specs.declared.owners.Owner.{Owner}
use Rattle.f2_survey.specs.declared.owners.Owner.TheVariants as owner
use Rattle.f2_survey.specs.declared.owners.Claim.{Claim}
use Rattle.f2_survey.specs.declared.owners.Claim.TheVariants as claim

-- the owner that a claim on a block says
abbrev pub owner_claimed : Claim → Owner
owner_claimed claim.Nobody = owner.Nobody
owner_claimed (claim.Node nid) = owner.Node nid
owner_claimed (claim.Slot place nid) = owner.Slot nid place

-- what is kept: where main begins, for each segment a table of the claims on its blocks, which has no places before the
-- segment is met, and whether some block was claimed twice or lay outside
pub record OwnerTable : Type 0 where
  pub main : ℕ
  pub tables : List (List Claim)
  pub spoiled : Bool

-- the claim that stands in a place of a segment's table, and the owner of the block at an address
abbrev pub claim_in_place : List (List Claim) → ℕ → ℕ → Claim
claim_in_place tables segment place = get_or (get_or tables segment []) place claim.Nobody

abbrev pub owner_kept : OwnerTable → ℕ → Owner
owner_kept o address = owner_claimed (claim_in_place o.tables ((address - o.main) / 512) ((address - o.main) % 512))

-- its tables are for the segments of the layout's main area
pub record LiesIn (l : Layout) (o : OwnerTable) : Type 0 where
  pub main : o.main ≡ l.main
  pub segments : length o.tables ≡ l.segments

-- the address is that of a block of these tables
abbrev pub has_block : OwnerTable → ℕ → Bool
has_block o address = nat_le o.main address && nat_lt address (o.main + 512 * length o.tables)

-- a node with this entry stands at the address
abbrev pub stands_at : Option NatEntry → ℕ → Bool
stands_at entry address = option_map_or (λ e. e.address == address) entry false

-- no node has the block
abbrev pub is_nobody : Owner → Bool
is_nobody owner.Nobody = true
is_nobody (owner.Node nid) = false
is_nobody (owner.Slot nid place) = false

-- the first of these slots with an address, and how many have it
unfoldable pub first_at : List Slot → ℕ → Option Slot
first_at slots address = find (λ s. s.address == address) slots

unfoldable pub slots_at : List Slot → ℕ → ℕ
slots_at slots address = count_by (λ s. s.address == address) slots

-- the owner of a block: the node that has it in one of these slots, or that stands there
abbrev pub owner_by : Option ℕ → Option Slot → Owner
owner_by nid None = node_owner nid
owner_by nid (Some s) = owner.Slot s.nid s.place

abbrev pub owner_among : Image → List Slot → ℕ → Owner
owner_among image slots address = owner_by (nid_with image address) (first_at slots address)

-- these slots break the rule on addresses: one lies outside main, or is not the only one there
pub record Breaks (image : Image) (slots : List Slot) : Type 0 where
  pub address : ℕ
  pub names : is_address address ≡ true
  pub has : 1 ≤ slots_at slots address
  pub breaks : (is_main (layout image) address ≡ false) ⊎ (2 ≤ slots_at slots address + nodes_with image address)

-- the block at this address has one owner
pub record IsSole (image : Image) (slots : List Slot) (address : ℕ) : Type 0 where
  pub main : is_main (layout image) address ≡ true
  pub one : slots_at slots address + nodes_with image address ≡ 1

-- this is kept of the nodes of the image and these slots
pub record HasOwners (image : Image) (slots : List Slot) (o : OwnerTable) : Type 0 where
  pub in_order : IsInOrder (layout image)
  pub lies : LiesIn (layout image) o
  pub right : o.spoiled ≡ false → (address : ℕ) → is_main (layout image) address ≡ true → owner_kept o address ≡ owner_among image slots address
  pub sole : o.spoiled ≡ false → (address : ℕ) → is_address address ≡ true → 1 ≤ slots_at slots address → IsSole image slots address
  pub breaks : o.spoiled ≡ true → Breaks image slots

-- the owners of all main blocks are kept
pub record IsOwners (image : Image) (o : OwnerTable) : Type 0 where
  pub lies : LiesIn (layout image) o
  pub right : (address : ℕ) → is_main (layout image) address ≡ true → owner_kept o address ≡ owner_of image address
