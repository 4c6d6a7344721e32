-- On a checked image the nodes after roll-forward are those that the table has.
use Rattle.std.proofs.Common.{◌≡◌, ℕ, ◌<◌, [], length, get_or, Bool, true, false, not, ◌&&◌, ◌==◌, nat_le, nat_lt, Option, Some, None, refl, sym, ◌∙◌, arith}
use Rattle.std.specs.Prelude.{option_map}
use Rattle.std.proofs.lemmas.Bool.{and_parts, not-false, ltb-true}
use Rattle.f2_bytes.specs.Bytes.{Image, numbers_below, block_at}
use Rattle.f2_bytes.specs.Superblock.{layout, is_main}
use Rattle.f2_bytes.specs.Journal.{NatEntry}
use Rattle.f2_bytes.specs.NodeAddressTable.{nid_limit, nat}
use Rattle.f2_bytes.specs.Node.{footer_nid, footer_ino}
use Rattle.f2_bytes.specs.Tree.{read_node}
use Rattle.f2_bytes.specs.RollForward.{NodePlace, found_place, node_block}
use Rattle.f2_bytes.specs.Check.{Part, defects, part_defects, node_parts, is_checked_body}
use Rattle.f2_bytes.proofs.CheckLaws.{none_fails}
use Rattle.f2_bytes.proofs.CheckedChain.{rule_met, part_clear, chain_length-checked}

-- the place of an entry
abbrev place_of : NatEntry → NodePlace
place_of e = record { ino = e.ino; address = e.address }

-- a nid outside the table's range has no entry
pub nat-range : (image : Image) (nid : ℕ) → (nat_le 3 nid && nat_lt nid (nid_limit (layout image))) ≡ false → nat image nid ≡ None
unfolding nat
nat-range image nid out = rw out refl

pub found_place-checked : (image : Image) → is_checked_body image ≡ true → (nid : ℕ) → found_place image nid ≡ option_map place_of (nat image nid)
unfolding found_place numbers_below
found_place-checked image h nid = go (nat_le 3 nid && nat_lt nid (nid_limit (layout image))) refl
  where
    go : (b : Bool) → (nat_le 3 nid && nat_lt nid (nid_limit (layout image))) ≡ b → found_place image nid ≡ option_map place_of (nat image nid)
    go true e = rw (e, chain_length-checked image h) refl
    go false e = rw (e, nat-range image nid e) refl

-- a nid with an entry is below the limit
pub nat-below : (image : Image) (nid : ℕ) (e : NatEntry) → nat image nid ≡ Some e → nid < nid_limit (layout image)
nat-below image nid e is = go (nat_le 3 nid && nat_lt nid (nid_limit (layout image))) refl
  where
    go : (b : Bool) → (nat_le 3 nid && nat_lt nid (nid_limit (layout image))) ≡ b → nid < nid_limit (layout image)
    go true range = ltb-true nid (nid_limit (layout image)) (and_parts _ _ range).1
    go false range = absurd (cc (sym (nat-range image nid range) ∙ is))

-- a part of the rule on nodes has no comparison that fails
abbrev pub no_part : Part
no_part = record { number = 0; first_limit = 0; second_limit = λ _. 0; comparison = λ _ _. None }

pub node_part_clear : (image : Image) → is_checked_body image ≡ true → (k : ℕ) → k < length (node_parts image) → part_defects (get_or (node_parts image) k no_part) ≡ []
unfolding defects
node_part_clear image h k below = part_clear (node_parts image) (rule_met image h 3 (omega arith) (omega arith)) k no_part below

-- an entry's address lies in main
pub entry_main : (image : Image) → is_checked_body image ≡ true → (nid : ℕ) (e : NatEntry) → nat image nid ≡ Some e → is_main (layout image) e.address ≡ true
unfolding node_parts
entry_main image h nid e is =
    not-false _ (none_fails _ (node_part_clear image h 0 (omega arith)) nid 0 (nat-below image nid e is) (omega arith)
    (record { found = e.address; wanted = (layout image).main; fails = not (is_main (layout image) e.address) }) (rw is refl))

-- its block is the node's
pub read_node-checked : (image : Image) → is_checked_body image ≡ true → (nid : ℕ) (e : NatEntry) → nat image nid ≡ Some e → read_node image nid ≡ Some (block_at image e.address)
unfolding read_node
read_node-checked image h nid e is = rw (is, entry_main image h nid e is) refl

pub entry_nid : (image : Image) → is_checked_body image ≡ true → (nid : ℕ) (e : NatEntry) → nat image nid ≡ Some e → (footer_nid (block_at image e.address) == nid) ≡ true
unfolding node_parts
entry_nid image h nid e is =
    let b = block_at image e.address in
    not-false _ (none_fails _ (node_part_clear image h 1 (omega arith)) nid 0 (nat-below image nid e is) (omega arith)
    (record { found = footer_nid b; wanted = nid; fails = not (footer_nid b == nid) }) (rw (read_node-checked image h nid e is) refl))

pub entry_ino : (image : Image) → is_checked_body image ≡ true → (nid : ℕ) (e : NatEntry) → nat image nid ≡ Some e → (footer_ino (block_at image e.address) == e.ino) ≡ true
unfolding node_parts
entry_ino image h nid e is =
    let b = block_at image e.address in
    not-false _ (none_fails _ (node_part_clear image h 2 (omega arith)) nid 0 (nat-below image nid e is) (omega arith)
    (record { found = footer_ino b; wanted = e.ino; fails = not (footer_ino b == e.ino) }) (rw (read_node-checked image h nid e is, is) refl))

-- the nodes of the salvage are those that the tree reads
pub node_block-checked : (image : Image) → is_checked_body image ≡ true → (nid : ℕ) → node_block image nid ≡ read_node image nid
unfolding node_block read_node
node_block-checked image h nid = go (nat image nid) refl
  where
    go : (o : Option NatEntry) → nat image nid ≡ o → node_block image nid ≡ read_node image nid
    go None e = rw (found_place-checked image h nid, e) refl
    go (Some entry) e = rw (found_place-checked image h nid, e, entry_main image h nid entry e, entry_nid image h nid entry e, entry_ino image h nid entry e) refl
