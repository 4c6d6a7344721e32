-- On a checked image the node that a nid slot names stands at the offset of the slot.
use Rattle.std.proofs.Common.{◌≡◌, ℕ, ◌^◌, ◌<◌, Bool, true, false, not, ◌==◌, Option, Some, None, refl, arith}
use Rattle.std.proofs.lemmas.Bool.{eqb-true, not-false}
use Rattle.f2_bytes.specs.Bytes.{Image, block_at}
use Rattle.f2_bytes.specs.Superblock.{layout}
use Rattle.f2_bytes.specs.Journal.{NatEntry}
use Rattle.f2_bytes.specs.NodeAddressTable.{nid_limit, nat}
use Rattle.f2_bytes.specs.Node.{node_offset, offset_limit}
use Rattle.f2_bytes.specs.Tree.{nid_slot, is_inode}
use Rattle.f2_bytes.specs.Check.{offset_of_node, node_parts, is_checked_body}
use Rattle.f2_bytes.proofs.CheckLaws.{none_fails}
use Rattle.f2_bytes.proofs.CheckedNodes.{node_part_clear, nat-below, read_node-checked}

pub offset_limit-value : offset_limit ≡ 1039384
unfolding offset_limit
offset_limit-value = refl

module _ (image : Image) (h : is_checked_body image ≡ true) where
  -- a nid slot names a node at its own offset
  pub slot_offset : (ino offset : ℕ) → is_inode image ino ≡ true → ino < nid_limit (layout image) → offset < offset_limit → (nid_slot image ino offset == 0) ≡ false → offset_of_node image (nid_slot image ino offset) ino ≡ offset
  unfolding node_parts
  slot_offset ino offset inode below within used =
      let found = offset_of_node image (nid_slot image ino offset) ino in
      eqb-true found offset (not-false _ (none_fails _ (node_part_clear image h 5 (omega arith)) ino offset below within
      (record { found = found; wanted = offset; fails = not (found == offset) }) (rw (inode, used) refl)))

  -- an inode stands at offset 0
  pub inode_at_zero : (nid : ℕ) (e : NatEntry) → nat image nid ≡ Some e → is_inode image nid ≡ true → node_offset (block_at image e.address) ≡ 0
  unfolding node_parts
  inode_at_zero nid e is inode =
      let found = node_offset (block_at image e.address) in
      eqb-true found 0 (not-false _ (none_fails _ (node_part_clear image h 3 (omega arith)) nid 0 (nat-below image nid e is) (omega arith)
      (record { found = found; wanted = 0; fails = not (found == 0) }) (rw (inode, read_node-checked image h nid e is) refl)))

  -- what it says that a node has an offset
  pub offset_says : (nid ino offset : ℕ) → offset_of_node image nid ino ≡ offset → offset < 2 ^ 32 → (e : NatEntry) × (nat image nid ≡ Some e) × (e.ino ≡ ino) × (node_offset (block_at image e.address) ≡ offset)
  unfolding offset_of_node
  offset_says nid ino offset is small = go (nat image nid) refl
    where
      go : (o : Option NatEntry) → nat image nid ≡ o → (e : NatEntry) × (nat image nid ≡ Some e) × (e.ino ≡ ino) × (node_offset (block_at image e.address) ≡ offset)
      go None e =
          let none : 2 ^ 32 ≡ offset = rw e at is in
          absurd (omega (arith, none, small))
      go (Some entry) e = with_ino (entry.ino == ino) refl
        where
          with_ino : (b : Bool) → (entry.ino == ino) ≡ b → (x : NatEntry) × (nat image nid ≡ Some x) × (x.ino ≡ ino) × (node_offset (block_at image x.address) ≡ offset)
          with_ino true same =
              let value : node_offset (block_at image entry.address) ≡ offset = rw (e, same, read_node-checked image h nid entry e) at is in
              (entry, e, eqb-true entry.ino ino same, value)
          with_ino false differs =
              let none : 2 ^ 32 ≡ offset = rw (e, differs) at is in
              absurd (omega (arith, none, small))
