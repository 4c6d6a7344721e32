-- On a checked image the addresses of a file's blocks are the same by footers and by nid slots.
use Rattle.std.proofs.Common.{◌≡◌, ℕ, ◌+◌, ◌-◌, ◌*◌, ◌/◌, ◌%◌, ◌^◌, ◌<◌, Bool, true, false, ◌==◌, nat_lt, cond, Option, Some, None, refl, sym, ap, ◌∙◌, arith}
use Rattle.std.specs.Option.{option_map_or}
use Rattle.std.proofs.lemmas.Bool.{eqb-true, eqb-false, ltb-true}
use Rattle.f2_bytes.specs.Bytes.{Block, Image}
use Rattle.f2_bytes.specs.Superblock.{layout}
use Rattle.f2_bytes.specs.NodeAddressTable.{nid_limit}
use Rattle.f2_bytes.specs.Node.{has_slots, address_count, locate, offset_limit, word_in, word_at_spot, slot_in}
use Rattle.f2_bytes.specs.Tree.{node_within, is_inode, has_nid_slots, tree_node, tree_slot}
use Rattle.f2_bytes.specs.SalvagedFiles.{nid_at, file_node, file_slot}
use Rattle.f2_bytes.specs.Check.{is_checked_body}
use Rattle.f2_bytes.proofs.CheckedNodes.{node_block-checked}
use Rattle.f2_salvage.proofs.CheckedFiles.{file_node-checked}

some_pair : (a b : ℕ × ℕ) → Some a ≡ Some b → a ≡ b
some_pair a b e = ap (λ o. elim o [ Some x ↦ x | None ↦ a ]) e

-- the last range of offsets ends below the limit
deep_below : (p : ℕ) → p < 1018 ^ 3 → 2043 + 1019 * (p / 1018 ^ 2) + p % 1018 ^ 2 / 1018 < 1039384
deep_below p h = omega arith

middle_below : (p : ℕ) → p < 1018 ^ 2 → 1023 + p / 1018 < 1039384
middle_below p h = omega arith

-- a choice gave this pair: either the first one, or the rest
first : (b : Bool) (s t : ℕ × ℕ) (rest : Option (ℕ × ℕ)) (n : ℕ) → (b ≡ true → s.0 ≡ t.0 → t.0 < n) → (rest ≡ Some t → t.0 < n) → cond b (Some s) rest ≡ Some t → t.0 < n
first true s t rest n here there e = here refl (ap (λ x. x.0) (some_pair s t e))
first false s t rest n here there e = there e

-- the node offset of a block lies below the limit
pub locate_below : (k n : ℕ) (t : ℕ × ℕ) → locate k n ≡ Some t → t.0 < offset_limit
unfolding locate offset_limit
locate_below k n t =
    let p1 = k - n - 2 * 1018 in
    let p2 = k - n - 2 * 1018 - 1018 ^ 2 in
    let p3 = k - n - 2 * 1018 - 2 * 1018 ^ 2 in
    first (nat_lt k n) (0, k) t _ 1039384 (λ b s. omega (arith, s))
    (first (nat_lt k (n + 1018)) (1, k - n) t _ 1039384 (λ b s. omega (arith, s))
    (first (nat_lt k (n + 2 * 1018)) (2, k - n - 1018) t _ 1039384 (λ b s. omega (arith, s))
    (first (nat_lt p1 (1018 ^ 2)) (4 + p1 / 1018, p1 % 1018) t _ 1039384 (λ b s. let low = middle_below p1 (ltb-true p1 (1018 ^ 2) b) in omega (arith, s, low))
    (first (nat_lt p2 (1018 ^ 2)) (1023 + p2 / 1018, p2 % 1018) t _ 1039384 (λ b s. let low = middle_below p2 (ltb-true p2 (1018 ^ 2) b) in omega (arith, s, low))
    (first (nat_lt p3 (1018 ^ 3)) (2043 + 1019 * (p3 / 1018 ^ 2) + p3 % 1018 ^ 2 / 1018, p3 % 1018) t None 1039384 (λ b s. let low = deep_below p3 (ltb-true p3 (1018 ^ 3) b) in omega (arith, s, low))
    (λ e. absurd (cc e)))))))

module _ (image : Image) (h : is_checked_body image ≡ true) where
  -- the inode itself
  file_node-inode : (ino : ℕ) → file_node image ino 0 ≡ tree_node image ino 0
  unfolding nid_at node_within
  file_node-inode ino = node_block-checked image h ino

  -- the word at a place of a node
  word_at_spot-checked : (ino : ℕ) → is_inode image ino ≡ true → ino < nid_limit (layout image) → has_nid_slots image ino ≡ true → (k n : ℕ) → word_at_spot (file_node image ino) (locate k n) ≡ word_at_spot (tree_node image ino) (locate k n)
  word_at_spot-checked ino inode below slots k n = go (locate k n) refl
    where
      go : (o : Option (ℕ × ℕ)) → locate k n ≡ o → word_at_spot (file_node image ino) o ≡ word_at_spot (tree_node image ino) o
      go None e = refl
      go (Some spot) e = by_offset (spot.0 == 0) refl
        where
          by_offset : (b : Bool) → (spot.0 == 0) ≡ b → word_in spot (file_node image ino spot.0) ≡ word_in spot (tree_node image ino spot.0)
          by_offset true zero_offset =
              let at : spot.0 ≡ 0 = eqb-true spot.0 0 zero_offset in
              ap (word_in spot) (ap (file_node image ino) at ∙ file_node-inode ino ∙ sym (ap (tree_node image ino) at))
          by_offset false away =
              ap (word_in spot) (file_node-checked image h ino spot.0 inode below slots (locate_below k n spot e) (eqb-false spot.0 0 away))

  -- the address of a block
  pub file_slot-checked : (ino k : ℕ) → is_inode image ino ≡ true → ino < nid_limit (layout image) → file_slot image ino k ≡ tree_slot image ino k
  unfolding file_slot tree_slot node_within
  file_slot-checked ino k inode below = rw (file_node-inode ino) (go (tree_node image ino 0) refl)
    where
      go : (o : Option Block) → tree_node image ino 0 ≡ o → slot_in (file_node image ino) o k ≡ slot_in (tree_node image ino) o k
      go None e = refl
      go (Some b) e = by_slots (has_slots b) refl
        where
          by_slots : (s : Bool) → has_slots b ≡ s → slot_in (file_node image ino) (Some b) k ≡ slot_in (tree_node image ino) (Some b) k
          by_slots false s = rw s refl
          by_slots true s = rw s (word_at_spot-checked ino inode below (slots_of s) k (address_count b))
            where
              slots_of : has_slots b ≡ true → has_nid_slots image ino ≡ true
              slots_of t = ap (λ o. option_map_or has_slots o false) e ∙ t
