-- The slots of files after blocks moved: each holds the new address. All that is read of the image.
use Rattle.std.proofs.Common.{◌≡◌, ◌⊎◌, inl, inr, ℕ, ◌+◌, ◌*◌, ◌-◌, ◌^◌, ◌<◌, ◌≤◌, Bool, true, false, ◌==◌, ◌&&◌, ◌||◌, cond, Option, Some, None, refl, sym, ap, ◌∙◌, arith}
use Rattle.std.specs.Option.{option_map_or}
use Rattle.std.proofs.lemmas.Bool.{and_parts, eqb-true, ne_eqb, not-true, le-ltb, false≢true, cases_lt}
use Rattle.f2_bytes.specs.Bytes.{Block, Image}
use Rattle.f2_bytes.specs.Superblock.{layout, is_main}
use Rattle.f2_bytes.specs.Node.{parent_of, node_offset, has_slots, address_count, locate, most_blocks, word_in, word_at_spot, slot_in}
use Rattle.f2_bytes.specs.Tree.{main_block, read_node, nid_in, node_within, node_above, tree_node, has_nid_slots, nid_slot, tree_slot, is_inode}
use Rattle.f2_bytes.specs.Check.{is_address, is_data, is_node, is_checked}
use Rattle.f2_bytes.specs.Moved.{is_used, IsMovedNode, IsMoved, MovedSlots}
use Rattle.f2_bytes.proofs.CheckedUsed.{main_range, slot_main, slot_data}
use Rattle.f2_bytes.proofs.Located.{locate_lands}
use Rattle.f2_bytes.proofs.MovedNodes.{nid_in-moved, address-moved, copied, layout-moved, nodes-moved, same_inode, inode-moved, inodes-moved, directories-moved, same_offset, within-moved}
use Rattle.f2_bytes.proofs.MovedReads.{IsMovedInode, ReadsMoved}
use Rattle.f2_bytes.proofs.MovedWords.{address_count-most, footer_nid-moved, footer_ino-moved, node_offset-moved}
use Rattle.f2_bytes.proofs.NodeOffsets.{parent_holds, within_offset}
use Rattle.f2_bytes.proofs.PackReads.{cond_same}
use Rattle.f2_bytes.proofs.Pairs.{Paired, paired_or}
use Rattle.f2_bytes.proofs.SlotSupport.{zero_not_main}

-- ---- no block is past the last

locate_past : (k n : ℕ) → n ≤ 923 → most_blocks ≤ k → locate k n ≡ None
unfolding locate most_blocks
locate_past k n small past =
    rw (
      le-ltb k n (omega (arith, small, past)),
      le-ltb k (n + 1018) (omega (arith, small, past)),
      le-ltb k (n + 2 * 1018) (omega (arith, small, past)),
      le-ltb (k - n - 2 * 1018) (1018 ^ 2) (omega (arith, small, past)),
      le-ltb (k - n - 2 * 1018 - 1018 ^ 2) (1018 ^ 2) (omega (arith, small, past)),
      le-ltb (k - n - 2 * 1018 - 2 * 1018 ^ 2) (1018 ^ 3) (omega (arith, small, past)),
    ) refl

pub tree_slot-past : (image : Image) (ino k : ℕ) → most_blocks ≤ k → tree_slot image ino k ≡ 0
unfolding tree_slot
tree_slot-past image ino k past = go (tree_node image ino 0)
  where
    go : (o : Option Block) → slot_in (tree_node image ino) o k ≡ 0
    go None = refl
    go (Some b) = rw (locate_past k (address_count b) (address_count-most b) past) (by_slots (has_slots b))
      where
        by_slots : (s : Bool) → ◌≡◌ {A = ℕ} (cond s 0 0) 0
        by_slots true = refl
        by_slots false = refl

-- ---- a slot is a hole, reserved, or the address of a block

abbrev IsKnown : ℕ → Type 0
IsKnown a = ((a ≡ 0) ⊎ (a ≡ 4294967295)) ⊎ (is_address a ≡ true)

known : (a : ℕ) → IsKnown a
known a = go (a == 0) refl (a == 4294967295) refl
  where
    go : (x : Bool) → (a == 0) ≡ x → (y : Bool) → (a == 4294967295) ≡ y → IsKnown a
    go true e y f = inl (inl (eqb-true a 0 e))
    go false e true f = inl (inr (eqb-true a 4294967295 f))
    go false e false f = inr (rw (e, f) refl)

address_from : (a : ℕ) → 0 < a → a < 4294967295 → is_address a ≡ true
address_from a low high = rw (ne_eqb a 0 (λ e. omega (arith, low, e)), ne_eqb a 4294967295 (λ e. omega (arith, high, e))) refl

both_from : (a b c : Bool) → a ≡ true → b ≡ true → (a && (b || c)) ≡ true
both_from a b c p q = rw (p, q) refl

module _ (to : ℕ → ℕ) (image other : Image) (h : is_checked image ≡ true) (m : IsMoved to image other) where
  has_nid_slots-moved : (ino : ℕ) → is_inode image ino ≡ true → has_nid_slots other ino ≡ has_nid_slots image ino
  has_nid_slots-moved ino inode =
      let t = inode-moved to image other h m ino inode in
      ap (λ o. option_map_or has_slots o false) t.3 ∙ t.4.same_slots ∙ sym (ap (λ o. option_map_or has_slots o false) t.2)

  -- ---- nid slots

  nid_slot-moved : (ino offset : ℕ) → is_inode image ino ≡ true → nid_slot other ino offset ≡ nid_slot image ino offset
  unfolding nid_slot
  nid_slot-moved ino offset inode =
      let first : nid_slot other ino offset ≡ cond (has_nid_slots image ino) (option_map_or (λ spot. option_map_or (nid_in spot) (node_above other ino spot.0) 0) (parent_of offset) 0) 0
      = λ i. cond (has_nid_slots-moved ino inode i) (option_map_or (λ spot. option_map_or (nid_in spot) (node_above other ino spot.0) 0) (parent_of offset) 0) 0 in
      first ∙ cond_same (has_nid_slots image ino) (λ slots. at slots (parent_of offset) refl) (λ none. refl)
    where
      at : has_nid_slots image ino ≡ true → (p : Option (ℕ × ℕ)) → parent_of offset ≡ p
          → option_map_or (λ spot. option_map_or (nid_in spot) (node_above other ino spot.0) 0) p 0 ≡ option_map_or (λ spot. option_map_or (nid_in spot) (node_above image ino spot.0) 0) p 0
      at slots None e = refl
      at slots (Some spot) e =
          paired_or (IsMovedNode to) (node_above image ino spot.0) (node_above other ino spot.0) (nid_in spot) (nid_in spot) 0 (within-moved to image other h m ino inode slots 2 spot.0 (omega arith))
          (λ b c is r. nid_in-moved to b c spot r (within_offset image h ino inode slots 2 spot.0 b (omega arith) is) (parent_holds offset spot e))

  -- ---- slots

  none_moves : (a : ℕ) → a ≡ 0 → 0 ≡ to a
  none_moves a e = sym m.holes ∙ ap to (sym e)

  slot-moved : (ino k : ℕ) → is_inode image ino ≡ true → tree_slot other ino k ≡ to (tree_slot image ino k)
  unfolding tree_slot node_within
  slot-moved ino k inode = by_inode (inode-moved to image other h m ino inode)
    where
      by_inode : (b : Block) × (c : Block) × (read_node image ino ≡ Some b) × (read_node other ino ≡ Some c) × IsMovedInode to b c → tree_slot other ino k ≡ to (tree_slot image ino k)
      by_inode (b, c, is, is_c, r) =
          let before : tree_slot image ino k ≡ slot_in (tree_node image ino) (Some b) k = ap (λ o. slot_in (tree_node image ino) o k) is in
          let after : tree_slot other ino k ≡ slot_in (tree_node other ino) (Some c) k = ap (λ o. slot_in (tree_node other ino) o k) is_c in
          let fields : slot_in (tree_node other ino) (Some c) k ≡ cond (has_slots b) (word_at_spot (tree_node other ino) (locate k (address_count b))) 0
          = λ i. cond (r.same_slots i) (word_at_spot (tree_node other ino) (locate k (r.same_count i))) 0 in
          after ∙ fields ∙ by_slots (has_slots b) refl ∙ ap to (sym before)
        where
          by_slots : (s : Bool) → has_slots b ≡ s → cond s (word_at_spot (tree_node other ino) (locate k (address_count b))) 0 ≡ to (cond s (word_at_spot (tree_node image ino) (locate k (address_count b))) 0)
          by_slots false s = sym m.holes
          by_slots true s = by_spot (locate k (address_count b)) refl
            where
              by_spot : (o : Option (ℕ × ℕ)) → locate k (address_count b) ≡ o → word_at_spot (tree_node other ino) o ≡ to (word_at_spot (tree_node image ino) o)
              by_spot None l = sym m.holes
              by_spot (Some spot) l =
                  by_node (tree_node image ino spot.0) refl (within-moved to image other h m ino inode slots 3 spot.0 (omega arith))
                where
                  slots : has_nid_slots image ino ≡ true
                  slots = ap (λ o. option_map_or has_slots o false) is ∙ s

                  by_node : (o : Option Block) → tree_node image ino spot.0 ≡ o → Paired (IsMovedNode to) (tree_node image ino spot.0) (tree_node other ino spot.0) → word_in spot (tree_node other ino spot.0) ≡ to (word_in spot (tree_node image ino spot.0))
                  by_node None n pair = ap (word_in spot) (pair.none n) ∙ sym m.holes ∙ ap to (sym (ap (word_in spot) n))
                  by_node (Some d) n pair =
                      let t = pair.some d n in
                      let at : node_offset d ≡ spot.0 = within_offset image h ino inode slots 3 spot.0 d (omega arith) n in
                      ap (word_in spot) t.1
                      ∙ address-moved to d t.0 (address_count b) spot t.2 at (λ z. own d n z) (locate_lands k (address_count b) spot l)
                      ∙ ap to (sym (ap (word_in spot) n))
                    where
                      own : (d : Block) → tree_node image ino spot.0 ≡ Some d → spot.0 ≡ 0 → (has_slots d ≡ true) × (address_count b ≡ address_count d)
                      own d n z =
                          let same : Some b ≡ Some d = sym is ∙ sym (ap (tree_node image ino) z) ∙ n in
                          let same_block : b ≡ d = ap (λ o. elim o [ Some x ↦ x | None ↦ b ]) same in
                          (ap has_slots (sym same_block) ∙ s, ap address_count same_block)

  -- a slot that names a block is below the limit, so the block is used
  pub slot_below : (ino k : ℕ) → is_address (tree_slot image ino k) ≡ true → k < most_blocks
  slot_below ino k named = by_limit (cases_lt k most_blocks)
    where
      by_limit : (k < most_blocks) ⊎ (most_blocks ≤ k) → k < most_blocks
      by_limit (inl below) = below
      by_limit (inr past) =
          let no : false ≡ true = sym (ap is_address (tree_slot-past image ino k past)) ∙ named in
          absurd (false≢true no)

  slot_used : (ino k : ℕ) → is_inode image ino ≡ true → is_address (tree_slot image ino k) ≡ true → is_used image (tree_slot image ino k) ≡ true
  slot_used ino k inode named =
      let a = tree_slot image ino k in
      both_from (is_main (layout image) a) (is_data image a) (is_node image a) (slot_main image h ino k inode (slot_below ino k named) named) (slot_data image h ino k inode (slot_below ino k named))

  slot_lands : (ino k : ℕ) → is_inode image ino ≡ true → is_address (tree_slot image ino k) ≡ true → is_main (layout image) (to (tree_slot image ino k)) ≡ true
  slot_lands ino k inode named = m.lands (tree_slot image ino k) (slot_used ino k inode named)

  moved_is_address : (ino k : ℕ) → is_inode image ino ≡ true → is_address (to (tree_slot image ino k)) ≡ is_address (tree_slot image ino k)
  moved_is_address ino k inode = go (known (tree_slot image ino k))
    where
      go : IsKnown (tree_slot image ino k) → is_address (to (tree_slot image ino k)) ≡ is_address (tree_slot image ino k)
      go (inl (inl zero)) = ap is_address (ap to zero ∙ m.holes ∙ sym zero)
      go (inl (inr reserved)) = ap is_address (ap to reserved ∙ m.reserved ∙ sym reserved)
      go (inr named) =
          let range = main_range image h (to (tree_slot image ino k)) (slot_lands ino k inode named) in
          address_from (to (tree_slot image ino k)) range.0 range.1 ∙ sym named

  same_hole : (ino k : ℕ) → is_inode image ino ≡ true → (to (tree_slot image ino k) == 0) ≡ (tree_slot image ino k == 0)
  same_hole ino k inode = go (known (tree_slot image ino k))
    where
      go : IsKnown (tree_slot image ino k) → (to (tree_slot image ino k) == 0) ≡ (tree_slot image ino k == 0)
      go (inl (inl zero)) = ap (λ a. a == 0) (ap to zero ∙ m.holes ∙ sym zero)
      go (inl (inr reserved)) = ap (λ a. a == 0) (ap to reserved ∙ m.reserved ∙ sym reserved)
      go (inr named) =
          let range = main_range image h (to (tree_slot image ino k)) (slot_lands ino k inode named) in
          ne_eqb (to (tree_slot image ino k)) 0 (λ e. omega (arith, range.0, e)) ∙ sym (not-true (tree_slot image ino k == 0) (and_parts _ _ named).0)

  same_reserved : (ino k : ℕ) → is_inode image ino ≡ true → (to (tree_slot image ino k) == 4294967295) ≡ (tree_slot image ino k == 4294967295)
  same_reserved ino k inode = go (known (tree_slot image ino k))
    where
      go : IsKnown (tree_slot image ino k) → (to (tree_slot image ino k) == 4294967295) ≡ (tree_slot image ino k == 4294967295)
      go (inl (inl zero)) = ap (λ a. a == 4294967295) (ap to zero ∙ m.holes ∙ sym zero)
      go (inl (inr reserved)) = ap (λ a. a == 4294967295) (ap to reserved ∙ m.reserved ∙ sym reserved)
      go (inr named) =
          let range = main_range image h (to (tree_slot image ino k)) (slot_lands ino k inode named) in
          ne_eqb (to (tree_slot image ino k)) 4294967295 (λ e. omega (arith, range.1, e)) ∙ sym (not-true (tree_slot image ino k == 4294967295) (and_parts _ _ named).1)

  -- no block stands at 0 or at the reserved address
  main_block-none : (some : Image) (a : ℕ) → is_main (layout some) a ≡ false → main_block some a ≡ None
  main_block-none some a out = rw out refl

  reserved_not_main : is_main (layout image) 4294967295 ≡ false
  reserved_not_main = not_from (is_main (layout image) 4294967295) (λ main. let range = main_range image h 4294967295 main in omega (arith, range.1))
    where
      not_from : (b : Bool) → (b ≡ true → ⊥) → b ≡ false
      not_from true never = absurd (never refl)
      not_from false never = refl

  in_other : (a : ℕ) → is_main (layout other) a ≡ is_main (layout image) a
  in_other a = ap (λ l. is_main l a) (layout-moved to image other h m)

  block-moved : (ino k : ℕ) → is_inode image ino ≡ true → main_block other (to (tree_slot image ino k)) ≡ main_block image (tree_slot image ino k)
  block-moved ino k inode = go (known (tree_slot image ino k))
    where
      go : IsKnown (tree_slot image ino k) → main_block other (to (tree_slot image ino k)) ≡ main_block image (tree_slot image ino k)
      go (inl (inl zero)) =
          let out = zero_not_main image (copied to image other h m) in
          ap (main_block other) (ap to zero ∙ m.holes) ∙ main_block-none other 0 (in_other 0 ∙ out) ∙ sym (ap (main_block image) zero ∙ main_block-none image 0 out)
      go (inl (inr reserved)) =
          ap (main_block other) (ap to reserved ∙ m.reserved) ∙ main_block-none other 4294967295 (in_other 4294967295 ∙ reserved_not_main)
          ∙ sym (ap (main_block image) reserved ∙ main_block-none image 4294967295 reserved_not_main)
      go (inr named) =
          let main : is_main (layout image) (tree_slot image ino k) ≡ true = slot_main image h ino k inode (slot_below ino k named) named in
          let new : is_main (layout other) (to (tree_slot image ino k)) ≡ true = in_other (to (tree_slot image ino k)) ∙ slot_lands ino k inode named in
          rw (main, new) (ap Some (m.files ino k inode named))

  pub reads_moved : ReadsMoved to image other
  reads_moved = record {
    same_layout = layout-moved to image other h m;
    same_nat = m.table;
    same_inode = same_inode to image other h m;
    nodes = nodes-moved to image other h m;
    inodes = inodes-moved to image other h m;
    directories = directories-moved to image other h m;
    inode = inode-moved to image other h m;
    same_footer_nid = footer_nid-moved to;
    same_footer_ino = footer_ino-moved to;
    same_node_offset = node_offset-moved to;
    same_offset = same_offset to image other h m;
    same_nid_slot = nid_slot-moved;
    slot = slot-moved;
    slot_zero = λ ino k inode zero. slot-moved ino k inode ∙ ap to zero ∙ m.holes;
    same_hole = λ ino k inode. ap (λ a. a == 0) (slot-moved ino k inode) ∙ same_hole ino k inode;
    same_reserved = λ ino k inode. ap (λ a. a == 2 ^ 32 - 1) (slot-moved ino k inode) ∙ same_reserved ino k inode;
    slot_main = slot_lands;
    same_is_address = λ ino k inode. ap is_address (slot-moved ino k inode) ∙ moved_is_address ino k inode;
    slot_block = λ ino k inode. ap (main_block other) (slot-moved ino k inode) ∙ block-moved ino k inode;
  }

-- the law of the slots
pub moved_slots : MovedSlots
moved_slots to image other h m ino k inode = slot-moved to image other h m ino k inode
