-- On a checked image each block in main that a file's slot names is the file's own, so blocks, pieces and items are those of the tree.
use Rattle.std.proofs.Common.{◌≡◌, ℕ, ◌+◌, ◌-◌, ◌*◌, ◌^◌, ◌<◌, ◌≤◌, List, [], ◌∷◌, Bool, true, false, not, ◌==◌, cond, filter, sum_by, Option, Some, None, refl, sym, ap, ◌∙◌, ⊎_elim, arith}
use Rattle.std.specs.Option.{option_map_or}
use Rattle.std.proofs.lemmas.Bool.{and_left, eqb-true, eq-eqb, ne_eqb, not-false, le-ltb, false≢true, false_from_ne_true, cases_lt, cases_order}
use Rattle.f2_bytes.specs.Bytes.{Block, Image, count_below, numbers_below}
use Rattle.f2_bytes.specs.Superblock.{layout, is_main}
use Rattle.f2_bytes.specs.NodeAddressTable.{nid_limit, nat}
use Rattle.f2_bytes.specs.Journal.{NatEntry}
use Rattle.f2_bytes.specs.Node.{most_blocks, locate, address_count, has_slots, slot_in}
use Rattle.f2_bytes.specs.RollForward.{NodePlace, found_place}
use Rattle.f2_bytes.specs.Directory.{directory_items}
use Rattle.f2_bytes.specs.Tree.{main_block, read_node, is_inode, tree_node, tree_slot, tree_items, piece_at}
use Rattle.f2_bytes.specs.SalvagedFiles.{file_slot, is_node_address, is_owned, owned_block, file_piece, file_items}
use Rattle.f2_bytes.specs.Check.{slots_with, nodes_with, address_parts, is_checked_body, defects}
use Rattle.f2_bytes.proofs.Below.{found_below}
use Rattle.f2_bytes.proofs.CheckLaws.{none_fails}
use Rattle.f2_bytes.proofs.CheckedChain.{rule_met, part_clear}
use Rattle.f2_bytes.proofs.CheckedNodes.{no_part, found_place-checked, node_block-checked}
use Rattle.f2_salvage.proofs.CheckedInodes.{main_range, inode_below, is_file-checked}
use Rattle.f2_salvage.proofs.CheckedSlots.{file_slot-checked}
use Rattle.f2_bytes.proofs.MovedWords.{address_count-most}
use Rattle.f2_bytes.proofs.Counts.{counted, counted_twice, summed, summed_both}
use Rattle.f2_salvage.proofs.SlotPlaces.{is_owned-only}
use Rattle.std.proofs.lemmas.List.Sums.{sum_by-cons}

-- a sum over the elements that pass is one over all, with 0 for the others
pub sum_by-filter : {A : Type 0} (f : A → ℕ) (p : A → Bool) (xs : List A) → sum_by f (filter p xs) ≡ sum_by (λ x. cond (p x) (f x) 0) xs
sum_by-filter f p [] = refl
sum_by-filter {A = A} f p (x ∷ xs) = go (p x) refl (sum_by-filter f p xs)
  where
    g : A → ℕ
    g = λ x. cond (p x) (f x) 0

    go : (b : Bool) → p x ≡ b → sum_by f (filter p xs) ≡ sum_by g xs → sum_by f (filter p (x ∷ xs)) ≡ sum_by g (x ∷ xs)
    go true e ih =
        let here : g x ≡ f x = rw e refl in
        let kept : filter p (x ∷ xs) ≡ x ∷ filter p xs = rw e refl in
        ap (sum_by f) kept ∙ (sum_by-cons f x (filter p xs) ∙ ap (λ n. f x + n) ih ∙ sym (ap (λ n. n + sum_by g xs) here) ∙ sym (sum_by-cons g x xs))
    go false e ih =
        let here : g x ≡ 0 = rw e refl in
        let all = sum_by-cons g x xs in
        let kept : filter p (x ∷ xs) ≡ filter p xs = rw e refl in
        ap (sum_by f) kept ∙ ih ∙ omega (arith, here, all)

-- no block is past the last
pub locate_past : (k n : ℕ) → n ≤ 923 → most_blocks ≤ k → locate k n ≡ None
unfolding locate most_blocks
locate_past k n small past =
    rw (
      le-ltb k n (omega (arith, small, past)),
      le-ltb k (n + 1018) (omega (arith, small, past)),
      le-ltb k (n + 2 * 1018) (omega (arith, small, past)),
      le-ltb (k - n - 2 * 1018) (1018 ^ 2) (omega (arith, small, past)),
      le-ltb (k - n - 2 * 1018 - 1018 ^ 2) (1018 ^ 2) (omega (arith, small, past)),
      le-ltb (k - n - 2 * 1018 - 2 * 1018 ^ 2) (1018 ^ 3) (omega (arith, small, past)),
    ) refl

pub tree_slot-past : (image : Image) (ino k : ℕ) → most_blocks ≤ k → tree_slot image ino k ≡ 0
unfolding tree_slot
tree_slot-past image ino k past = go (tree_node image ino 0)
  where
    go : (o : Option Block) → slot_in (tree_node image ino) o k ≡ 0
    go None = refl
    go (Some b) = rw (locate_past k (address_count b) (address_count-most b) past) (by_slots (has_slots b))
      where
        by_slots : (s : Bool) → ◌≡◌ {A = ℕ} (cond s 0 0) 0
        by_slots true = refl
        by_slots false = refl

not_owned : (image : Image) (ino k : ℕ) → is_main (layout image) (file_slot image ino k) ≡ false → is_owned image ino k ≡ false
unfolding is_owned
not_owned image ino k out = and_left _ _ (and_left _ _ out)

module _ (image : Image) (h : is_checked_body image ≡ true) where
  -- an address in main that a slot has is had once
  pub had_once : (ino k : ℕ) → is_inode image ino ≡ true → k < most_blocks → is_main (layout image) (tree_slot image ino k) ≡ true
      → slots_with image (tree_slot image ino k) + nodes_with image (tree_slot image ino k) ≡ 1
  unfolding address_parts defects
  had_once ino k inode within main =
      let a = tree_slot image ino k in
      let range = main_range image h a main in
      let low = range.0 in
      let high = range.1 in
      let found = slots_with image a + nodes_with image a in
      eqb-true found 1 (not-false _ (none_fails _ (part_clear (address_parts image) (rule_met image h 4 (omega arith) (omega arith)) 1 no_part (omega arith)) ino k (inode_below image h ino inode) within
      (record { found = found; wanted = 1; fails = not (found == 1) })
      (rw (inode, ne_eqb a 0 (λ e. omega (arith, e, low)), ne_eqb a (2 ^ 32 - 1) (λ e. omega (arith, e, high))) refl)))

  slots_in : ℕ → ℕ → ℕ
  slots_in address ino = cond (is_inode image ino) (count_below most_blocks (λ k. tree_slot image ino k == address)) 0

  slots_with-sum : (address : ℕ) → slots_with image address ≡ sum_by (slots_in address) (numbers_below (nid_limit (layout image)))
  unfolding slots_with slots_in
  slots_with-sum address = sum_by-filter (λ ino. count_below most_blocks (λ k. tree_slot image ino k == address)) (is_inode image) (numbers_below (nid_limit (layout image)))

  slots_in-inode : (address ino : ℕ) → is_inode image ino ≡ true → slots_in address ino ≡ count_below most_blocks (λ k. tree_slot image ino k == address)
  unfolding slots_in
  slots_in-inode address ino inode = rw inode refl

  -- the slots with an address of one file are among all
  slot_counted : (address ino k : ℕ) → is_inode image ino ≡ true → k < most_blocks → (tree_slot image ino k == address) ≡ true → 1 ≤ slots_in address ino
  slot_counted address ino k inode within at =
      let e = slots_in-inode address ino inode in
      let c = counted (λ m. tree_slot image ino m == address) most_blocks k within at in
      omega (arith, e, c)

  -- where an address is had once, its slot is the only one
  alone : (address ino k j m : ℕ) → slots_with image address ≤ 1 → is_inode image ino ≡ true → is_inode image j ≡ true → k < most_blocks → m < most_blocks
      → (tree_slot image ino k == address) ≡ true → (tree_slot image j m == address) ≡ true → (j ≡ ino) × (m ≡ k)
  alone address ino k j m once inode inode_j within within_m at at_j =
      let limit = nid_limit (layout image) in
      let sum = slots_with-sum address in
      let one = slot_counted address ino k inode within at in
      let other = slot_counted address j m inode_j within_m at_j in
      let below = inode_below image h ino inode in
      let below_j = inode_below image h j inode_j in
      ⊎_elim (λ same. (same, in_file same))
      (λ apart. absurd (⊎_elim
      (λ before. let both = summed_both (slots_in address) limit j ino before below in omega (arith, sum, one, other, both, once))
      (λ after. let both = summed_both (slots_in address) limit ino j after below_j in omega (arith, sum, one, other, both, once)) apart))
      (cases_order j ino)
    where
      in_file : j ≡ ino → m ≡ k
      in_file same =
          let test = λ (x : ℕ). tree_slot image ino x == address in
          let at_m : test m ≡ true = sym (ap (λ x. tree_slot image x m == address) same) ∙ at_j in
          let limit = nid_limit (layout image) in
          let sum = slots_with-sum address in
          let part = summed (slots_in address) limit ino (inode_below image h ino inode) in
          let e = slots_in-inode address ino inode in
          ⊎_elim (λ equal. equal)
          (λ apart. absurd (⊎_elim
          (λ before. let both = counted_twice test most_blocks m k before within at_m at in omega (arith, sum, part, e, both, once))
          (λ after. let both = counted_twice test most_blocks k m after within_m at at_m in omega (arith, sum, part, e, both, once)) apart))
          (cases_order m k)

  -- a node's address is counted
  node_counted : (address : ℕ) → is_node_address image address ≡ true → 1 ≤ nodes_with image address
  unfolding is_node_address nodes_with
  node_counted address some =
      let limit = nid_limit (layout image) in
      let found = found_below (λ nid. option_map_or (λ (at : NodePlace). at.address == address) (found_place image nid) false) limit some in
      counted (λ nid. option_map_or (λ (e : NatEntry). e.address == address) (nat image nid) false) limit found.0 found.1 (by_entry found.0 (nat image found.0) refl found.2)
    where
      by_entry : (nid : ℕ) (o : Option NatEntry) → nat image nid ≡ o → option_map_or (λ (at : NodePlace). at.address == address) (found_place image nid) false ≡ true → option_map_or (λ (e : NatEntry). e.address == address) (nat image nid) false ≡ true
      by_entry nid None e at =
          let no : false ≡ true = rw (found_place-checked image h nid, e) at at in
          absurd (false≢true no)
      by_entry nid (Some entry) e at =
          let same : (entry.address == address) ≡ true = rw (found_place-checked image h nid, e) at at in
          rw e same

  -- a block in main is its file's own
  pub is_owned-checked : (ino k : ℕ) → is_inode image ino ≡ true → k < most_blocks → is_main (layout image) (tree_slot image ino k) ≡ true → is_owned image ino k ≡ true
  is_owned-checked ino k inode within main =
      let a = tree_slot image ino k in
      let below = inode_below image h ino inode in
      let slot = file_slot-checked image h ino k inode below in
      let here : (tree_slot image ino k == a) ≡ true = eq-eqb a a refl in
      let once = had_once ino k inode within main in
      let limit = nid_limit (layout image) in
      let sum = slots_with-sum a in
      let one = slot_counted a ino k inode within here in
      let part = summed (slots_in a) limit ino below in
      is_owned-only image ino k (is_file-checked image h ino ∙ inode) below within
      (rw slot main)
      (rw slot (false_from_ne_true (is_node_address image a) (λ node. let more = node_counted a node in omega (arith, once, sum, one, part, more))))
      (λ j m file below_j within_m same.
      let inode_j : is_inode image j ≡ true = sym (is_file-checked image h j) ∙ file in
      let at_j : (tree_slot image j m == a) ≡ true = sym (ap (λ x. x == a) (file_slot-checked image h j m inode_j below_j)) ∙ ap (λ x. file_slot image j m == x) (sym slot) ∙ same in
      let only = alone a ino k j m (omega (arith, once)) inode inode_j within within_m here at_j in
      λ i. (only.0 i, only.1 i))

  -- the block that a file has of its own is the one at its slot
  pub owned_block-checked : (ino k : ℕ) → is_inode image ino ≡ true → owned_block image ino k ≡ main_block image (tree_slot image ino k)
  owned_block-checked ino k inode = go (is_main (layout image) (tree_slot image ino k)) refl
    where
      slot : file_slot image ino k ≡ tree_slot image ino k
      slot = file_slot-checked image h ino k inode (inode_below image h ino inode)

      go : (m : Bool) → is_main (layout image) (tree_slot image ino k) ≡ m → owned_block image ino k ≡ main_block image (tree_slot image ino k)
      go false out = rw (not_owned image ino k (ap (is_main (layout image)) slot ∙ out), out) refl
      go true main = ⊎_elim
          (λ within. rw (is_owned-checked ino k inode within main, slot, main) refl)
          (λ past.
          let range = main_range image h (tree_slot image ino k) main in
          let low = range.0 in
          let none = tree_slot-past image ino k past in
          absurd (omega (arith, low, none)))
          (cases_lt k most_blocks)

  -- what stands for a block
  pub piece-checked : (ino k : ℕ) → is_inode image ino ≡ true → file_piece image ino k ≡ piece_at image (tree_slot image ino k)
  piece-checked ino k inode = rw (owned_block-checked ino k inode, file_slot-checked image h ino k inode (inode_below image h ino inode)) refl

  -- the items of a directory
  pub file_items-checked : (ino : ℕ) → is_inode image ino ≡ true → file_items image ino ≡ tree_items image ino
  unfolding file_items tree_items
  file_items-checked ino inode = rw (node_block-checked image h ino) (ap (λ f. option_map_or (λ inode. directory_items inode f) (read_node image ino) []) (λ i k. owned_block-checked ino k inode i))
