-- On a checked image: where the blocks of files and the nodes stand, and that no two stand at one address.
use Rattle.std.proofs.Common.{◌≡◌, ℕ, ◌+◌, ◌*◌, ◌^◌, ◌<◌, ◌≤◌, Bool, true, false, not, ◌==◌, nat_lt, cond, filter, sum_by, Option, Some, None, refl, arith}
use Rattle.std.specs.Prelude.{is_some}
use Rattle.std.specs.Option.{option_map_or}
use Rattle.std.proofs.lemmas.Bool.{and_parts, eqb-true, eq-eqb, not-false, ltb-true, leb-true, lt-ltb, false≢true}
use Rattle.f2_bytes.specs.Bytes.{Image, numbers_below, count_below}
use Rattle.f2_bytes.specs.Superblock.{copy_passes, has_joined_areas, super_copy, super_bytes, layout, is_main, block_count, segment_count_ckpt, segment_count_sit, segment_count_nat, segment_count_ssa, segment_count_main, cp_blkaddr, sit_blkaddr, nat_blkaddr, ssa_blkaddr, main_blkaddr}
use Rattle.f2_bytes.specs.Journal.{NatEntry}
use Rattle.f2_bytes.specs.NodeAddressTable.{nid_limit, nat}
use Rattle.f2_bytes.specs.Node.{most_blocks}
use Rattle.f2_bytes.specs.Tree.{tree_slot, is_inode}
use Rattle.f2_bytes.specs.Check.{slots_with, nodes_with, is_data, is_node, is_address, address_parts, is_checked, defects}
use Rattle.f2_bytes.proofs.CheckLaws.{none_fails}
use Rattle.f2_bytes.proofs.CheckedChain.{rule_met, part_clear}
use Rattle.f2_bytes.proofs.CheckedNodes.{no_part, nat-below, entry_main}
use Rattle.f2_bytes.proofs.SlotSupport.{body_checked, readable_loads, inode_entry}
use Rattle.f2_bytes.proofs.FormatFacts.{super_passes}
use Rattle.f2_bytes.proofs.Terms.{term_below, counted_some}
use Rattle.f2_bytes.proofs.Counts.{counted, summed}
use Rattle.f2_bytes.proofs.AllPlaces.{sum_by-filter}

positive : (n : ℕ) → nat_lt 0 n ≡ true → 1 ≤ n
positive n h = let low = ltb-true 0 n h in omega (arith, low)

within_sum : (f : ℕ → ℕ) (p : ℕ → Bool) (n i : ℕ) → i < n → p i ≡ true → 1 ≤ f i → 1 ≤ sum_by f (filter p (numbers_below n))
within_sum f p n i low passes some =
    let all = sum_by-filter f p (numbers_below n) in
    let part = summed (λ x. cond (p x) (f x) 0) n i low in
    let here : cond (p i) (f i) 0 ≡ f i = rw passes refl in
    omega (arith, all, part, here, some)

-- the areas lie between the first two blocks and the end, which is no more than 2 ^ 28
main_between : (cp sit nat ssa main blocks a b c d segments address : ℕ) → 2 ≤ cp → sit ≡ cp + 512 * a → nat ≡ sit + 512 * b → ssa ≡ nat + 512 * c → main ≡ ssa + 512 * d
    → main + 512 * segments ≤ blocks → blocks ≤ 268435456 → main ≤ address → address < main + 512 * segments → (0 < address) × (address < 4294967295)
main_between cp sit nat ssa main blocks a b c d segments address low first second third fourth last most above below =
    (omega (arith, low, first, second, third, fourth, above), omega (arith, last, most, below))

module _ (image : Image) where
  -- an address that a block of a file has is a slot's, and one that a node has is an entry's
  pub data_slot : (address : ℕ) → is_data image address ≡ true → (ino : ℕ) × (k : ℕ) × (is_inode image ino ≡ true) × (k < most_blocks) × (tree_slot image ino k ≡ address)
  unfolding slots_with
  data_slot address d =
      let t = term_below (λ ino. count_below most_blocks (λ k. tree_slot image ino k == address)) (is_inode image) (nid_limit (layout image)) (positive _ d) in
      let place = counted_some (λ k. tree_slot image t.0 k == address) most_blocks t.3 in
      (t.0, place.0, t.2, place.1, eqb-true (tree_slot image t.0 place.0) address place.2)

  pub node_entry : (address : ℕ) → is_node image address ≡ true → (nid : ℕ) × (e : NatEntry) × (nat image nid ≡ Some e) × (e.address ≡ address)
  unfolding nodes_with
  node_entry address n =
      let t = counted_some (λ nid. option_map_or (λ e. e.address == address) (nat image nid) false) (nid_limit (layout image)) (positive _ n) in
      go t.0 (nat image t.0) refl t.2
    where
      go : (nid : ℕ) (o : Option NatEntry) → nat image nid ≡ o → option_map_or (λ e. e.address == address) (nat image nid) false ≡ true → (n : ℕ) × (e : NatEntry) × (nat image n ≡ Some e) × (e.address ≡ address)
      go nid None is here =
          let no : false ≡ true = rw is at here in
          absurd (false≢true no)
      go nid (Some e) is here =
          let test : (e.address == address) ≡ true = rw is at here in
          (nid, e, is, eqb-true e.address address test)

module _ (image : Image) (h : is_checked image ≡ true) where
  -- a main address is none that stands for a hole or a reserved block
  pub main_range : (address : ℕ) → is_main (layout image) address ≡ true → (0 < address) × (address < 4294967295)
  unfolding layout copy_passes has_joined_areas
  main_range address main =
      let b = super_bytes image in
      let p3 = and_parts _ _ (and_parts _ _ (readable_loads image h)).0 in
      let most = leb-true (block_count b) (2 ^ 28) p3.1 in
      let copied : is_some (super_copy image) ≡ true = (and_parts _ _ p3.0).0 in
      let joined : has_joined_areas b ≡ true = (and_parts _ _ (and_parts _ _ (and_parts _ _ (super_passes image copied)).0).0).1 in
      let p6 = and_parts _ _ joined in
      let p5 = and_parts _ _ p6.0 in
      let p4 = and_parts _ _ p5.0 in
      let q3 = and_parts _ _ p4.0 in
      let p2 = and_parts _ _ q3.0 in
      let p1 = and_parts _ _ p2.0 in
      let mains = eqb-true (main_blkaddr b) (ssa_blkaddr b + 512 * segment_count_ssa b) p5.1 in
      let ssa = eqb-true (ssa_blkaddr b) (nat_blkaddr b + 512 * segment_count_nat b) p4.1 in
      let nats = eqb-true (nat_blkaddr b) (sit_blkaddr b + 512 * segment_count_sit b) q3.1 in
      let sits = eqb-true (sit_blkaddr b) (cp_blkaddr b + 512 * segment_count_ckpt b) p2.1 in
      let low = leb-true 2 (cp_blkaddr b) p1.1 in
      let last = leb-true (main_blkaddr b + 512 * segment_count_main b) (block_count b) p6.1 in
      let above = leb-true (main_blkaddr b) address (and_parts _ _ main).0 in
      let below = ltb-true address (main_blkaddr b + 512 * segment_count_main b) (and_parts _ _ main).1 in
      main_between _ _ _ _ _ _ _ _ _ _ _ address low sits nats ssa mains last most above below

  pub inode_below : (ino : ℕ) → is_inode image ino ≡ true → ino < nid_limit (layout image)
  inode_below ino inode = let entry = inode_entry image h ino inode in nat-below image ino entry.0 entry.1

  -- ---- the blocks of files

  -- a slot that names a block names one of main, and no other slot and no node has its address
  pub slot_main : (ino k : ℕ) → is_inode image ino ≡ true → k < most_blocks → is_address (tree_slot image ino k) ≡ true → is_main (layout image) (tree_slot image ino k) ≡ true
  unfolding address_parts defects
  slot_main ino k inode within used =
      let a = tree_slot image ino k in
      let clear = part_clear (address_parts image) (rule_met image (body_checked image h) 4 (omega arith) (omega arith)) 0 no_part (omega arith) in
      not-false _ (none_fails _ clear ino k (inode_below ino inode) within
      (record { found = a; wanted = (layout image).main; fails = not (is_main (layout image) a) }) (rw (inode, used) refl))

  pub slot_once : (ino k : ℕ) → is_inode image ino ≡ true → k < most_blocks → is_address (tree_slot image ino k) ≡ true → slots_with image (tree_slot image ino k) + nodes_with image (tree_slot image ino k) ≡ 1
  unfolding address_parts defects
  slot_once ino k inode within used =
      let a = tree_slot image ino k in
      let found = slots_with image a + nodes_with image a in
      let clear = part_clear (address_parts image) (rule_met image (body_checked image h) 4 (omega arith) (omega arith)) 1 no_part (omega arith) in
      eqb-true found 1 (not-false _ (none_fails _ clear ino k (inode_below ino inode) within
      (record { found = found; wanted = 1; fails = not (found == 1) }) (rw (inode, used) refl)))

  -- each slot's address is that of a block of a file
  pub slot_data : (ino k : ℕ) → is_inode image ino ≡ true → k < most_blocks → is_data image (tree_slot image ino k) ≡ true
  unfolding slots_with
  slot_data ino k inode within =
      let a = tree_slot image ino k in
      let one = counted (λ j. tree_slot image ino j == a) most_blocks k within (eq-eqb a a refl) in
      let some = within_sum (λ i. count_below most_blocks (λ j. tree_slot image i j == a)) (is_inode image) (nid_limit (layout image)) ino (inode_below ino inode) inode one in
      lt-ltb 0 (slots_with image a) (omega (arith, some))

  -- ---- the nodes

  -- each entry's address is that of a node
  pub entry_node : (nid : ℕ) (e : NatEntry) → nat image nid ≡ Some e → is_node image e.address ≡ true
  unfolding nodes_with
  entry_node nid e is =
      let here : option_map_or (λ x. x.address == e.address) (nat image nid) false ≡ true = rw is (eq-eqb e.address e.address refl) in
      let some = counted (λ n. option_map_or (λ x. x.address == e.address) (nat image n) false) (nid_limit (layout image)) nid (nat-below image nid e is) here in
      lt-ltb 0 (nodes_with image e.address) (omega (arith, some))

  pub entry_in_main : (nid : ℕ) (e : NatEntry) → nat image nid ≡ Some e → is_main (layout image) e.address ≡ true
  entry_in_main nid e is = entry_main image (body_checked image h) nid e is
