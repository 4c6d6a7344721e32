-- An image whose blocks moved: the rule on the counts of inodes and their extents.
use Rattle.std.proofs.Common.{◌≡◌, ℕ, ◌+◌, ◌-◌, ◌/◌, ◌<◌, [], ◌++◌, Bool, true, false, ◌==◌, ◌&&◌, nat_le, nat_lt, not, cond, get_or, Option, Some, None, refl, sym, ap, ◌∙◌, subst, arith}
use Rattle.std.specs.Prelude.{flat_map, count_by, is_some}
use Rattle.std.specs.Option.{option_map_or}
use Rattle.std.specs.List.{list_any}
use Rattle.std.proofs.lemmas.Bool.{and_parts, eqb-true, leb-true, not-false, false≢true, false_from_ne_true}
use Rattle.f2_bytes.specs.Bytes.{Block, Image, numbers_below, count_below}
use Rattle.f2_bytes.specs.NodeAddressTable.{nat}
use Rattle.f2_bytes.specs.Node.{is_regular, is_inline, links, blocks, address_count, block_limit, ext_fofs, ext_addr, ext_len}
use Rattle.f2_bytes.specs.Tree.{tree_slot, is_inode}
use Rattle.f2_bytes.specs.Check.{Comparison, part_defects, same, where_true, of_value, nids, inode_of, directory_of, used_slots, links_wanted, extent_found, none_value, is_checked, is_rule_met, defects, inode_parts}
use Rattle.f2_bytes.specs.Moved.{covers_moved}
use Rattle.f2_bytes.proofs.Below.{some_below}
use Rattle.f2_bytes.proofs.CheckLaws.{none_fails, clear_from}
use Rattle.f2_bytes.proofs.CheckedChain.{part_clear}
use Rattle.f2_bytes.proofs.CheckedNodes.{no_part}
use Rattle.f2_bytes.proofs.MovedCounts.{each_rule_met, same_limit, nodes_of, used_slots-moved}
use Rattle.f2_bytes.proofs.MovedLinks.{inodes_same}
use Rattle.f2_bytes.proofs.MovedReads.{IsMovedInode, ReadsMoved}
use Rattle.f2_bytes.proofs.MovedTree.{is_directory_of-moved, names_in-moved, name_count-moved}
use Rattle.f2_bytes.proofs.MovedWords.{extent_gone, extent_agrees}
use Rattle.f2_bytes.proofs.PackReads.{cond_same}
use Rattle.f2_bytes.proofs.PartsHold.{Holds, same_holds, where_holds, value_holds, met_of}
use Rattle.f2_bytes.proofs.SameBytes.{narrow, number_same}

-- an inode that is read is one
inode_there : (image : Image) (ino : ℕ) (b : Block) → inode_of image ino ≡ Some b → is_inode image ino ≡ true
inode_there image ino b is = go (is_inode image ino) refl
  where
    go : (i : Bool) → is_inode image ino ≡ i → is_inode image ino ≡ true
    go true e = e
    go false e =
        let none : None ≡ Some b = rw e at is in
        absurd (cc none)

inner : (a b : Bool) (x y z : ℕ) → a ≡ false → b ≡ true → cond a 0 (cond b x y) ≡ z → x ≡ z
inner a b x y z none some e = sym (rw (none, some) refl) ∙ e

-- no address of an extent without moved blocks moved
stays : (to : ℕ → ℕ) (b : Block) → covers_moved to b ≡ false → is_regular b ≡ true → (i : ℕ) → i < ext_len b → to (ext_addr b + i) ≡ ext_addr b + i
unfolding covers_moved
stays to b free regular i low =
    let moves = λ (k : ℕ). not (to (ext_addr b + k) == ext_addr b + k) in
    let none : list_any moves (numbers_below (ext_len b)) ≡ false = rw regular at free in
    eqb-true (to (ext_addr b + i)) (ext_addr b + i) (not-false _ (false_from_ne_true (moves i) (λ moved. false≢true (sym none ∙ some_below moves (ext_len b) i low moved))))

module _ (to : ℕ → ℕ) (image other : Image) (h : is_checked image ≡ true) (r : ReadsMoved to image other) where
  clear : (k : ℕ) → k < 3 → part_defects (get_or (inode_parts image) k no_part) ≡ []
  unfolding inode_parts defects
  clear k low = part_clear (inode_parts image) (each_rule_met image h 9 (omega arith) (omega arith)) k no_part low

  -- ---- blocks and links

  blocks_by : Image → ℕ → Block → Option Comparison
  blocks_by some ino b = same (blocks b) (count_below (nids some) (λ nid. option_map_or (λ e. e.ino == ino) (nat some nid) false) + used_slots some ino)

  links_by : Image → ℕ → Block → Option Comparison
  links_by some ino b = same (links b) (links_wanted some ino b)

  blocks-moved : (ino : ℕ) (b c : Block) → inode_of image ino ≡ Some b → IsMovedInode to b c → blocks_by other ino c ≡ blocks_by image ino b
  unfolding blocks_by
  blocks-moved ino b c is n = λ i. same (n.same_blocks i) (nodes_of to image other r ino i + used_slots-moved to image other r ino (inode_there image ino b is) i)

  links-moved : (ino : ℕ) (b c : Block) → IsMovedInode to b c → links_by other ino c ≡ links_by image ino b
  unfolding links_by
  links-moved ino b c n = λ i. same (n.same_links i)
      (cond (n.same_mode i / 4096 == 4) (2 + count_by (λ item. is_some_at item.ino i) (names_in-moved to image other h r ino i)) (name_count-moved to image other h r ino i))
    where
      is_some_at : (ino : ℕ) → is_some (directory_of other ino) ≡ is_some (directory_of image ino)
      is_some_at ino = is_directory_of-moved to image other h r ino

  -- ---- the extent

  extent_by : Image → ℕ → ℕ → Option Comparison
  extent_by some ino k = of_value (inode_of some ino) (λ b. where_true (is_regular b && nat_le (ext_fofs b) k) (same (extent_found b (tree_slot some ino) k) (ext_addr b + k - ext_fofs b)))

  extent_end : Image → ℕ → ℕ
  extent_end some ino = option_map_or (λ b. ext_fofs b + ext_len b) (inode_of some ino) 0

  -- what the rule says of the image
  extent_says : (ino k : ℕ) (b : Block) → ino < nids image → inode_of image ino ≡ Some b → is_regular b ≡ true → nat_le (ext_fofs b) k ≡ true → k < ext_fofs b + ext_len b
      → extent_found b (tree_slot image ino) k ≡ ext_addr b + k - ext_fofs b
  unfolding inode_parts
  extent_says ino k b below is regular above within =
      let found = extent_found b (tree_slot image ino) k in
      let wanted = ext_addr b + k - ext_fofs b in
      let end : k < option_map_or (λ x. ext_fofs x + ext_len x) (inode_of image ino) 0 = rw is within in
      eqb-true found wanted (not-false _ (none_fails _ (clear 2 (omega arith)) ino k below end (record { found = found; wanted = wanted; fails = not (found == wanted) }) (rw (is, regular, above) refl)))

  module _ (ino : ℕ) (b c : Block) (below : ino < nids image) (is : inode_of image ino ≡ Some b) (n : IsMovedInode to b c) where
    inode : is_inode image ino ≡ true
    inode = inode_there image ino b is

    -- the block that the extent says
    found-moved : (k : ℕ) → covers_moved to b ≡ false → is_regular b ≡ true → nat_le (ext_fofs b) k ≡ true → k < ext_fofs b + ext_len b → extent_found c (tree_slot other ino) k ≡ extent_found b (tree_slot image ino) k
    found-moved k free regular above within =
        (λ i. cond (n.same_inline i) 0 (cond (nat_lt k (block_limit (n.same_count i))) (tree_slot other ino k) none_value))
        ∙ cond_same (is_inline b) (λ inside. refl) (λ outside.
        cond_same (nat_lt k (block_limit (address_count b))) (λ low.
        let low_k = leb-true (ext_fofs b) k above in
        let says : tree_slot image ino k ≡ ext_addr b + k - ext_fofs b
        = inner (is_inline b) (nat_lt k (block_limit (address_count b))) (tree_slot image ino k) none_value (ext_addr b + k - ext_fofs b) outside low (extent_says ino k b below is regular above within) in
        let place : ext_addr b + (k - ext_fofs b) ≡ tree_slot image ino k = omega (arith, says, low_k) in
        r.slot ino k inode ∙ sym (ap to place) ∙ stays to b free regular (k - ext_fofs b) (omega (arith, low_k, within)) ∙ place)
        (λ past. refl))

    kept_holds : covers_moved to b ≡ false → (k : ℕ) → k < ext_fofs c + ext_len c → Holds (where_true (is_regular c && nat_le (ext_fofs c) k) (same (extent_found c (tree_slot other ino) k) (ext_addr c + k - ext_fofs c)))
    kept_holds free k within =
        let agree = extent_agrees to b c n.node n.at_zero free in
        let fofs : ext_fofs c ≡ ext_fofs b = number_same b c 348 4 (narrow b c 348 360 348 352 agree (omega arith) (omega arith)) in
        let address : ext_addr c ≡ ext_addr b = number_same b c 352 4 (narrow b c 348 360 352 356 agree (omega arith) (omega arith)) in
        let len : ext_len c ≡ ext_len b = number_same b c 356 4 (narrow b c 348 360 356 360 agree (omega arith) (omega arith)) in
        where_holds (is_regular c && nat_le (ext_fofs c) k) _ (λ tests.
        let parts = and_parts (is_regular c) (nat_le (ext_fofs c) k) tests in
        let regular : is_regular b ≡ true = sym (ap (λ x. x / 4096 == 8) n.same_mode) ∙ parts.0 in
        let above : nat_le (ext_fofs b) k ≡ true = sym (ap (λ x. nat_le x k) fofs) ∙ parts.1 in
        let inside : k < ext_fofs b + ext_len b = omega (arith, within, fofs, len) in
        same_holds _ _
        (found-moved k free regular above inside
        ∙ extent_says ino k b below is regular above inside
        ∙ sym (λ i. address i + k - fofs i)))

    gone : covers_moved to b ≡ true → ext_fofs c + ext_len c ≡ 0
    gone covers =
        let fofs : ext_fofs c ≡ 0 = n.node.words 87 (omega arith) ∙ extent_gone to b 87 n.at_zero covers (omega arith) (omega arith) in
        let len : ext_len c ≡ 0 = n.node.words 89 (omega arith) ∙ extent_gone to b 89 n.at_zero covers (omega arith) (omega arith) in
        omega (arith, fofs, len)

    any_holds : (k : ℕ) → k < ext_fofs c + ext_len c → Holds (where_true (is_regular c && nat_le (ext_fofs c) k) (same (extent_found c (tree_slot other ino) k) (ext_addr c + k - ext_fofs c)))
    any_holds k within = go (covers_moved to b) refl
      where
        go : (v : Bool) → covers_moved to b ≡ v → Holds (where_true (is_regular c && nat_le (ext_fofs c) k) (same (extent_found c (tree_slot other ino) k) (ext_addr c + k - ext_fofs c)))
        go true e = let none = gone e in absurd (omega (arith, none, within))
        go false e = kept_holds e k within

  extent_holds : (ino k : ℕ) → ino < nids image → k < extent_end other ino → Holds (extent_by other ino k)
  unfolding extent_by extent_end
  extent_holds ino k below within =
      value_holds (inode_of other ino) _ (λ c there. by_inode (inode_of image ino) refl c there)
    where
      by_inode : (o : Option Block) → inode_of image ino ≡ o → (c : Block) → inode_of other ino ≡ Some c → Holds (where_true (is_regular c && nat_le (ext_fofs c) k) (same (extent_found c (tree_slot other ino) k) (ext_addr c + k - ext_fofs c)))
      by_inode None is c there =
          let none : None ≡ Some c = sym ((r.inodes ino).none is) ∙ there in
          absurd (cc none)
      by_inode (Some b) is c there =
          let t = (r.inodes ino).some b is in
          let both : Some t.0 ≡ Some c = sym t.1 ∙ there in
          let same_block : t.0 ≡ c = ap (λ o. elim o [ Some x ↦ x | None ↦ c ]) both in
          let end : k < ext_fofs c + ext_len c = rw there at within in
          any_holds ino b c below is (subst (λ x. IsMovedInode to b x) same_block t.2) k end

  -- ---- the rule

  inodes-moved : flat_map part_defects (inode_parts other) ≡ []
  unfolding inode_parts blocks_by links_by extent_by extent_end
  inodes-moved = λ i. first i ++ (second i ++ (third i ++ []))
    where
      first : part_defects (get_or (inode_parts other) 0 no_part) ≡ []
      first = inodes_same to image other h r 1 (blocks_by image) (blocks_by other) blocks-moved ∙ clear 0 (omega arith)

      second : part_defects (get_or (inode_parts other) 1 no_part) ≡ []
      second = inodes_same to image other h r 2 (links_by image) (links_by other) (λ ino b c is n. links-moved ino b c n) ∙ clear 1 (omega arith)

      third : part_defects (get_or (inode_parts other) 2 no_part) ≡ []
      third = clear_from (get_or (inode_parts other) 2 no_part) (λ ino k low within.
          let limit = same_limit to image other r in
          extent_holds ino k (omega (arith, low, limit)) within)

  pub inodes_met : is_rule_met other 9 ≡ true
  unfolding defects
  inodes_met = met_of (inode_parts other) inodes-moved
