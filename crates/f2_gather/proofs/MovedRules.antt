-- What the cross-checks say of one valid block of a checked image.
use Rattle.std.proofs.Common.{◌≡◌, ℕ, ◌+◌, ◌-◌, ◌*◌, ◌^◌, ◌<◌, ◌≤◌, [], Bool, true, false, not, ◌||◌, ◌==◌, nat_le, nat_lt, cond, length, get_or, Some, refl, sym, ap, subst, ◌∙◌, arith}
use Rattle.std.proofs.lemmas.Bool.{and_parts, or_parts, eqb-true, ne_eqb, not-false, leb-true, ltb-true, ltb-false, lt-ltb, le-leb}
use Rattle.f2_bytes.specs.Bytes.{Block, Image, block_at}
use Rattle.f2_bytes.specs.Superblock.{layout, is_main, segment_start, segment_of, place_of, IsInOrder}
use Rattle.f2_bytes.specs.Journal.{NatEntry}
use Rattle.f2_bytes.specs.Node.{most_blocks, block_limit, address_count, is_inline, is_regular, ext_fofs, ext_addr, ext_len, footer_nid, has_inline_xattr, has_inline_dentry}
use Rattle.f2_bytes.specs.NodeAddressTable.{nid_limit, nat}
use Rattle.f2_bytes.specs.Summary.{summary}
use Rattle.f2_bytes.specs.Tree.{read_node, tree_slot, is_inode}
use Rattle.f2_bytes.specs.Check.{part_defects, defects, is_checked_body, address_parts, validity_parts, summary_parts, inode_parts, slots_with, nodes_with, is_data, is_node, is_marked, kind_at, nid_wanted, digit, inode_of, extent_found}
use Rattle.f2_bytes.specs.Defragment.{is_covered}
use Rattle.f2_bytes.proofs.CheckLaws.{none_fails}
use Rattle.f2_bytes.proofs.CheckedChain.{rule_met, part_clear}
use Rattle.f2_bytes.proofs.CheckedNodes.{no_part, entry_nid}
use Rattle.f2_bytes.proofs.Terms.{true_from_digit}
use Rattle.f2_gather.specs.Gathering.{holds_data}

-- ---- addresses in main

pub record InMain (image : Image) (a : ℕ) : Type 0 where
  pub some : a ≡ 0 → ⊥
  pub low : a < 2 ^ 28
  pub segment : segment_of (layout image) a < (layout image).segments
  pub is : segment_start (layout image) (segment_of (layout image) a) + place_of (layout image) a ≡ a

pub in_main : (image : Image) (a : ℕ) → IsInOrder (layout image) → is_main (layout image) a ≡ true → InMain image a
in_main image a order main =
    let l = layout image in
    let parts = and_parts (nat_le l.main a) (nat_lt a (l.main + 512 * l.segments)) main in
    let low : l.main ≤ a = leb-true l.main a parts.0 in
    let high : a < l.main + 512 * l.segments = ltb-true a (l.main + 512 * l.segments) parts.1 in
    let above = order.main in
    let inside = order.inside in
    let few = order.few in
    record {
      some = λ e. omega (arith, e, low, above);
      low = omega (arith, high, inside, few);
      segment = omega (arith, low, high);
      is = omega (arith, low);
    }

place_below : (image : Image) (a : ℕ) → place_of (layout image) a < 512
place_below image a = omega arith

-- ---- files

pub count_most : (b : Block) → address_count b ≤ 923
unfolding address_count
count_most b = by_flags (has_inline_xattr b || has_inline_dentry b)
  where
    by_flags : (f : Bool) → cond {A = ℕ} f 873 923 ≤ 923
    by_flags true = omega arith
    by_flags false = omega arith

limit_most : (n : ℕ) → n ≤ 923 → block_limit n ≤ most_blocks
unfolding most_blocks
limit_most n low = omega (arith, low)

-- what an extent has to find is a block's address
found_is : (inline within : Bool) (slot a : ℕ) → (a ≡ 0 → ⊥) → (a ≡ 2 ^ 32 → ⊥) → cond inline 0 (cond within slot (2 ^ 32)) ≡ a → (within ≡ true) × (slot ≡ a)
found_is true within slot a some small is = absurd (some (sym is))
found_is false true slot a some small is = (refl, is)
found_is false false slot a some small is = absurd (small (sym is))

module _ (image : Image) (h : is_checked_body image ≡ true) where
  address_clear : (k : ℕ) → k < length (address_parts image) → part_defects (get_or (address_parts image) k no_part) ≡ []
  unfolding defects
  address_clear k low = part_clear (address_parts image) (rule_met image h 4 (omega arith) (omega arith)) k no_part low

  validity_clear : (k : ℕ) → k < length (validity_parts image) → part_defects (get_or (validity_parts image) k no_part) ≡ []
  unfolding defects
  validity_clear k low = part_clear (validity_parts image) (rule_met image h 5 (omega arith) (omega arith)) k no_part low

  summary_clear : (k : ℕ) → k < length (summary_parts image) → part_defects (get_or (summary_parts image) k no_part) ≡ []
  unfolding defects
  summary_clear k low = part_clear (summary_parts image) (rule_met image h 6 (omega arith) (omega arith)) k no_part low

  inode_clear : (k : ℕ) → k < length (inode_parts image) → part_defects (get_or (inode_parts image) k no_part) ≡ []
  unfolding defects
  inode_clear k low = part_clear (inode_parts image) (rule_met image h 9 (omega arith) (omega arith)) k no_part low

  -- the address of a slot stands once
  pub had_once : (ino k : ℕ) → ino < nid_limit (layout image) → is_inode image ino ≡ true → k < most_blocks → (tree_slot image ino k ≡ 0 → ⊥) → tree_slot image ino k < 2 ^ 28
      → slots_with image (tree_slot image ino k) + nodes_with image (tree_slot image ino k) ≡ 1
  unfolding address_parts
  had_once ino k below inode within some low =
      let a = tree_slot image ino k in
      let found = slots_with image a + nodes_with image a in
      eqb-true found 1 (not-false _ (none_fails _ (address_clear 1 (omega arith)) ino k below within
      (record { found = found; wanted = 1; fails = not (found == 1) })
      (rw (inode, ne_eqb a 0 some, ne_eqb a (2 ^ 32 - 1) (λ e. omega (arith, e, low))) refl)))

  -- two nodes stand apart
  pub one_node : (n m : ℕ) (e f : NatEntry) → nat image n ≡ Some e → nat image m ≡ Some f → e.address ≡ f.address → n ≡ m
  one_node n m e f is too same =
      let first = eqb-true (footer_nid (block_at image e.address)) n (entry_nid image h n e is) in
      let second = eqb-true (footer_nid (block_at image f.address)) m (entry_nid image h m f too) in
      sym first ∙ ap (λ x. footer_nid (block_at image x)) same ∙ second

  -- an extent covers blocks of its own file alone
  pub covered_block : (ino a : ℕ) (b : Block) → ino < nid_limit (layout image) → is_inode image ino ≡ true → read_node image ino ≡ Some b → is_regular b ≡ true
      → is_covered (ext_addr b, ext_len b) a ≡ true → (a ≡ 0 → ⊥) → a < 2 ^ 28 → (k : ℕ) × (k < most_blocks) × (tree_slot image ino k ≡ a)
  unfolding inode_parts
  covered_block ino a b below inode read regular covered some low =
      let parts = and_parts (nat_le (ext_addr b) a) (nat_lt a (ext_addr b + ext_len b)) covered in
      let start : ext_addr b ≤ a = leb-true (ext_addr b) a parts.0 in
      let end : a < ext_addr b + ext_len b = ltb-true a (ext_addr b + ext_len b) parts.1 in
      let k = ext_fofs b + (a - ext_addr b) in
      let found = extent_found b (tree_slot image ino) k in
      let wanted = ext_addr b + k - ext_fofs b in
      let inside : k < ext_fofs b + ext_len b = omega (arith, start, end) in
      let own : inode_of image ino ≡ Some b = rw (inode, read) refl in
      let is : found ≡ wanted = eqb-true found wanted (not-false _ (none_fails _ (inode_clear 2 (omega arith)) ino k below (rw own inside)
      (record { found = found; wanted = wanted; fails = not (found == wanted) })
      (rw (own, regular, le-leb (ext_fofs b) k (omega arith)) refl))) in
      let here : wanted ≡ a = omega (arith, start) in
      let slot = found_is (is_inline b) (nat_lt k (block_limit (address_count b))) (tree_slot image ino k) a some (λ e. omega (arith, e, low)) (is ∙ here) in
      let within : k < block_limit (address_count b) = ltb-true k (block_limit (address_count b)) slot.0 in
      let most = limit_most (address_count b) (count_most b) in
      (k, omega (arith, within, most), slot.1)

  module _ (order : IsInOrder (layout image)) (a : ℕ) (main : is_main (layout image) a ≡ true) (marked : is_marked image a ≡ true) where
    place : InMain image a
    place = in_main image a order main

    -- a valid block is one of a slot or of a node
    pub owned : (is_data image a || is_node image a) ≡ true
    unfolding validity_parts
    owned =
        let s = segment_of (layout image) a in
        let k = place_of (layout image) a in
        let at = segment_start (layout image) s + k in
        let found = digit (is_marked image at) in
        let wanted = digit (is_data image at || is_node image at) in
        let there : (found == wanted) ≡ true = not-false _ (none_fails _ (validity_clear 0 (omega arith)) s k place.segment (place_below image a)
        (record { found = found; wanted = wanted; fails = not (found == wanted) }) refl) in
        let here : (digit (is_marked image a) == digit (is_data image a || is_node image a)) ≡ true
        = subst (λ (x : ℕ). (digit (is_marked image x) == digit (is_data image x || is_node image x)) ≡ true) place.is there in
        let same : digit (is_marked image a) ≡ digit (is_data image a || is_node image a) = eqb-true _ _ here in
        let one : digit (is_marked image a) ≡ 1 = ap digit marked in
        true_from_digit (is_data image a || is_node image a) (omega (arith, same, one))

    -- its segment is one of data just where the block is data
    pub kind_is : holds_data image a ≡ is_data image a
    unfolding validity_parts
    kind_is = go (is_data image a) refl
      where
        s : ℕ
        s = segment_of (layout image) a

        k : ℕ
        k = place_of (layout image) a

        at : ℕ
        at = segment_start (layout image) s + k

        go : (b : Bool) → is_data image a ≡ b → holds_data image a ≡ is_data image a
        go true holds =
            let data_at : is_data image at ≡ true = ap (is_data image) place.is ∙ holds in
            let marked_at : is_marked image at ≡ true = ap (is_marked image) place.is ∙ marked in
            let there : nat_lt 2 (kind_at image at) ≡ false = none_fails _ (validity_clear 2 (omega arith)) s k place.segment (place_below image a)
            (record { found = kind_at image at; wanted = 0; fails = nat_lt 2 (kind_at image at) }) (rw (marked_at, data_at) refl) in
            let here : nat_lt 2 (kind_at image a) ≡ false = sym (ap (λ x. nat_lt 2 (kind_at image x)) place.is) ∙ there in
            let low : kind_at image a ≤ 2 = ltb-false 2 (kind_at image a) here in
            lt-ltb (kind_at image a) 3 (omega (arith, low)) ∙ sym holds
        go false other =
            let other_at : is_data image at ≡ false = ap (is_data image) place.is ∙ other in
            let marked_at : is_marked image at ≡ true = ap (is_marked image) place.is ∙ marked in
            let node : is_node image a ≡ true = ap (λ b. b || is_node image a) (sym other) ∙ owned in
            let node_at : is_node image at ≡ true = ap (is_node image) place.is ∙ node in
            let there : (nat_lt (kind_at image at) 3 || nat_lt 5 (kind_at image at)) ≡ false = none_fails _ (validity_clear 2 (omega arith)) s k place.segment (place_below image a)
            (record { found = kind_at image at; wanted = 3; fails = nat_lt (kind_at image at) 3 || nat_lt 5 (kind_at image at) }) (rw (marked_at, other_at, node_at) refl) in
            sym (ap (λ x. nat_lt (kind_at image x) 3) place.is) ∙ (or_parts (nat_lt (kind_at image at) 3) (nat_lt 5 (kind_at image at)) there).0 ∙ sym other

    -- its summary names the node that it belongs to
    pub summary_names : (summary image a).nid ≡ nid_wanted image a
    unfolding summary_parts
    summary_names =
        let s = segment_of (layout image) a in
        let k = place_of (layout image) a in
        let at = segment_start (layout image) s + k in
        let found = (summary image at).nid in
        let wanted = nid_wanted image at in
        let marked_at : is_marked image at ≡ true = ap (is_marked image) place.is ∙ marked in
        let there : (found == wanted) ≡ true = not-false _ (none_fails _ (summary_clear 0 (omega arith)) s k place.segment (place_below image a)
        (record { found = found; wanted = wanted; fails = not (found == wanted) }) (rw marked_at refl)) in
        subst (λ (x : ℕ). (summary image x).nid ≡ nid_wanted image x) place.is (eqb-true found wanted there)
