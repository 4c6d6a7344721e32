-- On a checked image the blocks of files that lie in main are in the support.
use Rattle.std.proofs.Common.{◌≡◌, ℕ, ◌+◌, ◌*◌, ◌<◌, ◌≤◌, List, ◌∷◌, Bool, true, false, ◌==◌, not, nat_le, Option, Some, None, refl, sym, ap, ◌∙◌, ⊎_elim, arith}
use Rattle.std.specs.Prelude.{is_none, find, is_some}
use Rattle.std.specs.List.{list_any, range_with_len}
use Rattle.std.specs.Option.{option_map_or}
use Rattle.std.proofs.lemmas.Bool.{and_parts, and_from, eqb-true, eq-eqb, ne_eqb, leb-true, lt-leb, false≢true}
use Rattle.f2_bytes.specs.Bytes.{Block, Image, block_at, word, numbers_below}
use Rattle.f2_bytes.specs.Superblock.{copy_passes, has_joined_areas, is_loadable, super_copy, super_bytes, layout, is_main, cp_blkaddr, sit_blkaddr, nat_blkaddr, ssa_blkaddr, main_blkaddr, segment_count_ckpt, segment_count_sit, segment_count_nat, segment_count_ssa}
use Rattle.f2_bytes.specs.Journal.{NatEntry}
use Rattle.f2_bytes.specs.NodeAddressTable.{nat}
use Rattle.f2_bytes.specs.Node.{node_offset, has_slots, is_direct, address_count, address_word, locate, offset_limit, word_in, word_at_spot, slot_in}
use Rattle.f2_bytes.specs.Tree.{read_node, node_within, tree_node, nid_slot, tree_slot, is_inode}
use Rattle.f2_bytes.specs.Check.{is_checked, is_checked_body, is_rule_met, offset_of_node}
use Rattle.f2_bytes.specs.Support.{is_support, has_slot_word}
use Rattle.f2_bytes.proofs.Below.{some_below}
use Rattle.f2_bytes.proofs.CheckedNodes.{nat-below, read_node-checked, node_block-checked}
use Rattle.f2_bytes.proofs.CheckedPlaces.{offset_limit-value, inode_at_zero, slot_offset, offset_says}
use Rattle.f2_bytes.proofs.Located.{lands, locate_below, locate_lands}
use Rattle.f2_bytes.proofs.TreeNodes.{read_node-zero, tree_node-nid_slot}
use Rattle.f2_bytes.proofs.InSupport.{slot_in_support}
use Rattle.f2_bytes.proofs.FormatFacts.{super_passes}

-- a checked image has a checked body
none_after : {A : Type 0} (p : A → Bool) (x : A) (xs : List A) → is_none (find p (x ∷ xs)) ≡ true → is_none (find p xs) ≡ true
none_after p x xs h = go (p x) refl
  where
    go : (b : Bool) → p x ≡ b → is_none (find p xs) ≡ true
    go true e =
        let no : false ≡ true = rw e at h in
        absurd (false≢true no)
    go false e =
        let rest : is_none (find p xs) ≡ true = rw e at h in
        rest

pub body_checked : (image : Image) → is_checked image ≡ true → is_checked_body image ≡ true
body_checked image h =
    let parts = and_parts _ _ h in
    and_from _ _ parts.0 (none_after (λ rule. not (is_rule_met image rule)) 1 (range_with_len 2 11) parts.1)

-- the areas follow each other behind the first two blocks
main_above : (cp sit nat ssa main a b c d : ℕ) → 2 ≤ cp → sit ≡ cp + 512 * a → nat ≡ sit + 512 * b → ssa ≡ nat + 512 * c → main ≡ ssa + 512 * d → 0 < main
main_above cp sit nat ssa main a b c d low first second third fourth = omega (arith, low, first, second, third, fourth)

-- block 0 is not in main
pub zero_not_main : (image : Image) → is_some (super_copy image) ≡ true → is_main (layout image) 0 ≡ false
unfolding copy_passes has_joined_areas layout
zero_not_main image h =
    let b = super_bytes image in
    let joined : has_joined_areas b ≡ true = (and_parts _ _ (and_parts _ _ (and_parts _ _ (super_passes image h)).0).0).1 in
    let p5 = and_parts _ _ (and_parts _ _ joined).0 in
    let p4 = and_parts _ _ p5.0 in
    let p3 = and_parts _ _ p4.0 in
    let p2 = and_parts _ _ p3.0 in
    let p1 = and_parts _ _ p2.0 in
    let main = eqb-true (main_blkaddr b) (ssa_blkaddr b + 512 * segment_count_ssa b) p5.1 in
    let ssa = eqb-true (ssa_blkaddr b) (nat_blkaddr b + 512 * segment_count_nat b) p4.1 in
    let nats = eqb-true (nat_blkaddr b) (sit_blkaddr b + 512 * segment_count_sit b) p3.1 in
    let sits = eqb-true (sit_blkaddr b) (cp_blkaddr b + 512 * segment_count_ckpt b) p2.1 in
    let low = leb-true 2 (cp_blkaddr b) p1.1 in
    let out : nat_le (main_blkaddr b) 0 ≡ false = lt-leb (main_blkaddr b) 0 (main_above _ _ _ _ _ _ _ _ _ low sits nats ssa main) in
    rw out refl

-- so nothing is to show of a slot that is 0
pub no_block : (image : Image) → is_some (super_copy image) ≡ true → (a : ℕ) → a ≡ 0 → is_main (layout image) a ≡ true → is_support image a ≡ true
no_block image copied a at main = absurd (false≢true (sym (zero_not_main image copied) ∙ sym (ap (is_main (layout image)) at) ∙ main))

-- nor twice of two slots of one value
pub moved : (image : Image) (a b : ℕ) → a ≡ b → (is_main (layout image) b ≡ true → is_support image b ≡ true) → is_main (layout image) a ≡ true → is_support image a ≡ true
moved image a b e there main = ap (is_support image) e ∙ there (sym (ap (is_main (layout image)) e) ∙ main)

-- ---- a node has an address among its slots

pub word_of_inode : (b : Block) (j : ℕ) → node_offset b ≡ 0 → has_slots b ≡ true → j < address_count b → has_slot_word b (address_word b j) ≡ true
unfolding has_slot_word
word_of_inode b j at slots low =
    let found = some_below (λ i. address_word b i == address_word b j) (address_count b) j low (eq-eqb (address_word b j) (address_word b j) refl) in
    rw (eq-eqb (node_offset b) 0 at) (and_from (has_slots b) (list_any (λ i. address_word b i == address_word b j) (numbers_below (address_count b))) slots found)

pub word_of_node : (b : Block) (j : ℕ) → (node_offset b ≡ 0 → ⊥) → is_direct (node_offset b) ≡ true → j < 1018 → has_slot_word b (word b j) ≡ true
unfolding has_slot_word
word_of_node b j away direct low =
    let found = some_below (λ i. word b i == word b j) 1018 j low (eq-eqb (word b j) (word b j) refl) in
    rw (ne_eqb (node_offset b) 0 away) (and_from (is_direct (node_offset b)) (list_any (λ i. word b i == word b j) (numbers_below 1018)) direct found)

module _ (image : Image) (h : is_checked image ≡ true) where
  pub readable_loads : is_loadable image ≡ true
  readable_loads = (and_parts _ _ (and_parts _ _ (and_parts _ _ h).0).0).0

  copied : is_some (super_copy image) ≡ true
  copied = (and_parts _ _ (and_parts _ _ (and_parts _ _ readable_loads).0).0).0

  -- the entry of an inode
  pub inode_entry : (ino : ℕ) → is_inode image ino ≡ true → (e : NatEntry) × (nat image ino ≡ Some e)
  unfolding is_inode
  inode_entry ino inode = go (nat image ino) refl
    where
      go : (o : Option NatEntry) → nat image ino ≡ o → (e : NatEntry) × (nat image ino ≡ Some e)
      go None e =
          let no : false ≡ true = rw e at inode in
          absurd (false≢true no)
      go (Some entry) e = (entry, e)

  -- the word where locate leads
  spot_support : (ino : ℕ) (e : NatEntry) → nat image ino ≡ Some e → is_inode image ino ≡ true → has_slots (block_at image e.address) ≡ true
      → (spot : ℕ × ℕ) → spot.0 < offset_limit → lands (address_count (block_at image e.address)) spot
      → is_main (layout image) (word_in spot (tree_node image ino spot.0)) ≡ true → is_support image (word_in spot (tree_node image ino spot.0)) ≡ true
  unfolding node_within
  spot_support ino e is inode slots spot within place main = ⊎_elim in_inode in_node place
    where
      goal : Type 0
      goal = is_support image (word_in spot (tree_node image ino spot.0)) ≡ true

      in_inode : (spot.0 ≡ 0) × (spot.1 < address_count (block_at image e.address)) → goal
      in_inode t =
          let b = block_at image e.address in
          let read : read_node image ino ≡ Some b = read_node-checked image (body_checked image h) ino e is in
          let node : tree_node image ino spot.0 ≡ Some b = ap (tree_node image ino) t.0 ∙ read in
          let value : word_in spot (tree_node image ino spot.0) ≡ address_word b spot.1 = ap (word_in spot) node ∙ rw (eq-eqb spot.0 0 t.0) refl in
          moved image (word_in spot (tree_node image ino spot.0)) (address_word b spot.1) value
          (slot_in_support image ino b (address_word b spot.1) (nat-below image ino e is) (node_block-checked image (body_checked image h) ino ∙ read)
          (word_of_inode b spot.1 (inode_at_zero image (body_checked image h) ino e is inode) slots t.1)) main

      in_node : (is_direct spot.0 ≡ true) × (spot.1 < 1018) → goal
      in_node t = by_nid (nid_slot image ino spot.0 == 0) refl
        where
          away : spot.0 ≡ 0 → ⊥
          away z =
              let no : false ≡ true = ap is_direct (sym z) ∙ t.0 in
              false≢true no

          nid : ℕ
          nid = nid_slot image ino spot.0

          named : tree_node image ino spot.0 ≡ read_node image nid
          named = tree_node-nid_slot image ino spot.0 (ap (λ o. option_map_or has_slots o false) (read_node-checked image (body_checked image h) ino e is) ∙ slots) away

          by_nid : (z : Bool) → (nid_slot image ino spot.0 == 0) ≡ z → goal
          by_nid true z =
              let node : tree_node image ino spot.0 ≡ None = named ∙ ap (read_node image) (eqb-true nid 0 z) ∙ read_node-zero image in
              no_block image copied (word_in spot (tree_node image ino spot.0)) (ap (word_in spot) node) main
          by_nid false z =
              let limit = offset_limit-value in
              let at : offset_of_node image nid ino ≡ spot.0 = slot_offset image (body_checked image h) ino spot.0 inode (nat-below image ino e is) within z in
              let says = offset_says image (body_checked image h) nid ino spot.0 at (omega (arith, within, limit)) in
              let c = block_at image says.0.address in
              let read : read_node image nid ≡ Some c = read_node-checked image (body_checked image h) nid says.0 says.1 in
              let value : word_in spot (tree_node image ino spot.0) ≡ word c spot.1 = ap (word_in spot) (named ∙ read) ∙ rw (ne_eqb spot.0 0 away) refl in
              moved image (word_in spot (tree_node image ino spot.0)) (word c spot.1) value
              (slot_in_support image nid c (word c spot.1) (nat-below image nid says.0 says.1) (node_block-checked image (body_checked image h) nid ∙ read)
              (word_of_node c spot.1 (λ w. away (sym says.3 ∙ w)) (ap is_direct says.3 ∙ t.0) t.1)) main

  -- the address of a block of a file
  pub tree_slot_support : (ino k : ℕ) → is_inode image ino ≡ true → is_main (layout image) (tree_slot image ino k) ≡ true → is_support image (tree_slot image ino k) ≡ true
  unfolding tree_slot node_within
  tree_slot_support ino k inode =
      let entry = inode_entry ino inode in
      by_block entry.0 entry.1
    where
      by_block : (e : NatEntry) → nat image ino ≡ Some e → is_main (layout image) (tree_slot image ino k) ≡ true → is_support image (tree_slot image ino k) ≡ true
      by_block e is = moved image (tree_slot image ino k) (slot_in (tree_node image ino) (Some b) k) value (by_slots (has_slots b) refl)
        where
          b : Block
          b = block_at image e.address

          value : tree_slot image ino k ≡ slot_in (tree_node image ino) (Some b) k
          value = ap (λ o. slot_in (tree_node image ino) o k) (read_node-checked image (body_checked image h) ino e is)

          by_slots : (f : Bool) → has_slots b ≡ f → is_main (layout image) (slot_in (tree_node image ino) (Some b) k) ≡ true → is_support image (slot_in (tree_node image ino) (Some b) k) ≡ true
          by_slots false f = no_block image copied (slot_in (tree_node image ino) (Some b) k) (rw f refl)
          by_slots true f = moved image (slot_in (tree_node image ino) (Some b) k) (word_at_spot (tree_node image ino) (locate k (address_count b))) (rw f refl) (by_spot (locate k (address_count b)) refl)
            where
              by_spot : (o : Option (ℕ × ℕ)) → locate k (address_count b) ≡ o → is_main (layout image) (word_at_spot (tree_node image ino) o) ≡ true → is_support image (word_at_spot (tree_node image ino) o) ≡ true
              by_spot None l = no_block image copied 0 refl
              by_spot (Some spot) l = spot_support ino e is inode f spot (locate_below k (address_count b) spot l) (locate_lands k (address_count b) spot l)
