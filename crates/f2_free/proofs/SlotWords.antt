-- The blocks that a node uses: those in its slots.
use Rattle.std.proofs.Common.{◌≡◌, ℕ, ◌+◌, ◌==◌, Bool, true, false, ◌&&◌, ◌||◌, cond, Option, Some, None, sym, ap, ◌∙◌, arith}
use Rattle.std.specs.List.{list_any}
use Rattle.std.specs.Option.{option_map_or}
use Rattle.std.proofs.lemmas.Bool.{eq-eqb, ne_eqb}
use Rattle.f2_bytes.specs.Bytes.{Block, Image, word, numbers_below}
use Rattle.f2_bytes.specs.Node.{node_offset, has_slots, is_direct, address_count, address_word}
use Rattle.f2_bytes.specs.RollForward.{NodePlace, found_place, node_of, node_block}
use Rattle.f2_bytes.specs.Support.{has_slot_word}
use Rattle.f2_free.specs.NodePlaces.{uses}
use Rattle.f2_free.specs.SegmentMarks.{MarkTable, MarksBlocks}
use Rattle.f2_free.proofs.MarkSteps.{marks-same, marks-none, marks-then, marks-then_none}

-- the test of a node's slots, from its parts
abbrev slot_test : Block → ℕ → Bool → Bool → Bool → Bool
slot_test b address inode slots direct =
    cond inode (slots && list_any (λ j. address_word b j == address) (numbers_below (address_count b))) (direct && list_any (λ j. word b j == address) (numbers_below 1018))

slots-are : (b : Block) (address : ℕ) (inode slots direct : Bool) → inode ≡ (node_offset b == 0) → slots ≡ has_slots b → direct ≡ is_direct (node_offset b) → slot_test b address inode slots direct ≡ has_slot_word b address
unfolding has_slot_word
slots-are b address inode slots direct inode_is slots_is direct_is = λ i. slot_test b address (inode_is i) (slots_is i) (direct_is i)

module _ {m n : MarkTable} (b : Block) where
  pub slots-inode : node_offset b ≡ 0 → true ≡ has_slots b → MarksBlocks m n (λ a. list_any (λ j. word b (90 + j) == a) (numbers_below (address_count b))) → MarksBlocks m n (has_slot_word b)
  slots-inode zero has marks =
      marks-same (λ a. list_any (λ j. word b (90 + j) == a) (numbers_below (address_count b))) (has_slot_word b)
      (λ a. slots-are b a true true (is_direct (node_offset b)) (sym (eq-eqb (node_offset b) 0 zero)) has (λ i. is_direct (node_offset b))) marks

  pub slots-direct : (node_offset b ≡ 0 → ⊥) → true ≡ is_direct (node_offset b) → MarksBlocks m n (λ a. list_any (λ j. word b (0 + j) == a) (numbers_below 1018)) → MarksBlocks m n (has_slot_word b)
  slots-direct other direct marks =
      marks-same (λ a. list_any (λ j. word b (0 + j) == a) (numbers_below 1018)) (has_slot_word b)
      (λ a. (λ i. list_any (λ j. word b (from_zero j i) == a) (numbers_below 1018))
      ∙ slots-are b a false (has_slots b) true (sym (ne_eqb (node_offset b) 0 other)) (λ i. has_slots b) direct) marks
    where
      from_zero : (j : ℕ) → 0 + j ≡ j
      from_zero j = omega arith

module _ (m : MarkTable) (b : Block) where
  pub slots-none_inode : node_offset b ≡ 0 → false ≡ has_slots b → MarksBlocks m m (has_slot_word b)
  slots-none_inode zero none =
      marks-same (λ a. false) (has_slot_word b) (λ a. slots-are b a true false (is_direct (node_offset b)) (sym (eq-eqb (node_offset b) 0 zero)) none (λ i. is_direct (node_offset b))) (marks-none m)

  pub slots-none : (node_offset b ≡ 0 → ⊥) → false ≡ is_direct (node_offset b) → MarksBlocks m m (has_slot_word b)
  slots-none other none =
      marks-same (λ a. false) (has_slot_word b) (λ a. slots-are b a false (has_slots b) false (sym (ne_eqb (node_offset b) 0 other)) (λ i. has_slots b) none) (marks-none m)

-- the blocks that a node uses: where it stands, and those in its slots
module _ (image : Image) (nid : ℕ) (place : Option NodePlace) (found : place ≡ found_place image nid) where
  pub uses-node : {a b c : MarkTable} (block : Block) → node_of image nid place ≡ Some block → MarksBlocks a b (λ x. option_map_or (λ (at : NodePlace). at.address == x) place false) → MarksBlocks b c (has_slot_word block)
      → MarksBlocks a c (uses image nid)
  unfolding node_block
  uses-node block node first second =
      let here : Some block ≡ node_block image nid = sym node ∙ ap (node_of image nid) found in
      marks-same (λ x. option_map_or (λ (at : NodePlace). at.address == x) place false || has_slot_word block x) (uses image nid)
      (λ x i. option_map_or (λ (at : NodePlace). at.address == x) (found i) false || option_map_or (λ y. has_slot_word y x) (here i) false)
      (marks-then (λ x. option_map_or (λ (at : NodePlace). at.address == x) place false) (has_slot_word block) first second)

  pub uses-no_node : {a b : MarkTable} → node_of image nid place ≡ None → MarksBlocks a b (λ x. option_map_or (λ (at : NodePlace). at.address == x) place false) → MarksBlocks a b (uses image nid)
  unfolding node_block
  uses-no_node none first =
      let here : None ≡ node_block image nid = sym none ∙ ap (node_of image nid) found in
      marks-same (λ x. option_map_or (λ (at : NodePlace). at.address == x) place false || false) (uses image nid)
      (λ x i. option_map_or (λ (at : NodePlace). at.address == x) (found i) false || option_map_or (λ y. has_slot_word y x) (here i) false)
      (marks-then_none (λ x. option_map_or (λ (at : NodePlace). at.address == x) place false) first)
