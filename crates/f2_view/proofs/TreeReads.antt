-- The nodes of a file and the addresses of its blocks, as they are read from the inode down.
use Rattle.std.proofs.Common.{◌≡◌, ◌≢◌, ℕ, zero, suc, ◌+◌, ◌-◌, ◌*◌, ◌%◌, ◌^◌, ◌≤◌, ◌<◌, true, false, Option, Some, None, sym, ap, ◌∙◌, arith}
use Rattle.std.specs.Prelude.{◌==◌, nat_le, nat_lt, ⊤}
use Rattle.std.specs.Option.{option_and_then}
use Rattle.std.proofs.lemmas.Bool.{eq-eqb, ne_eqb, ltb-true, ltb-false, leb-true, cond-true, cond-false, cond_both}
use Rattle.f2_bytes.specs.Bytes.{Block, Image}
use Rattle.f2_bytes.specs.Node.{has_slots, address_count, locate, parent_of, offset_limit, word_at_spot, slot_in}
use Rattle.f2_bytes.specs.Tree.{read_node, node_within, tree_node, tree_slot, nid_in}

-- a spot has a place among the numbers of its node, and in the inode one below the limit
abbrev pub HasPlace : ℕ → Option (ℕ × ℕ) → Type 0
HasPlace limit None = ⊤
HasPlace limit (Some spot) = (spot.1 < 1018) × (spot.0 ≡ 0 → spot.1 < limit)

pub parent_place : (o : ℕ) → HasPlace 5 (parent_of o)
unfolding parent_of offset_limit
parent_place o =
    cond_both (o == 0) _ _ (HasPlace 5) (λ _. tt) λ _.
    cond_both (nat_le o 3) _ _ (HasPlace 5) (λ e. let low = leb-true o 3 e in (omega arith, λ at. omega arith)) λ _.
    cond_both (nat_lt o 1022) _ _ (HasPlace 5) (λ e. let low = ltb-true o 1022 e in (omega arith, λ at. omega arith)) λ _.
    cond_both (o == 1022) _ _ (HasPlace 5) (λ _. (omega arith, λ at. omega arith)) λ _.
    cond_both (nat_lt o 2041) _ _ (HasPlace 5) (λ e. let low = ltb-true o 2041 e in (omega arith, λ at. omega arith)) λ _.
    cond_both (o == 2041) _ _ (HasPlace 5) (λ _. (omega arith, λ at. omega arith)) λ _.
    cond_both (nat_lt o 1039384) _ _ (HasPlace 5)
    (λ e.
    let low = ltb-true o 1039384 e in
    cond_both ((o - 2042) % 1019 == 0) _ _ (HasPlace 5) (λ _. (omega arith, λ at. omega arith)) λ _. (omega arith, λ at. omega arith))
    λ _. tt

pub located_place : (k n : ℕ) → n ≤ 923 → HasPlace 923 (locate k n)
unfolding locate
located_place k n few =
    cond_both (nat_lt k n) _ _ (HasPlace 923) (λ e. let low = ltb-true k n e in (omega arith, λ at. omega arith)) λ a. let past = ltb-false k n a in
    cond_both (nat_lt k (n + 1018)) _ _ (HasPlace 923) (λ e. let low = ltb-true k (n + 1018) e in (omega arith, λ at. omega arith)) λ _.
    cond_both (nat_lt k (n + 2 * 1018)) _ _ (HasPlace 923) (λ e. let low = ltb-true k (n + 2 * 1018) e in (omega arith, λ at. omega arith)) λ _.
    cond_both (nat_lt (k - n - 2 * 1018) (1018 ^ 2)) _ _ (HasPlace 923) (λ _. (omega arith, λ at. omega arith)) λ _.
    cond_both (nat_lt (k - n - 2 * 1018 - 1018 ^ 2) (1018 ^ 2)) _ _ (HasPlace 923) (λ _. (omega arith, λ at. omega arith)) λ _.
    cond_both (nat_lt (k - n - 2 * 1018 - 2 * 1018 ^ 2) (1018 ^ 3)) _ _ (HasPlace 923) (λ _. (omega arith, λ at. omega arith)) λ _. tt

module _ (image : Image) (ino : ℕ) where
  pub at_inode : (n offset : ℕ) → offset ≡ 0 → node_within n image ino offset ≡ read_node image ino
  unfolding node_within
  at_inode zero offset is = cond-true (offset == 0) _ _ (eq-eqb offset 0 is)
  at_inode (suc n) offset is = cond-true (offset == 0) _ _ (eq-eqb offset 0 is)

  pub no_steps : (n offset : ℕ) → n ≡ 0 → offset ≢ 0 → node_within n image ino offset ≡ None
  unfolding node_within
  no_steps n offset none other = ap (λ k. node_within k image ino offset) none ∙ cond-false (offset == 0) (read_node image ino) None (ne_eqb offset 0 other)

  pub no_parent : (n offset : ℕ) → offset ≢ 0 → None ≡ parent_of offset → node_within n image ino offset ≡ None
  unfolding node_within
  no_parent zero offset other none = cond-false (offset == 0) _ _ (ne_eqb offset 0 other)
  no_parent (suc n) offset other none =
      cond-false (offset == 0) _ _ (ne_eqb offset 0 other)
      ∙ ap (option_and_then (λ (spot : ℕ × ℕ). option_and_then (λ above. read_node image (nid_in spot above)) (node_within n image ino spot.0))) (sym none)

  module _ (n m offset : ℕ) (spot : ℕ × ℕ) (is : n ≡ suc m) (other : offset ≢ 0) (parent : Some spot ≡ parent_of offset) where
    pub one_step : node_within n image ino offset ≡ option_and_then (λ above. read_node image (nid_in spot above)) (node_within m image ino spot.0)
    unfolding node_within
    one_step =
        ap (λ k. node_within k image ino offset) is
        ∙ cond-false (offset == 0) _ _ (ne_eqb offset 0 other)
        ∙ ap (option_and_then (λ (s : ℕ × ℕ). option_and_then (λ above. read_node image (nid_in s above)) (node_within m image ino s.0))) (sym parent)

    pub below_none : node_within m image ino spot.0 ≡ None → node_within n image ino offset ≡ None
    below_none none = one_step ∙ ap (option_and_then (λ above. read_node image (nid_in spot above))) none

    pub below_some : (above : Block) → node_within m image ino spot.0 ≡ Some above → node_within n image ino offset ≡ read_node image (nid_in spot above)
    below_some above there = one_step ∙ ap (option_and_then (λ b. read_node image (nid_in spot b))) there

  module _ (k : ℕ) where
    pub no_inode : read_node image ino ≡ None → 0 ≡ tree_slot image ino k
    unfolding tree_slot node_within
    no_inode none = sym (ap (λ o. slot_in (tree_node image ino) o k) none)

    pub no_slots : (b : Block) → read_node image ino ≡ Some b → has_slots b ≡ false → 0 ≡ tree_slot image ino k
    unfolding tree_slot node_within
    no_slots b is none = sym (ap (λ o. slot_in (tree_node image ino) o k) is ∙ cond-false (has_slots b) _ 0 none)

    pub slot_at : (b : Block) (spot : Option (ℕ × ℕ)) → read_node image ino ≡ Some b → has_slots b ≡ true → spot ≡ locate k (address_count b)
        → tree_slot image ino k ≡ word_at_spot (tree_node image ino) spot
    unfolding tree_slot node_within
    slot_at b spot is has located =
        ap (λ o. slot_in (tree_node image ino) o k) is ∙ cond-true (has_slots b) _ 0 has ∙ ap (word_at_spot (tree_node image ino)) (sym located)
