-- On a checked image the blocks of main that are marked are those at which a block of a file or a node stands.
use Rattle.std.proofs.Common.{◌≡◌, ℕ, ◌<◌, List, [], ◌∷◌, Bool, true, false, ◌==◌, ◌||◌, not, cond, map, filter, All, Option, Some, None, refl, sym, ◌∙◌, subst, arith}
use Rattle.std.specs.Option.{option_map_or}
use Rattle.std.specs.List.{list_any}
use Rattle.std.proofs.lemmas.Bool.{eqb-true, eq-eqb, not-false, false≢true}
use Rattle.std.proofs.lemmas.List.Elements.{All-head, All-tail}
use Rattle.f2_bytes.specs.Bytes.{Image, numbers_below}
use Rattle.f2_bytes.specs.Superblock.{layout, is_main}
use Rattle.f2_bytes.specs.Journal.{NatEntry}
use Rattle.f2_bytes.specs.NodeAddressTable.{nid_limit, nat}
use Rattle.f2_bytes.specs.Node.{most_blocks}
use Rattle.f2_bytes.specs.Tree.{is_inode, tree_slot}
use Rattle.f2_bytes.specs.Check.{is_checked, is_marked, is_data, is_node, digit, validity_parts, defects}
use Rattle.f2_bytes.specs.Defragment.{Placement, placement, all_places, occupied}
use Rattle.f2_bytes.proofs.Below.{found_below, some_below}
use Rattle.f2_bytes.proofs.CheckedBlocks.{block_says}
use Rattle.f2_bytes.proofs.CheckedChain.{rule_met, part_clear}
use Rattle.f2_bytes.proofs.CheckedNodes.{no_part, nat-below}
use Rattle.f2_bytes.proofs.CheckedUsed.{main_range, data_slot, node_entry, inode_below, slot_data, entry_node}
use Rattle.f2_bytes.proofs.SlotSupport.{body_checked}
use Rattle.f2_gather.proofs.Ascending.{bools_same, any-flat_map, any-map}
use Rattle.f2_commit.proofs.MoveAmong.{some_place}

-- a block of a file, or a node, has this address
abbrev pub has_slot : ℕ → Placement → ℕ → Bool
has_slot nids p a = list_any (λ place. p.slot place.0 place.1 == a) (all_places nids)

abbrev pub has_node : ℕ → Placement → ℕ → Bool
has_node nids p a = list_any (λ nid. option_map_or (λ x. x == a) (p.node nid) false) (numbers_below nids)

abbrev pub stands : ℕ → Placement → ℕ → Bool
stands nids p a = has_slot nids p a || has_node nids p a

-- two tests that agree on a list keep the same of it
pub filter_same : {A : Type 0} (p q : A → Bool) (xs : List A) → All (λ x. p x ≡ q x) xs → filter p xs ≡ filter q xs
filter_same p q [] all = refl
filter_same p q (x ∷ xs) all =
    let rest = filter_same p q xs (All-tail (λ y. p y ≡ q y) x xs all) in
    let first = All-head (λ y. p y ≡ q y) x xs all in
    λ i. cond (first i) (x ∷ rest i) (rest i)

place_found : (test : ℕ × ℕ → Bool) (n : ℕ) → list_any test (all_places n) ≡ true → (ino : ℕ) × (k : ℕ) × (ino < n) × (k < most_blocks) × (test (ino, k) ≡ true)
unfolding all_places
place_found test n any =
    let first = found_below (λ i. list_any test (map (λ k. (i, k)) (numbers_below most_blocks))) n (sym (any-flat_map test (λ i. map (λ k. (i, k)) (numbers_below most_blocks)) (numbers_below n)) ∙ any) in
    let second = found_below (λ k. test (first.0, k)) most_blocks (sym (any-map test (λ k. (first.0, k)) (numbers_below most_blocks)) ∙ first.2) in
    (first.0, second.0, first.1, second.1, second.2)

same_digits : (b c : Bool) → digit b ≡ digit c → b ≡ c
same_digits true true e = refl
same_digits true false e = absurd (omega (arith, e))
same_digits false true e = absurd (omega (arith, e))
same_digits false false e = refl

slot_is : (image : Image) (ino k a : ℕ) → (a ≡ 0 → ⊥) → (placement image).slot ino k ≡ a → (is_inode image ino ≡ true) × (tree_slot image ino k ≡ a)
unfolding placement
slot_is image ino k a some at = go (is_inode image ino) refl at
  where
    go : (b : Bool) → is_inode image ino ≡ b → cond b (tree_slot image ino k) 0 ≡ a → (is_inode image ino ≡ true) × (tree_slot image ino k ≡ a)
    go true e is = (e, is)
    go false e is = absurd (some (sym is))

slot_of : (image : Image) (ino k : ℕ) → is_inode image ino ≡ true → (placement image).slot ino k ≡ tree_slot image ino k
unfolding placement
slot_of image ino k inode = rw inode refl

module _ (image : Image) (h : is_checked image ≡ true) where
  abbrev limit : ℕ
  limit = nid_limit (layout image)

  marked_used : (a : ℕ) → is_main (layout image) a ≡ true → is_marked image a ≡ (is_data image a || is_node image a)
  unfolding validity_parts defects
  marked_used a main =
      let clear = part_clear (validity_parts image) (rule_met image (body_checked image h) 5 (omega arith) (omega arith)) 0 no_part (omega arith) in
      let found = digit (is_marked image a) in
      let wanted = digit (is_data image a || is_node image a) in
      let agree : not (found == wanted) ≡ false
      = block_says image 1 (λ x. Some (record { found = digit (is_marked image x); wanted = digit (is_data image x || is_node image x); fails = not (digit (is_marked image x) == digit (is_data image x || is_node image x)) })) clear a main
      (record { found = found; wanted = wanted; fails = not (found == wanted) }) refl in
      same_digits (is_marked image a) (is_data image a || is_node image a) (eqb-true found wanted (not-false _ agree))

  data_stands : (a : ℕ) → is_main (layout image) a ≡ true → is_data image a ≡ has_slot limit (placement image) a
  data_stands a main =
      bools_same (is_data image a) (has_slot limit (placement image) a)
      (λ is.
      let s = data_slot image a is in
      some_place (λ place. (placement image).slot place.0 place.1 == a) limit s.0 s.1 (inode_below image h s.0 s.2) s.3 (eq-eqb ((placement image).slot s.0 s.1) a (slot_of image s.0 s.1 s.2 ∙ s.4)))
      (λ some.
      let f = place_found (λ place. (placement image).slot place.0 place.1 == a) limit some in
      let away : a ≡ 0 → ⊥ = λ e. let low = (main_range image h a main).0 in omega (arith, e, low) in
      let s = slot_is image f.0 f.1 a away (eqb-true ((placement image).slot f.0 f.1) a f.4) in
      subst (λ x. is_data image x ≡ true) s.1 (slot_data image h f.0 f.1 s.0 f.3))

  node_stands : (a : ℕ) → is_node image a ≡ has_node limit (placement image) a
  unfolding placement
  node_stands a =
      bools_same (is_node image a) (has_node limit (placement image) a)
      (λ is.
      let e = node_entry image a is in
      some_below (λ nid. option_map_or (λ x. x == a) ((placement image).node nid) false) limit e.0 (nat-below image e.0 e.1 e.2) (rw e.2 (eq-eqb e.1.address a e.3)))
      (λ some.
      let f = found_below (λ nid. option_map_or (λ x. x == a) ((placement image).node nid) false) limit some in
      go f.0 (nat image f.0) refl f.2)
    where
      go : (nid : ℕ) (o : Option NatEntry) → nat image nid ≡ o → option_map_or (λ x. x == a) ((placement image).node nid) false ≡ true → is_node image a ≡ true
      go nid None is here =
          let none : false ≡ true = rw is at here in
          absurd (false≢true none)
      go nid (Some e) is here =
          let test : (e.address == a) ≡ true = rw is at here in
          subst (λ x. is_node image x ≡ true) (eqb-true e.address a test) (entry_node image h nid e is)

  pub marked_stands : (a : ℕ) → is_main (layout image) a ≡ true → is_marked image a ≡ stands limit (placement image) a
  marked_stands a main = marked_used a main ∙ (λ i. data_stands a main i || node_stands a i)

  pub occupied_marked : (xs : List ℕ) → All (λ a. is_main (layout image) a ≡ true) xs → occupied limit (placement image) xs ≡ filter (is_marked image) xs
  occupied_marked xs mains = sym (filter_same (is_marked image) (stands limit (placement image)) xs (λ k d low. marked_stands _ (mains k d low)))
