-- What takes a place of the targets goes there, and each mark of the new segment table is that of a block in use.
use Rattle.std.proofs.Common.{◌≡◌, ℕ, ◌+◌, ◌<◌, List, Bool, true, false, not, ◌==◌, ◌||◌, nat_lt, cond, length, get_or, All, Option, Some, None, refl, sym, ap, ◌∙◌, subst, ⊎_elim, arith}
use Rattle.std.specs.Prelude.{option_map, position}
use Rattle.std.specs.List.Sorted.{IsStrictlyIncreasing}
use Rattle.std.specs.Prelude.{unwrap_or}
use Rattle.std.specs.Option.{option_map_or}
use Rattle.std.specs.List.{list_any}
use Rattle.std.proofs.lemmas.Bool.{and_parts, and_from, or_cases, or_left, lt-ltb, eq-eqb, eqb-true, ne_eqb, not-true, not-false, false≢true}
use Rattle.std.proofs.lemmas.List.Folds.{list_any_at}
use Rattle.std.proofs.lemmas.List.Sums.{position_or_len_is}
use Rattle.std.proofs.lemmas.List.Kept.{AllPairs-from_increasing, IsStrictlyIncreasing-filter}
use Rattle.f2_bytes.specs.Bytes.{Image, numbers_below}
use Rattle.f2_bytes.specs.declared.layout.Layout.{Layout}
use Rattle.f2_bytes.specs.Superblock.{layout, is_main}
use Rattle.f2_bytes.specs.Defragment.{data_among, nodes_among, put_at, target_block}
use Rattle.f2_bytes.proofs.Below.{length-numbers_below, get_or-numbers_below}
use Rattle.f2_bytes.specs.Journal.{NatEntry}
use Rattle.f2_bytes.specs.NodeAddressTable.{nid_limit, nat}
use Rattle.f2_bytes.specs.Check.{same, defects, digit, validity_parts, is_checked, is_data, is_node, is_marked, nid_with}
use Rattle.f2_bytes.specs.Moved.{is_used}
use Rattle.f2_bytes.specs.Defragment.{is_among}
use Rattle.f2_bytes.proofs.Below.{found_below}
use Rattle.f2_bytes.proofs.CheckedBlocks.{block_says}
use Rattle.f2_bytes.proofs.CheckedChain.{rule_met, part_clear}
use Rattle.f2_bytes.proofs.CheckedNodes.{no_part, nat-below}
use Rattle.f2_bytes.proofs.CheckedUsed.{entry_node, entry_in_main}
use Rattle.f2_bytes.proofs.Finds.{none_passes}
use Rattle.f2_bytes.proofs.SlotSupport.{body_checked}
use Rattle.f2_bytes.proofs.Terms.{true_from_digit}
use Rattle.f2_pack.specs.declared.writing.NewPack.{NewPack}
use Rattle.f2_change.specs.declared.change.Change.{Change}
use Rattle.f2_change.specs.Carried.{Carries}
use Rattle.f2_commit.specs.Moves.{MovesBatch, AreTargets, moved_data, moved_nodes, node_targets, new_address, is_moving}
use Rattle.f2_commit.proofs.MoveAddresses.{nid_with-entry, data_used, data_no_node, entry_used}
use Rattle.f2_commit.proofs.MoveBlocks.{to_data}
use Rattle.f2_commit.proofs.MoveMarks.{marked_at}
use Rattle.f2_commit.proofs.MoveNodes.{moved_there}
use Rattle.f2_commit.proofs.MoveTable.{one_node}
use Rattle.f2_commit.proofs.MoveTargets.{put_number}

-- in a list that rises an element is found at its own place
pub put_there : (l : Layout) (targets moved : List ℕ) (n : ℕ) → IsStrictlyIncreasing moved → n < length moved → put_at l targets moved (get_or moved n 0) ≡ Some (target_block l targets n)
put_there l targets moved n rises low =
    let x = get_or moved n 0 in
    let first = position_or_len_is (λ y. y == x) moved n 0 (omega (arith, low))
    (λ k before. let less = AllPairs-from_increasing moved rises k n 0 before low in ne_eqb (get_or moved k 0) x (λ e. omega (arith, e, less)))
    (λ _. eq-eqb x x refl) in
    let found : position (λ y. y == x) moved ≡ Some n = (λ i. cond (nat_lt (first i) (length moved)) (Some (first i)) None) ∙ ap (λ b. cond b (Some n) None) (lt-ltb n (length moved) low) in
    ap (option_map (target_block l targets)) found

numbers_rise : (n : ℕ) → IsStrictlyIncreasing (numbers_below n)
numbers_rise n k within =
    let low : k + 1 < n = rw length-numbers_below at within in
    let here = get_or-numbers_below n k 0 (omega (arith, low)) in
    let next = get_or-numbers_below n (k + 1) 0 low in
    omega (arith, here, next)

pub data_rise : (image : Image) (addresses : List ℕ) → IsStrictlyIncreasing addresses → IsStrictlyIncreasing (moved_data image addresses)
unfolding data_among
data_rise image addresses rises = IsStrictlyIncreasing-filter _ addresses rises

pub nodes_rise : (image : Image) (addresses : List ℕ) → IsStrictlyIncreasing (moved_nodes image addresses)
unfolding nodes_among
nodes_rise image addresses = IsStrictlyIncreasing-filter _ (numbers_below _) (numbers_rise _)

-- the node at an address is the one that is found there
pub found_node : (image : Image) → is_checked image ≡ true → (nid : ℕ) (e : NatEntry) → nat image nid ≡ Some e → nid_with image e.address ≡ Some nid
unfolding nid_with numbers_below
found_node image h nid e is = go (nid_with image e.address) refl
  where
    test : ℕ → Bool
    test = λ n. option_map_or (λ x. x.address == e.address) (nat image n) false

    here : test nid ≡ true
    here = ap (λ o. option_map_or (λ x. x.address == e.address) o false) is ∙ eq-eqb e.address e.address refl

    go : (o : Option ℕ) → nid_with image e.address ≡ o → o ≡ Some nid
    go None none =
        let low = nat-below image nid e is in
        absurd (false≢true (sym (none_passes test 0 (nid_limit (layout image)) none nid (omega arith) (omega (arith, low))) ∙ here))
    go (Some other) found =
        let entry = nid_with-entry image e.address other found in
        ap (λ n. Some n) (one_node image h other nid entry.0 e entry.1 is entry.2)

module _ (image : Image) (addresses targets : List ℕ) (a : ℕ) where
  by_nid : ℕ → ℕ
  by_nid nid = unwrap_or (put_at (layout image) (node_targets image addresses targets) (moved_nodes image addresses) nid) a

  otherwise : ℕ
  otherwise = option_map_or by_nid (nid_with image a) a

  pub to_node : (nid place : ℕ) → put_at (layout image) targets (moved_data image addresses) a ≡ None → nid_with image a ≡ Some nid
      → put_at (layout image) (node_targets image addresses targets) (moved_nodes image addresses) nid ≡ Some place → new_address image addresses targets a ≡ place
  unfolding new_address otherwise by_nid
  to_node nid place none found at = ap (λ o. unwrap_or o otherwise) none ∙ ap (λ o. option_map_or by_nid o a) found ∙ ap (λ o. unwrap_or o a) at

module _ (image : Image) (h : is_checked image ≡ true) where
  -- a marked block is used
  pub marked_is_used : (a : ℕ) → is_main (layout image) a ≡ true → is_marked image a ≡ true → is_used image a ≡ true
  unfolding validity_parts defects
  marked_is_used a main marked =
      let clear = part_clear (validity_parts image) (rule_met image (body_checked image h) 5 (omega arith) (omega arith)) 0 no_part (omega arith) in
      let found = digit (is_marked image a) in
      let wanted = digit (is_data image a || is_node image a) in
      let agree : not (found == wanted) ≡ false
      = block_says image 1 (λ x. same (digit (is_marked image x)) (digit (is_data image x || is_node image x))) clear a main
      (record { found = found; wanted = wanted; fails = not (found == wanted) }) refl in
      let equal : found ≡ wanted = eqb-true found wanted (not-false _ agree) in
      let one : found ≡ 1 = ap digit marked in
      and_from _ _ main (true_from_digit (is_data image a || is_node image a) (omega (arith, equal, one)))

  -- a node is put nowhere among the data
  pub node_no_data : (addresses targets : List ℕ) → All (λ a. is_main (layout image) a ≡ true) addresses → (nid : ℕ) (e : NatEntry) → nat image nid ≡ Some e
      → put_at (layout image) targets (moved_data image addresses) e.address ≡ None
  node_no_data addresses targets mains nid e is = go (put_at (layout image) targets (moved_data image addresses) e.address) refl
    where
      go : (o : Option ℕ) → put_at (layout image) targets (moved_data image addresses) e.address ≡ o → o ≡ None
      go None at = refl
      go (Some place) at =
          let t = put_number (layout image) targets (moved_data image addresses) e.address place at in
          let d = data_used image h addresses mains t.0 t.1 in
          absurd (data_no_node image h e.address (entry_in_main image h nid e is) (subst (λ x. is_data image x ≡ true) t.2 d.1) (entry_node image h nid e is))

module _ (image new : Image) (addresses targets : List ℕ) (c : Change) (p : NewPack) (h : is_checked image ≡ true) (mains : All (λ a. is_main (layout image) a ≡ true) addresses) (free : AreTargets image addresses targets) (m : MovesBatch image addresses targets c) (s : Carries image c p new)
    (rises : IsStrictlyIncreasing addresses) where
  abbrev to : ℕ → ℕ
  to = new_address image addresses targets

  abbrev From : ℕ → Type 0
  From place = (a : ℕ) × (is_used image a ≡ true) × (to a ≡ place)

  from_data : (place : ℕ) → list_any (λ n. target_block (layout image) targets n == place) (numbers_below (length (moved_data image addresses))) ≡ true → From place
  from_data place any =
      let t = found_below (λ n. target_block (layout image) targets n == place) (length (moved_data image addresses)) any in
      let a = get_or (moved_data image addresses) t.0 0 in
      let used = data_used image h addresses mains t.0 t.1 in
      let at = put_there (layout image) targets (moved_data image addresses) t.0 (data_rise image addresses rises) t.1 in
      (a, and_from _ _ used.0 (or_left _ _ used.1), to_data image addresses targets a (target_block (layout image) targets t.0) at ∙ eqb-true _ place t.2)

  from_node : (place : ℕ) → list_any (λ n. target_block (layout image) (node_targets image addresses targets) n == place) (numbers_below (length (moved_nodes image addresses))) ≡ true → From place
  from_node place any =
      let t = found_below (λ n. target_block (layout image) (node_targets image addresses targets) n == place) (length (moved_nodes image addresses)) any in
      let nid = get_or (moved_nodes image addresses) t.0 0 in
      let among : is_among (moved_nodes image addresses) nid ≡ true = list_any_at (λ y. y == nid) (moved_nodes image addresses) t.0 0 t.1 (eq-eqb nid nid refl) in
      let node = moved_there image h addresses mains nid among in
      let at = put_there (layout image) (node_targets image addresses targets) (moved_nodes image addresses) t.0 (nodes_rise image addresses) t.1 in (
        node.0.address,
        entry_used image h nid node.0 node.1,
        to_node image addresses targets node.0.address nid (target_block (layout image) (node_targets image addresses targets) t.0)
            (node_no_data image h addresses targets mains nid node.0 node.1) (found_node image h nid node.0 node.1) at ∙ eqb-true _ place t.2,
      )

  pub marked-moved : (place : ℕ) → is_main (layout image) place ≡ true → is_marked new place ≡ true → From place
  marked-moved place main marked =
      ⊎_elim
      (λ kept.
      let parts = and_parts (is_marked image place) (not (is_moving image addresses targets place)) kept in
      (place, marked_is_used image h place main parts.0, eqb-true (to place) place (not-false _ (not-true _ parts.1))))
      (λ taken. ⊎_elim (from_data place) (from_node place) (or_cases _ _ taken))
      (or_cases _ _ (sym (marked_at image new addresses targets c p h mains free m s place main) ∙ marked))
