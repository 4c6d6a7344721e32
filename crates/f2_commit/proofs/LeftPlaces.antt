-- The addresses that a batch leaves are those at which a block moves; each is in use, and no free segment has a mark.
use Rattle.std.proofs.Common.{◌≡◌, ℕ, ◌+◌, ◌-◌, ◌*◌, ◌%◌, ◌<◌, inl, inr, List, ◌++◌, map, true, false, not, ◌==◌, ◌||◌, length, get_or, All, Some, refl, sym, ap, ◌∙◌, subst, ⊎_elim, arith}
use Rattle.std.specs.List.Sorted.{IsStrictlyIncreasing}
use Rattle.std.proofs.lemmas.Grind.{get_or_default_zero}
use Rattle.std.proofs.lemmas.Bool.{and_from, or_cases, or_left, or_right, eq-eqb, eqb-true, ne_eqb, false_from_ne_true, false≢true}
use Rattle.std.proofs.lemmas.List.Folds.{Any-from_list_any, list_any_at, list_any-append}
use Rattle.f2_bytes.specs.Bytes.{Image}
use Rattle.f2_bytes.specs.Superblock.{layout, is_main, segment_of, segment_start}
use Rattle.f2_bytes.specs.Journal.{NatEntry}
use Rattle.f2_bytes.specs.NodeAddressTable.{image_nat_entry}
use Rattle.f2_bytes.specs.SegmentTable.{is_block_valid, has_valid_block}
use Rattle.f2_bytes.specs.Check.{is_checked, is_marked}
use Rattle.f2_bytes.specs.Moved.{is_used}
use Rattle.f2_bytes.specs.Support.{is_free}
use Rattle.f2_bytes.specs.Defragment.{is_among, put_at, target_block}
use Rattle.f2_bytes.proofs.Below.{found_below, some_below}
use Rattle.f2_bytes.proofs.CheckedBlocks.{used_is_marked}
use Rattle.f2_bytes.proofs.FormatFacts.{free_has_no_support}
use Rattle.f2_bytes.proofs.FrameBlocks.{main_at}
use Rattle.f2_commit.specs.Moves.{AreTargets, moved_data, moved_nodes, data_target_count, node_targets, new_address, is_moving}
use Rattle.f2_gather.proofs.Ascending.{bools_same, any-map}
use Rattle.f2_commit.proofs.MoveAddresses.{nid_with-entry, used_support, data_used, entry_used}
use Rattle.f2_commit.proofs.MoveBlocks.{to_data}
use Rattle.f2_commit.proofs.MoveLands.{Goes, goes, takes_low, target_unused}
use Rattle.f2_commit.proofs.MoveMarked.{put_there, data_rise, nodes_rise, found_node, to_node, marked_is_used, node_no_data}
use Rattle.f2_commit.proofs.MoveNodes.{moved_there}
use Rattle.f2_commit.proofs.MoveSums.{free_inside}
use Rattle.f2_commit.proofs.MoveTable.{live_entry_is}
use Rattle.f2_commit.proofs.MoveTargets.{behind}

-- where the moved nodes stand
abbrev pub node_places : Image → List ℕ → List ℕ
node_places image addrs = map (λ nid. (image_nat_entry image nid).address) (moved_nodes image addrs)

module _ (image : Image) (h : is_checked image ≡ true) where
  -- no block of a free segment is marked
  pub free_unmarked : (segment k : ℕ) → is_free image segment ≡ true → k < 512 → is_block_valid image segment k ≡ false
  free_unmarked segment k free low = false_from_ne_true (is_block_valid image segment k) (λ valid.
      let a = segment_start (layout image) segment + k in
      let own : segment_of (layout image) a ≡ segment = omega (arith, low) in
      let place : (a - (layout image).main) % 512 ≡ k = omega (arith, low) in
      let marked : is_marked image a ≡ true = (λ i. is_block_valid image (own i) (place i)) ∙ valid in
      let used = marked_is_used image h a (main_at (layout image) segment k (free_inside image segment free) low) marked in
      false≢true (sym (free_has_no_support image segment k free low) ∙ used_support image h a used))

  pub free_no_valid : (segment : ℕ) → is_free image segment ≡ true → has_valid_block image segment ≡ false
  free_no_valid segment free = false_from_ne_true (has_valid_block image segment) (λ some.
      let t = found_below (is_block_valid image segment) 512 some in
      false≢true (sym (free_unmarked segment t.0 free t.1) ∙ t.2))

  -- the segment of a used block has a valid one, and is not free
  pub used_valid : (a : ℕ) → is_used image a ≡ true → has_valid_block image (segment_of (layout image) a) ≡ true
  used_valid a used = some_below (is_block_valid image (segment_of (layout image) a)) 512 ((a - (layout image).main) % 512) (omega arith) (used_is_marked image h a used)

  module _ (addrs : List ℕ) (mains : All (λ a. is_main (layout image) a ≡ true) addrs) (rises : IsStrictlyIncreasing addrs) (targets : List ℕ) (free : AreTargets image addrs targets) where
    abbrev to : ℕ → ℕ
    to = new_address image addrs targets

    abbrev leaves : List ℕ
    leaves = moved_data image addrs ++ node_places image addrs

    -- what goes to a place of the targets moves
    away : (a n : ℕ) → is_used image a ≡ true → n < 512 * length targets → to a ≡ target_block (layout image) targets n → is_moving image addrs targets a ≡ true
    away a n used low at =
        ap not (ne_eqb (to a) a (λ same. target_unused image h addrs mains targets free n low (subst (λ x. is_used image x ≡ true) (sym same ∙ at) used)))

    data_moves : (a : ℕ) → is_among (moved_data image addrs) a ≡ true → (is_used image a ≡ true) × (is_moving image addrs targets a ≡ true)
    data_moves a among =
        let t = Any-from_list_any (λ y. y == a) (moved_data image addrs) among in
        by t.0 t.2 (number t.0 t.1 t.2 t.3 t.4)
      where
        number : (n x : ℕ) → n < length (moved_data image addrs) → get_or (moved_data image addrs) n x ≡ x → (x == a) ≡ true → get_or (moved_data image addrs) n 0 ≡ a
        number n x low is same = sym (get_or_default_zero (moved_data image addrs) n x low) ∙ is ∙ eqb-true x a same

        by : (n : ℕ) → n < length (moved_data image addrs) → get_or (moved_data image addrs) n 0 ≡ a → (is_used image a ≡ true) × (is_moving image addrs targets a ≡ true)
        by n low is =
            let there = data_used image h addrs mains n low in
            let used : is_used image a ≡ true = subst (λ x. is_used image x ≡ true) is (and_from _ _ there.0 (or_left _ _ there.1)) in
            let at = put_there (layout image) targets (moved_data image addrs) n (data_rise image addrs rises) low in
            let goes_there : to a ≡ target_block (layout image) targets n = to_data image addrs targets a (target_block (layout image) targets n) (ap (put_at (layout image) targets (moved_data image addrs)) (sym is) ∙ at) in
            (used, away a n used (takes_low image h addrs mains targets free n a (inl (low, is))) goes_there)

    node_moves : (nid : ℕ) → is_among (moved_nodes image addrs) nid ≡ true → (is_used image (image_nat_entry image nid).address ≡ true) × (is_moving image addrs targets (image_nat_entry image nid).address ≡ true)
    node_moves nid among =
        let node = moved_there image h addrs mains nid among in
        let entry = (live_entry_is image nid node.0 node.1).0 in
        let t = Any-from_list_any (λ y. y == nid) (moved_nodes image addrs) among in
        let number : get_or (moved_nodes image addrs) t.0 0 ≡ nid = sym (get_or_default_zero (moved_nodes image addrs) t.0 t.1 t.2) ∙ t.3 ∙ eqb-true t.1 nid t.4 in
        let used = entry_used image h nid node.0 node.1 in
        let at : put_at (layout image) (node_targets image addrs targets) (moved_nodes image addrs) nid ≡ Some (target_block (layout image) (node_targets image addrs targets) t.0)
        = ap (put_at (layout image) (node_targets image addrs targets) (moved_nodes image addrs)) (sym number) ∙ put_there (layout image) (node_targets image addrs targets) (moved_nodes image addrs) t.0 (nodes_rise image addrs) t.2 in
        let found = found_node image h nid node.0 node.1 in
        let goes_there : to node.0.address ≡ target_block (layout image) targets (512 * data_target_count image addrs + t.0)
        = to_node image addrs targets node.0.address nid (target_block (layout image) (node_targets image addrs targets) t.0) (node_no_data image h addrs targets mains nid node.0 node.1) found at ∙ behind (layout image) targets (data_target_count image addrs) t.0 in
        let low = takes_low image h addrs mains targets free (512 * data_target_count image addrs + t.0) node.0.address (inr (t.0, refl, t.2, found ∙ ap (λ n. Some n) (sym number))) in
        let moves = away node.0.address (512 * data_target_count image addrs + t.0) used low goes_there in
        (ap (λ (e : NatEntry). is_used image e.address) entry ∙ used, ap (λ (e : NatEntry). is_moving image addrs targets e.address) entry ∙ moves)

    leaves_moves : (a : ℕ) → is_among leaves a ≡ true → (is_used image a ≡ true) × (is_moving image addrs targets a ≡ true)
    leaves_moves a among = ⊎_elim (data_moves a) by_node (or_cases (is_among (moved_data image addrs) a) (is_among (node_places image addrs) a) (sym (list_any-append (λ y. y == a) (moved_data image addrs) (node_places image addrs)) ∙ among))
      where
        by_node : is_among (node_places image addrs) a ≡ true → (is_used image a ≡ true) × (is_moving image addrs targets a ≡ true)
        by_node there =
            let t = Any-from_list_any (λ nid. (image_nat_entry image nid).address == a) (moved_nodes image addrs) (sym (any-map (λ y. y == a) (λ nid. (image_nat_entry image nid).address) (moved_nodes image addrs)) ∙ there) in
            let moves = node_moves t.1 (list_any_at (λ y. y == t.1) (moved_nodes image addrs) t.0 t.1 t.2 (eq-eqb (get_or (moved_nodes image addrs) t.0 t.1) t.1 t.3)) in
            let is = eqb-true (image_nat_entry image t.1).address a t.4 in
            (subst (λ x. is_used image x ≡ true) is moves.0, subst (λ x. is_moving image addrs targets x ≡ true) is moves.1)

    moves_leaves : (a : ℕ) → is_moving image addrs targets a ≡ true → is_among leaves a ≡ true
    moves_leaves a moves = list_any-append (λ y. y == a) (moved_data image addrs) (node_places image addrs) ∙ by (goes image addrs targets a)
      where
        by : Goes image addrs targets a → (is_among (moved_data image addrs) a || is_among (node_places image addrs) a) ≡ true
        by (inl same) = absurd (false≢true (sym (ap not (eq-eqb (to a) a same)) ∙ moves))
        by (inr (n, at, inl t)) = or_left _ _ (list_any_at (λ y. y == a) (moved_data image addrs) n 0 t.0 (eq-eqb (get_or (moved_data image addrs) n 0) a t.1))
        by (inr (n, at, inr t)) =
            let nid = get_or (moved_nodes image addrs) t.0 0 in
            let e = nid_with-entry image a nid t.3 in
            let address : (image_nat_entry image nid).address ≡ a = ap (λ (x : NatEntry). x.address) (live_entry_is image nid e.0 e.1).0 ∙ e.2 in
            or_right _ _ (any-map (λ y. y == a) (λ nid. (image_nat_entry image nid).address) (moved_nodes image addrs) ∙ list_any_at (λ nid. (image_nat_entry image nid).address == a) (moved_nodes image addrs) t.0 0 t.2 (eq-eqb _ a address))

    pub moving_is : (a : ℕ) → is_among leaves a ≡ is_moving image addrs targets a
    moving_is a = bools_same (is_among leaves a) (is_moving image addrs targets a) (λ among. (leaves_moves a among).1) (moves_leaves a)

    pub left_used : (a : ℕ) → is_among leaves a ≡ true → is_used image a ≡ true
    left_used a among = (leaves_moves a among).0
