-- An image that carries a batch of moves has followed them.
use Rattle.std.proofs.Common.{◌≡◌, ℕ, ◌+◌, ◌*◌, ◌<◌, inl, inr, List, ◌++◌, true, false, not, ◌==◌, ◌||◌, cond, map, length, get_or, All, Option, Some, None, refl, sym, ap, ◌∙◌, subst}
use Rattle.std.specs.Prelude.{option_map, unwrap_or}
use Rattle.std.specs.List.{list_any}
use Rattle.std.proofs.lemmas.Bool.{and_from, or_left, or_right, eq-eqb, false_from_ne_true}
use Rattle.std.proofs.lemmas.List.Elements.{All-append, All-map, All-from_get_or}
use Rattle.std.proofs.lemmas.List.Folds.{list_any-append, list_any_at}
use Rattle.f2_bytes.specs.Bytes.{Image, block_at}
use Rattle.f2_bytes.specs.Superblock.{layout, is_main}
use Rattle.f2_bytes.specs.Checkpoint.{head, next_free_nid}
use Rattle.f2_bytes.specs.Journal.{NatEntry}
use Rattle.f2_bytes.specs.NodeAddressTable.{nid_limit, nat, image_nat_entry}
use Rattle.f2_bytes.specs.Tree.{is_inode, tree_slot}
use Rattle.f2_bytes.specs.Check.{is_checked, is_data, kind_at}
use Rattle.f2_bytes.specs.Moved.{IsMoved, moved_entry, is_used}
use Rattle.f2_bytes.specs.Defragment.{placement, is_among, put_at, target_block}
use Rattle.f2_bytes.proofs.CheckedUsed.{entry_node, entry_in_main, slot_main, slot_data}
use Rattle.f2_bytes.proofs.MovedSlots.{moved_slots, reads_moved, slot_below}
use Rattle.f2_pack.specs.declared.writing.NewPack.{NewPack}
use Rattle.f2_change.specs.declared.change.Change.{Change}
use Rattle.f2_change.specs.Carried.{Carries}
use Rattle.f2_commit.specs.FreeNids.{least_free_nid}
use Rattle.f2_commit.specs.Following.{Move, place_after, is_moved, batch_moves, HasKind, HasFollowed, IsFollowedNode}
use Rattle.f2_commit.specs.Moves.{MovesBatch, AreTargets, moved_data, moved_nodes, data_target_count, node_targets, new_address}
use Rattle.f2_commit.proofs.FollowKinds.{data_kind, node_kind}
use Rattle.f2_commit.proofs.FollowLaw.{same_least}
use Rattle.f2_commit.proofs.FollowSteps.{IsStep, is_left, place_is, moved_is, node_followed}
use Rattle.f2_commit.proofs.MoveAddresses.{nid_with-entry, data_used, data_no_node, entry_used}
use Rattle.f2_commit.proofs.MoveAmong.{any_map, put_there_some}
use Rattle.f2_commit.proofs.MoveLands.{Takes, Goes, goes, takes_low, target_unused}
use Rattle.f2_commit.proofs.MoveMarked.{to_node, node_no_data, found_node}
use Rattle.f2_commit.proofs.MoveNodes.{moved_there}
use Rattle.f2_commit.proofs.MovePlacement.{node_goes, data_goes, no_node, data_leaves}
use Rattle.f2_commit.proofs.MoveTable.{entry_after}
use Rattle.f2_commit.proofs.MoveTargets.{put_number, behind}

module _ (image : Image) (h : is_checked image ≡ true) (addresses : List ℕ) (mains : All (λ a. is_main (layout image) a ≡ true) addresses) (targets : List ℕ) (free : AreTargets image addresses targets) where
  abbrev to : ℕ → ℕ
  to = new_address image addresses targets

  abbrev pub moves : List Move
  moves = batch_moves (layout image) (nid_limit (layout image)) addresses targets (placement image)

  -- ---- each move

  abbrev data_move : ℕ → Move
  data_move address = record { from = address; to = unwrap_or (put_at (layout image) targets (moved_data image addresses) address) address }

  abbrev node_address : ℕ → ℕ
  node_address nid = unwrap_or (option_map (λ (e : NatEntry). e.address) (nat image nid)) 0

  abbrev node_move : ℕ → Move
  node_move nid = record { from = node_address nid; to = unwrap_or (put_at (layout image) (node_targets image addresses targets) (moved_nodes image addresses) nid) (node_address nid) }

  moves_are : moves ≡ map data_move (moved_data image addresses) ++ map node_move (moved_nodes image addresses)
  unfolding batch_moves placement
  moves_are = refl

  -- what is elsewhere went to a place that was not in use
  goes_unused : (a : ℕ) → (to a ≡ a → ⊥) → is_used image (to a) ≡ false
  goes_unused a away = by (goes image addresses targets a)
    where
      by : Goes image addresses targets a → is_used image (to a) ≡ false
      by (inl same) = absurd (away same)
      by (inr t) = false_from_ne_true _ (λ used. target_unused image h addresses mains targets free t.0 (takes_low image h addresses mains targets free t.0 a t.2) (subst (λ x. is_used image x ≡ true) t.1 used))

  data_step : (n : ℕ) → n < length (moved_data image addresses) → IsStep to (is_used image) (data_move (get_or (moved_data image addresses) n 0))
  data_step n low = record {
    goes = sym there;
    old = and_from _ _ data_there.0 (or_left _ _ data_there.1);
    new = ap (is_used image) (sym there) ∙ goes_unused a (data_leaves image h addresses mains targets free n low);
  }
    where
      a : ℕ
      a = get_or (moved_data image addresses) n 0

      data_there : (is_main (layout image) (get_or (moved_data image addresses) n 0) ≡ true) × (is_data image (get_or (moved_data image addresses) n 0) ≡ true)
      data_there = data_used image h addresses mains n low

      there : to (get_or (moved_data image addresses) n 0) ≡ unwrap_or (put_at (layout image) targets (moved_data image addresses) (get_or (moved_data image addresses) n 0)) (get_or (moved_data image addresses) n 0)
      there = data_goes image addresses targets (get_or (moved_data image addresses) n 0)
          (no_node image h addresses mains targets free (get_or (moved_data image addresses) n 0) (λ u. data_no_node image h (get_or (moved_data image addresses) n 0) u.0 data_there.1 u.1))

  -- a node that moves does
  node_leaves : (nid : ℕ) (e : NatEntry) → nat image nid ≡ Some e → is_among (moved_nodes image addresses) nid ≡ true → to e.address ≡ e.address → ⊥
  node_leaves nid e is among same = by_put (put_at (layout image) (node_targets image addresses targets) (moved_nodes image addresses) nid) refl
    where
      by_put : (o : Option ℕ) → put_at (layout image) (node_targets image addresses targets) (moved_nodes image addresses) nid ≡ o → ⊥
      by_put None at = put_there_some (layout image) (node_targets image addresses targets) (moved_nodes image addresses) nid among at
      by_put (Some place) at =
          let t = put_number (layout image) (node_targets image addresses targets) (moved_nodes image addresses) nid place at in
          let n = 512 * data_target_count image addresses + t.0 in
          let found = found_node image h nid e is in
          let there : e.address ≡ target_block (layout image) targets n
          = sym same ∙ to_node image addresses targets e.address nid place (node_no_data image h addresses targets mains nid e is) found at ∙ t.3 ∙ behind (layout image) targets (data_target_count image addresses) t.0 in
          target_unused image h addresses mains targets free n (takes_low image h addresses mains targets free n e.address (inr (t.0, refl, t.1, found ∙ ap (λ x. Some x) (sym t.2))))
          (subst (λ x. is_used image x ≡ true) there (entry_used image h nid e is))

  node_step : (nid : ℕ) → is_among (moved_nodes image addresses) nid ≡ true → IsStep to (is_used image) (node_move nid)
  node_step nid among =
      let node = moved_there image h addresses mains nid among in
      let e = node.0 in
      let at : node_address nid ≡ e.address = ap (λ o. unwrap_or (option_map (λ (x : NatEntry). x.address) o) 0) node.1 in
      let there : to e.address ≡ unwrap_or (put_at (layout image) (node_targets image addresses targets) (moved_nodes image addresses) nid) e.address
      = node_goes image addresses targets e.address nid (node_no_data image h addresses targets mains nid e node.1) (found_node image h nid e node.1) in
      let step : IsStep to (is_used image) (record { from = e.address; to = unwrap_or (put_at (layout image) (node_targets image addresses targets) (moved_nodes image addresses) nid) e.address })
      = record {
        goes = sym there;
        old = entry_used image h nid e node.1;
        new = ap (is_used image) (sym there) ∙ goes_unused e.address (node_leaves nid e node.1 among);
      } in
      subst (λ a. IsStep to (is_used image) (record { from = a; to = unwrap_or (put_at (layout image) (node_targets image addresses targets) (moved_nodes image addresses) nid) a })) (sym at) step

  pub steps : All (IsStep to (is_used image)) moves
  steps =
      subst (All (IsStep to (is_used image))) (sym moves_are)
      (All-append (IsStep to (is_used image)) (map data_move (moved_data image addresses)) (map node_move (moved_nodes image addresses))
      (All-map (IsStep to (is_used image)) data_move (moved_data image addresses)
      (All-from_get_or (λ a. IsStep to (is_used image) (data_move a)) (moved_data image addresses) 0 data_step))
      (All-map (IsStep to (is_used image)) node_move (moved_nodes image addresses)
      (All-from_get_or (λ nid. IsStep to (is_used image) (node_move nid)) (moved_nodes image addresses) 0 (λ k low.
      node_step (get_or (moved_nodes image addresses) k 0) (list_any_at (λ y. y == get_or (moved_nodes image addresses) k 0) (moved_nodes image addresses) k 0 low (eq-eqb _ _ refl))))))

  -- what is elsewhere is among them
  pub leaves : (a : ℕ) → (to a ≡ a → ⊥) → is_left moves a ≡ true
  leaves a away = by (goes image addresses targets a)
    where
      among : list_any (λ (m : Move). m.from == a) (map data_move (moved_data image addresses)) || list_any (λ (m : Move). m.from == a) (map node_move (moved_nodes image addresses)) ≡ true → is_left moves a ≡ true
      among some = ap (λ ms. is_left ms a) moves_are ∙ list_any-append (λ (m : Move). m.from == a) (map data_move (moved_data image addresses)) (map node_move (moved_nodes image addresses)) ∙ some

      by_takes : (n : ℕ) → Takes image addresses targets n a → is_left moves a ≡ true
      by_takes n (inl d) =
          among (or_left _ _ (any_map (λ (m : Move). m.from == a) data_move (moved_data image addresses) ∙ list_any_at (λ x. x == a) (moved_data image addresses) n 0 d.0 (eq-eqb _ a d.1)))
      by_takes n (inr d) =
          let entry = nid_with-entry image a (get_or (moved_nodes image addresses) d.0 0) d.3 in
          let at : node_address (get_or (moved_nodes image addresses) d.0 0) ≡ a = ap (λ o. unwrap_or (option_map (λ (x : NatEntry). x.address) o) 0) entry.1 ∙ entry.2 in
          among (or_right _ _ (any_map (λ (m : Move). m.from == a) node_move (moved_nodes image addresses) ∙ list_any_at (λ nid. node_address nid == a) (moved_nodes image addresses) d.0 0 d.2 (eq-eqb _ a at)))

      by : Goes image addresses targets a → is_left moves a ≡ true
      by (inl same) = absurd (away same)
      by (inr t) = by_takes t.0 t.2

  -- the moves bring each block to its new address
  pub batch_place : (a : ℕ) → place_after moves a ≡ to a
  batch_place a = place_is to (is_used image) moves steps leaves a

  batch_moved : (a : ℕ) → is_moved moves a ≡ not (to a == a)
  batch_moved a = moved_is to (is_used image) moves steps leaves a

  kind_is : (new : Image) (kind a : ℕ) → kind_at new (to a) ≡ cond (not (to a == a)) kind (kind_at image a) → HasKind moves image new kind a
  kind_is new kind a is = ap (kind_at new) (batch_place a) ∙ is ∙ sym (ap (λ b. cond b kind (kind_at image a)) (batch_moved a))

module _ (image new : Image) (addresses targets : List ℕ) (c : Change) (p : NewPack) (h : is_checked image ≡ true)
    (mains : All (λ a. is_main (layout image) a ≡ true) addresses) (free : AreTargets image addresses targets) (m : MovesBatch image addresses targets c) (s : Carries image c p new)
    (moved : IsMoved (new_address image addresses targets) image new) where
  abbrev goes_to : ℕ → ℕ
  goes_to = new_address image addresses targets

  abbrev its_moves : List Move
  its_moves = batch_moves (layout image) (nid_limit (layout image)) addresses targets (placement image)

  place : (a : ℕ) → place_after its_moves a ≡ goes_to a
  place a = batch_place image h addresses mains targets free a

  slot : (ino k : ℕ) → is_inode image ino ≡ true → tree_slot new ino k ≡ goes_to (tree_slot image ino k)
  slot ino k inode = moved_slots goes_to image new h moved ino k inode

  table : (nid : ℕ) → nat new nid ≡ option_map (moved_entry (place_after its_moves)) (nat image nid)
  table nid = moved.table nid ∙ go (nat image nid)
    where
      go : (o : Option NatEntry) → option_map (moved_entry goes_to) o ≡ option_map (moved_entry (place_after its_moves)) o
      go None = refl
      go (Some e) = ap (λ a. Some (record { version = e.version; ino = e.ino; address = a })) (sym (place e.address))

  others : (nid : ℕ) → nid < nid_limit (layout image) → nat image nid ≡ None → image_nat_entry new nid ≡ image_nat_entry image nid
  others nid low none =
      let out : is_among (moved_nodes image addresses) nid ≡ false = false_from_ne_true _ (λ among.
      let node = moved_there image h addresses mains nid among in
      let clash : None ≡ Some node.0 = sym none ∙ node.1 in
      cc clash) in
      entry_after image new addresses targets c p h mains free m s (moved_there image h addresses mains) nid low
      ∙ ap (λ b. cond b (moved_entry goes_to (image_nat_entry image nid)) (image_nat_entry image nid)) out

  pub batch_next : next_free_nid (head new) ≡ least_free_nid new
  batch_next = s.next_nid ∙ m.next_free ∙ sym (same_least goes_to image new moved.table s.areas)

  pub batch_followed : HasFollowed its_moves image new
  batch_followed = record {
    areas = s.areas;
    table = table;
    other_entries = others;
    nodes = λ nid e is.
        subst (λ a. IsFollowedNode its_moves (block_at image e.address) (block_at new a)) (sym (place e.address))
        (node_followed goes_to (is_used image) its_moves (steps image h addresses mains targets free) (leaves image h addresses mains targets free) (block_at image e.address) (block_at new (goes_to e.address))
        (moved.nodes nid (block_at image e.address) e.address (ap (option_map (λ (x : NatEntry). x.address)) is) refl));
    slots = λ ino k inode. slot ino k inode ∙ sym (place (tree_slot image ino k));
    holes = λ ino k inode. (reads_moved goes_to image new h moved).same_is_address ino k inode;
    files = λ ino k inode named. ap (block_at new) (slot ino k inode) ∙ moved.files ino k inode named;
    data_kinds = λ ino k inode named.
        let within = slot_below goes_to image new h moved ino k named in
        kind_is image h addresses mains targets free new 1 (tree_slot image ino k)
        (data_kind image new addresses targets c p h mains free m s (tree_slot image ino k) (slot_main image h ino k inode within named) (slot_data image h ino k inode within));
    node_kinds = λ nid e is.
        kind_is image h addresses mains targets free new 4 e.address
        (node_kind image new addresses targets c p h mains free m s e.address (entry_in_main image h nid e is) (entry_node image h nid e is));
    next_free = inl batch_next;
  }
