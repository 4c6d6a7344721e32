-- The new entries of the nodes of a batch: those of the nodes that move, with their new addresses, and no others.
use Rattle.std.proofs.Common.{◌≡◌, ℕ, ◌<◌, inl, inr, List, Bool, true, false, ◌==◌, cond, map, length, get_or, All, Some, None, refl, sym, ap, ◌∙◌, arith}
use Rattle.std.specs.Prelude.{option_map}
use Rattle.std.specs.List.Sorted.{IsStrictlyIncreasing}
use Rattle.std.proofs.lemmas.Bool.{eq-eqb, eqb-true, cases_lt}
use Rattle.std.proofs.lemmas.List.{length-map, get_or-map, get_or_default}
use Rattle.std.proofs.lemmas.List.Folds.{Any-from_list_any, list_any_at}
use Rattle.std.proofs.lemmas.List.Kept.{AllPairs-from_increasing}
use Rattle.f2_bytes.specs.Bytes.{Image}
use Rattle.f2_bytes.specs.Superblock.{layout, is_main}
use Rattle.f2_bytes.specs.NodeAddressTable.{nat, image_nat_entry}
use Rattle.f2_bytes.specs.Check.{is_checked}
use Rattle.f2_bytes.specs.Moved.{moved_entry}
use Rattle.f2_bytes.specs.Defragment.{is_among, target_block}
use Rattle.f2_sum.specs.Records.{nat_entry}
use Rattle.f2_sum.specs.declared.records.NatEntry.{NatEntry as HeldNatEntry}
use Rattle.f2_change.specs.Change.{nat_given}
use Rattle.f2_commit.specs.Moves.{moved_nodes, node_targets, new_address}
use Rattle.f2_commit.specs.Shifting.{HavePlaces}
use Rattle.f2_commit.proofs.MoveMarked.{put_there, nodes_rise, found_node, to_node, node_no_data}
use Rattle.f2_commit.proofs.MoveNodes.{moved_there}
use Rattle.f2_commit.proofs.MoveTable.{live_entry_is}
use Rattle.f2_commit.proofs.ShiftGiven.{keys, get_or-mapped, given_not, given_only}

-- in a list that rises a number stands once
once : (xs : List ℕ) (i j : ℕ) → IsStrictlyIncreasing xs → i < length xs → j < length xs → get_or xs i 0 ≡ get_or xs j 0 → i ≡ j
once xs i j rises low_i low_j same = elim (cases_lt i j) [
  | inl before ↦ let less = AllPairs-from_increasing xs rises i j 0 before low_j in absurd (omega (arith, less, same))
  | inr after ↦ elim (cases_lt j i) [
    | inl before ↦ let less = AllPairs-from_increasing xs rises j i 0 before low_i in absurd (omega (arith, less, same))
    | inr too ↦ omega (arith, after, too)
  ]
]

pub some_held : HeldNatEntry
some_held = record { version = 0; ino = 0; addr = 0 }

module _ (image : Image) (h : is_checked image ≡ true) (addresses targets : List ℕ) (mains : All (λ a. is_main (layout image) a ≡ true) addresses) where
  abbrev to : ℕ → ℕ
  to = new_address image addresses targets

  abbrev nids : List ℕ
  nids = moved_nodes image addresses

  nid_among : (n : ℕ) → n < length nids → is_among nids (get_or nids n 0) ≡ true
  nid_among n low = list_any_at (λ y. y == get_or nids n 0) nids n 0 low (eq-eqb _ _ refl)

  -- the entry of a node that moves is one of the table
  pub moved_entry_there : (n : ℕ) → n < length nids → nat image (get_or nids n 0) ≡ Some (image_nat_entry image (get_or nids n 0))
  moved_entry_there n low =
      let t = moved_there image h addresses mains (get_or nids n 0) (nid_among n low) in
      t.1 ∙ ap (λ e. Some e) (sym (live_entry_is image (get_or nids n 0) t.0 t.1).0)

  -- node n goes to block n of its targets
  pub node_goes : (n : ℕ) → n < length nids → to (image_nat_entry image (get_or nids n 0)).address ≡ target_block (layout image) (node_targets image addresses targets) n
  node_goes n low =
      let nid = get_or nids n 0 in
      let e = image_nat_entry image nid in
      let is = moved_entry_there n low in
      to_node image addresses targets e.address nid (target_block (layout image) (node_targets image addresses targets) n) (node_no_data image h addresses targets mains nid e is) (found_node image h nid e is)
      (put_there (layout image) (node_targets image addresses targets) nids n (nodes_rise image addresses) low)

  module _ (nodes new : List (ℕ × HeldNatEntry)) (same_nids : keys nodes ≡ nids) (entries : map (λ (w : ℕ × HeldNatEntry). nat_entry w.1) nodes ≡ map (image_nat_entry image) nids)
      (places : HavePlaces (layout image) (node_targets image addresses targets) nodes new) where
    nodes_long : length nodes ≡ length nids
    nodes_long = sym (length-map nodes (λ (w : ℕ × HeldNatEntry). w.0)) ∙ ap length same_nids

    new_nids : keys new ≡ nids
    new_nids = places.nids ∙ same_nids

    new_long : length new ≡ length nids
    new_long = sym (length-map new (λ (w : ℕ × HeldNatEntry). w.0)) ∙ ap length new_nids

    abbrev old_at : ℕ → ℕ × HeldNatEntry
    old_at n = get_or nodes n (0, some_held)

    abbrev new_at : ℕ → ℕ × HeldNatEntry
    new_at n = get_or new n (0, some_held)

    pub old_entry : (n : ℕ) → n < length nids → nat_entry (old_at n).1 ≡ image_nat_entry image (get_or nids n 0)
    old_entry n low =
        let long = nodes_long in
        sym (get_or-map (λ (w : ℕ × HeldNatEntry). nat_entry w.1) nodes n (0, some_held) (nat_entry some_held) (omega (arith, low, long)))
        ∙ ap (λ es. get_or es n (nat_entry some_held)) entries
        ∙ get_or-map (image_nat_entry image) nids n 0 (nat_entry some_held) low

    -- what stands in the two lists at one number
    at_number : (f : ℕ × HeldNatEntry → ℕ) (n : ℕ) → n < length nids → map f new ≡ map f nodes → f (new_at n) ≡ f (old_at n)
    at_number f n low same =
        let long = nodes_long in
        let long_too = new_long in
        sym (get_or-map f new n (0, some_held) 0 (omega (arith, low, long_too))) ∙ ap (λ xs. get_or xs n 0) same ∙ get_or-map f nodes n (0, some_held) 0 (omega (arith, low, long))

    new_address_at : (n : ℕ) → n < length nids → (new_at n).1.addr ≡ target_block (layout image) (node_targets image addresses targets) n
    new_address_at n low =
        let long = nodes_long in
        let long_too = new_long in
        sym (get_or-map (λ (w : ℕ × HeldNatEntry). w.1.addr) new n (0, some_held) 0 (omega (arith, low, long_too)))
        ∙ ap (λ xs. get_or xs n 0) places.addresses
        ∙ get_or-mapped (target_block (layout image) (node_targets image addresses targets)) (length nodes) n 0 (omega (arith, low, long))

    new_entry : (n : ℕ) → n < length nids → nat_entry (new_at n).1 ≡ moved_entry to (image_nat_entry image (get_or nids n 0))
    new_entry n low =
        let version = at_number (λ (w : ℕ × HeldNatEntry). (nat_entry w.1).version) n low places.versions ∙ ap (λ e. e.version) (old_entry n low) in
        let ino = at_number (λ (w : ℕ × HeldNatEntry). (nat_entry w.1).ino) n low places.inodes ∙ ap (λ e. e.ino) (old_entry n low) in
        let address = new_address_at n low ∙ sym (node_goes n low) in
        λ i. record { version = version i; ino = ino i; address = address i }

    pub entries_given : (nid : ℕ) → nat_given new nid ≡ cond (is_among nids nid) (Some (moved_entry to (image_nat_entry image nid))) None
    entries_given nid = go (is_among nids nid) refl
      where
        go : (b : Bool) → is_among nids nid ≡ b → nat_given new nid ≡ cond b (Some (moved_entry to (image_nat_entry image nid))) None
        go false other = ap (option_map nat_entry) (given_not new nid (ap (λ ks. is_among ks nid) new_nids ∙ other))
        go true among =
            let t = Any-from_list_any (λ y. y == nid) nids among in
            let here : get_or nids t.0 0 ≡ nid = get_or_default nids t.0 0 t.1 t.2 ∙ t.3 ∙ eqb-true t.1 nid t.4 in
            let long = new_long in
            let low = t.2 in
            let found = given_only new nid t.0 (0, some_held) (omega (arith, low, long)) (ap (λ ks. get_or ks t.0 0) new_nids ∙ here) (λ j inside at.
            once nids j t.0 (nodes_rise image addresses) (omega (arith, inside, long)) t.2 (sym (ap (λ ks. get_or ks j 0) new_nids) ∙ at ∙ sym here)) in
            ap (option_map nat_entry) found ∙ ap (λ e. Some e) (new_entry t.0 t.2 ∙ ap (λ m. moved_entry to (image_nat_entry image m)) here)
