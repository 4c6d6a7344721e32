-- A change with all parts of a batch moves it.
use Rattle.std.proofs.Common.{◌≡◌, ℕ, ◌+◌, ◌*◌, ◌<◌, ◌≤◌, List, [], ◌∷◌, ◌++◌, true, false, not, ◌&&◌, ◌||◌, map, length, get_or, All, Some, None, refl, sym, ap, subst, ◌∙◌, arith}
use Rattle.std.specs.Prelude.{drop, IsFalse}
use Rattle.std.specs.List.{list_any}
use Rattle.std.proofs.lemmas.Bool.{false≢true}
use Rattle.std.proofs.lemmas.List.{length-map, get_or-map}
use Rattle.f2_bytes.specs.Bits.{bit_msb}
use Rattle.f2_bytes.specs.Bytes.{Block, Image, IsBlock, block_at, numbers_below, count_below, quotient_up}
use Rattle.f2_bytes.specs.Superblock.{layout, is_main, segment_start}
use Rattle.f2_bytes.specs.Checkpoint.{head, is_log_segment}
use Rattle.f2_bytes.specs.NodeAddressTable.{image_nat_entry}
use Rattle.f2_bytes.specs.SegmentTable.{sit, is_block_valid}
use Rattle.f2_bytes.specs.Summary.{Summary, summary, summary_entry, entry_type}
use Rattle.f2_bytes.specs.Check.{is_checked}
use Rattle.f2_bytes.specs.Moved.{IsMovedNode}
use Rattle.f2_bytes.specs.Support.{is_free}
use Rattle.f2_bytes.specs.Defragment.{target_block}
use Rattle.f2_bytes.proofs.CheckedUsed.{entry_in_main}
use Rattle.f2_sum.specs.declared.records.NatEntry.{NatEntry as HeldNatEntry}
use Rattle.f2_change.specs.declared.change.Change.{Change}
use Rattle.f2_gather.specs.declared.gathering.MovedBlock.{MovedBlock}
use Rattle.f2_change.specs.Change.{given}
use Rattle.f2_gather.specs.Gathering.{moved_block}
use Rattle.f2_commit.specs.Moves.{MovesBatch, AreTargets, moved_data, moved_nodes, data_target_count, node_target_count, node_targets, data_place, node_place, new_address, is_moving, is_taken, sit_after, node_summary}
use Rattle.f2_commit.specs.Shifting.{IsBatch, HasParts, IsShifted, AreShifted, HavePlaces, AreSums, data_summary, data_blocks, node_addresses}
use Rattle.f2_commit.proofs.MoveLayout.{main_inside}
use Rattle.f2_commit.proofs.MoveTargets.{put_number}
use Rattle.f2_commit.proofs.ShiftEntries.{some_held, moved_entry_there, old_entry, entries_given}
use Rattle.f2_commit.proofs.ShiftGiven.{keys, length-mapped, get_or-mapped}
use Rattle.f2_commit.proofs.ShiftPlaces.{first_given, second_given, none_given}
use Rattle.f2_commit.proofs.ShiftSums.{first_sum, second_sum, no_sum}
use Rattle.f2_commit.proofs.ShiftWords.{node_shifted}

-- what the entries of segments have to be
pub record SegmentFields (image : Image) (addresses targets : List ℕ) (c : Change) : Type 0 where
  pub marks : (segment k : ℕ) → segment < (layout image).segments → k < 512 → bit_msb (sit_after image c segment).map k ≡ ((is_block_valid image segment k && not (is_moving image addresses targets (segment_start (layout image) segment + k))) || is_taken image addresses targets (segment_start (layout image) segment + k))
  pub counts_marks : (segment : ℕ) → segment < (layout image).segments → (sit_after image c segment).count ≡ count_below 512 (bit_msb (sit_after image c segment).map)
  pub data_kinds : (i : ℕ) → i < data_target_count image addresses → (sit_after image c (get_or targets i 0)).kind ≡ 1
  pub node_kinds : (i : ℕ) → i < node_target_count image addresses → (sit_after image c (get_or (node_targets image addresses targets) i 0)).kind ≡ 4
  pub old_kinds : (segment : ℕ) → IsFalse (is_free image segment) → (sit_after image c segment).kind ≡ (sit image segment).kind
  pub free_segments : c.counts.free ≡ count_below (layout image).segments (λ segment. not (list_any (bit_msb (sit_after image c segment).map) (numbers_below 512)) && not (is_log_segment (head image) segment))

map_map : {A B C : Type 0} (g : B → C) (f : A → B) (xs : List A) → map g (map f xs) ≡ map (λ x. g (f x)) xs
map_map g f [] = refl
map_map g f (x ∷ xs) = ap (λ ys. g (f x) ∷ ys) (map_map g f xs)

module _ (image : Image) (addresses targets given_targets : List ℕ) (moved : List MovedBlock) (nodes : List (ℕ × HeldNatEntry)) (c : Change) (h : is_checked image ≡ true)
    (bytes : (n : ℕ) → n < length image → IsBlock (block_at image n)) (mains : All (λ a. is_main (layout image) a ≡ true) addresses) (free : AreTargets image addresses targets)
    (batch : IsBatch image addresses moved nodes) (parts : HasParts image targets given_targets moved nodes c) where
  abbrev to : ℕ → ℕ
  to = new_address image addresses targets

  -- ---- the lists

  pub moved_long : length moved ≡ length (moved_data image addresses)
  moved_long = sym (length-map moved (λ (b : MovedBlock). b.address)) ∙ ap length batch.data_addresses

  pub nodes_long : length nodes ≡ length (moved_nodes image addresses)
  nodes_long = sym (length-map nodes (λ (w : ℕ × HeldNatEntry). w.0)) ∙ ap length batch.nids

  targets_same : given_targets ≡ node_targets image addresses targets
  targets_same = parts.behind ∙ ap (λ n. drop (quotient_up n 512) targets) moved_long

  -- ---- entries

  places : HavePlaces (layout image) (node_targets image addresses targets) nodes c.nat.items
  places = subst (λ ts. HavePlaces (layout image) ts nodes c.nat.items) targets_same parts.entries

  -- ---- blocks

  abbrev pub data_list : List (ℕ × Block)
  data_list = data_blocks image (layout image) targets (moved_data image addresses)

  abbrev pub node_list : List (ℕ × Block)
  node_list = parts.blocks.node_blocks

  pub all_blocks : c.blocks.items ≡ data_list ++ node_list
  all_blocks = parts.blocks.all ∙ ap (λ xs. data_blocks image (layout image) targets xs ++ node_list) batch.data_addresses

  pub data_keys : keys data_list ≡ map (target_block (layout image) targets) (numbers_below (length (moved_data image addresses)))
  data_keys = map_map (λ (w : ℕ × Block). w.0) (λ n. (target_block (layout image) targets n, block_at image (get_or (moved_data image addresses) n 0))) (numbers_below (length (moved_data image addresses)))

  shifted : AreShifted image (layout image) targets (moved_data image addresses) (node_targets image addresses targets) nodes node_list
  shifted =
      subst (λ ts. AreShifted image (layout image) targets (moved_data image addresses) ts nodes node_list) targets_same
      (subst (λ xs. AreShifted image (layout image) targets xs given_targets nodes node_list) batch.data_addresses parts.blocks.shifted)

  pub node_keys : keys node_list ≡ map (target_block (layout image) (node_targets image addresses targets)) (numbers_below (length (moved_nodes image addresses)))
  node_keys = shifted.places ∙ ap (λ n. map (target_block (layout image) (node_targets image addresses targets)) (numbers_below n)) nodes_long

  data_given : (address place : ℕ) → data_place image addresses targets address place → given c.blocks.items place ≡ Some (block_at image address)
  data_given address place put =
      let t = put_number (layout image) targets (moved_data image addresses) address place put in
      let n = length (moved_data image addresses) in
      (λ i. given (all_blocks i) (t.3 i))
      ∙ first_given (layout image) targets n (length (moved_nodes image addresses)) free.different free.enough data_list node_list data_keys node_keys t.0 (0, []) t.1
      ∙ ap (λ (w : ℕ × Block). Some w.1) (get_or-mapped (λ k. (target_block (layout image) targets k, block_at image (get_or (moved_data image addresses) k 0))) n t.0 (0, []) t.1)
      ∙ ap (λ a. Some (block_at image a)) t.2

  -- the block that goes to the place of node n
  abbrev shifted_block : ℕ → Block
  shifted_block n = (get_or node_list n (0, block_at image 0)).1

  node_list_long : length node_list ≡ length (moved_nodes image addresses)
  node_list_long = sym (length-map node_list (λ (w : ℕ × Block). w.0)) ∙ ap length node_keys ∙ length-mapped (target_block (layout image) (node_targets image addresses targets)) (length (moved_nodes image addresses))

  old_place : (n : ℕ) → n < length (moved_nodes image addresses) → get_or (node_addresses nodes) n 0 ≡ (image_nat_entry image (get_or (moved_nodes image addresses) n 0)).address
  old_place n low =
      let long = nodes_long in
      get_or-map (λ (w : ℕ × HeldNatEntry). w.1.addr) nodes n (0, some_held) 0 (omega (arith, low, long))
      ∙ ap (λ e. e.address) (old_entry image h addresses targets mains nodes c.nat.items batch.nids batch.entries places n low)

  node_is_shifted : (n : ℕ) → n < length (moved_nodes image addresses) → IsMovedNode to (block_at image (image_nat_entry image (get_or (moved_nodes image addresses) n 0)).address) (shifted_block n)
  node_is_shifted n low =
      let nid = get_or (moved_nodes image addresses) n 0 in
      let e = image_nat_entry image nid in
      let is = moved_entry_there image h addresses targets mains n low in
      let long = nodes_long in
      let long_too = node_list_long in
      let inside : n < length nodes = omega (arith, low, long) in
      let block = get_or-map (λ (w : ℕ × Block). w.1) node_list n (0, block_at image 0) (block_at image 0) (omega (arith, low, long_too)) in
      let here : IsShifted (layout image) targets (moved_data image addresses) (block_at image e.address) (shifted_block n)
      = subst (IsShifted (layout image) targets (moved_data image addresses) (block_at image e.address)) block
      (subst (λ a. IsShifted (layout image) targets (moved_data image addresses) (block_at image a) (get_or (map (λ (w : ℕ × Block). w.1) node_list) n (block_at image 0))) (old_place n low) (shifted.blocks n inside)) in
      node_shifted image h addresses targets mains free nid e is (shifted_block n) (bytes e.address (main_inside image h e.address (entry_in_main image h nid e is))) here

  node_given : (nid place : ℕ) → node_place image addresses targets nid place
      → (b : Block) × (given c.blocks.items place ≡ Some b) × IsMovedNode to (block_at image (image_nat_entry image nid).address) b
  node_given nid place put =
      let t = put_number (layout image) (node_targets image addresses targets) (moved_nodes image addresses) nid place put in (
        shifted_block t.0,
        (λ i. given (all_blocks i) (t.3 i))
            ∙ second_given (layout image) targets (length (moved_data image addresses)) (length (moved_nodes image addresses)) free.different free.enough data_list node_list data_keys node_keys t.0 (0, block_at image 0) t.1,
        subst (λ m. IsMovedNode to (block_at image (image_nat_entry image m).address) (shifted_block t.0)) t.2 (node_is_shifted t.0 t.1),
      )

  others_given : (place : ℕ) → is_taken image addresses targets place ≡ false → given c.blocks.items place ≡ None
  others_given place untaken =
      ap (λ xs. given xs place) all_blocks
      ∙ none_given (layout image) targets (length (moved_data image addresses)) (length (moved_nodes image addresses)) free.different free.enough data_list node_list data_keys node_keys place untaken

  -- ---- summaries

  abbrev pub data_summaries : List Summary
  data_summaries = map data_summary moved

  abbrev pub node_summaries : List Summary
  node_summaries = map node_summary (moved_nodes image addresses)

  data_summaries_long : length data_summaries ≡ length (moved_data image addresses)
  data_summaries_long = length-map moved data_summary ∙ moved_long

  node_summaries_long : length node_summaries ≡ length (moved_nodes image addresses)
  node_summaries_long = length-map (moved_nodes image addresses) node_summary

  pub enough : quotient_up (length data_summaries) 512 + quotient_up (length node_summaries) 512 ≤ length targets
  enough = subst (λ n. quotient_up n 512 + quotient_up (length node_summaries) 512 ≤ length targets) (sym data_summaries_long)
      (subst (λ k. quotient_up (length (moved_data image addresses)) 512 + quotient_up k 512 ≤ length targets) (sym node_summaries_long) free.enough)

  abbrev pub rest : List ℕ
  rest = drop (quotient_up (length data_summaries) 512) targets

  rest_same : rest ≡ node_targets image addresses targets
  rest_same = ap (λ n. drop (quotient_up n 512) targets) data_summaries_long

  pub first_sums : AreSums targets 0 data_summaries parts.sums.data_sums
  first_sums = parts.sums.of_data

  pub second_sums : AreSums rest 1 node_summaries parts.sums.node_sums
  second_sums =
      subst (λ ts. AreSums ts 1 node_summaries parts.sums.node_sums) (targets_same ∙ sym rest_same)
      (subst (λ ns. AreSums given_targets 1 (map node_summary ns) parts.sums.node_sums) batch.nids parts.sums.of_nodes)

  data_summary_at : (n : ℕ) → n < length (moved_data image addresses) → get_or data_summaries n (node_summary 0) ≡ summary image (get_or (moved_data image addresses) n 0)
  data_summary_at n low =
      let some = moved_block image 0 in
      let long = moved_long in
      let inside : n < length moved = omega (arith, low, long) in
      let address : (get_or moved n some).address ≡ get_or (moved_data image addresses) n 0 = sym (get_or-map (λ (b : MovedBlock). b.address) moved n some 0 inside) ∙ ap (λ xs. get_or xs n 0) batch.data_addresses in
      get_or-map data_summary moved n some (node_summary 0) inside
      ∙ ap data_summary (batch.data_blocks n some inside)
      ∙ ap (summary image) address

  data_sums_given : (i : ℕ) → i < data_target_count image addresses → (b : Block) × (given c.sums.items (get_or targets i 0) ≡ Some b) × (entry_type b ≡ 0)
      × ((k : ℕ) → k < 512 → 512 * i + k < length (moved_data image addresses) → summary_entry b k ≡ summary image (get_or (moved_data image addresses) (512 * i + k) 0))
  data_sums_given i low =
      let long = data_summaries_long in
      let t = first_sum targets data_summaries node_summaries 0 1 free.different enough parts.sums.data_sums parts.sums.node_sums first_sums second_sums i (subst (λ n. i < quotient_up n 512) (sym long) low) in (
        t.0,
        ap (λ xs. given xs (get_or targets i 0)) parts.sums.all ∙ t.1,
        t.2.kind,
        λ k within inside. t.2.entries k within (omega (arith, inside, long)) ∙ data_summary_at (512 * i + k) inside,
      )

  node_sums_given : (i : ℕ) → i < node_target_count image addresses → (b : Block) × (given c.sums.items (get_or (node_targets image addresses targets) i 0) ≡ Some b) × (entry_type b ≡ 1)
      × ((k : ℕ) → k < 512 → 512 * i + k < length (moved_nodes image addresses) → summary_entry b k ≡ node_summary (get_or (moved_nodes image addresses) (512 * i + k) 0))
  node_sums_given i low =
      let long = node_summaries_long in
      let t = second_sum targets data_summaries node_summaries 0 1 free.different enough parts.sums.data_sums parts.sums.node_sums first_sums second_sums i (subst (λ n. i < quotient_up n 512) (sym long) low) in (
        t.0,
        (λ j. given (parts.sums.all j) (get_or (sym rest_same j) i 0)) ∙ t.1,
        t.2.kind,
        λ k within inside. t.2.entries k within (omega (arith, inside, long)) ∙ get_or-map node_summary (moved_nodes image addresses) (512 * i + k) 0 (node_summary 0) inside,
      )

  other_sums_given : (segment : ℕ) → is_free image segment ≡ false → given c.sums.items segment ≡ None
  other_sums_given segment used =
      ap (λ xs. given xs segment) parts.sums.all
      ∙ no_sum targets data_summaries node_summaries 0 1 free.different enough parts.sums.data_sums parts.sums.node_sums first_sums second_sums segment (λ i low at.
      false≢true (sym used ∙ ap (is_free image) (sym at) ∙ free.free i 0 low))

  -- ---- the whole

  pub parts_move : SegmentFields image addresses targets c → MovesBatch image addresses targets c
  parts_move s = record {
    entries = λ nid low. entries_given image h addresses targets mains nodes c.nat.items batch.nids batch.entries places nid;
    data_blocks = data_given;
    node_blocks = node_given;
    no_others = others_given;
    marks = s.marks;
    counts_marks = s.counts_marks;
    data_kinds = s.data_kinds;
    node_kinds = s.node_kinds;
    old_kinds = s.old_kinds;
    data_sums = data_sums_given;
    node_sums = node_sums_given;
    no_other_sums = other_sums_given;
    six = parts.six;
    same_logs = parts.logs;
    same_user = parts.user;
    same_valid = parts.valid;
    same_nodes = parts.node_count;
    same_inodes = parts.inode_count;
    next_free = parts.next_free;
    free_segments = s.free_segments;
  }
