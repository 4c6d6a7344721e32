-- The targets that a batch does not take are free in the image that carries it.
use Rattle.std.proofs.Common.{◌≡◌, ℕ, ◌+◌, ◌*◌, ◌/◌, ◌<◌, ◌≤◌, inl, inr, List, true, false, ◌==◌, ◌||◌, length, get_or, All, sym, ap, ◌∙◌, subst, ⊎_elim, arith}
use Rattle.std.specs.Prelude.{drop, IsTrue}
use Rattle.std.specs.List.{list_any}
use Rattle.std.specs.List.Sorted.{IsStrictlyIncreasing}
use Rattle.std.proofs.lemmas.Bool.{and_parts, or_cases, eqb-true, false_from_ne_true, false≢true}
use Rattle.std.proofs.lemmas.List.{get_or-drop, length-drop}
use Rattle.std.proofs.lemmas.List.Elements.{All-from_get_or}
use Rattle.f2_bytes.specs.Bytes.{Image, IsBlock, block_at, numbers_below}
use Rattle.f2_bytes.specs.Superblock.{layout, is_main, segment_of, segment_start}
use Rattle.f2_bytes.specs.NodeAddressTable.{nid_limit}
use Rattle.f2_bytes.specs.Check.{is_checked, is_data, is_node}
use Rattle.f2_bytes.specs.Moved.{IsMoved, is_used}
use Rattle.f2_bytes.specs.Support.{is_free}
use Rattle.f2_bytes.specs.Defragment.{placement, batch_need, target_block}
use Rattle.f2_bytes.proofs.Below.{found_below}
use Rattle.f2_bytes.proofs.FormatFacts.{free_has_no_support}
use Rattle.f2_bytes.proofs.FrameBlocks.{main_at}
use Rattle.f2_bytes.proofs.MovedLaw.{moved_keeps_tree}
use Rattle.f2_bytes.proofs.MovedOwners.{used_from}
use Rattle.f2_bytes.proofs.MovedReads.{ReadsMoved}
use Rattle.f2_bytes.proofs.MovedSlots.{reads_moved}
use Rattle.f2_bytes.proofs.MovedSummaries.{same_logs}
use Rattle.f2_pack.specs.declared.writing.NewPack.{NewPack}
use Rattle.f2_change.specs.declared.change.Change.{Change}
use Rattle.f2_change.specs.Carried.{Carries}
use Rattle.f2_commit.specs.Moves.{MovesBatch, AreTargets, moved_data, moved_nodes, data_target_count, node_targets, new_address, is_taken}
use Rattle.f2_commit.proofs.MoveAddresses.{used_support}
use Rattle.f2_commit.proofs.MoveBatch.{moves_batch}
use Rattle.f2_commit.proofs.MoveLands.{Goes, goes}
use Rattle.f2_commit.proofs.MoveMarks.{takes_taken}
use Rattle.f2_commit.proofs.MoveSums.{free_no_log, free_inside}
use Rattle.f2_commit.proofs.MoveSupport.{unused_free}
use Rattle.f2_commit.proofs.MoveTargets.{behind, segment_at}

module _ (image new : Image) (addresses targets : List ℕ) (c : Change) (p : NewPack) (h : is_checked image ≡ true) (bytes : (n : ℕ) → n < length image → IsBlock (block_at image n)) (rises : IsStrictlyIncreasing addresses)
    (mains : All (λ a. is_main (layout image) a ≡ true) addresses) (free : AreTargets image addresses targets) (m : MovesBatch image addresses targets c) (s : Carries image c p new) where
  abbrev to : ℕ → ℕ
  to = new_address image addresses targets

  moved : IsMoved (new_address image addresses targets) image new
  moved = moves_batch image new addresses targets c p h bytes rises mains free m s

  checked : is_checked new ≡ true
  checked = (moved_keeps_tree (new_address image addresses targets) image new h moved).0

  reads : ReadsMoved (new_address image addresses targets) image new
  reads = reads_moved (new_address image addresses targets) image new h moved

  -- what is in use in a segment that was free went there
  used_taken : (segment k : ℕ) → is_free image segment ≡ true → k < 512 → is_used new (segment_start (layout image) segment + k) ≡ true → is_taken image addresses targets (segment_start (layout image) segment + k) ≡ true
  used_taken segment k is within used = by from.0 from.1 from.2 (goes image addresses targets from.0)
    where
      x : ℕ
      x = segment_start (layout image) segment + k

      main : is_main (layout image) (segment_start (layout image) segment + k) ≡ true
      main = main_at (layout image) segment k (free_inside image segment is) within

      from : (a : ℕ) × (is_used image a ≡ true) × (to a ≡ segment_start (layout image) segment + k)
      from =
          let stands = (and_parts (is_main (layout new) (segment_start (layout image) segment + k)) (is_data new (segment_start (layout image) segment + k) || is_node new (segment_start (layout image) segment + k)) used).1 in
          used_from (new_address image addresses targets) image new h moved reads (segment_start (layout image) segment + k) main stands

      by : (a : ℕ) → is_used image a ≡ true → to a ≡ segment_start (layout image) segment + k → Goes image addresses targets a → is_taken image addresses targets (segment_start (layout image) segment + k) ≡ true
      by a there at (inl same) =
          let old : is_used image (segment_start (layout image) segment + k) ≡ true = subst (λ y. is_used image y ≡ true) (sym same ∙ at) there in
          absurd (false≢true (sym (free_has_no_support image segment k is within) ∙ used_support image h (segment_start (layout image) segment + k) old))
      by a there at (inr t) = ap (is_taken image addresses targets) (sym at ∙ t.1) ∙ takes_taken image new addresses targets c p h mains free m s t.0 a t.2

  -- a free segment into which nothing moves stays free
  pub stays_free : (segment : ℕ) → is_free image segment ≡ true → ((k : ℕ) → k < 512 → is_taken image addresses targets (segment_start (layout image) segment + k) ≡ false) → is_free new segment ≡ true
  stays_free segment is untaken =
      let same_segments : (layout new).segments ≡ (layout image).segments = ap (λ l. l.segments) s.areas in
      let inside = free_inside image segment is in
      unused_free new checked segment (omega (arith, inside, same_segments))
      (same_logs (new_address image addresses targets) image new h moved reads segment ∙ free_no_log image segment is)
      (λ k within used.
      let at : is_used new (segment_start (layout image) segment + k) ≡ true = sym (ap (λ l. is_used new (segment_start l segment + k)) s.areas) ∙ used in
      false≢true (sym (untaken k within) ∙ used_taken segment k is within at))

  -- ---- the targets that are left

  -- no place of a target behind those that the batch needs is taken
  rest_untaken : (i k : ℕ) → batch_need (nid_limit (layout image)) (placement image) addresses ≤ i → i < length targets → k < 512 → is_taken image addresses targets (segment_start (layout image) (get_or targets i 0) + k) ≡ false
  rest_untaken i k past low within = false_from_ne_true _ (λ taken. ⊎_elim by_data by_node (or_cases _ _ taken))
    where
      x : ℕ
      x = segment_start (layout image) (get_or targets i 0) + k

      own : segment_of (layout image) (segment_start (layout image) (get_or targets i 0) + k) ≡ get_or targets i 0
      own = omega (arith, within)

      by_number : (n : ℕ) → n < 512 * batch_need (nid_limit (layout image)) (placement image) addresses → target_block (layout image) targets n ≡ segment_start (layout image) (get_or targets i 0) + k → ⊥
      by_number n few at =
          let segment : get_or targets (n / 512) 0 ≡ get_or targets i 0 = sym (segment_at (layout image) targets n) ∙ ap (segment_of (layout image)) at ∙ own in
          let before : n / 512 < i = omega (arith, few, past) in
          let same : n / 512 ≡ i = free.different (n / 512) i (omega (arith, before, low)) low segment in
          omega (arith, before, same)

      by_data : list_any (λ n. target_block (layout image) targets n == segment_start (layout image) (get_or targets i 0) + k) (numbers_below (length (moved_data image addresses))) ≡ true → ⊥
      by_data any =
          let t = found_below (λ n. target_block (layout image) targets n == segment_start (layout image) (get_or targets i 0) + k) (length (moved_data image addresses)) any in
          let few = t.1 in
          by_number t.0 (omega (arith, few)) (eqb-true (target_block (layout image) targets t.0) (segment_start (layout image) (get_or targets i 0) + k) t.2)

      by_node : list_any (λ n. target_block (layout image) (node_targets image addresses targets) n == segment_start (layout image) (get_or targets i 0) + k) (numbers_below (length (moved_nodes image addresses))) ≡ true → ⊥
      by_node any =
          let t = found_below (λ n. target_block (layout image) (node_targets image addresses targets) n == segment_start (layout image) (get_or targets i 0) + k) (length (moved_nodes image addresses)) any in
          let few = t.1 in
          by_number (512 * data_target_count image addresses + t.0) (omega (arith, few))
          (sym (behind (layout image) targets (data_target_count image addresses) t.0) ∙ eqb-true (target_block (layout image) (node_targets image addresses targets) t.0) (segment_start (layout image) (get_or targets i 0) + k) t.2)

  -- the targets that are left are free, and different
  pub rest_free : All (λ segment. IsTrue (is_free new segment)) (drop (batch_need (nid_limit (layout image)) (placement image) addresses) targets)
  rest_free = All-from_get_or (λ segment. is_free new segment ≡ true) (drop (batch_need (nid_limit (layout image)) (placement image) addresses) targets) 0 (λ i low.
      let need = batch_need (nid_limit (layout image)) (placement image) addresses in
      let long = length-drop need targets in
      let inside : need + i < length targets = omega (arith, low, long) in
      let there = stays_free (get_or targets (need + i) 0) (free.free (need + i) 0 inside) (λ k within. rest_untaken (need + i) k (omega arith) inside within) in
      ap (is_free new) (get_or-drop need targets i 0) ∙ there)

  -- they serve the next batch, if they are enough
  pub next_targets : (next : List ℕ) → batch_need (nid_limit (layout new)) (placement new) next ≤ length (drop (batch_need (nid_limit (layout image)) (placement image) addresses) targets)
      → AreTargets new next (drop (batch_need (nid_limit (layout image)) (placement image) addresses) targets)
  next_targets next enough = record {
    free = rest_free;
    different = λ i j low_i low_j same.
        let need = batch_need (nid_limit (layout image)) (placement image) addresses in
        let long = length-drop need targets in
        let apart : need + i ≡ need + j = free.different (need + i) (need + j) (omega (arith, low_i, long)) (omega (arith, low_j, long)) (sym (get_or-drop need targets i 0) ∙ same ∙ get_or-drop need targets j 0) in
        omega (arith, apart);
    enough = enough;
  }
