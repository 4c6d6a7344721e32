-- A change with all parts of a batch writes nothing that the image depends on; and what stands once it is committed.
use Rattle.std.proofs.Common.{◌≡◌, ℕ, ◌+◌, ◌*◌, ◌/◌, ◌<◌, ◌≤◌, List, ◌++◌, true, false, length, get_or, All, sym, ap, subst, ◌∙◌, arith}
use Rattle.std.specs.List.Sorted.{IsStrictlyIncreasing}
use Rattle.std.proofs.lemmas.List.{length-map, get_or-map}
use Rattle.std.proofs.lemmas.List.Elements.{All-append, All-map}
use Rattle.f2_bytes.specs.Bytes.{Block, Image, IsBlock, block_at, numbers_below, quotient_up}
use Rattle.f2_bytes.specs.Superblock.{layout, is_main, segment_of}
use Rattle.f2_bytes.specs.NodeAddressTable.{nid_limit}
use Rattle.f2_bytes.specs.Check.{is_checked}
use Rattle.f2_bytes.specs.Support.{is_support, is_free}
use Rattle.f2_bytes.specs.Defragment.{placement, batch_need, target_block}
use Rattle.f2_bytes.proofs.AllPlaces.{All-below}
use Rattle.f2_pack.specs.declared.writing.NewPack.{NewPack}
use Rattle.f2_sum.specs.declared.records.NatEntry.{NatEntry as HeldNatEntry}
use Rattle.f2_change.specs.declared.change.Change.{Change}
use Rattle.f2_gather.specs.declared.gathering.MovedBlock.{MovedBlock}
use Rattle.f2_change.specs.Carried.{Carries}
use Rattle.f2_commit.specs.Moves.{AreTargets, moved_data, moved_nodes, data_target_count, node_targets, HasMoved}
use Rattle.f2_commit.specs.Shifting.{IsBatch, HasParts}
use Rattle.f2_commit.proofs.MoveDone.{batch_moves}
use Rattle.f2_commit.proofs.MoveTargets.{behind, segment_at}
use Rattle.f2_commit.proofs.ShiftBatch.{SegmentFields, data_list, node_list, data_summaries, node_summaries, all_blocks, data_keys, node_keys, enough, first_sums, second_sums, parts_move}
use Rattle.f2_commit.proofs.ShiftGiven.{keys}
use Rattle.f2_commit.proofs.ShiftPlaces.{first_low, second_low}
use Rattle.f2_commit.proofs.ShiftSpare.{free_spares}
use Rattle.f2_commit.proofs.ShiftSums.{sum_keys}

-- what holds of the numbers of a list
pub all_keys : {T : Type 0} (P : ℕ → Type 0) (ws : List (ℕ × T)) → All P (keys ws) → All (λ (w : ℕ × T). P w.0) ws
all_keys {T} P ws all = λ k d low.
    let long = length-map ws (λ (w : ℕ × T). w.0) in
    subst P (get_or-map (λ (w : ℕ × T). w.0) ws k d 0 low) (all k 0 (omega (arith, low, long)))

-- a batch needs as many segments as what is gathered of it fills
pub need_is : (image : Image) (addresses : List ℕ) (moved : List MovedBlock) (nodes : List (ℕ × HeldNatEntry)) → IsBatch image addresses moved nodes
    → batch_need (nid_limit (layout image)) (placement image) addresses ≡ quotient_up (length moved) 512 + quotient_up (length nodes) 512
need_is image addresses moved nodes batch =
    let first : length (moved_data image addresses) ≡ length moved = sym (ap length batch.data_addresses) ∙ length-map moved (λ (b : MovedBlock). b.address) in
    let second : length (moved_nodes image addresses) ≡ length nodes = sym (ap length batch.nids) ∙ length-map nodes (λ (w : ℕ × HeldNatEntry). w.0) in
    λ i. quotient_up (first i) 512 + quotient_up (second i) 512

pub batch_fits : (image : Image) (addresses targets : List ℕ) (moved : List MovedBlock) (nodes : List (ℕ × HeldNatEntry)) → AreTargets image addresses targets → IsBatch image addresses moved nodes
    → quotient_up (length moved) 512 + quotient_up (length nodes) 512 ≤ length targets
batch_fits image addresses targets moved nodes free batch = subst (λ n. n ≤ length targets) (need_is image addresses moved nodes batch) free.enough

module _ (image : Image) (addresses targets given_targets : List ℕ) (moved : List MovedBlock) (nodes : List (ℕ × HeldNatEntry)) (c : Change) (h : is_checked image ≡ true)
    (bytes : (n : ℕ) → n < length image → IsBlock (block_at image n)) (mains : All (λ a. is_main (layout image) a ≡ true) addresses) (free : AreTargets image addresses targets)
    (batch : IsBatch image addresses moved nodes) (parts : HasParts image targets given_targets moved nodes c) where
  abbrev IsFreePlace : ℕ → Type 0
  IsFreePlace x = is_free image (segment_of (layout image) x) ≡ true

  abbrev n : ℕ
  n = length (moved_data image addresses)

  abbrev k : ℕ
  k = length (moved_nodes image addresses)

  place_free : (i : ℕ) → i < 512 * length targets → IsFreePlace (target_block (layout image) targets i)
  place_free i low = ap (is_free image) (segment_at (layout image) targets i) ∙ free.free (i / 512) 0 (omega (arith, low))

  -- each block goes to a free segment
  pub blocks_free : All (λ (w : ℕ × Block). is_free image (segment_of (layout image) w.0) ≡ true) c.blocks.items
  blocks_free =
      subst (λ ws. All (λ (w : ℕ × Block). IsFreePlace w.0) ws) (sym (all_blocks image addresses targets given_targets moved nodes c h bytes mains free batch parts))
      (All-append (λ (w : ℕ × Block). IsFreePlace w.0) (data_list image addresses targets given_targets moved nodes c h bytes mains free batch parts) (node_list image addresses targets given_targets moved nodes c h bytes mains free batch parts)
      (all_keys IsFreePlace (data_list image addresses targets given_targets moved nodes c h bytes mains free batch parts)
      (subst (All IsFreePlace) (sym (data_keys image addresses targets given_targets moved nodes c h bytes mains free batch parts))
      (All-map IsFreePlace (target_block (layout image) targets) (numbers_below n)
      (All-below (λ i. IsFreePlace (target_block (layout image) targets i)) n (λ i low. place_free i (first_low (layout image) targets n k free.different free.enough i low))))))
      (all_keys IsFreePlace (node_list image addresses targets given_targets moved nodes c h bytes mains free batch parts)
      (subst (All IsFreePlace) (sym (node_keys image addresses targets given_targets moved nodes c h bytes mains free batch parts))
      (All-map IsFreePlace (target_block (layout image) (node_targets image addresses targets)) (numbers_below k)
      (All-below (λ j. IsFreePlace (target_block (layout image) (node_targets image addresses targets) j)) k (λ j low.
      ap (λ x. is_free image (segment_of (layout image) x)) (behind (layout image) targets (data_target_count image addresses) j)
      ∙ place_free (512 * data_target_count image addresses + j) (second_low (layout image) targets n k free.different free.enough j low)))))))

  -- no summary block of its segments is depended on
  pub sums_spare : All (λ (w : ℕ × Block). is_support image ((layout image).ssa + w.0) ≡ false) c.sums.items
  sums_spare =
      subst (λ ws. All (λ (w : ℕ × Block). is_support image ((layout image).ssa + w.0) ≡ false) ws) (sym parts.sums.all)
      (all_keys (λ s. is_support image ((layout image).ssa + s) ≡ false) (parts.sums.data_sums ++ parts.sums.node_sums)
      (sum_keys targets (data_summaries image addresses targets given_targets moved nodes c h bytes mains free batch parts) (node_summaries image addresses targets given_targets moved nodes c h bytes mains free batch parts) 0 1 free.different
      (enough image addresses targets given_targets moved nodes c h bytes mains free batch parts) parts.sums.data_sums parts.sums.node_sums
      (first_sums image addresses targets given_targets moved nodes c h bytes mains free batch parts) (second_sums image addresses targets given_targets moved nodes c h bytes mains free batch parts)
      (λ s. is_support image ((layout image).ssa + s) ≡ false) (λ i low. free_spares image h (get_or targets i 0) (free.free i 0 low))))

  -- the image that carries it, where its entries of segments are as they have to be
  pub shifted : (new : Image) (p : NewPack) → IsStrictlyIncreasing addresses → SegmentFields image addresses targets c → Carries image c p new → HasMoved image new addresses targets
  shifted new p rises s carried = batch_moves image new addresses targets c p h bytes rises mains free (parts_move image addresses targets given_targets moved nodes c h bytes mains free batch parts s) carried
