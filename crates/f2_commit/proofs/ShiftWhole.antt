-- A change with all parts of a batch, once it is committed; and what a crash in that leaves.
use Rattle.std.proofs.Common.{◌≡◌, ◌⊎◌, inl, inr, ℕ, zero, suc, ◌+◌, ◌^◌, ◌<◌, ◌≤◌, List, [], ◌∷◌, true, false, not, ◌&&◌, Option, length, get_or, All, Some, refl, sym, ap, subst, ◌∙◌, arith}
use Rattle.std.specs.Prelude.{IsTrue, IfSome}
use Rattle.std.specs.List.Sorted.{IsStrictlyIncreasing}
use Rattle.std.proofs.lemmas.List.{get_or_default, length-map}
use Rattle.std.proofs.lemmas.List.Elements.{All-take}
use Rattle.f2_bytes.specs.Summary.{Summary}
use Rattle.f2_bytes.specs.Bytes.{Block, Image, IsBlock, block_at, quotient_up}
use Rattle.f2_bytes.specs.Check.{is_checked}
use Rattle.f2_bytes.specs.Checkpoint.{head, log, is_log_segment, free_segment_count}
use Rattle.f2_bytes.specs.SegmentTable.{has_valid_block}
use Rattle.f2_bytes.specs.Laws.{AgreesOnSupport}
use Rattle.f2_bytes.specs.NodeAddressTable.{image_nat_entry}
use Rattle.f2_bytes.specs.Superblock.{layout, is_main, segment_of}
use Rattle.f2_bytes.specs.Support.{is_free, is_support}
use Rattle.f2_bytes.specs.Tree.{tree}
use Rattle.f2_bytes.proofs.FrameLaw.{support_keeps_tree}
use Rattle.f2_bytes.proofs.SetBits.{count_below-le}
use Rattle.f2_disk.specs.Disk.{State, Reads, LeavesOnly, IsImage}
use Rattle.f2_disk.proofs.Runs.{quiet_on, started, at_rest, reads_first, weaker}
use Rattle.f2_pack.specs.declared.checkpoint.Log.{Log}
use Rattle.f2_pack.specs.declared.writing.NewPack.{NewPack}
use Rattle.f2_pack.specs.Logs.{log_of}
use Rattle.f2_sum.specs.declared.records.NatEntry.{NatEntry as HeldNatEntry}
use Rattle.f2_view.specs.Mounted.{Mounted, IsKept, IsMountOf, layout_in}
use Rattle.f2_view.proofs.TableReadings.{own_layout, own_head}
use Rattle.f2_change.specs.declared.change.Change.{Change}
use Rattle.f2_gather.specs.declared.gathering.MovedBlock.{MovedBlock}
use Rattle.f2_change.specs.Carried.{Carries}
use Rattle.f2_change.specs.Change.{log_at}
use Rattle.f2_gather.specs.Gathering.{addresses_of}
use Rattle.f2_commit.specs.Moves.{AreTargets, HasMoved, HasSameFiles, moved_data, moved_nodes}
use Rattle.f2_commit.specs.Shifting.{IsBatch, HasParts, AreTaken, AreSums}
use Rattle.f2_change.specs.Writes.{Prepared, OldOrNew, committed}
use Rattle.f2_commit.proofs.SegmentsGiven.{gives_from, nodes_in_main}
use Rattle.f2_commit.proofs.ShiftBatch.{SegmentFields, nodes_long}
use Rattle.f2_commit.proofs.ShiftCounts.{checked_free, free_segments-shifted}
use Rattle.f2_commit.proofs.ShiftSafe.{all_keys, need_is, blocks_free, sums_spare, shifted}
use Rattle.f2_commit.proofs.ShiftSegments.{GivesSegments, marks-shifted, counts-shifted, data_kinds-shifted, node_kinds-shifted, old_kinds-shifted}

-- the six logs of a mount, in order
pub in_order_logs : (h : Block) (a b c d e f : Log) → log_of a ≡ log h 0 → log_of b ≡ log h 1 → log_of c ≡ log h 2 → log_of d ≡ log h 3 → log_of e ≡ log h 4 → log_of f ≡ log h 5
    → (t : ℕ) → t < 6 → log_of (log_at (a ∷ b ∷ c ∷ d ∷ e ∷ f ∷ []) t) ≡ log h t
in_order_logs h a b c d e f p0 p1 p2 p3 p4 p5 zero low = p0
in_order_logs h a b c d e f p0 p1 p2 p3 p4 p5 (suc zero) low = p1
in_order_logs h a b c d e f p0 p1 p2 p3 p4 p5 (suc (suc zero)) low = p2
in_order_logs h a b c d e f p0 p1 p2 p3 p4 p5 (suc (suc (suc zero))) low = p3
in_order_logs h a b c d e f p0 p1 p2 p3 p4 p5 (suc (suc (suc (suc zero)))) low = p4
in_order_logs h a b c d e f p0 p1 p2 p3 p4 p5 (suc (suc (suc (suc (suc zero))))) low = p5
in_order_logs h a b c d e f p0 p1 p2 p3 p4 p5 (suc (suc (suc (suc (suc (suc t)))))) low = absurd (omega (arith, low))

-- logs that are those of a mount lie in main
pub logs_inside : (m : Mounted) → IsKept m → (logs : List Log) → length logs ≡ 6 → ((t : ℕ) → t < 6 → log_of (log_at logs t) ≡ log m.chosen.head t)
    → All (λ (at : Log). (at.segno < (layout_in m).segments) × (at.offset < 512)) logs
logs_inside m kept logs six same t other low =
    let within : t < 6 = omega (arith, low, six) in
    let some : Log = record { segno = 0; offset = 0; reuse = false } in
    let is : get_or logs t other ≡ log_at logs t = get_or_default logs t other some low in
    let segment = ap (λ l. l.segment) (same t within) in
    let offset = ap (λ l. l.offset) (same t within) in
    let in_main = kept.chosen.segments t within in
    let in_segment = (kept.chosen.held.logs t within).offset in
    subst (λ (at : Log). (at.segno < (layout_in m).segments) × (at.offset < 512)) (sym is)
    (subst (λ n. n < (layout_in m).segments) (sym segment) in_main, subst (λ n. n < 512) (sym offset) in_segment)

-- no count of segments comes near the end of its type
pub few_free : (image : Image) (m : Mounted) (freed : ℕ) → IsMountOf image m → IsKept m → is_checked image ≡ true → freed ≤ (layout_in m).segments → free_segment_count m.chosen.head + freed < 2 ^ 32
few_free image m freed of kept h few =
    let own = ap (λ l. l.segments) (own_layout image m of) in
    let count = ap free_segment_count (own_head image m of) in
    let free = checked_free image h in
    let low = count_below-le (layout image).segments (λ segment. not (has_valid_block image segment) && not (is_log_segment (head image) segment)) in
    let inside = kept.in_order.inside in
    let limit = kept.in_order.few in
    omega (arith, own, count, free, low, inside, limit, few)

module _ (image : Image) (addresses targets given_targets : List ℕ) (moved : List MovedBlock) (nodes : List (ℕ × HeldNatEntry)) (c : Change) (h : is_checked image ≡ true)
    (bytes : (n : ℕ) → n < length image → IsBlock (block_at image n)) (mains : All (λ a. is_main (layout image) a ≡ true) addresses) (rises : IsStrictlyIncreasing addresses)
    (free : AreTargets image addresses targets) (batch : IsBatch image addresses moved nodes) (parts : HasParts image targets given_targets moved nodes c) where
  many_nodes : length nodes ≡ length (moved_nodes image addresses)
  many_nodes = nodes_long image addresses targets given_targets moved nodes c h bytes mains free batch parts

  abbrev gives : GivesSegments image addresses targets c.sit.items
  gives =
      let s = parts.segments in
      gives_from image addresses targets c.sit.items s.left s.data_entries s.node_entries s.addresses (moved_nodes image addresses) given_targets moved nodes
      batch.data_addresses refl batch.entries parts.behind s.same_addresses s.emptied s.data_taken
      (subst (λ n. AreTaken given_targets 4 n s.node_entries) many_nodes s.node_taken) s.all

  fields : SegmentFields image addresses targets c
  unfolding gives_from
  fields = record {
    marks = marks-shifted image h addresses mains rises targets free c gives;
    counts_marks = counts-shifted image h addresses mains rises targets free c gives;
    data_kinds = data_kinds-shifted image h addresses mains rises targets free c gives;
    node_kinds = node_kinds-shifted image h addresses mains rises targets free c gives;
    old_kinds = old_kinds-shifted image h addresses mains rises targets free c gives;
    free_segments = free_segments-shifted image h addresses mains rises targets free c gives c.counts.free parts.freed (quotient_up (length moved) 512 + quotient_up (length nodes) 512)
        parts.free parts.segments.freed_count (sym (need_is image addresses moved nodes batch));
  }

  pub batch_moved : (new : Image) (p : NewPack) → Carries image c p new → HasMoved image new addresses targets
  batch_moved new p = shifted image addresses targets given_targets moved nodes c h bytes mains free batch parts new p rises fields

-- The same, where the image has a mount, and the change is what was found for it.
module _ (image : Image) (m : Mounted) (of : IsMountOf image m) (h : is_checked image ≡ true) (blocks : ℕ) (whole : IsImage blocks image) (addresses targets given_targets : List ℕ) (mains : All (λ a. is_main (layout_in m) a ≡ true) addresses)
    (free : AreTargets image addresses targets) (moved : List MovedBlock) (c : Change) (found : (nodes : List (ℕ × HeldNatEntry)) × IsBatch image addresses moved nodes × HasParts image targets given_targets moved nodes c) where
  bytes_in : (n : ℕ) → n < length image → IsBlock (block_at image n)
  bytes_in n low = let size = whole.size in whole.each n (omega (arith, low, size))

  mains_in : All (λ a. is_main (layout image) a ≡ true) addresses
  mains_in = subst (λ l. All (λ a. is_main l a ≡ true) addresses) (own_layout image m of) mains

  pub found_free : All (λ (w : ℕ × Block). is_free image (segment_of (layout_in m) w.0) ≡ true) c.blocks.items
  found_free = subst (λ l. All (λ (w : ℕ × Block). is_free image (segment_of l w.0) ≡ true) c.blocks.items) (sym (own_layout image m of)) (blocks_free image addresses targets given_targets moved found.0 c h bytes_in mains_in free found.1 found.2)

  pub found_spare : All (λ (w : ℕ × Block). is_support image ((layout_in m).ssa + w.0) ≡ false) c.sums.items
  found_spare = subst (λ l. All (λ (w : ℕ × Block). is_support image (l.ssa + w.0) ≡ false) c.sums.items) (sym (own_layout image m of)) (sums_spare image addresses targets given_targets moved found.0 c h bytes_in mains_in free found.1 found.2)

  pub found_moves : (new : Image) (p : NewPack) → IsStrictlyIncreasing addresses → Carries image c p new → HasMoved image new addresses targets
  found_moves new p rises carried = batch_moved image addresses targets given_targets moved found.0 c h bytes_in mains_in rises free found.1 found.2 new p carried

-- the nodes that move stand in main
pub nodes_stand : (image : Image) (m : Mounted) → IsMountOf image m → is_checked image ≡ true → (addresses nids : List ℕ) → All (λ a. is_main (layout_in m) a ≡ true) addresses → nids ≡ moved_nodes image addresses
    → All (λ n. is_main (layout image) (image_nat_entry image n).address ≡ true) nids
nodes_stand image m of h addresses nids mains same =
    subst (λ ns. All (λ n. is_main (layout image) (image_nat_entry image n).address ≡ true) ns) (sym same)
    (nodes_in_main image h addresses (subst (λ l. All (λ a. is_main l a ≡ true) addresses) (own_layout image m of) mains))

-- the targets are as many as what is gathered needs
pub need_met : (image : Image) (addresses targets : List ℕ) (moved : List MovedBlock) (nids : List ℕ) → AreTargets image addresses targets → addresses_of moved ≡ moved_data image addresses → nids ≡ moved_nodes image addresses
    → quotient_up (length moved) 512 + quotient_up (length nids) 512 ≤ length targets
need_met image addresses targets moved nids free of_data of_nodes =
    let first : length (moved_data image addresses) ≡ length moved = sym (ap length of_data) ∙ length-map moved (λ (b : MovedBlock). b.address) in
    let second : length (moved_nodes image addresses) ≡ length nids = sym (ap length of_nodes) in
    subst (λ n. n ≤ length targets) (λ i. quotient_up (first i) 512 + quotient_up (second i) 512) free.enough

-- an image has its own files
pub own_files : (image : Image) → is_checked image ≡ true → HasSameFiles image image
own_files image h = (h, refl, λ n low. refl)

-- what a crash leaves of the commit, or a fault, is checked, with the same tree and superblock copies
pub still_checked : (image : Image) (addresses targets : List ℕ) (r : Prepared) (left : Image) → is_checked image ≡ true → HasMoved image (committed r image) addresses targets → OldOrNew image r left
    → HasSameFiles image left
still_checked image addresses targets r left h moved outcome = let kept = by outcome.either in (kept.0, kept.1, outcome.copies)
  where
    by : AgreesOnSupport image left ⊎ (left ≡ committed r image) → IsTrue (is_checked left) × (tree left ≡ tree image)
    by (inl agrees) = support_keeps_tree image left agrees h
    by (inr is) = subst (λ x. IsTrue (is_checked x) × (tree x ≡ tree image)) (sym is) (moved.checked, moved.same_tree)

-- what holds of what is there
pub some_has : {T : Type 0} (P : T → Type 0) (o : Option T) (x : T) → o ≡ Some x → IfSome o P → P x
some_has P o x is h = subst (λ p. IfSome p P) is h

-- summary blocks go to segments of the targets
pub sums_below : (targets : List ℕ) (kind : ℕ) (sums : List Summary) (new : List (ℕ × Block)) (limit : ℕ) → AreSums targets kind sums new → All (λ s. s < limit) targets → All (λ (w : ℕ × Block). w.0 < limit) new
sums_below targets kind sums new limit are low =
    all_keys (λ s. s < limit) new (subst (All (λ s. s < limit)) (sym are.segments) (All-take (λ s. s < limit) (quotient_up (length sums) 512) targets low))

-- ---- runs

-- calls that write nothing, from a moment at which nothing is pending
pub read_alone : {old new : State} (image : Image) (P : Image → Type 0) → ((c : Image) → old.left_since old.moment c → old.may_leave c) → ((c : Image) → old.may_leave c → old.told ≡ Some c) → old.told ≡ Some image → P image
    → Reads old new → LeavesOnly old new P
read_alone {old = old} {new = new} image P only_now settled told here reads = quiet_on {new = new} (started old P (at_rest old image P only_now settled told here)) (omega arith) reads.since

-- and before a run
pub read_before : {old mid new : State} (image : Image) (P Q : Image → Type 0) → ((c : Image) → old.left_since old.moment c → old.may_leave c) → ((c : Image) → old.may_leave c → old.told ≡ Some c) → old.told ≡ Some image → P image
    → Reads old mid → old.moment ≤ mid.moment → ((c : Image) → Q c → P c) → LeavesOnly mid new Q → LeavesOnly old new P
read_before {old = old} {mid = mid} {new = new} image P Q only_now settled told here reads later from run =
    reads_first {old = old} {mid = mid} {new = new} {P = P} reads later (at_rest old image P only_now settled told here) (weaker Q P from run)
