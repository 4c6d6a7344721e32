-- The number of free segments after a batch: as before, with those that the batch frees and without those that it takes.
use Rattle.std.proofs.Common.{◌≡◌, ℕ, ◌+◌, ◌-◌, ◌*◌, ◌<◌, ◌⊎◌, inl, inr, List, map, filter, Bool, true, false, not, ◌==◌, ◌&&◌, nat_lt, length, get_or, take, All, refl, sym, ap, ◌∙◌, subst, ⊎_elim, arith}
use Rattle.std.specs.List.{list_any}
use Rattle.std.specs.List.Sorted.{IsStrictlyIncreasing}
use Rattle.std.proofs.lemmas.Bool.{and_parts, cases_lt, eq-eqb, eqb-true, not-false, lt-ltb, false_from_ne_true, false≢true}
use Rattle.std.proofs.lemmas.List.{get_or-drop, get_or-map, get_or-take, length-take, length-drop, length-map}
use Rattle.std.proofs.lemmas.List.Folds.{Any-from_list_any, list_any_at}
use Rattle.std.proofs.lemmas.List.Kept.{AllPairs-from_increasing}
use Rattle.f2_bytes.specs.Bits.{bit_msb}
use Rattle.f2_bytes.specs.Bytes.{Image, count_below, numbers_below}
use Rattle.f2_bytes.specs.Check.{same, single, digit, defects, count_parts, is_checked}
use Rattle.f2_bytes.specs.Checkpoint.{head, is_log_segment, free_segment_count}
use Rattle.f2_bytes.specs.Defragment.{is_among}
use Rattle.f2_bytes.specs.Journal.{SitEntry}
use Rattle.f2_bytes.specs.SegmentTable.{has_valid_block}
use Rattle.f2_bytes.specs.Superblock.{layout, is_main, segment_of}
use Rattle.f2_bytes.specs.Support.{is_free}
use Rattle.f2_bytes.proofs.Below.{some_below}
use Rattle.f2_bytes.proofs.CheckLaws.{none_fails}
use Rattle.f2_bytes.proofs.CheckedBlocks.{segment_below}
use Rattle.f2_bytes.proofs.CheckedChain.{rule_met, part_clear}
use Rattle.f2_bytes.proofs.CheckedNodes.{no_part}
use Rattle.f2_bytes.proofs.SlotSupport.{body_checked}
use Rattle.f2_sum.specs.Records.{sit_entry}
use Rattle.f2_sum.specs.declared.records.SitEntry.{SitEntry as HeldSitEntry}
use Rattle.f2_change.specs.declared.change.Change.{Change}
use Rattle.f2_commit.specs.Moves.{AreTargets, moved_data, moved_nodes, data_target_count, node_target_count, node_targets, sit_after}
use Rattle.f2_commit.specs.Shifting.{IsEmptied, is_freed}
use Rattle.f2_commit.proofs.FreeCounts.{AreDifferent, counts_balance, zero_count, members_counted, count_all, count_firsts}
use Rattle.f2_commit.proofs.LeftPlaces.{left_used, used_valid, free_no_valid}
use Rattle.f2_commit.proofs.MoveSums.{free_inside, free_no_log}
use Rattle.f2_free.proofs.NumbersBelow.{any-same}
use Rattle.f2_commit.proofs.SegmentCases.{among_there, first_at, first_there, different-take}
use Rattle.f2_commit.proofs.ShiftSegments.{GivesSegments, DataSegment, NodeSegment, OldSegment, LeftSegment, KeptSegment, segment_is, data_free, node_free, old_entry}

-- the count in the checkpoint is that of the free segments
pub checked_free : (image : Image) → is_checked image ≡ true → free_segment_count (head image) ≡ count_below (layout image).segments (λ segment. not (has_valid_block image segment) && not (is_log_segment (head image) segment))
unfolding count_parts defects
checked_free image h =
    let clear = part_clear (count_parts image) (rule_met image (body_checked image h) 7 (omega arith) (omega arith)) 3 no_part (omega arith) in
    let found = free_segment_count (head image) in
    let wanted = count_below (layout image).segments (λ segment. not (has_valid_block image segment) && not (is_log_segment (head image) segment)) in
    let agree : not (found == wanted) ≡ false = none_fails (single 4 (same found wanted)) clear 0 0 (omega arith) (omega arith) (record { found = found; wanted = wanted; fails = not (found == wanted) }) refl in
    eqb-true found wanted (not-false _ agree)

module _ (image : Image) (h : is_checked image ≡ true) (addrs : List ℕ) (mains : All (λ a. is_main (layout image) a ≡ true) addrs) (rises : IsStrictlyIncreasing addrs) (targets : List ℕ) (free : AreTargets image addrs targets)
    (c : Change) (g : GivesSegments image addrs targets c.sit.items) where
  abbrev need : ℕ
  need = data_target_count image addrs + node_target_count image addrs

  abbrev numbers : List ℕ
  numbers = map (λ (w : ℕ × HeldSitEntry). w.0) g.left

  -- a segment is free before, and after; it is a target that is taken; it is left, and free after
  abbrev before : ℕ → Bool
  before segment = not (has_valid_block image segment) && not (is_log_segment (head image) segment)

  abbrev pub after : ℕ → Bool
  after segment = not (list_any (bit_msb (sit_after image c segment).map) (numbers_below 512)) && not (is_log_segment (head image) segment)

  abbrev is_target : ℕ → Bool
  is_target segment = is_among (take need targets) segment && true

  abbrev is_left : ℕ → Bool
  is_left segment = is_among numbers segment && after segment

  -- a segment that is left has a valid block
  left_valid : (segment : ℕ) → is_among numbers segment ≡ true → (has_valid_block image segment ≡ true) × (segment < (layout image).segments)
  left_valid segment among =
      let some : list_any (λ a. segment_of (layout image) a == segment) g.addresses ≡ true = sym (g.emptied.segments segment) ∙ among in
      let t = Any-from_list_any (λ a. segment_of (layout image) a == segment) g.addresses some in
      let used = left_used image h addrs mains rises targets free t.1 (sym (g.same t.1) ∙ list_any_at (λ y. y == t.1) g.addresses t.0 t.1 t.2 (eq-eqb (get_or g.addresses t.0 t.1) t.1 t.3)) in
      let own = eqb-true (segment_of (layout image) t.1) segment t.4 in
      let low = segment_below (layout image) t.1 (and_parts (is_main (layout image) t.1) _ used).0 in
      (ap (has_valid_block image) (sym own) ∙ used_valid image h t.1 used, subst (λ s. s < (layout image).segments) own low)

  free_not_left : (segment : ℕ) → is_free image segment ≡ true → is_among numbers segment ≡ false
  free_not_left segment is = false_from_ne_true (is_among numbers segment) (λ among. false≢true (sym (free_no_valid image h segment is) ∙ (left_valid segment among).0))

  free_before : (segment : ℕ) → is_free image segment ≡ true → before segment ≡ true
  free_before segment is = λ i. not (free_no_valid image h segment is i) && not (free_no_log image segment is i)

  -- the first block of a segment that takes some is marked
  taken_after : (segment wanted blocks : ℕ) → nat_lt (512 * wanted + 0) blocks ≡ true → bit_msb (sit_after image c segment).map 0 ≡ nat_lt (512 * wanted + 0) blocks → after segment ≡ false
  taken_after segment wanted blocks some is =
      ap (λ b. not b && not (is_log_segment (head image) segment)) (some_below (bit_msb (sit_after image c segment).map) 512 0 (omega arith) (is ∙ some))

  balance : (segment : ℕ) → segment < (layout image).segments → digit (after segment) + digit (is_target segment) ≡ digit (before segment) + digit (is_left segment)
  balance segment low = by (segment_is image h addrs mains rises targets free c g segment)
    where
      fresh : is_free image segment ≡ true → after segment ≡ false → is_among (take need targets) segment ≡ true → digit (after segment) + digit (is_target segment) ≡ digit (before segment) + digit (is_left segment)
      fresh is used target =
          let a : digit (after segment) ≡ 0 = ap digit used in
          let b : digit (is_target segment) ≡ 1 = ap (λ b. digit (b && true)) target in
          let d : digit (before segment) ≡ 1 = ap digit (free_before segment is) in
          let e : digit (is_left segment) ≡ 0 = ap (λ b. digit (b && after segment)) (free_not_left segment is) in
          omega (arith, a, b, d, e)

      no_target : OldSegment image h addrs mains rises targets free c g segment → is_among (take need targets) segment ≡ false
      no_target s = false_from_ne_true (is_among (take need targets) segment) (λ among.
          let t = first_at need targets segment among in
          ⊎_elim
          (λ less. false≢true (sym s.no_data ∙ first_there (data_target_count image addrs) targets segment t.0 less t.2 t.3))
          (λ past.
          let few = t.1 in
          let inside = t.2 in
          let j = t.0 - data_target_count image addrs in
          let number : data_target_count image addrs + j ≡ t.0 = omega (arith, past) in
          let at : get_or (node_targets image addrs targets) j 0 ≡ segment = get_or-drop (data_target_count image addrs) targets j 0 ∙ ap (λ n. get_or targets n 0) number ∙ t.3 in
          let long = length-drop (data_target_count image addrs) targets in
          false≢true (sym s.no_node ∙ first_there (node_target_count image addrs) (node_targets image addrs targets) segment j (omega (arith, few, number)) (omega (arith, inside, number, long)) at))
          (cases_lt t.0 (data_target_count image addrs)))

      by_old : OldSegment image h addrs mains rises targets free c g segment → LeftSegment image h addrs mains rises targets free c g segment ⊎ KeptSegment image h addrs mains rises targets free c g segment
          → digit (after segment) + digit (is_target segment) ≡ digit (before segment) + digit (is_left segment)
      by_old old (inl s) =
          let w = s.last in
          let among : is_among numbers segment ≡ true = among_there numbers segment w.index (let low = w.low in let size = length-map g.left (λ (v : ℕ × HeldSitEntry). v.0) in omega (arith, low, size))
          (get_or-map (λ (v : ℕ × HeldSitEntry). v.0) g.left w.index w.entry 0 w.low ∙ ap (λ (v : ℕ × HeldSitEntry). v.0) w.stands ∙ w.number) in
          let b : digit (is_target segment) ≡ 0 = ap (λ b. digit (b && true)) (no_target old) in
          let d : digit (before segment) ≡ 0 = ap (λ b. digit (not b && not (is_log_segment (head image) segment))) (left_valid segment among).0 in
          let e : digit (is_left segment) ≡ digit (after segment) = ap (λ b. digit (b && after segment)) among in
          omega (arith, b, d, e)
      by_old old (inr s) =
          let b : digit (is_target segment) ≡ 0 = ap (λ b. digit (b && true)) (no_target old) in
          let e : digit (is_left segment) ≡ 0 = ap (λ b. digit (b && after segment)) s.none.absent in
          let d : digit (after segment) ≡ digit (before segment) = ap (λ (e : SitEntry). digit (not (list_any (bit_msb e.map) (numbers_below 512)) && not (is_log_segment (head image) segment))) s.is in
          omega (arith, b, d, e)

      by : DataSegment image h addrs mains rises targets free c g segment ⊎ (NodeSegment image h addrs mains rises targets free c g segment ⊎ OldSegment image h addrs mains rises targets free c g segment)
          → digit (after segment) + digit (is_target segment) ≡ digit (before segment) + digit (is_left segment)
      by (inl s) =
          let t = s.taken in
          let few = t.few in
          let enough = free.enough in
          fresh (data_free image h addrs mains rises targets free c g segment t.index t.few t.at)
          (taken_after segment t.index (length (moved_data image addrs)) (lt-ltb (512 * t.index + 0) (length (moved_data image addrs)) (omega (arith, few))) (t.is.bits 0 (omega arith)))
          (first_there need targets segment t.index (omega (arith, few)) (omega (arith, few, enough)) t.at)
      by (inr (inl s)) =
          let t = s.taken in
          let few = t.few in
          let enough = free.enough in
          fresh (node_free image h addrs mains rises targets free c g segment t.index t.few t.at)
          (taken_after segment t.index (length (moved_nodes image addrs)) (lt-ltb (512 * t.index + 0) (length (moved_nodes image addrs)) (omega (arith, few))) (t.is.bits 0 (omega arith)))
          (first_there need targets segment (data_target_count image addrs + t.index) (omega (arith, few)) (omega (arith, few, enough)) (sym (get_or-drop (data_target_count image addrs) targets t.index 0) ∙ t.at))
      by (inr (inr s)) = by_old s s.is

  -- an entry of a segment that is left is empty where the segment is free after
  freed_after : All (λ (w : ℕ × HeldSitEntry). is_freed (head image) w ≡ after w.0) g.left
  freed_after i d low = go (get_or g.left i d) (g.emptied.entries i d low) (among_there numbers (get_or g.left i d).0 i (let size = length-map g.left (λ (v : ℕ × HeldSitEntry). v.0) in omega (arith, low, size)) (get_or-map (λ (v : ℕ × HeldSitEntry). v.0) g.left i d 0 low))
    where
      go : (w : ℕ × HeldSitEntry) → IsEmptied image g.addresses w.0 (sit_entry w.1) → is_among numbers w.0 ≡ true → is_freed (head image) w ≡ after w.0
      go w e among =
          by (segment_is image h addrs mains rises targets free c g w.0)
        where
          by : DataSegment image h addrs mains rises targets free c g w.0 ⊎ (NodeSegment image h addrs mains rises targets free c g w.0 ⊎ OldSegment image h addrs mains rises targets free c g w.0) → is_freed (head image) w ≡ after w.0
          by (inl s) = absurd (false≢true (sym (free_not_left w.0 (data_free image h addrs mains rises targets free c g w.0 s.taken.index s.taken.few s.taken.at)) ∙ among))
          by (inr (inl s)) = absurd (false≢true (sym (free_not_left w.0 (node_free image h addrs mains rises targets free c g w.0 s.taken.index s.taken.few s.taken.at)) ∙ among))
          by (inr (inr s)) =
              let whole = old_entry image h addrs mains rises targets free c g w.0 (left_valid w.0 among).1 s in
              let marks = any-same (bit_msb w.1.map) (bit_msb (sit_after image c w.0).map) 512 (λ k within. e.bits k within ∙ sym (whole.bits k within)) in
              ap (λ b. b && not (is_log_segment (head image) w.0))
              (ap (λ n. n == 0) e.count ∙ zero_count (bit_msb w.1.map) 512 ∙ ap not marks)

  numbers_differ : AreDifferent (map (λ (w : ℕ × HeldSitEntry). w.0) g.left)
  numbers_differ i j low_i low_j equal =
      ⊎_elim
      (λ less. let rise = AllPairs-from_increasing numbers g.emptied.rises i j 0 less low_j in absurd (omega (arith, rise, equal)))
      (λ past. ⊎_elim (λ less. let rise = AllPairs-from_increasing numbers g.emptied.rises j i 0 less low_i in absurd (omega (arith, rise, equal))) (λ back. omega (arith, past, back)) (cases_lt j i))
      (cases_lt i j)

  -- the checkpoint's count, where it is set so
  pub free_segments-shifted : (count freed taken : ℕ) → count ≡ free_segment_count (head image) + freed - taken → freed ≡ length (filter (is_freed (head image)) g.left)
      → taken ≡ data_target_count image addrs + node_target_count image addrs
      → count ≡ count_below (layout image).segments (λ segment. not (list_any (bit_msb (sit_after image c segment).map) (numbers_below 512)) && not (is_log_segment (head image) segment))
  free_segments-shifted count freed taken set freed_is taken_is =
      let n = (layout image).segments in
      let sums = counts_balance after is_target before is_left n balance in
      let enough = free.enough in
      let size = length-take need targets in
      let targets_low : All (λ x. x < n) (take need targets) = λ i d low.
      let there : i < length targets = omega (arith, low, size) in
      let is = free.free i d there in
      subst (λ x. x < n) (sym (get_or-take need targets i d (omega (arith, low, size)))) (free_inside image (get_or targets i d) is) in
      let of_targets = members_counted (λ k. true) n (take need targets) targets_low (different-take need targets free.different) in
      let all_targets = count_all (take need targets) in
      let numbers_low : All (λ x. x < n) numbers = λ i d low. (left_valid (get_or numbers i d) (list_any_at (λ y. y == get_or numbers i d) numbers i d low (eq-eqb (get_or numbers i d) (get_or numbers i d) refl))).1 in
      let of_left = members_counted after n numbers numbers_low numbers_differ in
      let all_freed = count_firsts (is_freed (head image)) after g.left freed_after in
      let old = checked_free image h in
      omega (arith, set, freed_is, taken_is, sums, enough, size, of_targets, all_targets, of_left, all_freed, old)
