-- The marks on all segments that an image uses, and the segments without one.
use Rattle.std.proofs.Common.{◌≡◌, ℕ, ◌+◌, ◌*◌, ◌<◌, ◌≤◌, Bool, true, false, ◌||◌, not, List, length, get_or, refl, sym, ap, subst, ◌∙◌, arith}
use Rattle.std.specs.Prelude.{IsFalse}
use Rattle.std.specs.List.{All}
use Rattle.std.specs.List.Sorted.{IsStrictlyIncreasing}
use Rattle.std.proofs.lemmas.Bool.{and_parts, or_right, not-true, false_from_ne_true, both_ways, leb-true}
use Rattle.std.proofs.lemmas.List.Elements.{All-from_get_or, All-filter, filter_passes}
use Rattle.std.proofs.lemmas.List.Kept.{IsStrictlyIncreasing-filter}
use Rattle.f2_bytes.specs.declared.layout.Layout.{Layout}
use Rattle.f2_bytes.specs.Bytes.{Block, Image, numbers_below}
use Rattle.f2_bytes.specs.Checkpoint.{head, is_log_segment, pack_number, pack_total_block_count}
use Rattle.f2_bytes.specs.Superblock.{layout, IsInOrder}
use Rattle.f2_bytes.specs.Support.{free_segments}
use Rattle.f2_bytes.proofs.Below.{length-numbers_below, get_or-numbers_below}
use Rattle.f2_pack.specs.Held.{Held}
use Rattle.f2_pack.specs.Valid.{is_head_valid}
use Rattle.f2_view.specs.Mounted.{Mounted, layout_in, IsKept, IsMountOf}
use Rattle.f2_view.proofs.TableReadings.{own_layout, own_head}
use Rattle.f2_free.specs.NodePlaces.{is_used}
use Rattle.f2_free.specs.SegmentMarks.{MarkTable, is_marked, unmarked, has_block_with, MarksMore, MarksBlocks, KeepsMarks, HasLogs, HasMarks}
use Rattle.f2_free.proofs.MarkSteps.{blocks-or}
use Rattle.f2_free.proofs.SupportInMain.{unmarked-free}

module _ (l : Layout) (hd : Block) where
  -- the logs, and then more
  pub logs-first : {m n o : MarkTable} → m.main ≡ l.main → length m.segments ≡ l.segments → MarksMore m n (is_log_segment hd) → KeepsMarks n o → HasLogs l hd o
  logs-first {m = m} main count logs keeps = record {
    main = keeps.main ∙ logs.main ∙ main;
    count = keeps.count ∙ logs.count ∙ count;
    logs = λ segment low is. keeps.marked segment (logs.marked segment (omega (arith, low, count)) ∙ or_right (is_marked m segment) (is_log_segment hd segment) is);
  }

  pub logs-kept : {m n : MarkTable} → HasLogs l hd m → KeepsMarks m n → HasLogs l hd n
  logs-kept has keeps = record {
    main = keeps.main ∙ has.main;
    count = keeps.count ∙ has.count;
    logs = λ segment low is. keeps.marked segment (has.logs segment low is);
  }

  pub marks-first : {m n o : MarkTable} (p : ℕ → Bool) → m.main ≡ l.main → length m.segments ≡ l.segments → ((segment : ℕ) → is_marked m segment ≡ false)
      → MarksMore m n (is_log_segment hd) → MarksBlocks n o p → HasMarks l hd p o
  marks-first {m = m} {n = n} p main count none logs blocks =
      let long : length n.segments ≡ l.segments = logs.count ∙ count in
      let at : n.main ≡ l.main = logs.main ∙ main in
      record {
        main = blocks.main ∙ at;
        count = blocks.count ∙ long;
        marked = λ segment low.
            blocks.marked segment (omega (arith, low, long))
            ∙ (λ i. (logs.marked segment (omega (arith, low, count)) ∙ ap (λ b. b || is_log_segment hd segment) (none segment)) i || has_block_with (at i + 512 * segment) p);
      }

  pub marks-more : {m n : MarkTable} (p q : ℕ → Bool) → HasMarks l hd p m → MarksBlocks m n q → HasMarks l hd (λ a. p a || q a) n
  marks-more {m = m} p q has blocks = record {
    main = blocks.main ∙ has.main;
    count = blocks.count ∙ has.count;
    marked = λ segment low.
        blocks.marked segment (let long = has.count in omega (arith, low, long))
        ∙ (λ i. has.marked segment low i || has_block_with (has.main i + 512 * segment) q)
        ∙ assoc (is_log_segment hd segment) (has_block_with (l.main + 512 * segment) p) (has_block_with (l.main + 512 * segment) q)
        ∙ ap (λ b. is_log_segment hd segment || b) (sym (blocks-or (l.main + 512 * segment) p q));
  }
    where
      assoc : (x y z : Bool) → (x || y || z) ≡ (x || (y || z))
      assoc true y z = refl
      assoc false y z = refl

  -- ---- the segments without a mark, on every disk

  pub unmarked-below : (m : MarkTable) (items : List ℕ) → HasLogs l hd m → items ≡ unmarked m → All (λ segment. segment < l.segments) items
  unmarked-below m items has are =
      subst (λ xs. All (λ segment. segment < l.segments) xs) (sym are)
      (All-filter (λ segment. not (is_marked m segment)) (λ segment. segment < l.segments) (numbers_below (length m.segments))
      (All-from_get_or (λ segment. segment < l.segments) (numbers_below (length m.segments)) 0 (λ k low.
      let within : k < length m.segments = let all = length-numbers_below (length m.segments) in omega (arith, all, low) in
      let here = get_or-numbers_below (length m.segments) k 0 within in
      let long = has.count in
      omega (arith, within, here, long))))

  pub unmarked-no_log : (m : MarkTable) (items : List ℕ) → HasLogs l hd m → items ≡ unmarked m → All (λ segment. IsFalse (is_log_segment hd segment)) items
  unmarked-no_log m items has are = λ k d low.
      let below = unmarked-below m items has are k d low in
      let passes = subst (λ xs. All (λ segment. not (is_marked m segment) ≡ true) xs) (sym are) (filter_passes (λ segment. not (is_marked m segment)) (numbers_below (length m.segments))) k d low in
      false_from_ne_true (is_log_segment hd (get_or items k d)) (λ is. both_ways (is_marked m (get_or items k d)) (not-true (is_marked m (get_or items k d)) passes) (has.logs (get_or items k d) below is))

pub unmarked-ascends : (m : MarkTable) (items : List ℕ) → items ≡ unmarked m → IsStrictlyIncreasing items
unmarked-ascends m items are =
    subst IsStrictlyIncreasing (sym are)
    (IsStrictlyIncreasing-filter (λ segment. not (is_marked m segment)) (numbers_below (length m.segments)) (λ k low.
    let all = length-numbers_below (length m.segments) in
    let here = get_or-numbers_below (length m.segments) k 0 (omega (arith, all, low)) in
    let next = get_or-numbers_below (length m.segments) (k + 1) 0 (omega (arith, all, low)) in
    omega (arith, here, next)))

-- ---- of a mounted image

module _ (image : Image) (m : Mounted) (of : IsMountOf image m) where
  pub own-marks : (test : ℕ → Bool) (marks : MarkTable) → HasMarks (layout_in m) m.chosen.head test marks → HasMarks (layout image) (head image) test marks
  own-marks test marks has =
      subst (λ (l : Layout). HasMarks l (head image) test marks) (own_layout image m of)
      (subst (λ (hd : Block). HasMarks (layout_in m) hd test marks) (own_head image m of) has)

  few : (l : Layout) (hd : Block) → is_head_valid l hd ≡ true → pack_total_block_count hd ≤ 512
  unfolding is_head_valid
  few l hd valid = leb-true (pack_total_block_count hd) 512 (and_parts _ _ (and_parts _ _ (and_parts _ _ valid).0).0).1

  pub free-of : IsKept m → (marks : MarkTable) → HasMarks (layout image) (head image) (is_used image) marks → unmarked marks ≡ free_segments image
  free-of kept marks has =
      let number : m.chosen.number ≡ pack_number image = ap (λ (h : Held). h.number) of.chosen in
      let low = kept.chosen.held.number in
      let total = few (layout_in m) m.chosen.head kept.chosen.valid in
      unmarked-free image (subst IsInOrder (own_layout image m of) kept.in_order) (omega (arith, number, low))
      (subst (λ (hd : Block). pack_total_block_count hd ≤ 512) (own_head image m of) total) marks has
