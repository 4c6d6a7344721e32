-- Walking an extent by its slots, in the order of blocks, compares all its blocks.
use Rattle.std.proofs.Common.{◌≡◌, ◌⊎◌, inl, inr, ℕ, zero, suc, ◌+◌, ◌-◌, ◌<◌, ◌≤◌, min, max, List, [], ◌∷◌, ◌++◌, false, ◌&&◌, nat_le, nat_lt, Option, Some, None, refl, sym, ap, subst, ◌∙◌, ⊎_elim, arith, append_assoc}
use Rattle.std.specs.Prelude.{filter_map}
use Rattle.std.specs.List.{cons_option, range_with_len}
use Rattle.std.proofs.lemmas.Bool.{cases_lt, and_from, and_left, and_right, le-leb, lt-leb, lt-ltb, le-ltb, cond-true, cond-false}
use Rattle.std.proofs.lemmas.List.{append-nil}
use Rattle.std.proofs.lemmas.List.Sums.{fold_push}
use Rattle.std.proofs.lemmas.List.Elements.{filter_map-append}
use Rattle.f2_bytes.specs.Bytes.{numbers_below}
use Rattle.f2_bytes.specs.Check.{Defect, defect_of, same, none_value}
use Rattle.f2_defects.specs.Collected.{defects_of, run_defects, run_comparison}
use Rattle.f2_files.specs.Extents.{Extent, Walk, wanted_at, hole_defects, slot_defects, walk_on, walked}
use Rattle.f2_survey.specs.Slots.{Slot}
use Rattle.f2_items.proofs.FilteredRanges.{filter_map-range}
use Rattle.f2_items.proofs.GrownLists.{optional, filter_map_push}
use Rattle.f2_survey.proofs.NumberLists.{numbers-none, numbers-suc, range-more}
use Rattle.f2_defects.proofs.Runs.{range-append}

-- ---- ranges

-- one number more, from a up to n
pub range-up : {A : Type 0} (f : ℕ → Option A) (a n : ℕ) → a ≤ n → filter_map f (range_with_len a (n + 1 - a)) ≡ filter_map f (range_with_len a (n - a)) ++ optional (f n)
range-up f a n low =
    ap (λ m. filter_map f (range_with_len a m)) (let e : n + 1 - a ≡ suc (n - a) = omega (arith, low) in e)
    ∙ ap (filter_map f) (range-more a (n - a))
    ∙ filter_map_push f (range_with_len a (n - a)) (a + (n - a))
    ∙ ap (λ k. filter_map f (range_with_len a (n - a)) ++ optional (f k)) (let e : a + (n - a) ≡ n = omega (arith, low) in e)

range-empty : {A : Type 0} (f : ℕ → Option A) (a n : ℕ) → n ≡ 0 → filter_map f (range_with_len a n) ≡ []
range-empty f a n none = ap (λ m. filter_map f (range_with_len a m)) none

-- ---- steps

-- what block k of a file has: no slot and address 0, or a slot with its number and its address
pub record Holds (k : ℕ) (address : ℕ) (slot : Option Slot) : Type 0 where
  pub holds : ((slot ≡ None) × (address ≡ 0)) ⊎ ((s : Slot) × (slot ≡ Some s) × (s.k ≡ k) × (s.address ≡ address))

module _ (ino : ℕ) (x : Extent) where
  pub walked-none : walked ino x [] ≡ record { next = x.first; defects = [] }
  unfolding walked
  walked-none = refl

  pub walked-push : (slots : List Slot) (s : Slot) → walked ino x (slots ++ s ∷ []) ≡ walk_on ino x (walked ino x slots) s
  unfolding walked
  walked-push slots s = fold_push (walk_on ino x) (record { next = x.first; defects = [] }) slots s

  -- a slot before the next block, or past the extent
  pub walk-skips : (w : Walk) (s : Slot) → (s.k < w.next) ⊎ (x.end ≤ s.k) → walk_on ino x w s ≡ w
  walk-skips w s away = cond-false (nat_le w.next s.k && nat_lt s.k x.end) _ w (outside away)
    where
      outside : (s.k < w.next) ⊎ (x.end ≤ s.k) → (nat_le w.next s.k && nat_lt s.k x.end) ≡ false
      outside (inl low) = and_left (nat_le w.next s.k) (nat_lt s.k x.end) (lt-leb w.next s.k low)
      outside (inr past) = and_right (nat_le w.next s.k) (nat_lt s.k x.end) (le-ltb s.k x.end past)

  pub walk-steps : (w : Walk) (s : Slot) → w.next ≤ s.k → s.k < x.end
      → walk_on ino x w s ≡ record { next = s.k + 1; defects = w.defects ++ hole_defects ino x w.next s.k ++ slot_defects ino x s }
  walk-steps w s low high = cond-true (nat_le w.next s.k && nat_lt s.k x.end) _ w (and_from (nat_le w.next s.k) (nat_lt s.k x.end) (le-leb w.next s.k low) (lt-ltb s.k x.end high))

  -- one hole more
  pub hole-more : (from n : ℕ) → x.first ≤ from → from ≤ n → hole_defects ino x from (n + 1) ≡ hole_defects ino x from n ++ defects_of 3 ino n (same 0 (wanted_at x n))
  hole-more from n first low =
      range-up (λ b. defect_of 3 ino b (run_comparison from 0 (wanted_at x from) b)) from n low
      ∙ ap (λ w. hole_defects ino x from n ++ defects_of 3 ino n (same 0 w)) (let e : wanted_at x from + n - from ≡ wanted_at x n = omega (arith, first, low) in e)

  pub hole-none : (from to : ℕ) → to ≤ from → hole_defects ino x from to ≡ []
  hole-none from to low = range-empty (λ b. defect_of 3 ino b (run_comparison from 0 (wanted_at x from) b)) from (to - from) (omega (arith, low))

  -- ---- all blocks before a number

  module _ (order : x.first ≤ x.end) (address : ℕ → ℕ) (slot : ℕ → Option Slot) (holds : (k : ℕ) → Holds k (address k) (slot k)) where
    abbrev pub defect_at : ℕ → Option Defect
    defect_at k = defect_of 3 ino k (same (address k) (wanted_at x k))

    abbrev pub slots_to : ℕ → List Slot
    slots_to n = filter_map slot (numbers_below n)

    -- how far the walk has come before block n
    abbrev pub reached : ℕ → ℕ
    reached n = max x.first (min n x.end)

    -- the blocks before r were compared, but for holes at the end
    pub record Walked (r : ℕ) (w : Walk) : Type 0 where
      pub low : x.first ≤ w.next
      pub high : w.next ≤ r
      pub is : w.defects ++ hole_defects ino x w.next r ≡ filter_map defect_at (range_with_len x.first (r - x.first))

    slots-more : (n : ℕ) → slots_to (suc n) ≡ slots_to n ++ optional (slot n)
    slots-more n = ap (filter_map slot) (numbers-suc n) ∙ filter_map_push slot (numbers_below n) n

    -- the next block is a hole
    hole_next : (n : ℕ) (w : Walk) → x.first ≤ n → address n ≡ 0 → Walked n w → Walked (n + 1) w
    hole_next n w first none so_far = record {
      low = so_far.low;
      high = let h = so_far.high in omega (arith, h);
      is =
          ap (λ l. w.defects ++ l) (hole-more w.next n so_far.low so_far.high)
          ∙ sym (append_assoc w.defects (hole_defects ino x w.next n) (defects_of 3 ino n (same 0 (wanted_at x n))))
          ∙ (λ i. so_far.is i ++ defects_of 3 ino n (same (sym none i) (wanted_at x n)))
          ∙ sym (range-up defect_at x.first n first);
    }

    -- the next block has a slot
    slot_next : (n : ℕ) (w : Walk) (s : Slot) → x.first ≤ n → n < x.end → s.k ≡ n → s.address ≡ address n → Walked n w → Walked (n + 1) (walk_on ino x w s)
    slot_next n w s first inside number is so_far =
        subst (Walked (n + 1)) (sym (walk-steps w s (let h = so_far.high in omega (arith, h, number)) (omega (arith, inside, number)))) (record {
          low = omega (arith, first, number);
          high = omega (arith, number);
          is =
              ap (λ l. w.defects ++ hole_defects ino x w.next s.k ++ slot_defects ino x s ++ l) (hole-none (s.k + 1) (n + 1) (omega (arith, number)))
              ∙ append-nil (w.defects ++ hole_defects ino x w.next s.k ++ slot_defects ino x s)
              ∙ (λ i. w.defects ++ hole_defects ino x w.next (number i) ++ defects_of 3 ino (number i) (same (is i) (wanted_at x (number i))))
              ∙ ap (λ l. l ++ defects_of 3 ino n (same (address n) (wanted_at x n))) so_far.is
              ∙ sym (range-up defect_at x.first n first);
        })

    at-step : (n : ℕ) (o : Option Slot) → slot n ≡ o → Walked (reached n) (walked ino x (slots_to n)) → Walked (reached (suc n)) (walked ino x (slots_to n ++ optional o))
    at-step n None is so_far =
        subst (λ l. Walked (reached (suc n)) (walked ino x l)) (sym (append-nil (slots_to n)))
        (⊎_elim (λ before. subst (λ r. Walked r w) (omega (arith, before, order)) so_far)
        (λ first. ⊎_elim (λ inside.
        subst (λ r. Walked r w) (omega (arith, first, inside))
        (hole_next n w first (none (holds n).holds) (subst (λ r. Walked r w) (omega (arith, first, inside)) so_far)))
        (λ past. subst (λ r. Walked r w) (omega (arith, past, order)) so_far) (cases_lt n x.end)) (cases_lt n x.first))
      where
        w : Walk
        w = walked ino x (slots_to n)

        none : ((slot n ≡ None) × (address n ≡ 0)) ⊎ ((s : Slot) × (slot n ≡ Some s) × (s.k ≡ n) × (s.address ≡ address n)) → address n ≡ 0
        none (inl hole) = hole.1
        none (inr there) = absurd (cc (sym is ∙ there.1))
    at-step n (Some s) is so_far =
        subst (Walked (reached (suc n))) (sym (walked-push (slots_to n) s))
        (⊎_elim (λ before. skip (inl (let low = so_far.low in omega (arith, before, low, number))) (omega (arith, before, order)))
        (λ first. ⊎_elim (λ inside.
        subst (λ r. Walked r (walk_on ino x w s)) (omega (arith, first, inside))
        (slot_next n w s first inside number (there.1) (subst (λ r. Walked r w) (omega (arith, first, inside)) so_far)))
        (λ past. skip (inr (omega (arith, past, number))) (omega (arith, past, order))) (cases_lt n x.end)) (cases_lt n x.first))
      where
        w : Walk
        w = walked ino x (slots_to n)

        same_slot : (s t : Slot) → Some t ≡ Some s → t ≡ s
        same_slot s t e = cc e

        found : ((slot n ≡ None) × (address n ≡ 0)) ⊎ ((t : Slot) × (slot n ≡ Some t) × (t.k ≡ n) × (t.address ≡ address n)) → (s.k ≡ n) × (s.address ≡ address n)
        found (inl hole) = absurd (cc (sym is ∙ hole.0))
        found (inr t) = let e = same_slot s t.0 (sym t.1 ∙ is) in (ap (λ (u : Slot). u.k) (sym e) ∙ t.2, ap (λ (u : Slot). u.address) (sym e) ∙ t.3)

        there : (s.k ≡ n) × (s.address ≡ address n)
        there = found (holds n).holds

        number : s.k ≡ n
        number = there.0

        skip : (s.k < w.next) ⊎ (x.end ≤ s.k) → reached n ≡ reached (suc n) → Walked (reached (suc n)) (walk_on ino x w s)
        skip away same = subst (Walked (reached (suc n))) (sym (walk-skips w s away)) (subst (λ r. Walked r w) same so_far)

    pub walked-to : (n : ℕ) → Walked (reached n) (walked ino x (slots_to n))
    walked-to zero =
        subst (λ l. Walked (reached zero) (walked ino x l)) (sym (ap (filter_map slot) numbers-none))
        (subst (Walked (reached zero)) (sym walked-none) (record {
          low = omega arith;
          high = omega arith;
          is = hole-none x.first (reached zero) (omega (arith, order)) ∙ sym (range-empty defect_at x.first (reached zero - x.first) (omega (arith, order)));
        }))
    walked-to (suc n) = subst (λ l. Walked (reached (suc n)) (walked ino x l)) (sym (slots-more n)) (at-step n (slot n) refl (walked-to n))

    -- the whole extent, where blocks from the limit on have the value that stands for none
    module _ (limit : ℕ) (found : ℕ → ℕ) (below : (k : ℕ) → x.first ≤ k → k < x.end → k < limit → found k ≡ address k) (past : (k : ℕ) → x.first ≤ k → k < x.end → limit ≤ k → found k ≡ none_value) where
      abbrev pub found_defect : ℕ → Option Defect
      found_defect k = defect_of 3 ino k (same (found k) (wanted_at x k))

      pub walked-all : (w : Walk) (holes : ℕ) → w ≡ walked ino x (slots_to limit) → holes ≡ min (max limit w.next) x.end
          → w.defects ++ hole_defects ino x w.next holes ++ run_defects 3 ino holes (x.end - holes) none_value (wanted_at x holes)
          ≡ filter_map found_defect (range_with_len x.first (x.end - x.first))
      walked-all w holes is at =
          (λ i. first i ++ second i)
          ∙ sym (filter_map-append found_defect (range_with_len x.first (holes - x.first)) (range_with_len holes (x.end - holes)))
          ∙ ap (filter_map found_defect) whole
        where
          so_far : Walked (reached limit) w
          so_far = subst (Walked (reached limit)) (sym is) (walked-to limit)

          far : holes ≡ reached limit
          far = let low = so_far.low in let high = so_far.high in omega (arith, at, low, high, order)

          low : x.first ≤ holes
          low = omega (arith, far)

          high : holes ≤ x.end
          high = omega (arith, far, order)

          first : w.defects ++ hole_defects ino x w.next holes ≡ filter_map found_defect (range_with_len x.first (holes - x.first))
          first =
              ap (λ n. w.defects ++ hole_defects ino x w.next n) far
              ∙ so_far.is
              ∙ ap (λ n. filter_map defect_at (range_with_len x.first (n - x.first))) (sym far)
              ∙ sym (filter_map-range found_defect defect_at x.first (holes - x.first)
              (λ k from to.
              let inside : k < holes = omega (arith, from, to, low) in
              ap (λ a. defect_of 3 ino k (same a (wanted_at x k))) (below k from (omega (arith, inside, high)) (omega (arith, from, inside, far)))))

          second : run_defects 3 ino holes (x.end - holes) none_value (wanted_at x holes) ≡ filter_map found_defect (range_with_len holes (x.end - holes))
          second =
              filter_map-range (λ b. defect_of 3 ino b (run_comparison holes none_value (wanted_at x holes) b)) found_defect holes (x.end - holes)
              (λ k from to.
              let inside : k < x.end = omega (arith, from, to, high) in
              let beyond : limit ≤ k = omega (arith, from, inside, far) in
              let value : wanted_at x holes + k - holes ≡ wanted_at x k = omega (arith, from, low) in
              λ i. defect_of 3 ino k (same (sym (past k (omega (arith, low, from)) inside beyond) i) (value i)))

          whole : range_with_len x.first (holes - x.first) ++ range_with_len holes (x.end - holes) ≡ range_with_len x.first (x.end - x.first)
          whole =
              ap (λ a. range_with_len x.first (holes - x.first) ++ range_with_len a (x.end - holes)) (let e : holes ≡ x.first + (holes - x.first) = omega (arith, low) in e)
              ∙ sym (range-append x.first (holes - x.first) (x.end - holes))
              ∙ ap (range_with_len x.first) (let e : (holes - x.first) + (x.end - holes) ≡ x.end - x.first = omega (arith, low, high) in e)
