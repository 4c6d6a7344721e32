-- An image whose blocks moved: the rule on logs, whose segments gained no block.
use Rattle.std.proofs.Common.{◌≡◌, ℕ, ◌<◌, [], ◌++◌, Bool, true, false, ◌==◌, ◌&&◌, not, nat_lt, cond, Option, Some, None, refl, sym, ap, ◌∙◌, arith}
use Rattle.std.specs.Prelude.{flat_map, get_or, unwrap_or}
use Rattle.std.proofs.lemmas.Bool.{eqb-true, not-false}
use Rattle.f2_bytes.specs.Bytes.{Image}
use Rattle.f2_bytes.specs.Checkpoint.{Log, head, log}
use Rattle.f2_bytes.specs.SegmentTable.{sit, is_block_valid, has_valid_block}
use Rattle.f2_bytes.specs.Summary.{log_of}
use Rattle.f2_bytes.specs.Check.{Part, Comparison, part_defects, same, fails_where, where_true, part_by_one, digit, is_checked, is_rule_met, defects, log_parts}
use Rattle.f2_bytes.specs.Moved.{IsMoved}
use Rattle.f2_bytes.proofs.Below.{some_below, found_below}
use Rattle.f2_bytes.proofs.CheckLaws.{none_fails, clear_from}
use Rattle.f2_bytes.proofs.CheckedChain.{rule_met, part_clear}
use Rattle.f2_bytes.proofs.CheckedNodes.{no_part}
use Rattle.f2_bytes.proofs.SlotSupport.{body_checked}
use Rattle.f2_bytes.proofs.PartsHold.{same_holds, fails_holds, where_holds, one_clear, met_of}

-- ---- what the rule says of a checked image

abbrev kind_of_log : Image → ℕ → ℕ
kind_of_log image t = (sit image (log (head image) t).segment).kind

abbrev valid_in_log : Image → ℕ → ℕ → Bool
valid_in_log image t k = is_block_valid image (log (head image) t).segment k

module _ (image : Image) (h : is_checked image ≡ true) where
  log_parts_clear : (part : ℕ) → part < 4 → part_defects (get_or (log_parts image) part no_part) ≡ []
  unfolding defects log_parts
  log_parts_clear part low = part_clear (log_parts image) (rule_met image (body_checked image h) 8 (omega arith) (omega arith)) part no_part low

  own_log : (t : ℕ) → t < 6 → unwrap_or (log_of (head image) (log (head image) t).segment) 0 ≡ t
  unfolding log_parts
  own_log t low =
      let found = unwrap_or (log_of (head image) (log (head image) t).segment) 0 in
      eqb-true found t (not-false _ (none_fails _ (log_parts_clear 0 (omega arith)) t 0 low (omega arith) (record { found = found; wanted = t; fails = not (found == t) }) refl))

  own_kind : (t : ℕ) → t < 6 → has_valid_block image (log (head image) t).segment ≡ true → not (digit (nat_lt (kind_of_log image t) 3) == digit (nat_lt t 3)) ≡ false
  unfolding log_parts
  own_kind t low valid =
      let kind = kind_of_log image t in
      none_fails _ (log_parts_clear 1 (omega arith)) t 0 low (omega arith) (record { found = kind; wanted = t; fails = not (digit (nat_lt kind 3) == digit (nat_lt t 3)) }) (rw valid refl)

  free_at : (t k : ℕ) → t < 6 → k < 512 → (k == (log (head image) t).offset) ≡ true → digit (valid_in_log image t k) ≡ 0
  unfolding log_parts
  free_at t k low within here =
      let found = digit (valid_in_log image t k) in
      eqb-true found 0 (not-false _ (none_fails _ (log_parts_clear 2 (omega arith)) t k low within (record { found = found; wanted = 0; fails = not (found == 0) }) (rw here refl)))

  free_after : (t k : ℕ) → t < 6 → k < 512 → (((log (head image) t).allocation == 0) && nat_lt (log (head image) t).offset k) ≡ true → digit (valid_in_log image t k) ≡ 0
  unfolding log_parts
  free_after t k low within here =
      let found = digit (valid_in_log image t k) in
      eqb-true found 0 (not-false _ (none_fails _ (log_parts_clear 3 (omega arith)) t k low within (record { found = found; wanted = 0; fails = not (found == 0) }) (rw here refl)))

-- ---- the other image

none_of_none : (a b : Bool) → (a ≡ true → b ≡ true) → digit b ≡ 0 → digit a ≡ 0
none_of_none true b up none =
    let some : digit b ≡ 1 = ap digit (up refl) in
    absurd (omega (arith, none, some))
none_of_none false b up none = refl

module _ (to : ℕ → ℕ) (image other : Image) (h : is_checked image ≡ true) (m : IsMoved to image other) where
  -- the log of a segment is the same
  log_of-moved : (segment : ℕ) → log_of (head other) segment ≡ log_of (head image) segment
  log_of-moved segment = λ i.
      cond ((m.logs 0 (omega arith) i).segment == segment) (Some 0) (cond ((m.logs 1 (omega arith) i).segment == segment) (Some 1) (cond ((m.logs 2 (omega arith) i).segment == segment) (Some 2)
      (cond ((m.logs 3 (omega arith) i).segment == segment) (Some 3) (cond ((m.logs 4 (omega arith) i).segment == segment) (Some 4) (cond ((m.logs 5 (omega arith) i).segment == segment) (Some 5) None)))))

  log-moved : (t : ℕ) → t < 6 → unwrap_or (log_of (head other) (log (head other) t).segment) 0 ≡ t
  log-moved t low =
      ap (λ o. unwrap_or o 0) (log_of-moved (log (head other) t).segment)
      ∙ ap (λ (l : Log). unwrap_or (log_of (head image) l.segment) 0) (m.logs t low)
      ∙ own_log image h t low

  -- a block that is valid in its segment was valid before
  valid-moved : (t k : ℕ) → t < 6 → k < 512 → valid_in_log other t k ≡ true → valid_in_log image t k ≡ true
  valid-moved t k low within valid = m.log_marks t k low within (sym (ap (λ (l : Log). is_block_valid other l.segment k) (m.logs t low)) ∙ valid)

  has_valid-moved : (t : ℕ) → t < 6 → has_valid_block other (log (head other) t).segment ≡ true → has_valid_block image (log (head image) t).segment ≡ true
  has_valid-moved t low valid =
      let found = found_below (is_block_valid other (log (head other) t).segment) 512 valid in
      some_below (is_block_valid image (log (head image) t).segment) 512 found.0 found.1 (valid-moved t found.0 low found.1 found.2)

  kind-moved : (t : ℕ) → t < 6 → kind_of_log other t ≡ kind_of_log image t
  kind-moved t low = ap (λ (l : Log). (sit other l.segment).kind) (m.logs t low) ∙ m.log_kinds t low

  kind_holds : (t : ℕ) → t < 6 → has_valid_block other (log (head other) t).segment ≡ true → not (digit (nat_lt (kind_of_log other t) 3) == digit (nat_lt t 3)) ≡ false
  kind_holds t low valid = ap (λ kind. not (digit (nat_lt kind 3) == digit (nat_lt t 3))) (kind-moved t low) ∙ own_kind image h t low (has_valid-moved t low valid)

  at_holds : (t k : ℕ) → t < 6 → k < 512 → (k == (log (head other) t).offset) ≡ true → digit (valid_in_log other t k) ≡ 0
  at_holds t k low within here =
      none_of_none (valid_in_log other t k) (valid_in_log image t k) (valid-moved t k low within)
      (free_at image h t k low within (sym (ap (λ (l : Log). k == l.offset) (m.logs t low)) ∙ here))

  after_holds : (t k : ℕ) → t < 6 → k < 512 → (((log (head other) t).allocation == 0) && nat_lt (log (head other) t).offset k) ≡ true → digit (valid_in_log other t k) ≡ 0
  after_holds t k low within here =
      none_of_none (valid_in_log other t k) (valid_in_log image t k) (valid-moved t k low within)
      (free_after image h t k low within (sym (ap (λ (l : Log). (l.allocation == 0) && nat_lt l.offset k) (m.logs t low)) ∙ here))

  pub logs-moved : flat_map part_defects (log_parts other) ≡ []
  unfolding log_parts
  logs-moved = λ i. first i ++ (second i ++ (third i ++ (fourth i ++ [])))
    where
      own : ℕ → Option Comparison
      own t = same (unwrap_or (log_of (head other) (log (head other) t).segment) 0) t

      first : part_defects (part_by_one 1 6 own) ≡ []
      first = one_clear 1 6 own (λ t low. same_holds _ _ (log-moved t low))

      typed : ℕ → Option Comparison
      typed t = where_true (has_valid_block other (log (head other) t).segment) (fails_where (not (digit (nat_lt (kind_of_log other t) 3) == digit (nat_lt t 3))) (kind_of_log other t) t)

      second : part_defects (part_by_one 2 6 typed) ≡ []
      second = one_clear 2 6 typed (λ t low. where_holds (has_valid_block other (log (head other) t).segment) _ (λ valid. fails_holds _ _ _ (kind_holds t low valid)))

      third_part : Part
      third_part = record { number = 3; first_limit = 6; second_limit = λ _. 512; comparison = λ t k. where_true (k == (log (head other) t).offset) (same (digit (valid_in_log other t k)) 0) }

      third : part_defects third_part ≡ []
      third = clear_from third_part (λ t k low within. where_holds (k == (log (head other) t).offset) _ (λ here. same_holds _ _ (at_holds t k low within here)))

      fourth_part : Part
      fourth_part = record { number = 4; first_limit = 6; second_limit = λ _. 512; comparison = λ t k. where_true (((log (head other) t).allocation == 0) && nat_lt (log (head other) t).offset k) (same (digit (valid_in_log other t k)) 0) }

      fourth : part_defects fourth_part ≡ []
      fourth = clear_from fourth_part (λ t k low within. where_holds (((log (head other) t).allocation == 0) && nat_lt (log (head other) t).offset k) _ (λ here. same_holds _ _ (after_holds t k low within here)))

  pub logs_met : is_rule_met other 8 ≡ true
  unfolding defects
  logs_met = met_of (log_parts other) logs-moved
