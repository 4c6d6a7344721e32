-- Files laid out in an image: the rules on what it was left with, and on the logs.
use Rattle.std.proofs.Common.{◌≡◌, ℕ, ◌<◌, [], ◌++◌, Bool, true, false, ◌==◌, ◌&&◌, not, nat_lt, Option, refl, ap, ◌∙◌, arith}
use Rattle.std.specs.Prelude.{flat_map, unwrap_or, bit_and}
use Rattle.std.proofs.lemmas.Bool.{and_parts, eqb-true, eq-eqb, ne_eqb, not_from_true, ltb-true}
use Rattle.f2_bytes.specs.Bytes.{Image}
use Rattle.f2_bytes.specs.Checkpoint.{head, log, orphan_count, ckpt_flags}
use Rattle.f2_bytes.specs.RollForward.{chain_length}
use Rattle.f2_bytes.specs.SegmentTable.{sit, is_block_valid, has_valid_block}
use Rattle.f2_bytes.specs.Summary.{log_of}
use Rattle.f2_bytes.specs.Check.{Part, Comparison, part_defects, same, fails_where, where_true, part_by_one, single, digit, checkpoint_parts, log_parts, is_rule_met, defects}
use Rattle.f2_bytes.proofs.CheckLaws.{clear_from}
use Rattle.f2_bytes.proofs.Finds.{find-some}
use Rattle.f2_bytes.proofs.PartsHold.{same_holds, fails_holds, where_holds, one_clear, single_clear, met_of}
use Rattle.f2_bytes.specs.FilePlaces.{FilePlaces, HoldsFiles}

module _ (p : FilePlaces) (image : Image) (h : HoldsFiles p image) where
  -- ---- left in order

  order : flat_map part_defects (checkpoint_parts image) ≡ []
  unfolding checkpoint_parts
  order = λ i. first i ++ (second i ++ (third i ++ []))
    where
      first : part_defects (single 1 (same (orphan_count image) 0)) ≡ []
      first = single_clear 1 (same (orphan_count image) 0) (same_holds _ _ h.orphans)

      second : part_defects (single 2 (same (chain_length image) 0)) ≡ []
      second = single_clear 2 (same (chain_length image) 0) (same_holds _ _ h.chain)

      third : part_defects (single 3 (same (bit_and (ckpt_flags (head image)) 0x1018) 0)) ≡ []
      third = single_clear 3 (same (bit_and (ckpt_flags (head image)) 0x1018) 0) (same_holds _ _ h.flags)

  pub placed_meets_checkpoint_rule : is_rule_met image 2 ≡ true
  unfolding defects
  placed_meets_checkpoint_rule = met_of (checkpoint_parts image) order

  -- ---- logs

  segment_test : ℕ → ℕ → Bool
  segment_test t u = (log (head image) u).segment == (log (head image) t).segment

  test_other : (t u : ℕ) → t < 6 → u < 6 → (u ≡ t → ⊥) → segment_test t u ≡ false
  unfolding segment_test
  test_other t u low below away = ne_eqb ((log (head image) u).segment) ((log (head image) t).segment) (λ e. away (h.logs_apart u t below low e))

  test_own : (t : ℕ) → segment_test t t ≡ true
  unfolding segment_test
  test_own t = eq-eqb ((log (head image) t).segment) ((log (head image) t).segment) refl

  own_log : (t : ℕ) → t < 6 → unwrap_or (log_of (head image) (log (head image) t).segment) 0 ≡ t
  unfolding segment_test
  own_log t low =
      ap (λ o. unwrap_or o 0)
      (find-some (segment_test t) 0 6 t low (ap (segment_test t) (omega arith) ∙ test_own t)
      (λ m lt. ap (segment_test t) (omega arith) ∙ test_other t m low (omega (arith, lt, low)) (λ e. omega (arith, e, lt))))
      ∙ omega arith

  free_at : (t k : ℕ) → t < 6 → (k == (log (head image) t).offset) ≡ true → digit (is_block_valid image (log (head image) t).segment k) ≡ 0
  free_at t k low here =
      ap (λ n. digit (is_block_valid image (log (head image) t).segment n)) (eqb-true k (log (head image) t).offset here) ∙ ap digit (h.log_next t low)

  free_after : (t k : ℕ) → t < 6 → k < 512 → (((log (head image) t).allocation == 0) && nat_lt (log (head image) t).offset k) ≡ true → digit (is_block_valid image (log (head image) t).segment k) ≡ 0
  free_after t k low within here =
      let parts = and_parts ((log (head image) t).allocation == 0) (nat_lt (log (head image) t).offset k) here in
      ap digit (h.log_rest t k low within (eqb-true (log (head image) t).allocation 0 parts.0) (ltb-true (log (head image) t).offset k parts.1))

  logs_clear : flat_map part_defects (log_parts image) ≡ []
  unfolding log_parts
  logs_clear = λ i. first i ++ (second i ++ (third i ++ (fourth i ++ [])))
    where
      own : ℕ → Option Comparison
      own t = same (unwrap_or (log_of (head image) (log (head image) t).segment) 0) t

      first : part_defects (part_by_one 1 6 own) ≡ []
      first = one_clear 1 6 own (λ t low. same_holds _ _ (own_log t low))

      typed : ℕ → Option Comparison
      typed t =
          let kind = (sit image (log (head image) t).segment).kind in
          where_true (has_valid_block image (log (head image) t).segment) (fails_where (not (digit (nat_lt kind 3) == digit (nat_lt t 3))) kind t)

      second : part_defects (part_by_one 2 6 typed) ≡ []
      second = one_clear 2 6 typed (λ t low. where_holds (has_valid_block image (log (head image) t).segment) _ (λ valid. fails_holds _ _ _ (not_from_true _ (eq-eqb _ _ (h.log_kinds t low valid)))))

      third_part : Part
      third_part = record { number = 3; first_limit = 6; second_limit = λ _. 512; comparison = λ t k. where_true (k == (log (head image) t).offset) (same (digit (is_block_valid image (log (head image) t).segment k)) 0) }

      third : part_defects third_part ≡ []
      third = clear_from third_part (λ t k low within. where_holds (k == (log (head image) t).offset) _ (λ here. same_holds _ _ (free_at t k low here)))

      fourth_part : Part
      fourth_part = record { number = 4; first_limit = 6; second_limit = λ _. 512; comparison = λ t k. where_true (((log (head image) t).allocation == 0) && nat_lt (log (head image) t).offset k) (same (digit (is_block_valid image (log (head image) t).segment k)) 0) }

      fourth : part_defects fourth_part ≡ []
      fourth = clear_from fourth_part (λ t k low within. where_holds (((log (head image) t).allocation == 0) && nat_lt (log (head image) t).offset k) _ (λ here. same_holds _ _ (free_after t k low within here)))

  pub placed_meets_log_rule : is_rule_met image 8 ≡ true
  unfolding defects
  placed_meets_log_rule = met_of (log_parts image) logs_clear
