-- The verdict, from what is decided rule by rule.
use Rattle.std.proofs.Common.{◌≡◌, ℕ, suc, ◌+◌, ◌-◌, ◌^◌, ◌<◌, ◌≤◌, List, [], length, Bool, true, false, cond, not, Some, sym, ap, ◌∙◌, subst, ⊎_elim, arith}
use Rattle.std.specs.Prelude.{◌==◌, find}
use Rattle.std.specs.List.{range_with_len}
use Rattle.std.proofs.lemmas.Bool.{cases_lt, eqb-true}
use Rattle.std.proofs.lemmas.List.{nil_from_length}
use Rattle.f2_bytes.proofs.Finds.{find-some, find-none}
use Rattle.f2_bytes.specs.Bytes.{Image}
use Rattle.f2_bytes.specs.Superblock.{IsInOrder}
use Rattle.f2_check.proofs.FewDefects.{few_defects}
use Rattle.f2_bytes.specs.Check.{Defect, defects, failing_rule, is_rule_met}
use Rattle.f2_defects.specs.Collected.{Collection, Collects}
use Rattle.f2_defects.specs.Verdicts.{Says, IsVerdict, Lists}
use Rattle.f2_defects.specs.declared.verdict.Verdict.{Verdict}
use Rattle.f2_defects.specs.declared.verdict.Verdict.TheVariants.{Clean, Defects}
use Rattle.f2_disk.specs.Disk.{IsImage}
use Rattle.f2_view.proofs.TableReadings.{own_layout}
use Rattle.f2_view.specs.Mounted.{Mounted, IsKept, IsMountOf}

-- the rules from one on that come before another are met
abbrev pub MeetsFrom : Image → ℕ → ℕ → Type 0
MeetsFrom image first rule = (r : ℕ) → first ≤ r → r < rule → defects image r ≡ []

pub meets_none : (image : Image) (rule : ℕ) → MeetsFrom image rule rule
meets_none image rule = λ r low high. absurd (omega (arith, low, high))

pub meets_more : (image : Image) (first rule : ℕ) → MeetsFrom image first rule → defects image rule ≡ [] → MeetsFrom image first (rule + 1)
meets_more image first rule before here = λ r low high.
    ⊎_elim (λ below. before r low below) (λ past. subst (λ n. defects image n ≡ []) (omega (arith, high, past)) here) (cases_lt r rule)

-- nothing was collected: there is no defect
pub no_defects : (c : Collection) (ds : List Defect) (empty : Bool) → empty ≡ (length ds == 0) → empty ≡ true → ds ≡ []
no_defects c ds empty is yes_empty = nil_from_length ds (eqb-true (length ds) 0 (sym is ∙ yes_empty))

met : (image : Image) (rule : ℕ) → defects image rule ≡ [] → not (is_rule_met image rule) ≡ false
met image rule none = ap (λ (ds : List Defect). not (length ds == 0)) none

-- the verdict where this rule fails, and those before it from the first on are met
pub verdict_fails : (image : Image) (first rule : ℕ) (c : Collection) (empty : Bool) (v : Verdict) → first ≤ rule → rule < 13 → MeetsFrom image first rule
    → length (defects image rule) < 2 ^ 64 → Collects c (defects image rule) → empty ≡ (length (defects image rule) == 0) → empty ≡ false → Lists rule c v
    → IsVerdict image first v
verdict_fails image first rule c empty v low high before few collects is some lists =
    subst (λ o. Says image o v) (sym least) (says v lists)
  where
    fails : not (is_rule_met image rule) ≡ true
    fails = ap not (sym is ∙ some)

    least : failing_rule image first ≡ Some rule
    least =
        find-some (λ r. not (is_rule_met image r)) first (13 - first) (rule - first) (omega (arith, low, high)) (ap (λ r. not (is_rule_met image r)) (omega (arith, low)) ∙ fails)
        (λ k below. met image (first + k) (before (first + k) (omega arith) (omega (arith, below))))
        ∙ ap Some (omega (arith, low))

    says : (v : Verdict) → Lists rule c v → Says image (Some rule) v
    says Clean lists = absurd lists
    says (Defects r list count) lists = (lists.0, lists.1 ∙ collects.kept, (let n = lists.2 in let k = collects.count in omega (arith, n, k, few)))

-- the verdict where each rule from the first on is met
pub verdict_clean : (image : Image) (first : ℕ) → MeetsFrom image first 13 → IsVerdict image first Clean
verdict_clean image first all =
    subst (λ o. Says image o Clean)
    (sym (find-none (λ r. not (is_rule_met image r)) first (13 - first) (λ k below. met image (first + k) (all (first + k) (omega arith) (omega (arith, below))))))
    tt

-- the verdict from the first rule on where that is met
pub verdict_next : (image : Image) (first : ℕ) (v : Verdict) → first < 13 → defects image first ≡ [] → IsVerdict image (first + 1) v → IsVerdict image first v
verdict_next image first v low none next =
    let one : 13 - first ≡ suc (13 - (first + 1)) = omega (arith, low) in
    let rest = find (λ r. not (is_rule_met image r)) (range_with_len (first + 1) (13 - (first + 1))) in
    let same : failing_rule image first ≡ failing_rule image (first + 1) =
    ap (λ n. find (λ r. not (is_rule_met image r)) (range_with_len first n)) one ∙ ap (λ t. cond t (Some first) rest) (met image first none) in
    subst (λ o. Says image o v) (sym same) next

-- the defects of an image that was mounted can be counted
pub can_count : (size : ℕ) (image : Image) (m : Mounted) → IsImage size image → IsKept m → IsMountOf image m → (rule : ℕ) → length (defects image rule) < 2 ^ 64
can_count size image m whole kept of rule = few_defects size image whole (subst IsInOrder (own_layout image m of) kept.in_order) rule
