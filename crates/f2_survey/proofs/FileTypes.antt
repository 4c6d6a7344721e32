-- The types of files as they are kept.
use Rattle.std.proofs.Common.{◌≡◌, ◌≢◌, ℕ, suc, ◌/◌, ◌≤◌, Bool, true, false, cond, List, [], ◌∷◌, get_or, Option, Some, None, refl, sym, ap, ◌∙◌, inl, inr, arith}
use Rattle.std.specs.Prelude.{◌==◌, is_some, position, option_map, unwrap_or}
use Rattle.std.proofs.lemmas.Bool.{cases_eq, eq-eqb, ne_eqb, eqb-true}
use Rattle.std.proofs.lemmas.List.Quantifiers.{position-Some}
use Rattle.f2_bytes.specs.Bytes.{Block}
use Rattle.f2_bytes.specs.Node.{mode, type_of_mode, is_directory}
use Rattle.f2_survey.specs.Known.{type_said}
use Rattle.f2_bytes.specs.Check.{none_value, kind_of_inode, only_directory}

-- the upper bits of a mode, in the order of the types
highs : List ℕ
highs = 8 ∷ 4 ∷ 2 ∷ 6 ∷ 1 ∷ 12 ∷ 10 ∷ []

pub type_bound : (m t : ℕ) → type_of_mode m ≡ Some t → (1 ≤ t) × (t ≤ 7)
unfolding highs
type_bound m t is = go (position (λ high. high == m / 4096) highs) refl is
  where
    go : (o : Option ℕ) → position (λ high. high == m / 4096) highs ≡ o → option_map suc o ≡ Some t → (1 ≤ t) × (t ≤ 7)
    go None at is = cc
    go (Some i) at is =
        let same : suc i ≡ t = cc in
        let low = (position-Some (λ high. high == m / 4096) highs i 0 at).0 in
        (omega (arith, same), omega (arith, same, low))

-- the type 2 is that of directories
pub directory_type : (m : ℕ) → (unwrap_or (type_of_mode m) 0 == 2) ≡ (m / 4096 == 4)
unfolding highs
directory_type m = go (m / 4096) (position (λ high. high == m / 4096) highs) refl
  where
    go : (h : ℕ) (o : Option ℕ) → position (λ high. high == h) highs ≡ o → (unwrap_or (option_map suc o) 0 == 2) ≡ (h == 4)
    go h None at = elim (cases_eq h 4) [
      | inl four ↦ let never : ◌≡◌ {A = Option ℕ} (Some 1) None = sym (ap (λ k. position (λ high. high == k) highs) four) ∙ at in cc
      | inr other ↦ sym (ne_eqb h 4 other)
    ]
    go h (Some i) at = elim (cases_eq h 4) [
      | inl four ↦
          let first : Some 1 ≡ Some i = sym (ap (λ k. position (λ high. high == k) highs) four) ∙ at in
          let one : 1 ≡ i = cc in
          sym (ap (λ k. suc k == 2) one) ∙ sym (eq-eqb h 4 four)
      | inr other ↦
          ne_eqb (suc i) 2 (λ two.
          let one : i ≡ 1 = omega (arith, two) in
          let passes = (position-Some (λ high. high == h) highs i 0 at).1 in
          other (sym (eqb-true 4 h (sym (ap (λ j. get_or highs j 0 == h) one) ∙ passes))))
          ∙ sym (ne_eqb h 4 other)
    ]

pub directory_said : (o : Option Block) → (kind_of_inode o == 2) ≡ is_some (only_directory o)
directory_said None = refl
directory_said (Some b) = directory_type (mode b) ∙ found (is_directory b)
  where
    found : (is : Bool) → is ≡ is_some (cond is (Some b) None)
    found true = refl
    found false = refl

-- what is kept of an inode that is missing, of one that has no type, and of one that has
pub type_missing : (o : Option Block) → type_said o ≡ 0 → none_value ≡ kind_of_inode o
type_missing None is = refl
type_missing (Some b) is = absurd (go (type_of_mode (mode b)) refl is)
  where
    go : (t : Option ℕ) → type_of_mode (mode b) ≡ t → unwrap_or t 8 ≡ 0 → ⊥
    go None at zero = omega (arith, zero)
    go (Some t) at zero = omega (arith, zero, (type_bound (mode b) t at).0)

pub type_unknown : (o : Option Block) → type_said o ≡ 8 → 0 ≡ kind_of_inode o
type_unknown None is = absurd (omega (arith, is))
type_unknown (Some b) is = go (type_of_mode (mode b)) refl is
  where
    go : (t : Option ℕ) → type_of_mode (mode b) ≡ t → unwrap_or t 8 ≡ 8 → 0 ≡ unwrap_or t 0
    go None at eight = refl
    go (Some t) at eight = absurd (omega (arith, eight, (type_bound (mode b) t at).1))

pub type_known : (o : Option Block) → type_said o ≢ 0 → type_said o ≢ 8
    → type_said o ≡ kind_of_inode o
type_known None zero eight = absurd (zero refl)
type_known (Some b) zero eight = go (type_of_mode (mode b)) eight
  where
    go : (t : Option ℕ) → unwrap_or t 8 ≢ 8 → unwrap_or t 8 ≡ unwrap_or t 0
    go None eight = absurd (eight refl)
    go (Some t) eight = refl
