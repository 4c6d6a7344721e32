-- A list of features, one name at a time.
use Rattle.std.proofs.Common.{◌≡◌, ◌<◌, ◌≤◌, ◌+◌, ℕ, zero, suc, refl, arith, List, length, bit_or, Some, None, option_map, le-ltb, lt-ltb, length-drop}
use Rattle.std.specs.List.{position_or_len, before_first, after_first}
use Rattle.f2_top.specs.Features.{feature_of, features_with, is_comma}

pub one_more : (n : ℕ) (text : List ℕ) (bits bit : ℕ) → length text ≤ n → position_or_len is_comma text < length text → feature_of (before_first is_comma text) ≡ Some bit
    → (m : ℕ) × (length (after_first is_comma text) ≤ m) × (features_with n bits text ≡ features_with m (bit_or bits bit) (after_first is_comma text))
unfolding features_with
one_more zero text bits bit few comma is = absurd (omega (arith, few, comma))
one_more (suc n) text bits bit few comma is =
    let shorter = length-drop (position_or_len is_comma text + 1) text in
    (n, omega (arith, few, comma, shorter), rw (lt-ltb (position_or_len is_comma text) (length text) comma, is) refl)

pub one_unknown : (n : ℕ) (text : List ℕ) (bits : ℕ) → length text ≤ n → position_or_len is_comma text < length text → feature_of (before_first is_comma text) ≡ None
    → features_with n bits text ≡ None
unfolding features_with
one_unknown zero text bits few comma is = absurd (omega (arith, few, comma))
one_unknown (suc n) text bits few comma is = rw (lt-ltb (position_or_len is_comma text) (length text) comma, is) refl

pub last_one : (n : ℕ) (text : List ℕ) (bits : ℕ) → position_or_len is_comma text ≡ length text → features_with n bits text ≡ option_map (λ bit. bit_or bits bit) (feature_of text)
unfolding features_with
last_one zero text bits none = refl
last_one (suc n) text bits none = rw (le-ltb (position_or_len is_comma text) (length text) (omega (arith, none))) refl
