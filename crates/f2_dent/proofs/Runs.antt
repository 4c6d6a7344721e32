-- The first run of free slots, slot by slot.
use Rattle.std.proofs.Common.{◌≡◌, inl, inr, ℕ, ◌+◌, ◌-◌, ◌≤◌, ◌<◌, Bool, true, false, List, Some, None, subst, arith}
use Rattle.std.specs.Prelude.{find, cond}
use Rattle.std.proofs.lemmas.Bool.{and_left, and_right, and_from, not_from_true, not_from_false, le-leb, lt-leb, cases_lt}
use Rattle.f2_bytes.specs.Bits.{bit_lsb}
use Rattle.f2_bytes.specs.Bytes.{numbers_below}
use Rattle.f2_bytes.proofs.Finds.{find-least, find-nothing}
use Rattle.f2_dent.specs.Pages.{is_run}
use Rattle.f2_dent.proofs.Ranges.{range_none, range_some}

-- a taken slot breaks a run
pub taken_run : (n : ℕ) (map : List ℕ) (slots slot t : ℕ) → slot ≤ t → t < slot + slots → bit_lsb map t ≡ true → is_run n map slots slot ≡ false
unfolding is_run
taken_run n map slots slot t low high taken = and_right _ _ (not_from_true _ (range_some (bit_lsb map) slot slots t low high taken))

-- a run ends at the limit
pub far_run : (n : ℕ) (map : List ℕ) (slots slot : ℕ) → n < slot + slots → is_run n map slots slot ≡ false
unfolding is_run
far_run n map slots slot past = and_left _ _ (lt-leb (slot + slots) n past)

pub free_run : (n : ℕ) (map : List ℕ) (slots slot : ℕ) → slot + slots ≤ n → ((t : ℕ) → slot ≤ t → t < slot + slots → bit_lsb map t ≡ false) → is_run n map slots slot ≡ true
unfolding is_run
free_run n map slots slot inside clear = and_from _ _ (le-leb (slot + slots) n inside) (not_from_false _ (range_none (bit_lsb map) slot slots clear))

-- The slots before `at` are looked at: the last `free` of them are free, and no run begins before those.
pub record IsScanned (n : ℕ) (map : List ℕ) (slots at free : ℕ) : Type 0 where
  pub few : free < slots
  pub back : free ≤ at
  pub clear : (t : ℕ) → at ≤ t + free → t < at → bit_lsb map t ≡ false
  pub none : (slot : ℕ) → slot + free < at → is_run n map slots slot ≡ false

pub scanned_start : (n : ℕ) (map : List ℕ) (slots : ℕ) → 1 ≤ slots → IsScanned n map slots 0 0
scanned_start n map slots some = record {
  few = omega arith;
  back = omega arith;
  clear = λ t low high. absurd (omega (arith, high));
  none = λ slot below. absurd (omega (arith, below));
}

taken_next : (n : ℕ) (map : List ℕ) (slots at free : ℕ) → IsScanned n map slots at free → bit_lsb map at ≡ true → IsScanned n map slots (at + 1) 0
taken_next n map slots at free was taken = record {
  few = omega (arith, was.few);
  back = omega arith;
  clear = λ t low high. absurd (omega (arith, low, high));
  none = λ slot below. elim (cases_lt (slot + free) at) [
    | inl before ↦ was.none slot before
    | inr behind ↦ taken_run n map slots slot at (omega (arith, below)) (omega (arith, behind, was.few)) taken
  ];
}

clear_next : (map : List ℕ) (at free : ℕ) → ((t : ℕ) → at ≤ t + free → t < at → bit_lsb map t ≡ false) → bit_lsb map at ≡ false → (t : ℕ) → at + 1 ≤ t + (free + 1) → t < at + 1 → bit_lsb map t ≡ false
clear_next map at free clear here t low high = elim (cases_lt t at) [
  | inl before ↦ clear t (omega (arith, low)) before
  | inr not_before ↦ let same : at ≡ t = omega (arith, high, not_before) in subst (λ (k : ℕ). bit_lsb map k ≡ false) same here
]

free_next : (n : ℕ) (map : List ℕ) (slots at free : ℕ) → IsScanned n map slots at free → bit_lsb map at ≡ false → free + 1 < slots → IsScanned n map slots (at + 1) (free + 1)
free_next n map slots at free was clear few = record {
  few = few;
  back = omega (arith, was.back);
  clear = clear_next map at free was.clear clear;
  none = λ slot below. was.none slot (omega (arith, below));
}

-- one slot more, where it doesn't end a run of so many
pub scanned_next : (n : ℕ) (map : List ℕ) (slots at free : ℕ) (taken : Bool) → IsScanned n map slots at free → bit_lsb map at ≡ taken → (cond taken 0 (free + 1) ≡ slots → ⊥) → IsScanned n map slots (at + 1) (cond taken 0 (free + 1))
scanned_next n map slots at free true was is other = taken_next n map slots at free was is
scanned_next n map slots at free false was is other = free_next n map slots at free was is (omega (arith, was.few, other))

found_at : (n : ℕ) (map : List ℕ) (slots at free : ℕ) → IsScanned n map slots at free → bit_lsb map at ≡ false → free + 1 ≡ slots → at < n → find (is_run n map slots) (numbers_below n) ≡ Some (at + 1 - slots)
found_at n map slots at free was clear full inside =
    let place : at + 1 - slots + slots ≡ at + 1 = omega (arith, was.back, full) in
    find-least (is_run n map slots) n (at + 1 - slots) (omega (arith, inside, full))
    (free_run n map slots (at + 1 - slots) (omega (arith, place, inside)) (λ t low high. clear_next map at free was.clear clear t (omega (arith, low, full)) (omega (arith, high, place))))
    (λ m before. was.none m (omega (arith, before, full)))

-- one slot more, which ends a run of so many
pub scanned_found : (n : ℕ) (map : List ℕ) (slots at free : ℕ) (taken : Bool) → IsScanned n map slots at free → bit_lsb map at ≡ taken → cond taken 0 (free + 1) ≡ slots → at < n → find (is_run n map slots) (numbers_below n) ≡ Some (at + 1 - slots)
scanned_found n map slots at free true was is full inside = absurd (omega (arith, full, was.few))
scanned_found n map slots at free false was is full inside = found_at n map slots at free was is full inside

pub scanned_all : (n : ℕ) (map : List ℕ) (slots free : ℕ) → IsScanned n map slots n free → find (is_run n map slots) (numbers_below n) ≡ None
scanned_all n map slots free was = find-nothing (is_run n map slots) n (λ slot below. elim (cases_lt (slot + free) n) [
  | inl before ↦ was.none slot before
  | inr behind ↦ far_run n map slots slot (omega (arith, behind, was.few))
])
