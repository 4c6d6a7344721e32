-- How long a run of free slots can be.
use Rattle.std.proofs.Common.{◌≡◌, ◌⊎◌, inl, inr, ℕ, ◌+◌, ◌-◌, ◌≤◌, ◌<◌, Bool, true, false, List, None, ◌∙◌, arith}
use Rattle.std.specs.Prelude.{find}
use Rattle.std.proofs.lemmas.Bool.{and_cases, leb-false, not-false, cases_lt, or_left}
use Rattle.f2_bytes.specs.Bits.{bit_lsb}
use Rattle.f2_bytes.specs.Bytes.{numbers_below}
use Rattle.f2_bytes.proofs.Finds.{none_passes, find-nothing}
use Rattle.f2_dent.specs.Pages.{is_run, HasRoom, HasPut}
use Rattle.f2_bytes.specs.Directory.{Item}
use Rattle.f2_dent.proofs.Ranges.{range_found}
use Rattle.f2_dent.proofs.Runs.{taken_run, far_run}

-- what is no run goes past the limit, or has a slot that is taken
abbrev pub IsBroken : ℕ → List ℕ → ℕ → ℕ → Type 0
IsBroken n map slots slot = (n < slot + slots) ⊎ ((t : ℕ) × (slot ≤ t) × (t < slot + slots) × (bit_lsb map t ≡ true))

pub broken_run : (n : ℕ) (map : List ℕ) (slots slot : ℕ) → is_run n map slots slot ≡ false → IsBroken n map slots slot
unfolding is_run
broken_run n map slots slot none = elim (and_cases _ _ none) [
  | inl past ↦ inl (leb-false (slot + slots) n past)
  | inr taken ↦ inr (range_found (bit_lsb map) slot slots (not-false _ taken))
]

pub no_run : (n : ℕ) (map : List ℕ) (slots slot : ℕ) → IsBroken n map slots slot → is_run n map slots slot ≡ false
no_run n map slots slot (inl past) = far_run n map slots slot past
no_run n map slots slot (inr (t, low, high, taken)) = taken_run n map slots slot t low high taken

longer_broken : (n : ℕ) (map : List ℕ) (slots more slot : ℕ) → slots ≤ more → IsBroken n map slots slot → IsBroken n map more slot
longer_broken n map slots more slot longer (inl past) = inl (omega (arith, past, longer))
longer_broken n map slots more slot longer (inr (t, low, high, taken)) = inr (t, low, omega (arith, high, longer), taken)

-- all the slots
pub all_room : (map : List ℕ) → HasRoom map 214
all_room map = record { runs = λ slots slot longer. far_run 214 map slots slot (omega (arith, longer)) }

nothing_below : (test : ℕ → Bool) (n : ℕ) → find test (numbers_below n) ≡ None → (k : ℕ) → k < n → test k ≡ false
unfolding numbers_below
nothing_below test n none k below = none_passes test 0 n none k (omega arith) (omega (arith, below))

no_runs : (n : ℕ) (map : List ℕ) (slots : ℕ) → 1 ≤ slots → find (is_run n map slots) (numbers_below n) ≡ None → (slot : ℕ) → is_run n map slots slot ≡ false
no_runs n map slots some none slot = elim (cases_lt slot n) [
  | inl below ↦ nothing_below (is_run n map slots) n none slot below
  | inr past ↦ far_run n map slots slot (omega (arith, past, some))
]

-- less than a length that was not found
pub less_room : (map : List ℕ) (slots : ℕ) → 1 ≤ slots → find (is_run 214 map slots) (numbers_below 214) ≡ None → HasRoom map (slots - 1)
less_room map slots some none = record {
  runs = λ more slot longer. no_run 214 map more slot (longer_broken 214 map slots more slot (omega (arith, some, longer)) (broken_run 214 map slots slot (no_runs 214 map slots some none slot)));
}

-- more than the room is not found
pub no_room : (map : List ℕ) (room slots : ℕ) → HasRoom map room → room < slots → find (is_run 214 map slots) (numbers_below 214) ≡ None
no_room map room slots has longer = find-nothing (is_run 214 map slots) 214 (λ slot _. has.runs slots slot longer)

-- where slots are taken, no room is won
pub broken_kept : (n : ℕ) (old new : List ℕ) (slots slot : ℕ) → ((t : ℕ) → t < n → bit_lsb old t ≡ true → bit_lsb new t ≡ true) → IsBroken n old slots slot → IsBroken n new slots slot
broken_kept n old new slots slot kept (inl past) = inl past
broken_kept n old new slots slot kept (inr (t, low, high, taken)) = elim (cases_lt n (slot + slots)) [
  | inl past ↦ inl past
  | inr within ↦ inr (t, low, high, kept t (omega (arith, high, within)) taken)
]

pub room_kept : (old new : List ℕ) (room : ℕ) (item : Item) → HasRoom old room → HasPut old new item → HasRoom new room
room_kept old new room item has put = record {
  runs = λ slots slot longer. no_run 214 new slots slot
      (broken_kept 214 old new slots slot (λ t below taken. put.bits t below ∙ or_left _ _ taken) (broken_run 214 old slots slot (has.runs slots slot longer)));
}
