-- Blocks that have no run of so many free slots, and where a search may begin.
use Rattle.std.proofs.Common.{◌≡◌, inl, inr, ℕ, zero, suc, ◌+◌, ◌-◌, ◌≤◌, ◌<◌, true, false, List, length, get_or, set, refl, sym, ap, ◌∙◌, subst, arith, get_or-set_same, get_or-set_other}
use Rattle.std.specs.Prelude.{find, Option, Some, None, unwrap_or, nat_lt, replicate}
use Rattle.std.specs.List.{range_with_len}
use Rattle.std.proofs.lemmas.Bool.{cases_eq, cases_lt, both_ways, ltb-false, or_left}
use Rattle.std.proofs.lemmas.List.{get_or-replicate, get_or_past, length-replicate}
use Rattle.f2_bytes.specs.Buckets.{level_start, level_of_block}
use Rattle.f2_bytes.specs.Bytes.{Block}
use Rattle.f2_bytes.specs.Directory.{Item}
use Rattle.f2_bytes.proofs.Finds.{IsFirst, found_first}
use Rattle.f2_dent.specs.Pages.{is_run}
use Rattle.f2_dent.specs.Places.{Blocks, empty_block, is_free, has_place, level_places, LacksRun, IsFull, PutsIn}
use Rattle.f2_dent.proofs.LevelStarts.{start_le}
use Rattle.f2_dent.proofs.Places.{find_passes, place_of_levels, levels_none, levels_more}
use Rattle.f2_dent.proofs.Rooms.{broken_run, no_run, broken_kept}
use Rattle.f2_dent.proofs.Standing.{free_is}

-- ---- what stays full

pub zeros_at : (n k : ℕ) → ◌≡◌ {A = ℕ} (get_or {A = ℕ} (replicate n 0) k 0) 0
zeros_at n k = elim (cases_lt k n) [
  | inl inside ↦ get_or-replicate n k 0 0 inside
  | inr past ↦ get_or_past (replicate n 0) k 0 (omega (arith, length-replicate {A = ℕ} n 0, past))
]

pub full_none : (blocks : Blocks) (full : List ℕ) → ((slots : ℕ) → get_or full slots 0 ≡ 0) → IsFull blocks full
full_none blocks full zeros = record { lacks = λ slots k below. absurd (omega (arith, below, zeros slots)) }

pub full_same : (old new : Blocks) (full : List ℕ) → ((k : ℕ) → new k ≡ old k) → IsFull old full → IsFull new full
full_same old new full same is = record { lacks = λ slots k below slot. ap (λ (b : Option Block). is_free b slots slot) (same k) ∙ is.lacks slots k below slot }

lacks_kept : (old new : Blocks) (block slots k : ℕ) (item : Item) → PutsIn old new block item → LacksRun old slots k → LacksRun new slots k
lacks_kept old new block slots k item puts lacks slot = elim (cases_eq k block) [
  | inr other ↦ ap (λ (b : Option Block). is_free b slots slot) (puts.others k other) ∙ lacks slot
  | inl same ↦
      let was : is_run 214 (unwrap_or (old block) empty_block) slots slot ≡ false = sym (free_is (old block) slots slot) ∙ ap (λ j. is_free (old j) slots slot) (sym same) ∙ lacks slot in
      let now : is_run 214 puts.block slots slot ≡ false = no_run 214 puts.block slots slot
      (broken_kept 214 (unwrap_or (old block) empty_block) puts.block slots slot (λ t below taken. puts.put.bits t below ∙ or_left _ _ taken) (broken_run 214 (unwrap_or (old block) empty_block) slots slot was)) in
      ap (λ j. is_free (new j) slots slot) same ∙ ap (λ (b : Option Block). is_free b slots slot) puts.here ∙ now
]

pub full_kept : (old new : Blocks) (full : List ℕ) (block : ℕ) (item : Item) → PutsIn old new block item → IsFull old full → IsFull new full
full_kept old new full block item puts is = record { lacks = λ slots k below. lacks_kept old new block slots k item puts (is.lacks slots k below) }

-- ---- one block more

pub lacks_more : (blocks : Blocks) (slots from block : ℕ) → ((k : ℕ) → from ≤ k → k < block → LacksRun blocks slots k) → LacksRun blocks slots block → (k : ℕ) → from ≤ k → k < block + 1 → LacksRun blocks slots k
lacks_more blocks slots from block before here k low high = elim (cases_lt k block) [
  | inl below ↦ before k low below
  | inr not_below ↦ let same : block ≡ k = omega (arith, high, not_below) in subst (λ (j : ℕ). LacksRun blocks slots j) same here
]

pub full_set : (blocks : Blocks) (full : List ℕ) (slots first : ℕ) → slots < length full → IsFull blocks full → ((k : ℕ) → get_or full slots 0 ≤ k → k < first → LacksRun blocks slots k) → IsFull blocks (set full slots first)
full_set blocks full slots first inside is more = record {
  lacks = λ s k below. elim (cases_eq s slots) [
    | inr other ↦ is.lacks s k (let same : get_or (set full slots first) s 0 ≡ get_or full s 0 = get_or-set_other full slots s first 0 other in omega (arith, below, same))
    | inl same ↦ subst (λ (j : ℕ). LacksRun blocks j k) (sym same)
        (lacks_below blocks full slots first is more k
        (let here : get_or (set full slots first) s 0 ≡ first = ap (λ j. get_or (set full slots first) j 0) same ∙ get_or-set_same full slots first 0 inside in omega (arith, below, here)))
  ];
}
  where
    lacks_below : (blocks : Blocks) (full : List ℕ) (slots first : ℕ) → IsFull blocks full → ((k : ℕ) → get_or full slots 0 ≤ k → k < first → LacksRun blocks slots k) → (k : ℕ) → k < first → LacksRun blocks slots k
    lacks_below blocks full slots first is more k below = elim (cases_lt k (get_or full slots 0)) [
      | inl lower ↦ is.lacks slots k lower
      | inr not_lower ↦ more k not_lower below
    ]

pub lower_lacks : (blocks : Blocks) (full : List ℕ) (slots first k : ℕ) → IsFull blocks full → ((j : ℕ) → get_or full slots 0 ≤ j → j < first → LacksRun blocks slots j) → k < first → LacksRun blocks slots k
lower_lacks blocks full slots first k is more below = elim (cases_lt k (get_or full slots 0)) [
  | inl lower ↦ is.lacks slots k lower
  | inr not_lower ↦ more k not_lower below
]

-- ---- a level begins no later than its blocks

start_by : (block : ℕ) (o : Option ℕ) → ((l : ℕ) → o ≡ Some l → IsFirst (λ m. nat_lt block (level_start (m + 1) 0)) 0 l) → level_start (unwrap_or o 0) 0 ≤ block
unfolding level_start
start_by block None first = omega arith
start_by block (Some zero) first = omega arith
start_by block (Some (suc l)) first =
    let before : nat_lt block (level_start (l + 1) 0) ≡ false = (first (suc l) refl).least l (omega arith) (omega arith) in
    let next : suc l ≡ l + 1 = omega arith in
    let same : level_start (suc l) 0 ≡ level_start (l + 1) 0 = ap (λ n. level_start n 0) next in
    omega (arith, ltb-false block (level_start (l + 1) 0) before, same)

pub level_begins : (block : ℕ) → level_start (level_of_block 0 block) 0 ≤ block
level_begins block = start_by block (find (λ m. nat_lt block (level_start (m + 1) 0)) (range_with_len 0 64)) (λ l is. found_first (λ m. nat_lt block (level_start (m + 1) 0)) 0 64 l is)

-- ---- no place is found below

none_by : {X : Type 0} (o : Option X) → ((x : X) → o ≡ Some x → ⊥) → o ≡ None
none_by None never = refl
none_by (Some x) never = absurd (never x refl)

none_lower : (blocks : Blocks) (hash slots from : ℕ) → ((k : ℕ) → k < level_start from 0 → LacksRun blocks slots k) → (levels : ℕ) → levels ≤ from → find (has_place blocks) (level_places hash slots 0 levels) ≡ None
none_lower blocks hash slots from lacks levels low = none_by _ (λ x is.
    let there = place_of_levels blocks hash slots levels x is in
    let free : is_free (blocks x.block) slots x.slot ≡ true = ap (λ s. is_free (blocks x.block) s x.slot) (sym there.1) ∙ find_passes (has_place blocks) (level_places hash slots 0 levels) x is in
    both_ways (is_free (blocks x.block) slots x.slot) (lacks x.block (omega (arith, there.0, start_le levels from low)) x.slot) free)

-- a search from a level on finds what one in all levels does
pub from_level : (blocks : Blocks) (hash slots from levels : ℕ) → ((k : ℕ) → k < level_start from 0 → LacksRun blocks slots k) → find (has_place blocks) (level_places hash slots from (levels - from)) ≡ find (has_place blocks) (level_places hash slots 0 levels)
from_level blocks hash slots from levels lacks = elim (cases_lt levels from) [
  | inl below ↦
      let none : levels - from ≡ 0 = omega (arith, below) in
      levels_none blocks hash slots from (levels - from) none ∙ sym (none_lower blocks hash slots from lacks levels (omega (arith, below)))
  | inr above ↦ sym (levels_more blocks hash slots from levels above (none_lower blocks hash slots from lacks from (omega arith)))
]
