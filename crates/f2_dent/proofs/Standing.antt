-- The names that stand in the blocks, each with its place.
use Rattle.std.proofs.Common.{◌≡◌, inl, inr, ℕ, ◌+◌, ◌/◌, ◌%◌, ◌^◌, ◌≤◌, ◌<◌, Bool, true, false, List, length, refl, sym, ap, ◌∙◌, arith, eq-eqb}
use Rattle.std.specs.Prelude.{All, not, ◌&&◌, ◌==◌, nat_le, map, max, Option, Some, None, unwrap_or, is_some}
use Rattle.std.specs.List.{list_any, range_with_len}
use Rattle.std.proofs.Math.Nat.{zero-div}
use Rattle.std.proofs.lemmas.Bool.{and_parts, and_from, and_left, leb-true, ltb-true, eqb-true, le-leb, lt-ltb, lt-leb, cases_lt}
use Rattle.std.proofs.lemmas.List.{get_or-replicate}
use Rattle.f2_bytes.specs.Bits.{bit_lsb}
use Rattle.f2_bytes.specs.Buckets.{Placed, is_overlapping, level_start}
use Rattle.f2_bytes.specs.Bytes.{Block, has_bit}
use Rattle.f2_bytes.specs.Directory.{item_in, block_slots}
use Rattle.f2_bytes.specs.Names.{slots_for}
use Rattle.f2_dent.specs.Built.{placed_item}
use Rattle.f2_dent.specs.Pages.{is_run, is_among}
use Rattle.f2_dent.specs.Places.{Blocks, empty_block, is_free, has_place}
use Rattle.f2_dent.specs.declared.building.Entry.{Entry}
use Rattle.f2_dent.proofs.Anys.{any_of, any_more, any-map, same_bool, Apart}
use Rattle.f2_dent.proofs.Ranges.{range_none, range_some, range_found}

abbrev pub Named : Type 0
Named = Entry × Placed

-- the name has its slots in the block
pub record IsGood (levels : ℕ) (at : Named) : Type 0 where
  pub slots : at.1.slots ≡ slots_for (length at.0.name)
  pub some : 1 ≤ at.1.slots
  pub few : length at.0.name ≤ 255
  pub within : at.1.slot + at.1.slots ≤ 214
  pub low : at.1.block < level_start levels 0

-- the name is in block k, and takes slot t
abbrev pub covers : ℕ → ℕ → Named → Bool
covers k t at = (at.1.block == k) && is_among at.1.slot at.1.slots t

abbrev pub is_of : ℕ → Named → Bool
is_of k at = at.1.block == k

abbrev pub meets : Named → Named → Bool
meets x y = is_overlapping x.1 y.1

-- block k has the names that stand in it
pub record IsPage (names : List Named) (k : ℕ) (b : Block) : Type 0 where
  pub bits : (t : ℕ) → t < 214 → bit_lsb b t ≡ list_any (covers k t) names
  pub items : All (λ at. at.1.block ≡ k → item_in b 214 at.1.slot ≡ placed_item at) names

pub record IsStanding (levels : ℕ) (names : List Named) (blocks : Blocks) : Type 0 where
  pub good : All (IsGood levels) names
  pub apart : Apart meets names
  pub page : (k : ℕ) → IsPage names k (unwrap_or (blocks k) empty_block)
  pub has : (k : ℕ) → is_some (blocks k) ≡ list_any (is_of k) names

-- ---- tests, as facts

pub record Overlaps (p q : Placed) : Type 0 where
  pub block : p.block ≡ q.block
  pub before : p.slot < q.slot + q.slots
  pub behind : q.slot < p.slot + p.slots

pub overlap : (p q : Placed) → Overlaps p q → is_overlapping p q ≡ true
overlap p q is = and_from _ _ (and_from _ _ (eq-eqb p.block q.block is.block) (lt-ltb p.slot (q.slot + q.slots) is.before)) (lt-ltb q.slot (p.slot + p.slots) is.behind)

pub overlap_is : (p q : Placed) → is_overlapping p q ≡ true → Overlaps p q
overlap_is p q is =
    let both = and_parts _ _ is in
    let first = and_parts _ _ both.0 in
    record { block = eqb-true p.block q.block first.0; before = ltb-true p.slot (q.slot + q.slots) first.1; behind = ltb-true q.slot (p.slot + p.slots) both.1 }

pub record Covers (k t : ℕ) (p : Placed) : Type 0 where
  pub block : p.block ≡ k
  pub from : p.slot ≤ t
  pub to : t < p.slot + p.slots

pub cover : (k t : ℕ) (at : Named) → Covers k t at.1 → covers k t at ≡ true
cover k t at is = and_from _ _ (eq-eqb at.1.block k is.block) (and_from _ _ (le-leb at.1.slot t is.from) (lt-ltb t (at.1.slot + at.1.slots) is.to))

pub cover_is : (k t : ℕ) (at : Named) → covers k t at ≡ true → Covers k t at.1
cover_is k t at is =
    let both = and_parts _ _ is in
    let range = and_parts _ _ both.1 in
    record { block = eqb-true at.1.block k both.0; from = leb-true at.1.slot t range.0; to = ltb-true t (at.1.slot + at.1.slots) range.1 }

-- ---- an empty block

zero_bit : (k : ℕ) → has_bit 0 k ≡ false
zero_bit k = ap (λ n. n % 2 == 1) (zero-div (2 ^ k))

pub empty_bits : (t : ℕ) → t < 214 → bit_lsb empty_block t ≡ false
unfolding empty_block
empty_bits t below = ap (λ byte. has_bit byte (t % 8)) (get_or-replicate 4096 (t / 8) 0 0 (omega (arith, below))) ∙ zero_bit (t % 8)

and_true : (b : Bool) → (b && true) ≡ b
and_true true = refl
and_true false = refl

far_or_near : (slots slot : ℕ) (none : Bool) → (slot + slots ≤ 214 → none ≡ false) → nat_le (slot + slots) 214 ≡ (nat_le (slot + slots) 214 && not none)
far_or_near slots slot none is = elim (cases_lt 214 (slot + slots)) [
  | inl far ↦ lt-leb (slot + slots) 214 far ∙ sym (and_left _ _ (lt-leb (slot + slots) 214 far))
  | inr near ↦ sym (ap (λ b. nat_le (slot + slots) 214 && not b) (is near) ∙ and_true _)
]

pub free_is : (block : Option Block) (slots slot : ℕ) → is_free block slots slot ≡ is_run 214 (unwrap_or block empty_block) slots slot
unfolding is_run
free_is None slots slot = far_or_near slots slot (list_any (bit_lsb empty_block) (range_with_len slot slots)) (λ near. range_none (bit_lsb empty_block) slot slots (λ t low high. empty_bits t (omega (arith, high, near))))
free_is (Some b) slots slot = refl

-- ---- a run is free where it shares no slot with a name

taken_met : (levels : ℕ) (names : List Named) (p : Placed) (t : ℕ) → p.slot ≤ t → t < p.slot + p.slots → All (IsGood levels) names → list_any (covers p.block t) names ≡ true → list_any (λ at. is_overlapping p at.1) names ≡ true
taken_met levels names p t low high good any = any_more (IsGood levels) (covers p.block t) (λ at. is_overlapping p at.1) names (λ at is yes.
    let here = cover_is p.block t at yes in
    overlap p at.1 (record { block = sym here.block; before = omega (arith, low, here.to); behind = omega (arith, here.from, high) })) good any

met_taken : (levels : ℕ) (names : List Named) (p : Placed) (b : Block) → 1 ≤ p.slots → p.slot + p.slots ≤ 214 → All (IsGood levels) names → IsPage names p.block b → list_any (λ at. is_overlapping p at.1) names ≡ true → list_any (bit_lsb b) (range_with_len p.slot p.slots) ≡ true
met_taken levels names p b some near good page any = any_of (list_any (bit_lsb b) (range_with_len p.slot p.slots) ≡ true) (IsGood levels) (λ at. is_overlapping p at.1) names good any (λ at is yes among.
    let shared = overlap_is p at.1 yes in
    let t : ℕ = max p.slot at.1.slot in
    let low : p.slot ≤ t = omega arith in
    let from : at.1.slot ≤ t = omega arith in
    let high : t < p.slot + p.slots = omega (arith, shared.behind, some) in
    let to : t < at.1.slot + at.1.slots = omega (arith, shared.before, is.some) in
    let covered : covers p.block t at ≡ true = cover p.block t at (record { block = sym shared.block; from = from; to = to }) in
    range_some (bit_lsb b) p.slot p.slots t low high (page.bits t (omega (arith, high, near)) ∙ among (covers p.block t) covered))

run_is : (levels : ℕ) (names : List Named) (p : Placed) (b : Block) → 1 ≤ p.slots → All (IsGood levels) names → IsPage names p.block b → is_run 214 b p.slots p.slot ≡ (nat_le (p.slot + p.slots) 214 && not (list_any (λ at. is_overlapping p at.1) names))
unfolding is_run
run_is levels names p b some good page = elim (cases_lt 214 (p.slot + p.slots)) [
  | inl far ↦ and_left _ _ (lt-leb (p.slot + p.slots) 214 far) ∙ sym (and_left _ _ (lt-leb (p.slot + p.slots) 214 far))
  | inr near ↦ ap (λ any. nat_le (p.slot + p.slots) 214 && not any) (same_bool _ _
      (λ taken.
      let found = range_found (bit_lsb b) p.slot p.slots taken in
      taken_met levels names p found.0 found.1 found.2 good (sym (page.bits found.0 (omega (arith, found.2, near))) ∙ found.3))
      (met_taken levels names p b some near good page))
]

pub place_is : (levels : ℕ) (names : List Named) (blocks : Blocks) (p : Placed) → IsStanding levels names blocks → 1 ≤ p.slots
    → has_place blocks p ≡ (nat_le (p.slot + p.slots) block_slots && not (list_any (is_overlapping p) (map (λ at. at.1) names)))
place_is levels names blocks p standing some =
    free_is (blocks p.block) p.slots p.slot
    ∙ run_is levels names p (unwrap_or (blocks p.block) empty_block) some standing.good (standing.page p.block)
    ∙ ap (λ any. nat_le (p.slot + p.slots) 214 && not any) (sym (any-map (is_overlapping p) (λ (at : Named). at.1) names))
