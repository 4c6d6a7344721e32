-- The levels of a directory.
use Rattle.std.proofs.Common.{◌≡◌, ℕ, zero, suc, inl, inr, true, false, ◌+◌, ◌-◌, ◌*◌, ◌/◌, ◌^◌, ◌<◌, ◌≤◌, nat_lt, [], add-one, refl, sym, ap, ◌∙◌, arith, sum_by}
use Rattle.std.specs.Prelude.{unwrap_or}
use Rattle.std.specs.List.{range_with_len}
use Rattle.std.proofs.Math.Nat.{pow-le-pow_right}
use Rattle.std.proofs.lemmas.Bool.{cases_lt, lt-ltb, le-ltb}
use Rattle.std.proofs.lemmas.List.Sums.{sum_by-cons}
use Rattle.f2_bytes.specs.Buckets.{bucket_count, bucket_blocks, level_start, level_of_block, bucket_of_block}
use Rattle.f2_bytes.proofs.Finds.{find-some}

pub bucket_count-low : (level depth : ℕ) → level + depth < 31 → bucket_count level depth ≡ 2 ^ (level + depth)
unfolding bucket_count
bucket_count-low level depth low = let yes : nat_lt (level + depth) 31 ≡ true = lt-ltb (level + depth) 31 low in rw yes refl

pub bucket_count-high : (level depth : ℕ) → 31 ≤ level + depth → bucket_count level depth ≡ 2 ^ 30
unfolding bucket_count
bucket_count-high level depth high = let no : nat_lt (level + depth) 31 ≡ false = le-ltb (level + depth) 31 high in rw no refl

pub few_buckets : (k : ℕ) → k < 31 → 2 ^ k ≤ 2 ^ 30
few_buckets k low = let below : k ≤ 30 = omega (arith, low) in let some : 0 < 2 = omega arith in pow-le-pow_right some below

sum-suc : (f : ℕ → ℕ) (a n : ℕ) → sum_by f (range_with_len a (suc n)) ≡ sum_by f (range_with_len a n) + f (a + n)
sum-suc f a zero = sum_by-cons f a [] ∙ (let same : f a ≡ f (a + 0) = ap f (omega arith) in omega (arith, same))
sum-suc f a (suc n) =
    sum_by-cons f a (range_with_len (a + 1) (suc n))
    ∙ ap (λ k. f a + k) (sum-suc f (a + 1) n)
    ∙ (let same : f (a + 1 + n) ≡ f (a + suc n) = ap f (omega arith) in omega (arith, same, sum_by-cons f a (range_with_len (a + 1) n)))

pub level_start-first : (depth : ℕ) → level_start 0 depth ≡ 0
unfolding level_start
level_start-first depth = refl

pub level_start-more : (level depth : ℕ) → level_start (level + 1) depth ≡ level_start level depth + bucket_count level depth * bucket_blocks level
unfolding level_start
level_start-more level depth =
    ap (λ n. sum_by (λ l. bucket_count l depth * bucket_blocks l) (range_with_len 0 n)) (add-one level)
    ∙ sum-suc (λ l. bucket_count l depth * bucket_blocks l) 0 level
    ∙ ap (λ l. level_start level depth + bucket_count l depth * bucket_blocks l) (omega arith)

-- level 62 alone has 2^32 blocks
pub past_last : (depth : ℕ) → 2 ^ 32 ≤ level_start 63 depth
past_last depth =
    let high : bucket_count 62 depth ≡ 2 ^ 30 = bucket_count-high 62 depth (omega arith) in
    omega (arith, high, level_start-more 62 depth)

pub level-found : (depth block level : ℕ) → level < 63 → ((m : ℕ) → m < level → level_start (m + 1) depth ≤ block) → block < level_start (level + 1) depth → level_of_block depth block ≡ level
level-found depth block level few before here =
    ap (λ o. unwrap_or o 0) (find-some (λ l. nat_lt block (level_start (l + 1) depth)) 0 64 level (omega arith) (test-here) (λ m lt. test-before m lt))
    ∙ omega arith
  where
    test-here : nat_lt block (level_start (0 + level + 1) depth) ≡ true
    test-here = ap (λ k. nat_lt block (level_start k depth)) (omega arith) ∙ lt-ltb block (level_start (level + 1) depth) here

    test-before : (m : ℕ) → m < level → nat_lt block (level_start (0 + m + 1) depth) ≡ false
    test-before m lt = ap (λ k. nat_lt block (level_start k depth)) (omega arith) ∙ le-ltb block (level_start (m + 1) depth) (before m lt)

pub level-is : (depth block level start blocks : ℕ) → level_of_block depth block ≡ level → start ≡ level_start level depth → blocks ≡ bucket_blocks level
    → (block - start) / blocks ≡ bucket_of_block depth block
level-is depth block level start blocks found starts is =
    (λ i. (block - starts i) / is i) ∙ ap (λ l. (block - level_start l depth) / bucket_blocks l) (sym found)

-- a block below 2^32 lies in level 62 or before
pub few_levels : (depth block level next : ℕ) → block < 2 ^ 32 → level < 63 → next ≡ level_start (level + 1) depth → next ≤ block → level + 1 < 63
few_levels depth block level next small few is behind = elim (cases_lt level 62) [
  | inl low ↦ omega (arith, low)
  | inr high ↦
      let last : level_start (level + 1) depth ≡ level_start 63 depth = ap (λ l. level_start l depth) (omega (arith, high, few)) in
      absurd (omega (arith, last, is, behind, small, past_last depth))
]

pub start_before : (depth block level start : ℕ) → start ≡ level_start level depth → ((m : ℕ) → m < level → level_start (m + 1) depth ≤ block) → start ≤ block
start_before depth block zero start is before = omega (arith, is, level_start-first depth)
start_before depth block (suc level) start is before =
    let same : level_start (level + 1) depth ≡ level_start (suc level) depth = ap (λ l. level_start l depth) (omega arith) in
    omega (arith, is, same, before level (omega arith))
