-- Where the levels of a directory begin.
use Rattle.std.proofs.Common.{◌≡◌, ℕ, zero, suc, ◌+◌, ◌-◌, ◌*◌, ◌%◌, ◌^◌, ◌<◌, ◌≤◌, Bool, true, false, cond, nat_lt, refl, ap, ◌∙◌, arith, sum_by}
use Rattle.std.specs.List.{range_with_len}
use Rattle.std.proofs.Math.Nat.{one-le-pow, mod-lt, mul-le-mul_left}
use Rattle.std.proofs.lemmas.List.Sums.{sum_by-append, sum_by-cons}
use Rattle.f2_bytes.specs.Buckets.{bucket_count, bucket_blocks, bucket_start, level_start}
use Rattle.f2_bytes.proofs.SetBits.{range-append}

blocks_before : ℕ → ℕ
blocks_before l = bucket_count l 0 * bucket_blocks l

start_next : (level : ℕ) → level_start (level + 1) 0 ≡ level_start level 0 + bucket_count level 0 * bucket_blocks level
unfolding level_start blocks_before
start_next level =
    ap (sum_by blocks_before) (range-append 0 level 1) ∙ sum_by-append blocks_before (range_with_len 0 level) (range_with_len (0 + level) 1)
    ∙ ap (λ l. level_start level 0 + sum_by blocks_before (range_with_len l 1)) (omega arith) ∙ ap (λ n. level_start level 0 + n) (sum_by-cons blocks_before level (range_with_len (level + 1) 0) ∙ omega arith)

pub start_below : (level more : ℕ) → level_start level 0 ≤ level_start (level + more) 0
start_below level zero = let same : level_start level 0 ≡ level_start (level + 0) 0 = ap (λ l. level_start l 0) (omega arith) in omega (arith, same)
start_below level (suc more) =
    let same : level_start (level + suc more) 0 ≡ level_start (level + more + 1) 0 = ap (λ l. level_start l 0) (omega arith) in
    omega (arith, same, start_next (level + more), start_below level more)

pub start_le : (a b : ℕ) → a ≤ b → level_start a 0 ≤ level_start b 0
start_le a b low = let same : level_start (a + (b - a)) 0 ≡ level_start b 0 = ap (λ l. level_start l 0) (omega arith) in omega (arith, same, start_below a (b - a))

one_of : (test : Bool) (k : ℕ) → 1 ≤ cond test (2 ^ k) (2 ^ 30)
one_of true k = one-le-pow k 2 (omega arith)
one_of false k = omega arith

pub one_bucket : (level : ℕ) → 1 ≤ bucket_count level 0
unfolding bucket_count
one_bucket level = one_of (nat_lt (level + 0) 31) (level + 0)

-- a bucket lies within its level
pub bucket_within : (level hash : ℕ) → bucket_start level 0 hash + bucket_blocks level ≤ level_start (level + 1) 0
bucket_within level hash =
    let count : ℕ = bucket_count level 0 in
    let blocks : ℕ = bucket_blocks level in
    let some : 0 < count = omega (arith, one_bucket level) in
    let below : hash % count + 1 ≤ count = omega (arith, mod-lt hash some) in
    let most : blocks * (hash % count + 1) ≤ blocks * count = mul-le-mul_left blocks below in
    omega (arith, most, start_next level)

-- all blocks of 25 levels have small numbers
pub last_start : level_start 25 0 ≡ 67108862
unfolding level_start bucket_count
last_start = refl

pub bucket_small : (level levels hash : ℕ) → level < levels → levels ≤ 25 → bucket_start level 0 hash + bucket_blocks level ≤ 67108862
bucket_small level levels hash low few =
    let top : level_start (level + 1) 0 ≤ level_start 25 0 = start_le (level + 1) 25 (omega (arith, low, few)) in
    omega (arith, bucket_within level hash, top, last_start)
