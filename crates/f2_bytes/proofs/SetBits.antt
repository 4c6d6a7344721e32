-- Counts of the bits of a map, byte by byte.
use Rattle.std.proofs.Common.{◌≡◌, ℕ, zero, suc, ◌+◌, ◌-◌, ◌*◌, ◌/◌, ◌%◌, ◌<◌, ◌≤◌, ◌==◌, Bool, true, cond, List, ◌∷◌, ◌++◌, refl, sym, ap, ◌∙◌, arith, zero-add}
use Rattle.std.specs.Prelude.{count_by, slice_index}
use Rattle.std.specs.Int.RustNames.{count_ones}
use Rattle.std.specs.List.{list_all, range_with_len}
use Rattle.std.proofs.lemmas.Bool.{eqb-true}
use Rattle.std.proofs.lemmas.List.FromFn.{length-range_with_len, get_or-range_with_len}
use Rattle.std.proofs.lemmas.List.Sums.{sum_by-append, sum_by-cons, count_by-le-length}
use Rattle.f2_bytes.specs.Bytes.{has_bit, numbers_below, count_below}
use Rattle.f2_bytes.specs.Bits.{bit_lsb, bit_msb}
use Rattle.f2_bytes.proofs.Tables.{row_passes}

pub range-append : (a n m : ℕ) → range_with_len a (n + m) ≡ range_with_len a n ++ range_with_len (a + n) m
range-append a zero m = ap (λ k. range_with_len a k) (zero-add m) ∙ ap (λ k. range_with_len k m) (omega arith)
range-append a (suc n) m =
    let e : suc n + m ≡ suc (n + m) = omega arith in
    ap (range_with_len a) e
    ∙ ap (λ xs. a ∷ xs) (range-append (a + 1) n m ∙ ap (λ k. range_with_len (a + 1) n ++ range_with_len k m) (omega arith))

pub count_below-add : (n m : ℕ) (test : ℕ → Bool) → count_below (n + m) test ≡ count_below n test + count_by test (range_with_len n m)
unfolding numbers_below
count_below-add n m test =
    ap (count_by test) (range-append 0 n m ∙ ap (λ k. range_with_len 0 n ++ range_with_len k m) (zero-add n))
    ∙ sum_by-append (λ x. cond (test x) 1 0) (range_with_len 0 n) (range_with_len n m)

-- bit k of a map, where bit j of each byte is the one at this place
abbrev pub bit_by : (ℕ → ℕ) → List ℕ → ℕ → Bool
bit_by place map k = has_bit (slice_index map (k / 8)) (place (k % 8))

-- the bits of byte i in the map are those of the byte
bits-byte : (place : ℕ → ℕ) (map : List ℕ) (i j n : ℕ) → j + n ≤ 8 → count_by (bit_by place map) (range_with_len (8 * i + j) n) ≡ count_by (λ k. has_bit (slice_index map i) (place k)) (range_with_len j n)
bits-byte place map i j zero inside = refl
bits-byte place map i j (suc n) inside =
    let byte : (8 * i + j) / 8 ≡ i = omega arith in
    let rest : (8 * i + j) % 8 ≡ j = omega arith in
    let bit : ℕ → Bool = λ k. has_bit (slice_index map i) (place k) in
    let first : bit_by place map (8 * i + j) ≡ bit j = λ k. has_bit (slice_index map (byte k)) (place (rest k)) in
    let next : 8 * i + j + 1 ≡ 8 * i + (j + 1) = omega arith in
    sum_by-cons (λ x. cond (bit_by place map x) 1 0) (8 * i + j) (range_with_len (8 * i + j + 1) n)
    ∙ (λ k. cond {A = ℕ} (first k) 1 0 + count_by (bit_by place map) (range_with_len (next k) n))
    ∙ ap (λ others. cond {A = ℕ} (bit j) 1 0 + others) (bits-byte place map i (j + 1) n (omega arith))
    ∙ sym (sum_by-cons (λ x. cond (bit x) 1 0) j (range_with_len (j + 1) n))

-- a byte has as many bits set as ones, in this order of its bits
has_ones : (ℕ → ℕ) → ℕ → Bool
has_ones place byte = count_by (λ k. has_bit byte (place k)) (range_with_len 0 8) == count_ones byte

-- the order of the bits in a byte: from the lowest, and from the highest
abbrev pub from_low : ℕ → ℕ
from_low k = k

abbrev pub from_high : ℕ → ℕ
from_high k = 7 - k

bits-ones : (place : ℕ → ℕ) → list_all (has_ones place) (range_with_len 0 256) ≡ true → (byte : ℕ) → byte < 256 → count_by (λ k. has_bit byte (place k)) (range_with_len 0 8) ≡ count_ones byte
unfolding has_ones
bits-ones place all byte small =
    let found : byte ≡ slice_index (range_with_len 0 256) byte = sym (get_or-range_with_len 0 256 byte 0 small ∙ zero-add byte) in
    let passes : has_ones place (slice_index (range_with_len 0 256) byte) ≡ true = row_passes (has_ones place) (range_with_len 0 256) byte 0 small all in
    eqb-true _ _ (ap (has_ones place) found ∙ passes)

all_low : list_all (has_ones from_low) (range_with_len 0 256) ≡ true
unfolding has_ones count_ones
all_low = refl

all_high : list_all (has_ones from_high) (range_with_len 0 256) ≡ true
unfolding has_ones count_ones
all_high = refl

-- one more byte
bits-more : (place : ℕ → ℕ) → list_all (has_ones place) (range_with_len 0 256) ≡ true → (map : List ℕ) (i : ℕ) → slice_index map i < 256 → count_below (8 * (i + 1)) (bit_by place map) ≡ count_below (8 * i) (bit_by place map) + count_ones (slice_index map i)
bits-more place all map i small =
    let bits : count_by (bit_by place map) (range_with_len (8 * i) 8) ≡ count_ones (slice_index map i) =
    ap (λ k. count_by (bit_by place map) (range_with_len k 8)) (omega arith) ∙ bits-byte place map i 0 8 (omega arith) ∙ bits-ones place all (slice_index map i) small in
    ap (λ n. count_below n (bit_by place map)) (omega arith)
    ∙ count_below-add (8 * i) 8 (bit_by place map)
    ∙ ap (λ n. count_below (8 * i) (bit_by place map) + n) bits

pub low-more : (map : List ℕ) (i : ℕ) → slice_index map i < 256 → count_below (8 * (i + 1)) (bit_lsb map) ≡ count_below (8 * i) (bit_lsb map) + count_ones (slice_index map i)
low-more = bits-more from_low all_low

pub high-more : (map : List ℕ) (i : ℕ) → slice_index map i < 256 → count_below (8 * (i + 1)) (bit_msb map) ≡ count_below (8 * i) (bit_msb map) + count_ones (slice_index map i)
high-more = bits-more from_high all_high

-- a map has no more bits set than bits
pub count_below-le : (n : ℕ) (test : ℕ → Bool) → count_below n test ≤ n
unfolding numbers_below
count_below-le n test = omega (arith, count_by-le-length test (range_with_len 0 n), length-range_with_len 0 n)
