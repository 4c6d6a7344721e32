-- Numbers in a block, as `byteorder` reads them of a part of it.
use Rattle.std.proofs.Common.{◌≡◌, ℕ, zero, suc, ◌+◌, ◌-◌, ◌<◌, ◌≤◌, ◌^◌, List, ◌++◌, length, take, drop, refl, sym, ap, subst, ◌∙◌, arith, get_or-drop, append_assoc, take-append-drop}
use Rattle.std.proofs.lemmas.List.{length-take-le, length-take, length-drop, length-append, drop_at, drop_all, take_all, take-take, take-append-le, append-nil}
use Rattle.std.proofs.lemmas.Slice.{put_mid-paste}
use borrow.Rule.Slice.PartMut.{put_mid}
use Rattle.std.specs.Prelude.{slice_range, slice_index}
use Rattle.byteorder.specs.Endian.{little_from, little_number, little_bytes}
use Rattle.byteorder.specs.Numbers.{little_from-take, little_from-lt, little_number-reads_back, length-bytes_low_first}
use Rattle.f2_bytes.specs.Bytes.{number_at, with_number}

-- the bytes of a part are those of the block
little_from-drop : (b : List ℕ) (at i n : ℕ) → little_from i n (drop at b) ≡ little_from (at + i) n b
little_from-drop b at i zero = refl
little_from-drop b at i (suc n) =
    let rest : little_from (suc i) n (drop at b) ≡ little_from (suc (at + i)) n b = little_from-drop b at (suc i) n ∙ ap (λ k. little_from k n b) (omega arith) in
    rw (get_or-drop, rest) refl

pub number_at-read : (b : List ℕ) (at n : ℕ) → little_number n (slice_range b at (at + n)) ≡ number_at b at n
unfolding number_at
number_at-read b at n =
    ap (λ m. little_from 0 n (take m (drop at b))) (omega arith)
    ∙ little_from-take 0 n n (drop at b) (omega arith)
    ∙ little_from-drop b at 0 n
    ∙ ap (λ k. little_from k n b) (omega arith)

-- a number is below what its bytes can hold
pub number_at-lt : (b : List ℕ) (at n : ℕ) → ((k : ℕ) → slice_index b k < 256) → number_at b at n < 256 ^ n
unfolding number_at
number_at-lt b at n small = little_from-lt at n b small

-- a number that is put in is read again
pub number_at-with_number : (b : List ℕ) (i n v : ℕ) → i + n ≤ length b → v < 256 ^ n → number_at (with_number b i n v) i n ≡ v
unfolding number_at with_number
number_at-with_number b i n v inside fits =
    let front : length (take i b) ≡ i = length-take-le i b (omega arith) in
    let whole = take i b ++ little_bytes n v ++ drop (i + n) b in
    ap (λ k. little_from k n whole) (omega arith) ∙ sym (little_from-drop whole i 0 n)
    ∙ ap (λ (l : List ℕ). little_from 0 n (drop i l)) (append_assoc (take i b) (little_bytes n v) (drop (i + n) b))
    ∙ ap (λ (l : List ℕ). little_from 0 n l) (drop_at (take i b) (little_bytes n v ++ drop (i + n) b) i front)
    ∙ little_number-reads_back n v (drop (i + n) b) fits

-- no bytes hold nothing but 0
pub with_number-none : (b : List ℕ) (i n v : ℕ) → n ≡ 0 → b ≡ with_number b i n v
unfolding with_number
with_number-none b i n v none =
    sym (take-append-drop i b) ∙ ap (λ (l : List ℕ). l ++ drop i b) (sym (append-nil (take i b)))
    ∙ λ j. take i b ++ little_bytes (sym none j) v ++ drop (shifted j) b
  where
    shifted : i ≡ i + n
    shifted = omega (arith, none)

-- what a write to a part of the bytes leaves
pub put_mid-with_number : (b mid ys : List ℕ) (i n v : ℕ) → length mid ≤ n → ys ≡ little_bytes n v ++ drop n mid → put_mid i (i + n - i) b ys ≡ with_number b i n v
unfolding with_number
put_mid-with_number b mid ys i n v short is =
    let bytes : ys ≡ little_bytes n v = is ∙ ap (λ (l : List ℕ). little_bytes n v ++ l) (drop_all n mid short) ∙ append-nil (little_bytes n v) in
    put_mid-paste i (i + n - i) b ys (little_bytes n v) n bytes (omega arith) (sym (length-bytes_low_first 0 n v))
    ∙ ap (λ (l : List ℕ). take i b ++ l ++ drop (i + n) b) (take_all n (little_bytes n v) (omega (arith, length-bytes_low_first 0 n v)))

-- and no bytes hold 0 alone
pub number_at-none : (b : List ℕ) (i n v : ℕ) → n ≡ 0 → v < 256 ^ n → number_at b i n ≡ v
unfolding number_at
number_at-none b i n v none fits =
    let least : v < 256 ^ 0 = subst (λ k. v < 256 ^ k) none fits in
    ap (λ k. little_from i k b) none ∙ omega (arith, least)

pub length-with_number : (b : List ℕ) (i n v : ℕ) → i + n ≤ length b → length (with_number b i n v) ≡ length b
unfolding with_number
length-with_number b i n v inside =
    simp (length-append, length-take, length-drop, length-bytes_low_first) (omega arith)

-- what stands before a number stays
pub take-with_number : (b : List ℕ) (k i n v : ℕ) → k ≤ i → i ≤ length b → take k (with_number b i n v) ≡ take k b
unfolding with_number
take-with_number b k i n v before inside =
    ap (take k) (append_assoc (take i b) (little_bytes n v) (drop (i + n) b))
    ∙ take-append-le k (take i b) (little_bytes n v ++ drop (i + n) b) (omega (arith, length-take i b))
    ∙ take-take k i b before

-- a number that ends within the first k bytes
pub number_at-front : (a b : List ℕ) (i n k : ℕ) → i + n ≤ k → take k a ≡ take k b → number_at a i n ≡ number_at b i n
unfolding number_at
number_at-front a b i n k inside same =
    sym (little_from-take i n k a inside) ∙ ap (little_from i n) same ∙ little_from-take i n k b inside

-- a number that stands behind the first k bytes, seen from there
pub number_at-drop : (b : List ℕ) (k i n : ℕ) → number_at (drop k b) i n ≡ number_at b (k + i) n
unfolding number_at
number_at-drop b k i n = little_from-drop b k i n

-- the number whose bytes come first
pub number_at-first : (n v : ℕ) (rest : List ℕ) → v < 256 ^ n → number_at (little_bytes n v ++ rest) 0 n ≡ v
unfolding number_at
number_at-first n v rest fits = little_number-reads_back n v rest fits

-- one byte is its own number
pub number_at-byte : (b : List ℕ) (i : ℕ) → number_at b i 1 ≡ slice_index b i
unfolding number_at
number_at-byte b i = omega arith
