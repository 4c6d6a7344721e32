-- The entries of a table as they are appended, one after the other and block after block.
use Rattle.std.proofs.Common.{◌≡◌, ℕ, zero, suc, ◌+◌, ◌-◌, ◌≤◌, ◌<◌, List, [], ◌∷◌, ◌++◌, map, length, refl, sym, ap, ◌∙◌, arith, append_assoc}
use Rattle.std.specs.List.{range_with_len}
use Rattle.std.proofs.lemmas.List.{map-append, length-append}
use Rattle.std.proofs.lemmas.List.FromFn.{map-range_with_len_more}
use Rattle.f2_bytes.specs.Bytes.{numbers_below}
use Rattle.f2_bytes.proofs.SetBits.{range-append}

-- one entry more
pub entry-more : {A B : Type 0} (f : A → B) (g : ℕ → B) (old : List B) (xs ys : List A) (x : A) (from n : ℕ) → from ≤ n
    → map f xs ≡ old ++ map g (range_with_len from (n - from)) → ys ≡ xs ++ x ∷ [] → f x ≡ g n
    → map f ys ≡ old ++ map g (range_with_len from (n + 1 - from))
entry-more f g old xs ys x from n low so_far pushed is =
    ap (map f) pushed
    ∙ map-append f xs (x ∷ [])
    ∙ (λ i. so_far i ++ (is i ∷ []))
    ∙ append_assoc old (map g (range_with_len from (n - from))) (g n ∷ [])
    ∙ ap (λ l. old ++ l) (sym (map-range_with_len_more g from (n - from) n (omega arith)))
    ∙ ap (λ k. old ++ map g (range_with_len from k)) (omega arith)

pub length-more : {A : Type 0} (xs ys : List A) (x : A) → ys ≡ xs ++ x ∷ [] → length ys ≡ length xs + 1
length-more xs ys x pushed = ap length pushed ∙ length-append xs (x ∷ [])

range-same : {B : Type 0} (g h : ℕ → B) (a n : ℕ) → ((k : ℕ) → a ≤ k → k < a + n → h k ≡ g k) → map h (range_with_len a n) ≡ map g (range_with_len a n)
range-same g h a zero same = refl
range-same g h a (suc n) same = λ i. same a (omega arith) (omega arith) i ∷ range-same g h (a + 1) n (λ k low high. same k (omega (arith, low)) (omega (arith, high))) i

-- before the first block
pub block-none : {A B : Type 0} (f : A → B) (g : ℕ → B) (xs : List A) → xs ≡ [] → map f xs ≡ map g (numbers_below 0)
unfolding numbers_below
block-none f g xs none = ap (map f) none

-- the entries of the numbers up to one more, where those of the last ones stand in a block
pub block-more : {A B : Type 0} (f : A → B) (g h : ℕ → B) (from to : ℕ) (xs ys : List A) → from ≤ to
    → map f xs ≡ map g (numbers_below from) → map f ys ≡ map f xs ++ map h (range_with_len from (to - from))
    → ((k : ℕ) → from ≤ k → k < to → h k ≡ g k)
    → map f ys ≡ map g (numbers_below to)
unfolding numbers_below
block-more f g h from to xs ys low so_far pushed same =
    pushed
    ∙ (λ i. so_far i ++ range-same g h from (to - from) (λ k first last. same k first (omega (arith, last, low))) i)
    ∙ sym (map-append g (range_with_len 0 from) (range_with_len from (to - from)))
    ∙ ap (map g) (sym (range-append 0 from (to - from) ∙ ap (λ k. range_with_len 0 from ++ range_with_len k (to - from)) (omega arith)))
    ∙ ap (λ k. map g (range_with_len 0 k)) (omega arith)
