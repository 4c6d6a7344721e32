-- Lists over the numbers below a limit, in parts and in rows.
use Rattle.std.proofs.Common.{◌≡◌, ℕ, zero, suc, ◌+◌, ◌*◌, ◌<◌, List, [], ◌∷◌, ◌++◌, refl, sym, ap, ◌∙◌, arith, append-nil}
use Rattle.std.specs.Prelude.{flat_map}
use Rattle.std.specs.List.{range_with_len}
use Rattle.std.proofs.lemmas.List.Concat.{flat_map-append}
use Rattle.f2_bytes.specs.Bytes.{numbers_below}
use Rattle.f2_bytes.proofs.SetBits.{range-append}
use Rattle.f2_pack.proofs.PackReads.{flat_map_range}

range-shift : {A : Type 0} (f : ℕ → List A) (a b n : ℕ) → flat_map f (range_with_len (a + b) n) ≡ flat_map (λ j. f (a + j)) (range_with_len b n)
range-shift f a b zero = refl
range-shift f a b (suc n) =
    ap (λ l. f (a + b) ++ l) (ap (λ k. flat_map f (range_with_len k n)) (omega arith) ∙ range-shift f a (b + 1) n)

-- those below n, and as many more
pub flat_map-parts : {A : Type 0} (f : ℕ → List A) (n m : ℕ) → flat_map f (numbers_below (n + m)) ≡ flat_map f (numbers_below n) ++ flat_map (λ j. f (n + j)) (numbers_below m)
unfolding numbers_below
flat_map-parts f n m =
    ap (flat_map f) (range-append 0 n m)
    ∙ flat_map-append f (range_with_len 0 n) (range_with_len (0 + n) m)
    ∙ ap (λ l. flat_map f (range_with_len 0 n) ++ l) (ap (λ k. flat_map f (range_with_len k m)) (omega arith) ∙ range-shift f n 0 m)

pub flat_map-one : {A : Type 0} (f : ℕ → List A) → flat_map f (numbers_below 1) ≡ f 0
unfolding numbers_below
flat_map-one f = append-nil (f 0)

-- one number more
pub flat_map-more : {A : Type 0} (f : ℕ → List A) (n : ℕ) → flat_map f (numbers_below (n + 1)) ≡ flat_map f (numbers_below n) ++ f n
flat_map-more f n =
    flat_map-parts f n 1
    ∙ ap (λ l. flat_map f (numbers_below n) ++ l) (flat_map-one (λ j. f (n + j)) ∙ ap f (omega arith))

pub flat_map-same : {A : Type 0} (f g : ℕ → List A) (n : ℕ) → ((j : ℕ) → j < n → f j ≡ g j) → flat_map f (numbers_below n) ≡ flat_map g (numbers_below n)
unfolding numbers_below
flat_map-same f g n same = flat_map_range g f 0 n (λ j low high. same j (omega (arith, high)))

pub flat_map-nothing : {X A : Type 0} (f : X → List A) (xs : List X) → ((x : X) → f x ≡ []) → flat_map f xs ≡ []
flat_map-nothing f [] none = refl
flat_map-nothing f (x ∷ xs) none = λ i. none x i ++ flat_map-nothing f xs none i

-- rows of so many numbers each
pub flat_map-rows : {A : Type 0} (f : ℕ → List A) (rows width : ℕ) → flat_map f (numbers_below (rows * width)) ≡ flat_map (λ j. flat_map (λ i. f (j * width + i)) (numbers_below width)) (numbers_below rows)
unfolding numbers_below
flat_map-rows {A = A} f zero width = ap (λ k. flat_map f (range_with_len 0 k)) (let none : zero * width ≡ 0 = omega arith in none)
flat_map-rows {A = A} f (suc rows) width =
    ap (λ k. flat_map f (numbers_below k)) (let one : suc rows * width ≡ rows * width + width = omega arith in one)
    ∙ flat_map-parts f (rows * width) width
    ∙ ap (λ l. l ++ flat_map (λ i. f (rows * width + i)) (numbers_below width)) (flat_map-rows f rows width)
    ∙ sym (ap (λ k. flat_map row (numbers_below k)) (let one : suc rows ≡ rows + 1 = omega arith in one) ∙ flat_map-more row rows)
  where
    row : ℕ → List A
    row j = flat_map (λ i. f (j * width + i)) (numbers_below width)
