-- Lists over the offsets of all nodes of a file, band by band.
use Rattle.std.proofs.Common.{◌≡◌, ℕ, ◌+◌, ◌*◌, List, ◌++◌, refl, ap, ◌∙◌, arith}
use Rattle.std.specs.Prelude.{flat_map}
use Rattle.f2_bytes.specs.Bytes.{numbers_below}
use Rattle.f2_bytes.specs.Node.{offset_limit}
use Rattle.f2_view.proofs.Rows.{flat_map-parts, flat_map-one, flat_map-more, flat_map-rows}

pub limit-value : offset_limit ≡ 1039384
unfolding offset_limit
limit-value = refl

-- over w + 1 numbers, the first one by itself
first-one : {A : Type 0} (f : ℕ → List A) (w : ℕ) → flat_map f (numbers_below (1 + w)) ≡ f 0 ++ flat_map (λ j. f (1 + j)) (numbers_below w)
first-one f w = flat_map-parts f 1 w ∙ ap (λ l. l ++ flat_map (λ j. f (1 + j)) (numbers_below w)) (flat_map-one f)

-- the first four
four : {A : Type 0} (f : ℕ → List A) → flat_map f (numbers_below 4) ≡ f 0 ++ f 1 ++ f 2 ++ f 3
four f =
    flat_map-more f 3
    ∙ ap (λ l. l ++ f 3) (flat_map-more f 2 ∙ ap (λ l. l ++ f 2) (flat_map-more f 1 ∙ ap (λ l. l ++ f 1) (flat_map-one f)))

-- after the first n, so many rows, each with one number more than its width
rows : {A : Type 0} (f : ℕ → List A) (n w r : ℕ)
    → flat_map f (numbers_below (n + r * (1 + w))) ≡ flat_map f (numbers_below n) ++ flat_map (λ i. f (n + i * (1 + w)) ++ flat_map (λ j. f (n + i * (1 + w) + 1 + j)) (numbers_below w)) (numbers_below r)
rows f n w r =
    flat_map-parts f n (r * (1 + w))
    ∙ ap (λ l. flat_map f (numbers_below n) ++ l)
    (flat_map-rows (λ j. f (n + j)) r (1 + w)
    ∙ λ t. flat_map (λ i. row i t) (numbers_below r))
  where
    row : (i : ℕ) → flat_map (λ j. f (n + (i * (1 + w) + j))) (numbers_below (1 + w)) ≡ f (n + i * (1 + w)) ++ flat_map (λ j. f (n + i * (1 + w) + 1 + j)) (numbers_below w)
    row i =
        first-one (λ j. f (n + (i * (1 + w) + j))) w
        ∙ λ t. f (first i t) ++ flat_map (λ j. f (later i j t)) (numbers_below w)
      where
        first : (i : ℕ) → n + (i * (1 + w) + 0) ≡ n + i * (1 + w)
        first i = omega arith

        later : (i j : ℕ) → n + (i * (1 + w) + (1 + j)) ≡ n + i * (1 + w) + 1 + j
        later i j = omega arith

-- the bands of offsets, where a node has w words
pub bands : {A : Type 0} (f : ℕ → List A) (w : ℕ) → flat_map f (numbers_below ((((4 + w) + 1) + w) + 1 + w * (1 + w)))
    ≡ f 0 ++ f 1 ++ f 2 ++ f 3 ++ flat_map (λ j. f (4 + j)) (numbers_below w) ++ f (4 + w) ++ flat_map (λ j. f (4 + w + 1 + j)) (numbers_below w) ++ f (4 + w + 1 + w)
    ++ flat_map (λ i. f (4 + w + 1 + w + 1 + i * (1 + w)) ++ flat_map (λ j. f (4 + w + 1 + w + 1 + i * (1 + w) + 1 + j)) (numbers_below w)) (numbers_below w)
bands {A = A} f w =
    rows f (4 + w + 1 + w + 1) w w
    ∙ ap (λ l. l ++ last)
    (flat_map-more f (4 + w + 1 + w)
    ∙ ap (λ l. l ++ f (4 + w + 1 + w))
    (flat_map-parts f (4 + w + 1) w
    ∙ ap (λ l. l ++ flat_map (λ j. f (4 + w + 1 + j)) (numbers_below w))
    (flat_map-more f (4 + w)
    ∙ ap (λ l. l ++ f (4 + w)) (flat_map-parts f 4 w ∙ ap (λ l. l ++ flat_map (λ j. f (4 + j)) (numbers_below w)) (four f)))))
  where
    last : List A
    last = flat_map (λ i. f (4 + w + 1 + w + 1 + i * (1 + w)) ++ flat_map (λ j. f (4 + w + 1 + w + 1 + i * (1 + w) + 1 + j)) (numbers_below w)) (numbers_below w)
