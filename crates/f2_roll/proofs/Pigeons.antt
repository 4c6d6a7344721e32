-- More numbers than there are below a limit are not all different.
use Rattle.std.proofs.Common.{◌≡◌, ℕ, zero, suc, ◌+◌, ◌<◌, ◌≤◌, List, [], ◌∷◌, true, false, ◌==◌, length, get_or, map, refl, ap, ◌∙◌, arith}
use Rattle.std.specs.Prelude.{eqb}
use Rattle.std.specs.List.{list_any}
use Rattle.std.proofs.lemmas.Bool.{eqb-true}
use Rattle.std.proofs.lemmas.List.Folds.{Any-from_list_any}
use Rattle.std.proofs.lemmas.Map.Keys.{IsDistinct-from_apart}
use Rattle.std.proofs.lemmas.Map.Steps.{length-le_from_distinct_below}
use Rattle.f2_bytes.specs.Bytes.{numbers_below}
use Rattle.f2_bytes.proofs.Below.{length-numbers_below, get_or-numbers_below}

get_or-mapped : (f : ℕ → ℕ) (xs : List ℕ) (i d : ℕ) → i < length xs → get_or (map f xs) i d ≡ f (get_or xs i d)
get_or-mapped f [] i d low = absurd (omega (arith, low))
get_or-mapped f (x ∷ xs) zero d low = refl
get_or-mapped f (x ∷ xs) (suc i) d low = get_or-mapped f xs i d (omega (arith, low))

length-mapped : (f : ℕ → ℕ) (xs : List ℕ) → length (map f xs) ≡ length xs
length-mapped f [] = refl
length-mapped f (x ∷ xs) = ap suc (length-mapped f xs)

-- n + 1 numbers below n are not all different
pub pigeons : (f : ℕ → ℕ) (n : ℕ) → ((i : ℕ) → i < n + 1 → f i < n) → ((i j : ℕ) → i < j → j < n + 1 → (f i == f j) ≡ false) → ⊥
pigeons f n low apart =
    let few : length xs ≤ n = length-le_from_distinct_below xs n (IsDistinct-from_apart eqb xs distinct) below in
    omega (arith, len, few)
  where
    xs : List ℕ
    xs = map f (numbers_below (n + 1))

    len : length xs ≡ n + 1
    len = length-mapped f (numbers_below (n + 1)) ∙ length-numbers_below (n + 1)

    at : (i d : ℕ) → i < n + 1 → get_or xs i d ≡ f i
    at i d h = get_or-mapped f (numbers_below (n + 1)) i d (rw length-numbers_below h) ∙ ap f (get_or-numbers_below (n + 1) i d h)

    distinct : (i j d : ℕ) → i < j → j < length xs → eqb (get_or xs i d) (get_or xs j d) ≡ false
    distinct i j d h inside =
        let b : j < n + 1 = omega (arith, len, inside) in
        rw (at i d (omega (arith, h, b)), at j d b) (apart i j h b)

    below : (q : ℕ) → list_any (eqb q) xs ≡ true → q < n
    below q h =
        let found = Any-from_list_any (eqb q) xs h in
        let b : found.0 < n + 1 = omega (arith, len, found.2) in
        let e : q ≡ f found.0 = eqb-true q (get_or xs found.0 found.1) (ap (eqb q) found.3 ∙ found.4) ∙ at found.0 found.1 b in
        let l = low found.0 b in
        omega (arith, e, l)
