-- What is listed and counted when defects are added to those before.
use Rattle.std.proofs.Common.{◌≡◌, ℕ, zero, suc, ◌+◌, ◌-◌, ◌^◌, ◌≤◌, List, [], ◌∷◌, ◌++◌, length, take, min, refl, sym, ap, ◌∙◌, arith, length-append, ⊎_elim}
use Rattle.std.proofs.lemmas.List.{take-append-le, append-nil, length-take}
use Rattle.std.proofs.lemmas.Bool.{cases_lt}
use Rattle.std.proofs.Math.Nat.{min-eq_left, min-eq_right}
use Rattle.f2_bytes.specs.Check.{Defect}
use Rattle.f2_defects.specs.Collected.{Collection, Collects, most_listed}

take-nil : {A : Type 0} (n : ℕ) → take n (let e : List A = [] in e) ≡ []
take-nil zero = refl
take-nil (suc n) = refl

pub take-all : {A : Type 0} (n : ℕ) (xs : List A) → length xs ≤ n → take n xs ≡ xs
take-all n [] h = take-nil n
take-all zero (x ∷ xs) h = absurd (omega (arith, h))
take-all (suc n) (x ∷ xs) h = ap (λ l. x ∷ l) (take-all n xs (omega (arith, h)))

pub take-taken : {A : Type 0} (n m : ℕ) (xs : List A) → n ≤ m → take n (take m xs) ≡ take n xs
take-taken zero m xs h = refl
take-taken (suc n) zero xs h = absurd (omega (arith, h))
take-taken (suc n) (suc m) [] h = refl
take-taken (suc n) (suc m) (x ∷ xs) h = ap (λ l. x ∷ l) (take-taken n m xs (omega (arith, h)))

-- a cut of joined lists knows only the cut of each
pub take-of_taken : {A : Type 0} (n m : ℕ) (xs ys : List A) → n ≤ m → take n (take n xs ++ take m ys) ≡ take n (xs ++ ys)
take-of_taken zero m xs ys h = refl
take-of_taken (suc n) m [] ys h = take-taken (suc n) m ys h
take-of_taken (suc n) m (x ∷ xs) ys h = ap (λ l. x ∷ l) (take-of_taken n m xs ys (omega (arith, h)))

-- a list that is full stays as it is
pub take-full : {A : Type 0} (n : ℕ) (xs ys : List A) → length xs ≡ n → take n (xs ++ ys) ≡ xs
take-full n xs ys full = take-append-le n xs ys (omega (arith, full)) ∙ take-all n xs (omega (arith, full))

-- the second list fills the room that the first leaves
pub take-room : {A : Type 0} (n room : ℕ) (xs ys : List A) → length xs + room ≡ n → take n (xs ++ ys) ≡ xs ++ take room ys
take-room n room [] ys h = ap (λ k. take k ys) (omega (arith, h))
take-room zero room (x ∷ xs) ys h = absurd (omega (arith, h))
take-room (suc n) room (x ∷ xs) ys h = ap (λ l. x ∷ l) (take-room n room xs ys (omega (arith, h)))

pub take-min : {A : Type 0} (n : ℕ) (xs : List A) → take (min n (length xs)) xs ≡ take n xs
take-min n xs =
    ⊎_elim (λ below. ap (λ k. take k xs) (min-eq_left (omega (arith, below))))
    (λ past. ap (λ k. take k xs) (min-eq_right past) ∙ take-all (length xs) xs (omega arith) ∙ sym (take-all n xs past))
    (cases_lt n (length xs))

pub length-kept : (c : Collection) (defects : List Defect) → Collects c defects → length c.kept ≤ most_listed
length-kept c defects of = let e = ap length of.kept ∙ length-take most_listed defects in omega (arith, e)

-- what is collected of two lists of defects, joined
pub collects_both : (a b c : Collection) (first second : List Defect) → Collects a first → Collects b second
    → c.kept ≡ take most_listed (a.kept ++ b.kept) → c.count ≡ min (a.count + b.count) (2 ^ 64 - 1) → Collects c (first ++ second)
collects_both a b c first second of_a of_b kept count = record {
  kept = kept ∙ (λ i. take most_listed (of_a.kept i ++ of_b.kept i)) ∙ take-of_taken most_listed most_listed first second (omega arith);
  count = let l = length-append first second in let p = of_a.count in let q = of_b.count in omega (arith, count, l, p, q);
}

-- where nothing more is found
pub collects_same : (c : Collection) (defects : List Defect) → Collects c defects → Collects c (defects ++ [])
collects_same c defects of = record {
  kept = of.kept ∙ ap (take most_listed) (sym (append-nil defects));
  count = of.count ∙ ap (λ (l : List Defect). min (length l) (2 ^ 64 - 1)) (sym (append-nil defects));
}

-- what is collected of one defect more
pub collects_one : (old new : Collection) (defects : List Defect) (d : Defect) → Collects old defects
    → new.kept ≡ take most_listed (old.kept ++ d ∷ []) → new.count ≡ min (old.count + 1) (2 ^ 64 - 1) → Collects new (defects ++ d ∷ [])
collects_one old new defects d of kept count =
    collects_both old (record { part = 0; kept = d ∷ []; count = 1 }) new defects (d ∷ []) of (record { kept = refl; count = refl }) kept count
