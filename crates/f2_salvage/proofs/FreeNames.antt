-- Of a name and the same with numbers behind it one is free, where there are more of them than names.
use Rattle.std.proofs.Common.{◌≡◌, ℕ, suc, ◌+◌, ◌^◌, ◌<◌, List, [], ◌∷◌, Bool, true, false, ◌&&◌, ◌||◌, ◌==◌, cond, length, get_or, Option, Some, None, refl, sym, ap, ◌∙◌, arith}
use Rattle.std.specs.Prelude.{find, unwrap_or, is_none}
use Rattle.std.specs.List.{list_any}
use Rattle.std.specs.Str.{bytes_eq}
use Rattle.std.proofs.lemmas.Bool.{and_parts, eqb-true, false_from_ne_true}
use Rattle.std.proofs.lemmas.Slice.Eq.{bytes_eq-Decides}
use Rattle.f2_bytes.specs.Bytes.{numbers_below}
use Rattle.f2_bytes.proofs.Below.{length-numbers_below, get_or-numbers_below}
use Rattle.f2_bytes.proofs.CheckedChain.{find_none}
use Rattle.f2_bytes.proofs.FrameChain.{pigeons}
use Rattle.f2_bytes.specs.Claims.{Claim}
use Rattle.f2_bytes.specs.LostFiles.{numbered, first_numbered}
use Rattle.f2_salvage.proofs.FrameRoll.{first_below}
use Rattle.f2_salvage.proofs.NumberedNames.{numbered-injective}

-- the place of the first element that passes
index_of : {A : Type 0} → (A → Bool) → List A → ℕ
index_of p [] = 0
index_of p (x ∷ xs) = cond (p x) 0 (suc (index_of p xs))

index_of-below : {A : Type 0} (p : A → Bool) (xs : List A) → list_any p xs ≡ true → index_of p xs < length xs
unfolding index_of
index_of-below p [] h = absurd (cc h)
index_of-below p (x ∷ xs) h = go (p x) h (index_of-below p xs)
  where
    go : (b : Bool) → (b || list_any p xs) ≡ true → (list_any p xs ≡ true → index_of p xs < length xs) → cond b 0 (suc (index_of p xs)) < suc (length xs)
    go true h more = omega arith
    go false h more = let m = more h in omega (arith, m)

index_of-passes : {A : Type 0} (p : A → Bool) (xs : List A) (d : A) → list_any p xs ≡ true → p (get_or xs (index_of p xs) d) ≡ true
unfolding index_of
index_of-passes p [] d h = absurd (cc h)
index_of-passes p (x ∷ xs) d h = go (p x) refl h (index_of-passes p xs d)
  where
    go : (b : Bool) → p x ≡ b → (b || list_any p xs) ≡ true → (list_any p xs ≡ true → p (get_or xs (index_of p xs) d) ≡ true) → p (get_or (x ∷ xs) (cond b 0 (suc (index_of p xs))) d) ≡ true
    go true here h more = here
    go false here h more = more h

module _ (cs : List Claim) (directory : ℕ) (base : List ℕ) (small : length cs + 1 < 2 ^ 64) where
  -- whether the directory has the n-th name
  is_taken_by : ℕ → Claim → Bool
  is_taken_by n c = (c.directory == directory) && bytes_eq c.name (numbered base n)

  no_claim : Claim
  no_claim = record { directory = 0; name = []; target = 0 }

  not_all : ((n : ℕ) → n < length cs + 1 → list_any (is_taken_by n) cs ≡ true) → ⊥
  unfolding is_taken_by
  not_all taken = pigeons (λ n. index_of (is_taken_by n) cs) (length cs) (λ n below. index_of-below (is_taken_by n) cs (taken n below)) apart
    where
      named : (n : ℕ) → n < length cs + 1 → (get_or cs (index_of (is_taken_by n) cs) no_claim).name ≡ numbered base n
      named n below =
          let c = get_or cs (index_of (is_taken_by n) cs) no_claim in
          (bytes_eq-Decides c.name (numbered base n)).0 (and_parts (c.directory == directory) (bytes_eq c.name (numbered base n)) (index_of-passes (is_taken_by n) cs no_claim (taken n below))).1

      apart : (i j : ℕ) → i < j → j < length cs + 1 → (index_of (is_taken_by i) cs == index_of (is_taken_by j) cs) ≡ false
      apart i j before below = false_from_ne_true _ (λ e.
          let same : index_of (is_taken_by i) cs ≡ index_of (is_taken_by j) cs = eqb-true _ _ e in
          let names : numbered base i ≡ numbered base j = sym (named i (omega (arith, before, below))) ∙ ap (λ k. (get_or cs k no_claim).name) same ∙ named j below in
          let numbers = numbered-injective base i j (omega (arith, before, below, small)) (omega (arith, below, small)) names in
          omega (arith, numbers, before))

  -- a test that only a taken name can fail is passed by one of the first names
  pub first_free : (test : List ℕ → Bool) → ((name : List ℕ) → test name ≡ false → list_any (λ c. (c.directory == directory) && bytes_eq c.name name) cs ≡ true)
      → (n : ℕ) × (n < length cs + 1) × (first_numbered base (length cs + 1) test ≡ numbered base n) × (test (numbered base n) ≡ true)
  unfolding is_taken_by
  first_free test taken = go (find (λ n. test (numbered base n)) (numbers_below (length cs + 1))) refl
    where
      go : (o : Option ℕ) → find (λ n. test (numbered base n)) (numbers_below (length cs + 1)) ≡ o
          → (n : ℕ) × (n < length cs + 1) × (first_numbered base (length cs + 1) test ≡ numbered base n) × (test (numbered base n) ≡ true)
      go (Some n) e =
          let t = first_below (λ n. test (numbered base n)) (length cs + 1) n e in
          (n, t.0, ap (λ o. numbered base (unwrap_or o 0)) e, t.1)
      go None e = absurd (not_all (λ n below.
          taken (numbered base n)
          (ap (λ k. test (numbered base k)) (sym (get_or-numbers_below (length cs + 1) n 0 below))
          ∙ find_none (λ k. test (numbered base k)) (numbers_below (length cs + 1)) (ap is_none e) n 0 (rw length-numbers_below below))))
