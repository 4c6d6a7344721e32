-- Files with the numbers of their blocks, in lists.
use Rattle.std.proofs.Common.{◌≡◌, ℕ, zero, ◌<◌, List, [], ◌∷◌, Bool, true, false, ◌&&◌, filter, map, All, Some, None, refl, sym, ap, subst, ◌∙◌, arith}
use Rattle.std.specs.Prelude.{find, flat_map}
use Rattle.std.specs.List.{list_any}
use Rattle.std.proofs.lemmas.Bool.{and_parts, and_from, false≢true}
use Rattle.std.proofs.lemmas.List.Elements.{All-append, All-nil, All-cons, All-tail, All-map}
use Rattle.f2_bytes.specs.Bytes.{numbers_below}
use Rattle.f2_bytes.specs.Node.{most_blocks}
use Rattle.f2_bytes.specs.Defragment.{all_places}
use Rattle.f2_bytes.proofs.Below.{length-numbers_below, get_or-numbers_below, some_below, found_below}
use Rattle.f2_gather.proofs.Ascending.{any-flat_map, any-map, any-filter}

-- ---- what is found

pub find_only : {A : Type 0} (p : A → Bool) (xs : List A) (x : A) → list_any p xs ≡ true → All (λ y. p y ≡ true → y ≡ x) xs → find p xs ≡ Some x
find_only p [] x some only = absurd (cc some)
find_only p (y ∷ ys) x some only = go (p y) refl (λ rest. find_only p ys x rest (All-tail (λ z. p z ≡ true → z ≡ x) y ys only))
  where
    go : (b : Bool) → p y ≡ b → (list_any p ys ≡ true → find p ys ≡ Some x) → find p (y ∷ ys) ≡ Some x
    go true e more = rw e (ap Some (only zero y (omega arith) e))
    go false e more =
        let rest : list_any p ys ≡ true = rw e at some in
        rw e (more rest)

pub find_absent : {A : Type 0} (p : A → Bool) (xs : List A) → list_any p xs ≡ false → find p xs ≡ None
find_absent p [] none = refl
find_absent p (y ∷ ys) none = go (p y) refl (λ rest. find_absent p ys rest)
  where
    go : (b : Bool) → p y ≡ b → (list_any p ys ≡ false → find p ys ≡ None) → find p (y ∷ ys) ≡ None
    go true e more =
        let no : true ≡ false = rw e at none in
        absurd (false≢true (sym no))
    go false e more =
        let rest : list_any p ys ≡ false = rw e at none in
        rw e (more rest)

-- ---- all of a list

pub All-flat_map : {X A : Type 0} (P : A → Type 0) (f : X → List A) (xs : List X) → All (λ x. All P (f x)) xs → All P (flat_map f xs)
All-flat_map P f [] all = All-nil P
All-flat_map P f (x ∷ xs) all = All-append P (f x) (flat_map f xs) (all zero x (omega arith)) (All-flat_map P f xs (All-tail (λ y. All P (f y)) x xs all))

All-where : {A : Type 0} (P : A → Type 0) (t : A → Bool) (xs : List A) → All (λ x. t x ≡ true → P x) xs → All P (filter t xs)
All-where P t [] all = All-nil P
All-where P t (x ∷ xs) all = go (t x) refl (All-where P t xs (All-tail (λ y. t y ≡ true → P y) x xs all))
  where
    go : (b : Bool) → t x ≡ b → All P (filter t xs) → All P (filter t (x ∷ xs))
    go true e rest = rw e (All-cons P x (filter t xs) (all zero x (omega arith) e) rest)
    go false e rest = rw e rest

All-below : (P : ℕ → Type 0) (n : ℕ) → ((k : ℕ) → k < n → P k) → All P (numbers_below n)
All-below P n all = λ k d h.
    let below : k < n = rw length-numbers_below at h in
    subst P (sym (get_or-numbers_below n k d below)) (all k below)

pub filter_same : {A : Type 0} (p q : A → Bool) (xs : List A) → All (λ x. p x ≡ q x) xs → filter p xs ≡ filter q xs
filter_same p q [] all = refl
filter_same p q (x ∷ xs) all = go (p x) refl (filter_same p q xs (All-tail (λ y. p y ≡ q y) x xs all))
  where
    here : p x ≡ q x
    here = all zero x (omega arith)

    go : (b : Bool) → p x ≡ b → filter p xs ≡ filter q xs → filter p (x ∷ xs) ≡ filter q (x ∷ xs)
    go true e rest = rw (e, sym here ∙ e) (ap (λ l. x ∷ l) rest)
    go false e rest = rw (e, sym here ∙ e) rest

-- ---- files that pass, with all numbers of blocks

-- a file with each number of a block
abbrev pub blocks_of : ℕ → List (ℕ × ℕ)
blocks_of ino = map (λ k. (ino, k)) (numbers_below most_blocks)

module _ (n : ℕ) (t : ℕ → Bool) where
  abbrev pub places : List (ℕ × ℕ)
  places = flat_map blocks_of (filter t (numbers_below n))

  pub place_there : (p : ℕ × ℕ → Bool) (ino k : ℕ) → ino < n → t ino ≡ true → k < most_blocks → p (ino, k) ≡ true → list_any p places ≡ true
  place_there p ino k low passes within here =
      let some = λ (i : ℕ). list_any p (blocks_of i) in
      let of_file : some ino ≡ true = any-map p (λ j. (ino, j)) (numbers_below most_blocks) ∙ some_below (λ j. p (ino, j)) most_blocks k within here in
      any-flat_map p blocks_of (filter t (numbers_below n)) ∙ any-filter some t (numbers_below n) ∙ some_below (λ i. t i && some i) n ino low (and_from (t ino) (some ino) passes of_file)

  pub place_found : (p : ℕ × ℕ → Bool) → list_any p places ≡ true → (ino k : ℕ) × (ino < n) × (t ino ≡ true) × (k < most_blocks) × (p (ino, k) ≡ true)
  place_found p here =
      let some = λ (i : ℕ). list_any p (blocks_of i) in
      let file = found_below (λ i. t i && some i) n (sym (any-flat_map p blocks_of (filter t (numbers_below n)) ∙ any-filter some t (numbers_below n)) ∙ here) in
      let parts = and_parts (t file.0) (some file.0) file.2 in
      let block = found_below (λ j. p (file.0, j)) most_blocks (sym (any-map p (λ j. (file.0, j)) (numbers_below most_blocks)) ∙ parts.1) in
      (file.0, block.0, file.1, parts.0, block.1, block.2)

  pub All-places : (P : ℕ × ℕ → Type 0) → ((ino k : ℕ) → ino < n → t ino ≡ true → k < most_blocks → P (ino, k)) → All P places
  All-places P all =
      All-flat_map P blocks_of (filter t (numbers_below n))
      (All-where (λ ino. All P (blocks_of ino)) t (numbers_below n)
      (All-below (λ ino. t ino ≡ true → All P (blocks_of ino)) n
      (λ ino low passes. All-map P (λ k. (ino, k)) (numbers_below most_blocks) (All-below (λ k. P (ino, k)) most_blocks (λ k within. all ino k low passes within)))))

all_pass : (xs : List ℕ) → filter (λ _. true) xs ≡ xs
all_pass [] = refl
all_pass (x ∷ xs) = ap (λ ys. x ∷ ys) (all_pass xs)

-- the places of all files
pub all_places-are : (n : ℕ) → places n (λ _. true) ≡ all_places n
unfolding all_places
all_places-are n = ap (flat_map blocks_of) (all_pass (numbers_below n))
