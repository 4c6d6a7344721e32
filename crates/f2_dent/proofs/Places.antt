-- The first place that is free, block by block and level by level.
use Rattle.std.proofs.Common.{◌≡◌, ◌⊎◌, inl, inr, ℕ, zero, suc, ◌+◌, ◌-◌, ◌≤◌, ◌<◌, Bool, true, false, List, [], ◌∷◌, ◌++◌, refl, sym, ap, ◌∙◌, subst, arith}
use Rattle.std.specs.Prelude.{cond, find, map, flat_map, Option, Some, None}
use Rattle.std.specs.List.{range_with_len}
use Rattle.std.specs.Option.{option_map, option_or}
use Rattle.std.proofs.lemmas.Bool.{le-leb, leb-true, and_parts, cases_lt}
use Rattle.std.proofs.lemmas.List.Concat.{flat_map-append}
use Rattle.std.proofs.lemmas.List.Folds.{find-append}
use Rattle.f2_bytes.specs.Buckets.{Placed, places_in_level, bucket_start, bucket_blocks, level_start}
use Rattle.f2_bytes.specs.Bytes.{Block, numbers_below}
use Rattle.f2_bytes.proofs.Finds.{find-least}
use Rattle.f2_bytes.proofs.SetBits.{range-append}
use Rattle.f2_dent.specs.Pages.{is_run}
use Rattle.f2_dent.proofs.LevelStarts.{bucket_within, start_le}
use Rattle.f2_dent.specs.Places.{Blocks, is_free, has_place, place_at, places_in, places_from, level_places}

pub none_free : (block : Option Block) (slots : ℕ) → None ≡ block → slots ≤ 214 → Some 0 ≡ find (is_free block slots) (numbers_below 214)
none_free block slots is few = sym (find-least (is_free block slots) 214 0 (omega arith) (sym (ap (λ (b : Option Block). is_free b slots 0) is) ∙ le-leb (0 + slots) 214 (omega (arith, few))) (λ m below. absurd (omega (arith, below))))

-- the same tests find the same
pub find_same : {X : Type 0} (p q : X → Bool) → ((x : X) → p x ≡ q x) → (xs : List X) → find p xs ≡ find q xs
find_same p q same [] = refl
find_same p q same (x ∷ xs) = λ i. cond (same x i) (Some x) (find_same p q same xs i)

pub find-map : {X Y : Type 0} (p : Y → Bool) (f : X → Y) (xs : List X) → find p (map f xs) ≡ option_map f (find (λ x. p (f x)) xs)
find-map p f [] = refl
find-map {X} {Y} p f (x ∷ xs) = ap (cond (p (f x)) (Some (f x))) (find-map p f xs) ∙ either (p (f x))
  where
    either : (b : Bool) → cond b (Some (f x)) (option_map f (find (λ y. p (f y)) xs)) ≡ option_map f (cond b (Some x) (find (λ y. p (f y)) xs))
    either true = refl
    either false = refl

-- the first place in one block
pub find_in_block : (blocks : Blocks) (slots k : ℕ) → find (has_place blocks) (places_in slots k) ≡ option_map (λ slot. place_at slots (k, slot)) (find (is_free (blocks k) slots) (numbers_below 214))
unfolding places_in numbers_below
find_in_block blocks slots k = find-map (has_place blocks) (λ slot. place_at slots (k, slot)) (range_with_len 0 214)

-- ---- lists one after the other, for the numbers of a range
flat_more : {X : Type 0} (f : ℕ → List X) (a n m : ℕ) → flat_map f (range_with_len a (n + m)) ≡ flat_map f (range_with_len a n) ++ flat_map f (range_with_len (a + n) m)
flat_more f a n m = ap (flat_map f) (range-append a n m) ∙ flat_map-append f (range_with_len a n) (range_with_len (a + n) m)

find_more : {X : Type 0} (p : X → Bool) (f : ℕ → List X) (a n m : ℕ) → find p (flat_map f (range_with_len a n)) ≡ None → find p (flat_map f (range_with_len a (n + m))) ≡ find p (flat_map f (range_with_len (a + n) m))
find_more p f a n m none =
    ap (find p) (flat_more f a n m) ∙ find-append p (flat_map f (range_with_len a n)) (flat_map f (range_with_len (a + n) m))
    ∙ ap (λ o. option_or o (find p (flat_map f (range_with_len (a + n) m)))) none

find_next : {X : Type 0} (p : X → Bool) (f : ℕ → List X) (a m : ℕ) → find p (flat_map f (range_with_len a (suc m))) ≡ option_or (find p (f a)) (find p (flat_map f (range_with_len (a + 1) m)))
find_next p f a m = find-append p (f a) (flat_map f (range_with_len (a + 1) m))

pub flat_found : {X : Type 0} (p : X → Bool) (f : ℕ → List X) (a n m : ℕ) (x : X) → find p (flat_map f (range_with_len a n)) ≡ None → n < m → find p (f (a + n)) ≡ Some x → find p (flat_map f (range_with_len a m)) ≡ Some x
flat_found p f a n m x none below found =
    ap (λ k. find p (flat_map f (range_with_len a k))) (omega (arith, below))
    ∙ find_more p f a n (suc (m - suc n)) none ∙ find_next p f (a + n) (m - suc n)
    ∙ ap (λ o. option_or o (find p (flat_map f (range_with_len (a + n + 1) (m - suc n))))) found

pub flat_none : {X : Type 0} (p : X → Bool) (f : ℕ → List X) (a n : ℕ) → find p (flat_map f (range_with_len a n)) ≡ None → find p (f (a + n)) ≡ None → find p (flat_map f (range_with_len a (n + 1))) ≡ None
flat_none p f a n none here = find_more p f a n 1 none ∙ find_next p f (a + n) 0 ∙ ap (λ o. option_or o None) here

-- ---- the blocks of a bucket
module _ (old now : Blocks) (slots first block : ℕ) (same : (k : ℕ) → now k ≡ old k) (low : first ≤ block) (none : find (has_place old) (places_from slots first (block - first)) ≡ None) where
  here : find (has_place old) (places_in slots (first + (block - first))) ≡ option_map (λ slot. place_at slots (block, slot)) (find (is_free (now block) slots) (numbers_below 214))
  here =
      let is : first + (block - first) ≡ block = omega (arith, low) in
      ap (λ k. find (has_place old) (places_in slots k)) is ∙ find_in_block old slots block
      ∙ ap (λ (b : Option Block). option_map (λ slot. place_at slots (block, slot)) (find (is_free b slots) (numbers_below 214))) (sym (same block))

  pub blocks_found : (n slot : ℕ) → block < first + n → Some slot ≡ find (is_free (now block) slots) (numbers_below 214) → Some (place_at slots (block, slot)) ≡ find (has_place old) (places_from slots first n)
  unfolding places_from
  blocks_found n slot below found =
      sym (flat_found (has_place old) (λ j. places_in slots (first + j)) 0 (block - first) n (place_at slots (block, slot)) none (omega (arith, low, below))
      (ap (λ j. find (has_place old) (places_in slots (first + j))) (omega arith) ∙ here ∙ ap (option_map (λ s. place_at slots (block, s))) (sym found)))

  pub blocks_next : None ≡ find (is_free (now block) slots) (numbers_below 214) → find (has_place old) (places_from slots first (block + 1 - first)) ≡ None
  unfolding places_from
  blocks_next found =
      ap (λ n. find (has_place old) (flat_map (λ j. places_in slots (first + j)) (range_with_len 0 n))) (omega (arith, low))
      ∙ flat_none (has_place old) (λ j. places_in slots (first + j)) 0 (block - first) none
      (ap (λ j. find (has_place old) (places_in slots (first + j))) (omega arith) ∙ here ∙ ap (option_map (λ s. place_at slots (block, s))) (sym found))

pub blocks_none : (old : Blocks) (slots first n : ℕ) → n ≡ 0 → find (has_place old) (places_from slots first n) ≡ None
unfolding places_from
blocks_none old slots first n is = ap (λ k. find (has_place old) (flat_map (λ j. places_in slots (first + j)) (range_with_len 0 k))) is

-- ---- the levels
level_is : (hash slots level : ℕ) → places_in_level hash slots level ≡ places_from slots (bucket_start level 0 hash) (bucket_blocks level)
unfolding places_from places_in
level_is hash slots level = refl

module _ (old now : Blocks) (hash slots from level first blocks : ℕ) (same : (k : ℕ) → now k ≡ old k) (low : from ≤ level) (none : find (has_place old) (level_places hash slots from (level - from)) ≡ None)
    (bucket : ◌≡◌ {A = ℕ × ℕ} (first, blocks) (bucket_start level 0 hash, bucket_blocks level)) where
  in_level : find (has_place old) (places_in_level hash slots (from + (level - from))) ≡ find (has_place now) (places_from slots first blocks)
  in_level =
      let is : from + (level - from) ≡ level = omega (arith, low) in
      ap (λ l. find (has_place old) (places_in_level hash slots l)) is ∙ ap (find (has_place old)) (level_is hash slots level)
      ∙ ap (λ (b : ℕ × ℕ). find (has_place old) (places_from slots b.0 b.1)) (sym bucket)
      ∙ sym (find_same (has_place now) (has_place old) (λ p. ap (λ (b : Option Block). is_free b p.slots p.slot) (same p.block)) (places_from slots first blocks))

  pub levels_found : (n : ℕ) (x : Placed) → level < from + n → Some x ≡ find (has_place now) (places_from slots first blocks) → Some x ≡ find (has_place old) (level_places hash slots from n)
  unfolding level_places
  levels_found n x below found = sym (flat_found (has_place old) (places_in_level hash slots) from (level - from) n x none (omega (arith, low, below)) (in_level ∙ sym found))

  pub levels_next : None ≡ find (has_place now) (places_from slots first blocks) → find (has_place old) (level_places hash slots from (level + 1 - from)) ≡ None
  unfolding level_places
  levels_next found =
      ap (λ n. find (has_place old) (flat_map (places_in_level hash slots) (range_with_len from n))) (omega (arith, low))
      ∙ flat_none (has_place old) (places_in_level hash slots) from (level - from) none (in_level ∙ sym found)

pub levels_none : (old : Blocks) (hash slots from n : ℕ) → n ≡ 0 → find (has_place old) (level_places hash slots from n) ≡ None
unfolding level_places
levels_none old hash slots from n is = ap (λ k. find (has_place old) (flat_map (places_in_level hash slots) (range_with_len from k))) is

-- where nothing is found in the first levels
pub levels_more : (old : Blocks) (hash slots from levels : ℕ) → from ≤ levels → find (has_place old) (level_places hash slots 0 from) ≡ None → find (has_place old) (level_places hash slots 0 levels) ≡ find (has_place old) (level_places hash slots from (levels - from))
unfolding level_places
levels_more old hash slots from levels low none =
    let all : levels ≡ from + (levels - from) = omega (arith, low) in
    let start : 0 + from ≡ from = omega arith in
    ap (λ n. find (has_place old) (flat_map (places_in_level hash slots) (range_with_len 0 n))) all
    ∙ find_more (has_place old) (places_in_level hash slots) 0 from (levels - from) none
    ∙ ap (λ a. find (has_place old) (flat_map (places_in_level hash slots) (range_with_len a (levels - from)))) start

-- at the end of the levels, also where there are none
pub levels_all : (old : Blocks) (hash slots from level levels : ℕ) → (from ≤ levels → level ≤ levels) → levels ≤ level → find (has_place old) (level_places hash slots from (level - from)) ≡ None → None ≡ find (has_place old) (level_places hash slots from (levels - from))
levels_all old hash slots from level levels high last none = elim (cases_lt levels from) [
  | inl above ↦ sym (levels_none old hash slots from (levels - from) (omega (arith, above)))
  | inr within ↦ sym none ∙ ap (λ n. find (has_place old) (level_places hash slots from n)) (omega (arith, within, high within, last))
]

-- ---- what is found

passes_by : {X : Type 0} (p : X → Bool) (rest : Option X) (y x : X) (b : Bool) → p y ≡ b → (rest ≡ Some x → p x ≡ true) → cond b (Some y) rest ≡ Some x → p x ≡ true
passes_by p rest y x true passes later is = let e : y ≡ x = cc in subst (λ z. p z ≡ true) e passes
passes_by p rest y x false fails later is = later is

pub find_passes : {X : Type 0} (p : X → Bool) (xs : List X) (x : X) → find p xs ≡ Some x → p x ≡ true
find_passes p [] x is = cc
find_passes p (y ∷ ys) x is = passes_by p (find p ys) y x (p y) refl (λ later. find_passes p ys x later) is

pub option_of : {X Y : Type 0} (f : X → Y) (o : Option X) (y : Y) → option_map f o ≡ Some y → (x : X) × (f x ≡ y)
option_of f None y is = cc
option_of f (Some x) y is = (x, cc)

or_of : {X : Type 0} (o q : Option X) (x : X) → option_or o q ≡ Some x → (o ≡ Some x) ⊎ (q ≡ Some x)
or_of None q x is = inr is
or_of (Some y) q x is = inl is

pub flat_of : {X : Type 0} (p : X → Bool) (f : ℕ → List X) (a n : ℕ) (x : X) → find p (flat_map f (range_with_len a n)) ≡ Some x → (k : ℕ) × (a ≤ k) × (k < a + n) × (find p (f k) ≡ Some x)
flat_of p f a zero x is = cc
flat_of p f a (suc n) x is = elim (or_of _ _ x (sym (find_next p f a n) ∙ is)) [
  | inl here ↦ (a, omega arith, omega arith, here)
  | inr later ↦
      let rest = flat_of p f (a + 1) n x later in
      (rest.0, omega (arith, rest.1), omega (arith, rest.2), rest.3)
]

-- a place that is found in a bucket is in one of its blocks
pub place_of_bucket : (blocks : Blocks) (slots first n : ℕ) (x : Placed) → find (has_place blocks) (places_from slots first n) ≡ Some x → (x.block < first + n) × (x.slots ≡ slots)
unfolding places_from
place_of_bucket blocks slots first n x is =
    let at = flat_of (has_place blocks) (λ j. places_in slots (first + j)) 0 n x is in
    let slot = option_of (λ s. place_at slots (first + at.0, s)) (find (is_free (blocks (first + at.0)) slots) (numbers_below 214)) x (sym (find_in_block blocks slots (first + at.0)) ∙ at.3) in
    let block : first + at.0 ≡ x.block = ap (λ (p : Placed). p.block) slot.1 in
    (omega (arith, block, at.2), ap (λ (p : Placed). p.slots) (sym slot.1))

pub place_of_levels : (blocks : Blocks) (hash slots levels : ℕ) (x : Placed) → find (has_place blocks) (level_places hash slots 0 levels) ≡ Some x → (x.block < level_start levels 0) × (x.slots ≡ slots)
unfolding level_places
place_of_levels blocks hash slots levels x is =
    let at = flat_of (has_place blocks) (places_in_level hash slots) 0 levels x is in
    let level : ℕ = at.0 in
    let there = place_of_bucket blocks slots (bucket_start level 0 hash) (bucket_blocks level) x (ap (find (has_place blocks)) (sym (level_is hash slots level)) ∙ at.3) in
    (omega (arith, there.0, bucket_within level hash, start_le (level + 1) levels (omega (arith, at.2))), there.1)

-- a place that is free lies within its block
pub place_within : (block : Option Block) (slots slot : ℕ) → is_free block slots slot ≡ true → slot + slots ≤ 214
unfolding is_run
place_within None slots slot is = leb-true (slot + slots) 214 is
place_within (Some b) slots slot is = leb-true (slot + slots) 214 (and_parts _ _ is).0
