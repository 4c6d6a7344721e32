-- The blocks that are marked for the numbers of a map.
use Rattle.std.proofs.Common.{◌≡◌, inl, inr, ℕ, ◌+◌, ◌/◌, ◌≤◌, ◌<◌, Bool, true, false, cond, List, [], ◌∷◌, set, ◌++◌, length, get_or, filter, Option, Some, None, refl, sym, ap, ◌∙◌, arith, get_or-set_same, get_or-set_other}
use Rattle.std.specs.Prelude.{nat_lt, ◌==◌, ◌&&◌, ◌||◌, is_some, option_map}
use Rattle.std.specs.List.{list_any, range_with_len}
use Rattle.std.specs.Set.{is_member}
use Rattle.std.specs.Ordering.{nat_cmp, eq_by_cmp}
use Rattle.std.specs.Cmp.{unsigned_tied}
use Rattle.std.proofs.lemmas.Bool.{cases_eq, ne_eqb, and_parts, lt-ltb, le-ltb, ltb-true, eq-eqb, eqb-true}
use Rattle.std.proofs.lemmas.List.Folds.{Any-from_list_any, list_any_at}
use Rattle.std.proofs.lemmas.List.{map-id}
use Rattle.std.proofs.lemmas.List.FromFn.{filter_of_map_range_with_len_more}
use Rattle.f2_bytes.specs.Bytes.{numbers_below}
use Rattle.f2_bytes.proofs.Below.{some_below, found_below}
use Rattle.f2_tables.specs.Tables.{value_at, is_dirty}

-- a number below the limit lies in block k
abbrev pub lies_in : ℕ → ℕ → ℕ → ℕ → Bool
lies_in entries limit k n = nat_lt n limit && (n / entries == k)

-- block k is marked, or a number that is left lies in it
abbrev pub marked_by : ℕ → ℕ → List Bool → List ℕ → ℕ → Bool
marked_by entries limit marks left k = get_or marks k false || list_any (lies_in entries limit k) left

-- the marks after one number more
set_mark : (marks : List Bool) (j k : ℕ) → j < length marks → get_or (set marks j true) k false ≡ (get_or marks k false || (j == k))
set_mark marks j k inside = elim (cases_eq j k) [
  | inl same ↦
      ap (λ i. get_or (set marks j true) i false) (sym same) ∙ get_or-set_same marks j true false inside
      ∙ sym (or_true (get_or marks k false) (j == k) (eq-eqb j k same))
  | inr other ↦
      get_or-set_other marks j k true false (λ e. other (sym e))
      ∙ sym (or_false (get_or marks k false) (j == k) (ne_eqb j k other))
]
  where
    or_true : (a b : Bool) → b ≡ true → (a || b) ≡ true
    or_true true b is = refl
    or_true false b is = is

    or_false : (a b : Bool) → b ≡ false → (a || b) ≡ a
    or_false true b is = refl
    or_false false b is = is

pub mark_more : (entries limit : ℕ) (marks : List Bool) (n : ℕ) (rest : List ℕ) (k : ℕ) → n < limit → n / entries < length marks
    → marked_by entries limit (set marks (n / entries) true) rest k ≡ marked_by entries limit marks (n ∷ rest) k
mark_more entries limit marks n rest k low inside =
    ap (λ b. b || list_any (lies_in entries limit k) rest) (set_mark marks (n / entries) k inside)
    ∙ moved (get_or marks k false) (nat_lt n limit) (n / entries == k) (list_any (lies_in entries limit k) rest) (lt-ltb n limit low)
  where
    moved : (a l b c : Bool) → l ≡ true → ((a || b) || c) ≡ (a || ((l && b) || c))
    moved true l b c is = refl
    moved false true b c is = refl
    moved false false b c is = cc

pub mark_none : (entries limit : ℕ) (marks : List Bool) (n : ℕ) (rest : List ℕ) (k : ℕ) → limit ≤ n
    → marked_by entries limit marks rest k ≡ marked_by entries limit marks (n ∷ rest) k
mark_none entries limit marks n rest k high =
    moved (get_or marks k false) (nat_lt n limit) (n / entries == k) (list_any (lies_in entries limit k) rest) (le-ltb n limit high)
  where
    moved : (a l b c : Bool) → l ≡ false → (a || c) ≡ (a || ((l && b) || c))
    moved true l b c is = refl
    moved false false b c is = refl
    moved false true b c is = cc

either_way : (a b : Bool) → (a ≡ true → b ≡ true) → (b ≡ true → a ≡ true) → a ≡ b
either_way true b to from = sym (to refl)
either_way false true to from = from refl
either_way false false to from = refl

-- the numbers in a block are those with a value there
pub marks-dirty : {E : Type 0} (entries limit k : ℕ) (keys : List ℕ) (pairs : List (ℕ × E)) → ((q : ℕ) → is_some (value_at pairs q) ≡ is_member (eq_by_cmp nat_cmp) keys q)
    → list_any (lies_in entries limit k) keys ≡ is_dirty entries limit (value_at pairs) k
marks-dirty entries limit k keys pairs has = either_way (list_any (lies_in entries limit k) keys) (is_dirty entries limit (value_at pairs) k) to from
  where
    to : list_any (lies_in entries limit k) keys ≡ true → is_dirty entries limit (value_at pairs) k ≡ true
    to h =
        let found = Any-from_list_any (lies_in entries limit k) keys h in
        let n = found.1 in
        let parts = and_parts (nat_lt n limit) (n / entries == k) found.4 in
        let tied : eq_by_cmp nat_cmp n (get_or keys found.0 n) ≡ true = unsigned_tied n (get_or keys found.0 n) ∙ eq-eqb n (get_or keys found.0 n) (sym found.3) in
        let member : is_some (value_at pairs n) ≡ true = has n ∙ list_any_at (eq_by_cmp nat_cmp n) keys found.0 n found.2 tied in
        some_below (λ m. (m / entries == k) && is_some (value_at pairs m)) limit n (ltb-true n limit parts.0) (λ i. parts.1 i && member i)

    from : is_dirty entries limit (value_at pairs) k ≡ true → list_any (lies_in entries limit k) keys ≡ true
    from h =
        let found = found_below (λ m. (m / entries == k) && is_some (value_at pairs m)) limit h in
        let n = found.0 in
        let parts = and_parts (n / entries == k) (is_some (value_at pairs n)) found.2 in
        let at = Any-from_list_any (eq_by_cmp nat_cmp n) keys (sym (has n) ∙ parts.1) in
        let same : n ≡ get_or keys at.0 at.1 = eqb-true n at.1 (sym (unsigned_tied n at.1) ∙ at.4) ∙ sym at.3 in
        let inside : lies_in entries limit k n ≡ true = λ i. lt-ltb n limit found.1 i && parts.0 i in
        list_any_at (lies_in entries limit k) keys at.0 at.1 at.2 (ap (lies_in entries limit k) (sym same) ∙ inside)

-- one block more
pub filter-none : (test : ℕ → Bool) → [] ≡ filter test (numbers_below 0)
unfolding numbers_below
filter-none test = refl

pub filter-more : (test : ℕ → Bool) (k : ℕ) → filter test (numbers_below (k + 1)) ≡ filter test (numbers_below k) ++ cond (test k) (k ∷ []) []
unfolding numbers_below
filter-more test k =
    ap (filter test) (sym (map-id (range_with_len 0 (k + 1)))) ∙ filter_of_map_range_with_len_more test (λ m. m) 0 k k (omega arith)
    ∙ ap (λ l. filter test l ++ cond (test k) (k ∷ []) []) (map-id (range_with_len 0 k))

-- the same blocks, where each value is read as another
pub dirty-as : {A B : Type 0} (f : A → B) (entries limit blocks : ℕ) (pairs : List (ℕ × A))
    → filter (is_dirty entries limit (value_at pairs)) (numbers_below blocks) ≡ filter (is_dirty entries limit (λ n. option_map f (value_at pairs n))) (numbers_below blocks)
dirty-as f entries limit blocks pairs =
    λ i. filter (λ k. list_any (λ n. (n / entries == k) && some_as f (value_at pairs n) i) (numbers_below limit)) (numbers_below blocks)
  where
    some_as : {A B : Type 0} (f : A → B) (o : Option A) → is_some o ≡ is_some (option_map f o)
    some_as f (Some x) = refl
    some_as f None = refl
