-- The directory of the entries so far.
use Rattle.std.proofs.Common.{◌≡◌, ◌≢◌, inl, inr, ℕ, zero, suc, ◌+◌, ◌-◌, ◌≤◌, ◌<◌, Bool, true, false, List, [], ◌∷◌, ◌++◌, length, get_or, refl, sym, ap, ◌∙◌, subst, arith, eq-eqb}
use Rattle.std.specs.Prelude.{All, filter, max, map, zip, flat_map, ◌==◌, ◌||◌, ◌&&◌, Option, Some, None, unwrap_or, is_some, nat_lt}
use Rattle.std.specs.List.{list_any, range_with_len}
use Rattle.std.specs.List.Sorted.{IsStrictlySortedBy}
use Rattle.std.specs.Map.{lookup, keys_of}
use Rattle.std.specs.Option.{option_map}
use Rattle.std.specs.Ordering.{nat_cmp}
use Rattle.std.specs.BTreeMap.{BTreeMap, get, is_at, IsOrdered}
use Rattle.std.proofs.lemmas.Bool.{and_parts, ltb-true, cases_eq, ne_eqb, eqb-true, cond-true, cond-false, or_from, or_left}
use Rattle.std.proofs.lemmas.List.{map-append, length-map}
use Rattle.std.proofs.lemmas.List.Elements.{All-nil, All-head, All-tail, All-map, All-weaker}
use Rattle.std.proofs.lemmas.List.Sums.{fold-append}
use Rattle.std.proofs.lemmas.Map.Keys.{sorted_tail, below_from_sorted}
use Rattle.f2_bytes.specs.Buckets.{Placed, places_of, placed_after, first_without_place, level_start, level_of_block}
use Rattle.f2_bytes.specs.Bytes.{Block, numbers_below}
use Rattle.f2_bytes.specs.Directory.{item_in, scan, block_slots}
use Rattle.f2_dent.specs.Built.{names_in, greatest, items_placed, placed_item}
use Rattle.f2_dent.specs.Entries.{first_place, PlacesIn}
use Rattle.f2_dent.specs.Places.{Blocks, block_in, empty_block}
use Rattle.f2_dent.specs.declared.building.Entry.{Entry}
use Rattle.f2_dent.specs.declared.page.Page.{Page}
use Rattle.f2_dent.proofs.Anys.{any_of, any-map, not_more}
use Rattle.f2_dent.proofs.Choices.{first_none, one_more, fit_is}
use Rattle.f2_dent.proofs.PageScans.{Stands, begins, inner, items_at, scan_from}
use Rattle.f2_dent.proofs.Standing.{Named, IsGood, IsPage, IsStanding, is_of}
use Rattle.f2_dent.proofs.Stands.{stands_none, stands_more, named}
use Rattle.f2_dent.proofs.Stores.{is_at-other, is_at-same}

pub record IsSoFar (levels : ℕ) (entries : List Entry) (blocks : Blocks) (depth end : ℕ) : Type 0 where
  pub names : List Named
  pub entries_are : map (λ at. at.0) names ≡ entries
  pub places : places_of levels (map (λ (e : Entry). e.name) entries) ≡ map Some (map (λ at. at.1) names)
  pub standing : IsStanding levels names blocks
  pub depth_is : depth ≡ greatest (map (λ (p : Placed). level_of_block 0 p.block + 1) (map (λ at. at.1) names))
  pub end_is : end ≡ greatest (map (λ (p : Placed). p.block + 1) (map (λ at. at.1) names))
  pub end_low : end ≤ level_start levels 0

pub so_far_none : (levels : ℕ) (blocks : Blocks) → ((k : ℕ) → blocks k ≡ None) → IsSoFar levels [] blocks 0 0
unfolding placed_after
so_far_none levels blocks none = record { names = []; entries_are = refl; places = refl; standing = stands_none levels blocks none; depth_is = refl; end_is = refl; end_low = omega arith }

greatest_more : (f : Placed → ℕ) (names : List Named) (at : Named) → greatest (map f (map (λ (x : Named). x.1) (names ++ at ∷ []))) ≡ max (greatest (map f (map (λ (x : Named). x.1) names))) (f at.1)
greatest_more f names at =
    ap (λ l. greatest (map f l)) (map-append (λ (x : Named). x.1) names (at ∷ []))
    ∙ ap greatest (map-append f (map (λ (x : Named). x.1) names) (at.1 ∷ []))
    ∙ fold-append max 0 (map f (map (λ (x : Named). x.1) names)) (f at.1 ∷ [])

pub so_far_more : (levels : ℕ) (entries : List Entry) (old new : Blocks) (depth end : ℕ) (entry : Entry) (block : ℕ) → IsSoFar levels entries old depth end → PlacesIn levels old new entry block
    → IsSoFar levels (entries ++ entry ∷ []) new (max depth (level_of_block 0 block + 1)) (max end (block + 1))
so_far_more levels entries old new depth end entry block far placed =
    let at : Named = named levels far.names old new entry block far.standing placed in
    let places : List Placed = map (λ (x : Named). x.1) far.names in
    record {
      names = far.names ++ at ∷ [];
      entries_are = map-append (λ (x : Named). x.0) far.names (at ∷ []) ∙ ap (λ l. l ++ entry ∷ []) far.entries_are;
      places =
          ap (places_of levels) (map-append (λ (e : Entry). e.name) entries (entry ∷ []))
          ∙ one_more levels (map (λ (e : Entry). e.name) entries) places entry.name at.1 far.places (fit_is levels levels far.names old entry.name far.standing placed.name.some ∙ placed.first)
          ∙ ap (map Some) (sym (map-append (λ (x : Named). x.1) far.names (at ∷ [])));
      standing = stands_more levels far.names old new entry block far.standing placed;
      depth_is = ap (λ d. max d (level_of_block 0 block + 1)) far.depth_is ∙ sym (greatest_more (λ (p : Placed). level_of_block 0 p.block + 1) far.names at);
      end_is = ap (λ d. max d (block + 1)) far.end_is ∙ sym (greatest_more (λ (p : Placed). p.block + 1) far.names at);
      end_low = omega (arith, far.end_low, placed.within);
    }

-- the entry that has no place is the first
pub refused : (levels : ℕ) (entries : List Entry) (blocks : Blocks) (depth end : ℕ) (entry : Entry) (more : List Entry) → IsSoFar levels entries blocks depth end → 1 ≤ length entry.name → first_place levels blocks entry.name ≡ None
    → first_without_place levels (names_in (entries ++ entry ∷ more)) ≡ Some (length entries)
refused levels entries blocks depth end entry more far some none =
    let places : List Placed = map (λ (x : Named). x.1) far.names in
    ap (first_without_place levels) (map-append (λ (e : Entry). e.name) entries (entry ∷ more))
    ∙ first_none levels (map (λ (e : Entry). e.name) entries) places entry.name (map (λ (e : Entry). e.name) more) far.places (fit_is levels levels far.names blocks entry.name far.standing some ∙ none)
    ∙ ap (λ n. Some n) (length-map far.names (λ (x : Named). x.1) ∙ sym (length-map far.names (λ (x : Named). x.0)) ∙ ap length far.entries_are)

-- ---- the blocks at the end

-- ascending numbers from this one on
abbrev Rising : ℕ → List ℕ → Type 0
Rising a [] = Unit {0}
Rising a (x ∷ xs) = (a ≤ x) × Rising (x + 1) xs

rising_sorted : (a : ℕ) (keys : List ℕ) → IsStrictlySortedBy nat_cmp keys → (0 < length keys → a ≤ get_or keys 0 0) → Rising a keys
rising_sorted a [] sorted low = tt
rising_sorted a (x ∷ xs) sorted low =
    (low (omega arith), rising_sorted (x + 1) xs (sorted_tail nat_cmp x xs sorted) (λ some. let next : x < get_or xs 0 0 = below_from_sorted (x ∷ xs) 0 1 0 sorted (omega arith) (omega (arith, some)) in omega (arith, next)))

is_key : ℕ → List ℕ → Bool
is_key q keys = list_any (λ k. k == q) keys

not_key : (b q : ℕ) (keys : List ℕ) → Rising b keys → q < b → is_key q keys ≡ false
unfolding is_key
not_key b q [] rising below = refl
not_key b q (x ∷ xs) rising below = or_from _ _ (ne_eqb x q (λ same. absurd (omega (arith, same, below, rising.0)))) (not_key (x + 1) q xs rising.1 (omega (arith, below, rising.0)))

is_first_key : (q : ℕ) (xs : List ℕ) → is_key q (q ∷ xs) ≡ true
unfolding is_key
is_first_key q xs = or_left _ _ (eq-eqb q q refl)

is_later_key : (x q : ℕ) (xs : List ℕ) → x ≢ q → is_key q (x ∷ xs) ≡ is_key q xs
unfolding is_key
is_later_key x q xs other = ap (λ b. b || list_any (λ k. k == q) xs) (ne_eqb x q other)

filter_rising : (test : ℕ → Bool) (a n : ℕ) (keys : List ℕ) → Rising a keys → All (λ k. k < a + n) keys → ((q : ℕ) → a ≤ q → test q ≡ is_key q keys) → filter test (range_with_len a n) ≡ keys
unfolding is_key
filter_rising test a zero [] rising within is = refl
filter_rising test a zero (x ∷ xs) rising within is = absurd (omega (arith, rising.0, All-head (λ k. k < a + zero) x xs within))
filter_rising test a (suc n) [] rising within is =
    cond-false (test a) _ _ (is a (omega arith)) ∙ filter_rising test (a + 1) n [] tt (All-nil (λ k. k < a + 1 + n)) (λ q low. is q (omega (arith, low)))
filter_rising test a (suc n) (x ∷ xs) rising within is = elim (cases_eq x a) [
  | inl same ↦
      let first : test a ≡ true = is a (omega arith) ∙ ap (λ k. is_key a (k ∷ xs)) same ∙ is_first_key a xs in
      let rest : Rising (a + 1) xs = subst (λ (k : ℕ). Rising (k + 1) xs) same rising.1 in
      cond-true (test a) _ _ first
      ∙ (λ i. sym same i ∷ filter_rising test (a + 1) n xs rest
      (All-weaker (λ k. k < a + suc n) (λ k. k < a + 1 + n) (λ k below. omega (arith, below)) xs (All-tail (λ k. k < a + suc n) x xs within))
      (λ q low. is q (omega (arith, low)) ∙ is_later_key x q xs (λ e. absurd (omega (arith, e, same, low)))) i)
  | inr other ↦
      let above : a + 1 ≤ x = omega (arith, other, rising.0) in
      let none : test a ≡ false = is a (omega arith) ∙ not_key (a + 1) a (x ∷ xs) (above, rising.1) (omega arith) in
      cond-false (test a) _ _ none
      ∙ filter_rising test (a + 1) n (x ∷ xs) (above, rising.1) (All-weaker (λ k. k < a + suc n) (λ k. k < a + 1 + n) (λ k below. omega (arith, below)) (x ∷ xs) within) (λ q low. is q (omega (arith, low)))
]

-- a key is what a look-up finds
key_found : (q : ℕ) (es : List (ℕ × Page)) → is_some (lookup (is_at (nat_cmp q)) es) ≡ is_key q (keys_of es)
unfolding is_key
key_found q [] = refl
key_found q (e ∷ es) = elim (cases_eq e.0 q) [
  | inl same ↦ ap is_some (cond-true (is_at (nat_cmp q) e.0) (Some e.1) (lookup (is_at (nat_cmp q)) es) (is_at-same q e.0 same)) ∙ sym (or_left _ _ (eq-eqb e.0 q same))
  | inr other ↦ ap is_some (cond-false (is_at (nat_cmp q) e.0) (Some e.1) (lookup (is_at (nat_cmp q)) es) (is_at-other q e.0 other)) ∙ key_found q es ∙ sym (ap (λ b. b || list_any (λ k. k == q) (keys_of es)) (ne_eqb e.0 q other))
]

some_of : {X Y : Type 0} (f : X → Y) (o : Option X) → is_some (option_map f o) ≡ is_some o
some_of f None = refl
some_of f (Some x) = refl

numbers_are : (n : ℕ) → numbers_below n ≡ range_with_len 0 n
unfolding numbers_below
numbers_are n = refl

pub zip_names : (names : List Named) → zip (map (λ (x : Named). x.0) names) (map (λ (x : Named). x.1) names) ≡ names
zip_names [] = refl
zip_names (x ∷ xs) = ap (λ l. x ∷ l) (zip_names xs)

items_are : (n k : ℕ) (names : List Named) → flat_map (items_at k names) (range_with_len 0 n) ≡ flat_map (λ slot. map placed_item (filter (λ (at : Named). (at.1.block == k) && (at.1.slot == slot)) names)) (numbers_below n)
unfolding items_at begins numbers_below
items_are n k names = refl

never : (k : ℕ) (at : Named) → inner k 0 at ≡ true → ⊥
unfolding inner
never k at within =
    let both = and_parts (at.1.block == k) (nat_lt at.1.slot 0 && nat_lt 0 (at.1.slot + at.1.slots)) within in
    let range = and_parts (nat_lt at.1.slot 0) (nat_lt 0 (at.1.slot + at.1.slots)) both.1 in
    let below : at.1.slot < 0 = ltb-true at.1.slot 0 range.0 in
    omega (arith, below)

none_false : (names : List Named) → list_any (λ _. false) names ≡ false
none_false [] = refl
none_false (x ∷ xs) = none_false xs

module _ (levels : ℕ) (names : List Named) (pages : BTreeMap ℕ Page) (standing : IsStanding levels names (block_in pages)) where
  no_inner : (k : ℕ) → list_any (inner k 0) names ≡ false
  no_inner k = not_more (IsGood levels) (inner k 0) (λ _. false) names (λ at good yes. absurd (never k at yes)) standing.good (none_false names)

  -- a block holds its names
  page_scan : (n k : ℕ) (b : Block) → n ≡ 214 → block_in pages k ≡ Some b → scan b n ≡ flat_map (λ slot. map placed_item (filter (λ (at : Named). (at.1.block == k) && (at.1.slot == slot)) names)) (numbers_below n)
  page_scan n k b size here =
      let page : IsPage names k b = subst (λ (o : Option Block). IsPage names k (unwrap_or o empty_block)) here (standing.page k) in
      let items : All (λ at. at.1.block ≡ k → item_in b n at.1.slot ≡ placed_item at) names = subst (λ (m : ℕ). All (λ (at : Named). at.1.block ≡ k → item_in b m at.1.slot ≡ placed_item at) names) (sym size) page.items in
      let all : All (Stands levels n b k) names = λ i d low. (standing.good i d low, items i d low) in
      let whole : n - 0 ≡ n = omega arith in
      scan_from levels n size names k b (λ t below. page.bits t (omega (arith, below, size))) all standing.apart n 0 (omega arith) (no_inner k)
      ∙ ap (λ m. flat_map (items_at k names) (range_with_len 0 m)) whole ∙ items_are n k names

  -- a block is that of a name
  key_low : (k : ℕ) → is_some (block_in pages k) ≡ true → k < level_start levels 0
  key_low k some = any_of (k < level_start levels 0) (IsGood levels) (is_of k) names standing.good (sym (standing.has k) ∙ some) (λ at good yes among. let same : at.1.block ≡ k = eqb-true at.1.block k yes in omega (arith, good.low, same))

  module _ (ordered : IsOrdered nat_cmp pages) (found : All (λ e. get nat_cmp pages e.0 ≡ Some e.1) pages.entries) where
    stored : All (λ e. block_in pages e.0 ≡ Some e.1.block) pages.entries
    stored = All-weaker (λ (e : ℕ × Page). get nat_cmp pages e.0 ≡ Some e.1) (λ (e : ℕ × Page). block_in pages e.0 ≡ Some e.1.block) (λ e is. ap (option_map (λ (p : Page). p.block)) is) pages.entries found

    pub numbers_of : keys_of pages.entries ≡ filter (λ k. list_any (λ p. p.block == k) (map (λ (x : Named). x.1) names)) (numbers_below (level_start levels 0))
    numbers_of =
        let test : ℕ → Bool = λ k. list_any (λ (p : Placed). p.block == k) (map (λ (x : Named). x.1) names) in
        sym (ap (filter test) (numbers_are (level_start levels 0))
        ∙ filter_rising test 0 (level_start levels 0) (keys_of pages.entries)
        (rising_sorted 0 (keys_of pages.entries) ordered (λ some. omega arith))
        (All-map (λ k. k < 0 + level_start levels 0) (λ (e : ℕ × Page). e.0) pages.entries
        (All-weaker (λ (e : ℕ × Page). block_in pages e.0 ≡ Some e.1.block) (λ (e : ℕ × Page). e.0 < 0 + level_start levels 0) (λ e is. omega (arith, key_low e.0 (ap is_some is))) pages.entries stored))
        (λ q low. any-map (λ (p : Placed). p.block == q) (λ (x : Named). x.1) names ∙ sym (standing.has q) ∙ some_of (λ (p : Page). p.block) (get nat_cmp pages q) ∙ key_found q pages.entries))

    pub scans_of : All (λ (e : ℕ × Page). scan e.1.block block_slots ≡ items_placed names e.0) pages.entries
    scans_of = All-weaker (λ (e : ℕ × Page). block_in pages e.0 ≡ Some e.1.block) (λ (e : ℕ × Page). scan e.1.block block_slots ≡ items_placed names e.0) (λ e is. page_scan block_slots e.0 e.1.block refl is) pages.entries stored
