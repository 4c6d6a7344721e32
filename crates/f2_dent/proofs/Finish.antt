-- The steps of `build`, and what it gives at the end.
use Rattle.std.proofs.Common.{◌≡◌, inl, inr, ℕ, zero, suc, ◌+◌, ◌*◌, ◌≤◌, ◌<◌, Bool, true, false, cond, List, [], ◌∷◌, ◌++◌, length, get_or, take, drop, refl, sym, ap, ◌∙◌, subst, arith, take-append-drop}
use Rattle.std.specs.Prelude.{All, find, max, map, zip, ◌==◌, Option, Some, None, unwrap_or, nat_lt}
use Rattle.std.specs.List.{range_with_len}
use Rattle.std.specs.Map.{keys_of}
use Rattle.std.specs.Ordering.{nat_cmp, ord_max, is_lt}
use Rattle.std.specs.declared.cmp.Ordering.TheVariants.{Less, Equal, Greater}
use Rattle.std.proofs.lemmas.Bool.{cases_lt, lt-ltb, le-ltb}
use Rattle.std.specs.BTreeMap.{BTreeMap, get, IsOrdered}
use Rattle.std.proofs.lemmas.List.{drop_more, take_more, take_all, length-take-le}
use Rattle.std.proofs.lemmas.List.Elements.{All-map, All-same}
use Rattle.f2_bytes.specs.Buckets.{places_of, first_without_place, level_start, level_of_block}
use Rattle.f2_bytes.specs.Bytes.{Block}
use Rattle.f2_bytes.specs.Directory.{scan, block_slots}
use Rattle.f2_dent.specs.Built.{IsBuilt, names_in, items_placed}
use Rattle.f2_dent.specs.Entries.{PlacesIn, HasNoPlace}
use Rattle.f2_dent.specs.Places.{Blocks, block_in}
use Rattle.f2_dent.specs.declared.building.Built.{Built}
use Rattle.f2_dent.specs.declared.building.Entry.{Entry}
use Rattle.f2_dent.specs.declared.page.Page.{Page}
use Rattle.f2_dent.proofs.LevelStarts.{start_le, last_start}
use Rattle.f2_dent.proofs.SoFar.{IsSoFar, so_far_more, refused, numbers_of, scans_of, zip_names}
use Rattle.f2_dent.proofs.Standing.{Named}

pub blocks_small : (levels : ℕ) → levels ≤ 25 → level_start levels 0 ≤ 67108862
blocks_small levels few = omega (arith, start_le levels 25 few, last_start)

-- ---- the greater of two numbers
larger_by : (a b : ℕ) (same : Bool) → cond (is_lt (cond false Less (cond same Equal Greater))) a b ≡ b
larger_by a b true = refl
larger_by a b false = refl

pub larger_is : (a b : ℕ) → ord_max nat_cmp a b ≡ max a b
larger_is a b = elim (cases_lt b a) [
  | inl less ↦ ap (λ t. cond (is_lt (cond t Less (cond (b == a) Equal Greater))) a b) (lt-ltb b a less) ∙ omega arith
  | inr not_less ↦ ap (λ t. cond (is_lt (cond t Less (cond (b == a) Equal Greater))) a b) (le-ltb b a not_less) ∙ larger_by a b (b == a) ∙ omega (arith, not_less)
]

-- ---- a block's level is a small number
found_by : (test : ℕ → Bool) (a m n : ℕ) (rest : Option ℕ) (b : Bool) → (rest ≡ Some m → m < a + 1 + n) → cond b (Some a) rest ≡ Some m → m < a + suc n
found_by test a m n rest true later is = let same : a ≡ m = cc in omega (arith, same)
found_by test a m n rest false later is = omega (arith, later is)

found_in : (test : ℕ → Bool) (a n m : ℕ) → find test (range_with_len a n) ≡ Some m → m < a + n
found_in test a zero m is = cc
found_in test a (suc n) m is = found_by test a m n (find test (range_with_len (a + 1) n)) (test a) (λ later. found_in test (a + 1) n m later) is

or_zero : (n : ℕ) (o : Option ℕ) → 0 < n → ((m : ℕ) → o ≡ Some m → m < n) → unwrap_or o 0 < n
or_zero n None some below = some
or_zero n (Some m) some below = below m refl

first_below : (test : ℕ → Bool) (n : ℕ) → 0 < n → unwrap_or (find test (range_with_len 0 n)) 0 < n
first_below test n some = or_zero n (find test (range_with_len 0 n)) some (λ m is. omega (arith, found_in test 0 n m is))

pub level_small : (depth block : ℕ) → level_of_block depth block < 64
level_small depth block = first_below (λ l. nat_lt block (level_start (l + 1) depth)) 64 (omega arith)

-- ---- one entry more

here_is : (entries : List Entry) (i : ℕ) (entry : Entry) → i < length entries → entry ≡ get_or entries i entry → entries ≡ take i entries ++ entry ∷ drop (i + 1) entries
here_is entries i entry below is =
    sym (take-append-drop i entries) ∙ ap (λ l. take i entries ++ l) (drop_more entries i entry below ∙ ap (λ e. e ∷ drop (i + 1) entries) (sym is))

pub full_at : (levels : ℕ) (entries : List Entry) (i : ℕ) (entry : Entry) (blocks : Blocks) (depth end : ℕ) → i < length entries → entry ≡ get_or entries i entry → IsSoFar levels (take i entries) blocks depth end → HasNoPlace levels blocks entry
    → first_without_place levels (names_in entries) ≡ Some i
full_at levels entries i entry blocks depth end below is far without =
    ap (λ l. first_without_place levels (names_in l)) (here_is entries i entry below is)
    ∙ refused levels (take i entries) blocks depth end entry (drop (i + 1) entries) far without.name.some without.none
    ∙ ap (λ n. Some n) (length-take-le i entries (omega (arith, below)))

pub placed_at : (levels : ℕ) (entries : List Entry) (i : ℕ) (entry : Entry) (old new : Blocks) (depth end block level depth' end' : ℕ) → i < length entries → entry ≡ get_or entries i entry → IsSoFar levels (take i entries) old depth end → PlacesIn levels old new entry block
    → level ≡ level_of_block 0 block → depth' ≡ max depth (level + 1) → end' ≡ max end (block + 1) → IsSoFar levels (take (i + 1) entries) new depth' end'
placed_at levels entries i entry old new depth end block level depth' end' below is far placed level_is depth_is end_is =
    let more : take (i + 1) entries ≡ take i entries ++ entry ∷ [] = take_more entries i entry below ∙ ap (λ e. take i entries ++ e ∷ []) (sym is) in
    let next = so_far_more levels (take i entries) old new depth end entry block far placed in
    let depths : max depth (level_of_block 0 block + 1) ≡ depth' = ap (λ l. max depth (l + 1)) (sym level_is) ∙ sym depth_is in
    subst (λ (l : List Entry). IsSoFar levels l new depth' end') (sym more)
    (subst (λ (d : ℕ). IsSoFar levels (take i entries ++ entry ∷ []) new d end') depths
    (subst (λ (e : ℕ). IsSoFar levels (take i entries ++ entry ∷ []) new (max depth (level_of_block 0 block + 1)) e) (sym end_is) next))

-- ---- all entries

map_keys : (es : List (ℕ × Page)) → map (λ (b : ℕ × Block). b.0) (map (λ (e : ℕ × Page). (e.0, e.1.block)) es) ≡ keys_of es
map_keys [] = refl
map_keys (e ∷ es) = ap (λ l. e.0 ∷ l) (map_keys es)

pub built_of : (levels : ℕ) (entries : List Entry) (i : ℕ) (pages : BTreeMap ℕ Page) (depth end : ℕ) (built : Built) → length entries ≤ i → IsSoFar levels (take i entries) (block_in pages) depth end
    → IsOrdered nat_cmp pages → All (λ e. get nat_cmp pages e.0 ≡ Some e.1) pages.entries
    → built.blocks.items ≡ map (λ (e : ℕ × Page). (e.0, e.1.block)) pages.entries → built.depth ≡ depth → built.size ≡ 4096 * end → IsBuilt levels entries built
built_of levels entries i pages depth end built last far ordered found blocks depth_is size_is =
    let all : take i entries ≡ entries = take_all i entries last in
    let entries_are : map (λ (x : Named). x.0) far.names ≡ entries = far.entries_are ∙ all in
    let zipped : zip entries (map (λ (x : Named). x.1) far.names) ≡ far.names = ap (λ l. zip l (map (λ (x : Named). x.1) far.names)) (sym entries_are) ∙ zip_names far.names in
    record {
      placed = map (λ (x : Named). x.1) far.names;
      places = ap (λ l. places_of levels (map (λ (e : Entry). e.name) l)) (sym all) ∙ far.places;
      numbers = ap (map (λ (b : ℕ × Block). b.0)) blocks ∙ map_keys pages.entries ∙ numbers_of levels far.names pages far.standing ordered found;
      items = subst (λ (l : List Named). All (λ (b : ℕ × Block). scan b.1 block_slots ≡ items_placed l b.0) built.blocks.items) (sym zipped)
          (All-same (λ (b : ℕ × Block). scan b.1 block_slots ≡ items_placed far.names b.0) built.blocks.items (map (λ (e : ℕ × Page). (e.0, e.1.block)) pages.entries) blocks
          (All-map (λ (b : ℕ × Block). scan b.1 block_slots ≡ items_placed far.names b.0) (λ (e : ℕ × Page). (e.0, e.1.block)) pages.entries (scans_of levels far.names pages far.standing ordered found)));
      depth = depth_is ∙ far.depth_is;
      size = size_is ∙ ap (λ n. 4096 * n) far.end_is;
    }
