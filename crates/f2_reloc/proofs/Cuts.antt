-- The batches that parts are cut into: they have the addresses of the parts, and few blocks each.
use Rattle.std.proofs.Common.{◌≡◌, ℕ, ◌+◌, ◌-◌, ◌<◌, ◌≤◌, List, [], ◌∷◌, ◌++◌, Bool, true, false, ◌==◌, ◌||◌, nat_le, nat_lt, ◌&&◌, cond, map, length, get_or, All, refl, ap, ◌∙◌, ⊎_elim, arith}
use Rattle.std.specs.List.{list_any, range_with_len}
use Rattle.std.proofs.lemmas.Bool.{or_cases, or_left, or_right, and_parts, leb-true, ltb-true, and_from, le-leb, lt-ltb, eq-eqb}
use Rattle.std.proofs.lemmas.List.Elements.{All-head, All-tail, All-cons, All-nil, All-append, All-map, All-weaker, filter_passes}
use Rattle.std.proofs.lemmas.List.Folds.{list_any-append, list_any_at}
use Rattle.std.proofs.lemmas.List.FromFn.{length-range_with_len, get_or-range_with_len}
use Rattle.f2_bytes.specs.declared.layout.Layout.{Layout}
use Rattle.f2_bytes.specs.Superblock.{segment_of, segment_start}
use Rattle.f2_bytes.specs.Defragment.{Placement, is_among, occupied, part_in, cut_batches, batches_of}
use Rattle.f2_gather.proofs.Ascending.{member_passes, any-map}
use Rattle.f2_reloc.proofs.Occupied.{among_filter, kept_length}
use Rattle.f2_reloc.proofs.Standing.{stands}

-- a number of an interval is among the numbers from its start on
among_range : (from n x : ℕ) → from ≤ x → x < from + n → is_among (range_with_len from n) x ≡ true
among_range from n x low high =
    let long = length-range_with_len from n in
    let at = get_or-range_with_len from n (x - from) 0 (omega (arith, low, high)) in
    list_any_at (λ y. y == x) (range_with_len from n) (x - from) 0 (omega (arith, long, low, high)) (eq-eqb (get_or (range_with_len from n) (x - from) 0) x (omega (arith, at, low)))

-- an address of the range is among the part of its segment
pub among_part : (l : Layout) (start end a : ℕ) → l.main ≤ start → start ≤ a → a < end → is_among (part_in l start end (segment_of l a)) a ≡ true
among_part l start end a main low high =
    among_filter (λ x. nat_le start x && nat_lt x end) (range_with_len (segment_start l (segment_of l a)) 512) a (and_from _ _ (le-leb start a low) (lt-ltb a end high))
    ∙ among_range (segment_start l (segment_of l a)) 512 a (omega (arith, main, low)) (omega (arith, main, low))

module _ (nids : ℕ) (p : Placement) where
  -- what is in the parts is in the batches
  pub cut_has : (batch : List ℕ) (parts : List (List ℕ)) (a : ℕ) → (is_among batch a || list_any (λ part. is_among part a) parts) ≡ true → list_any (λ b. is_among b a) (cut_batches nids p batch parts) ≡ true
  unfolding cut_batches
  cut_has batch [] a here = here
  cut_has batch (part ∷ parts) a here = go (nat_le (length (occupied nids p (batch ++ part))) 4096) (cut_has (batch ++ part) parts a) (cut_has part parts a)
    where
      joined : (x y z : Bool) → (x || (y || z)) ≡ true → ((x || y) || z) ≡ true
      joined true y z e = refl
      joined false y z e = e

      go : (b : Bool) → ((is_among (batch ++ part) a || list_any (λ c. is_among c a) parts) ≡ true → list_any (λ c. is_among c a) (cut_batches nids p (batch ++ part) parts) ≡ true)
          → ((is_among part a || list_any (λ c. is_among c a) parts) ≡ true → list_any (λ c. is_among c a) (cut_batches nids p part parts) ≡ true)
          → list_any (λ c. is_among c a) (cond b (cut_batches nids p (batch ++ part) parts) (batch ∷ cut_batches nids p part parts)) ≡ true
      go true more next =
          more
          (ap (λ b. b || list_any (λ c. is_among c a) parts) (list_any-append (λ y. y == a) batch part)
          ∙ joined (is_among batch a) (is_among part a) (list_any (λ c. is_among c a) parts) here)
      go false more next =
          ⊎_elim (λ first. or_left (is_among batch a) _ first) (λ later. or_right (is_among batch a) _ (next later))
          (or_cases (is_among batch a) (is_among part a || list_any (λ c. is_among c a) parts) here)

  -- what holds of all addresses of the parts holds of those of the batches
  pub cut_all : (P : ℕ → Type 0) (batch : List ℕ) (parts : List (List ℕ)) → All P batch → All (All P) parts → All (All P) (cut_batches nids p batch parts)
  unfolding cut_batches
  cut_all P batch [] first all = All-cons (All P) batch [] first (All-nil (All P))
  cut_all P batch (part ∷ parts) first all =
      go (nat_le (length (occupied nids p (batch ++ part))) 4096)
      (cut_all P (batch ++ part) parts (All-append P batch part first (All-head (All P) part parts all)) (All-tail (All P) part parts all))
      (cut_all P part parts (All-head (All P) part parts all) (All-tail (All P) part parts all))
    where
      go : (b : Bool) → All (All P) (cut_batches nids p (batch ++ part) parts) → All (All P) (cut_batches nids p part parts) → All (All P) (cond b (cut_batches nids p (batch ++ part) parts) (batch ∷ cut_batches nids p part parts))
      go true more next = more
      go false more next = All-cons (All P) batch (cut_batches nids p part parts) first next

  abbrev Few : List ℕ → Type 0
  Few b = length (occupied nids p b) ≤ 4096

  -- each batch has at most 4096 blocks, where no part has more
  pub cut_few : (batch : List ℕ) (parts : List (List ℕ)) → length (occupied nids p batch) ≤ 4096 → All (λ part. length (occupied nids p part) ≤ 4096) parts → All (λ b. length (occupied nids p b) ≤ 4096) (cut_batches nids p batch parts)
  unfolding cut_batches
  cut_few batch [] first all = All-cons Few batch [] first (All-nil Few)
  cut_few batch (part ∷ parts) first all =
      go (nat_le (length (occupied nids p (batch ++ part))) 4096) refl
      (λ fits. cut_few (batch ++ part) parts fits (All-tail Few part parts all))
      (cut_few part parts (All-head Few part parts all) (All-tail Few part parts all))
    where
      go : (b : Bool) → nat_le (length (occupied nids p (batch ++ part))) 4096 ≡ b → (length (occupied nids p (batch ++ part)) ≤ 4096 → All Few (cut_batches nids p (batch ++ part) parts)) → All Few (cut_batches nids p part parts)
          → All Few (cond b (cut_batches nids p (batch ++ part) parts) (batch ∷ cut_batches nids p part parts))
      go true fits more next = more (leb-true (length (occupied nids p (batch ++ part))) 4096 fits)
      go false over more next = All-cons Few batch (cut_batches nids p part parts) first next

  module _ (l : Layout) (start end : ℕ) where
    abbrev parts : List (List ℕ)
    parts = map (part_in l start end) (range_with_len (segment_of l start) (segment_of l (end - 1) + 1 - segment_of l start))

    part_few : (segment : ℕ) → length (occupied nids p (part_in l start end segment)) ≤ 4096
    part_few segment =
        let first = kept_length (stands nids p) (part_in l start end segment) in
        let second = kept_length (λ address. nat_le start address && nat_lt address end) (range_with_len (segment_start l segment) 512) in
        let long = length-range_with_len (segment_start l segment) 512 in
        omega (arith, first, second, long)

    -- the batches of a range have few blocks each
    pub batches_few : All (λ b. length (occupied nids p b) ≤ 4096) (batches_of l nids p start end)
    batches_few =
        cut_few [] parts (omega arith)
        (All-map (λ b. length (occupied nids p b) ≤ 4096) (part_in l start end) (range_with_len (segment_of l start) (segment_of l (end - 1) + 1 - segment_of l start))
        (λ k d low. part_few _))

    -- and have each address of it
    pub batches_have : l.main ≤ start → (a : ℕ) → start ≤ a → a < end → list_any (λ b. is_among b a) (batches_of l nids p start end) ≡ true
    batches_have main a low high =
        let from = segment_of l start in
        let count = segment_of l (end - 1) + 1 - segment_of l start in
        let there : is_among (range_with_len from count) (segment_of l a) ≡ true
        = among_range from count (segment_of l a) (omega (arith, main, low)) (omega (arith, main, low, high)) in
        cut_has [] parts a
        (any-map (λ part. is_among part a) (part_in l start end) (range_with_len from count)
        ∙ member_passes (λ segment. is_among (part_in l start end segment) a) (range_with_len from count) (segment_of l a) there (among_part l start end a main low high))

    -- and no others
    pub batches_within : All (All (λ a. (start ≤ a) × (a < end))) (batches_of l nids p start end)
    batches_within =
        cut_all (λ a. (start ≤ a) × (a < end)) [] parts (All-nil (λ a. (start ≤ a) × (a < end)))
        (All-map (All (λ a. (start ≤ a) × (a < end))) (part_in l start end) (range_with_len (segment_of l start) (segment_of l (end - 1) + 1 - segment_of l start))
        (λ k d low. part_within _))
      where
        part_within : (segment : ℕ) → All (λ a. (start ≤ a) × (a < end)) (part_in l start end segment)
        part_within segment =
            All-weaker (λ a. (nat_le start a && nat_lt a end) ≡ true) (λ a. (start ≤ a) × (a < end))
            (λ a passes. let parts = and_parts (nat_le start a) (nat_lt a end) passes in (leb-true start a parts.0, ltb-true a end parts.1))
            (part_in l start end segment) (filter_passes (λ address. nat_le start address && nat_lt address end) (range_with_len (segment_start l segment) 512))
