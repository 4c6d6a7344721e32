-- The valid blocks in the parts of a range, segment by segment.
use Rattle.std.proofs.Common.{◌≡◌, ℕ, suc, ◌+◌, ◌-◌, ◌*◌, ◌<◌, ◌≤◌, List, [], ◌∷◌, ◌++◌, Bool, true, false, ◌&&◌, nat_le, nat_lt, cond, filter, length, get_or, All, refl, sym, ap, subst, ◌∙◌, ⊎_elim, arith, append_assoc}
use Rattle.std.specs.Prelude.{flat_map}
use Rattle.std.specs.List.{range_with_len}
use Rattle.std.specs.List.Sorted.{IsStrictlyIncreasing}
use Rattle.std.proofs.lemmas.Bool.{cases_lt, and_from, le-leb, lt-ltb}
use Rattle.std.proofs.lemmas.List.{length-append, append-nil}
use Rattle.std.proofs.lemmas.List.Elements.{All-append, All-nil, All-filter, All-weaker, filter-append}
use Rattle.std.proofs.lemmas.List.FromFn.{length-range_with_len, get_or-range_with_len}
use Rattle.std.proofs.lemmas.List.Kept.{IsStrictlyIncreasing-filter}
use Rattle.std.proofs.Math.ListN.{get_or-append}
use Rattle.std.proofs.Math.Seq.{get_or-append_right}
use Rattle.f2_bytes.specs.declared.layout.Layout.{Layout}
use Rattle.f2_bytes.specs.Bits.{bit_msb}
use Rattle.f2_bytes.specs.Bytes.{Image}
use Rattle.f2_bytes.specs.Check.{is_marked}
use Rattle.f2_bytes.specs.Defragment.{part_in}
use Rattle.f2_bytes.specs.SegmentTable.{sit}
use Rattle.f2_bytes.specs.Superblock.{layout, is_main, segment_of, place_of, segment_start}
use Rattle.f2_bytes.proofs.Counts.{range-more}
use Rattle.f2_reloc.specs.Emptying.{end_of, parts_between, valid_among}
use Rattle.f2_reloc.specs.declared.batches.Range.{Range}
use Rattle.f2_reloc.proofs.Occupied.{kept_length}
use Rattle.f2_reloc.proofs.Standing.{filter_same}

-- ---- lists that rise

range_bounds : (from n : ℕ) → All (λ a. (from ≤ a) × (a < from + n)) (range_with_len from n)
range_bounds from n k d low =
    let long = length-range_with_len from n in
    let at = get_or-range_with_len from n k d (omega (arith, low, long)) in
    (omega (arith, at), omega (arith, at, low, long))

range_rises : (from n : ℕ) → IsStrictlyIncreasing (range_with_len from n)
range_rises from n k low =
    let long = length-range_with_len from n in
    let first = get_or-range_with_len from n k 0 (omega (arith, low, long)) in
    let second = get_or-range_with_len from n (k + 1) 0 (omega (arith, low, long)) in
    omega (arith, first, second)

rising_append : (xs ys : List ℕ) (b : ℕ) → IsStrictlyIncreasing xs → IsStrictlyIncreasing ys → All (λ x. x < b) xs → All (λ y. b ≤ y) ys → IsStrictlyIncreasing (xs ++ ys)
rising_append xs ys b first second below above k low =
    ⊎_elim
    (λ inside.
    let one = get_or-append xs ys 0 k (omega (arith, inside)) in
    let two = get_or-append xs ys 0 (k + 1) inside in
    let rises = first k inside in
    omega (arith, one, two, rises))
    (λ past. ⊎_elim
    (λ last.
    let one = get_or-append xs ys 0 k last in
    let two = get_or-append_right xs ys (k + 1) 0 past in
    let under = below k 0 last in
    let over = above (k + 1 - length xs) 0 (omega (arith, low, past, long)) in
    omega (arith, one, two, under, over))
    (λ behind.
    let one = get_or-append_right xs ys k 0 behind in
    let two = get_or-append_right xs ys (k + 1) 0 past in
    let next : k + 1 - length xs ≡ k - length xs + 1 = omega (arith, behind) in
    let same = ap (λ n. get_or ys n 0) next in
    let rises = second (k - length xs) (omega (arith, low, behind, long)) in
    omega (arith, one, two, same, rises))
    (cases_lt k (length xs)))
    (cases_lt (k + 1) (length xs))
  where
    long : length (xs ++ ys) ≡ length xs + length ys
    long = length-append xs ys

-- Addresses of some segments, from one on: they rise, and are no more than the segments have.
pub record HasGrown (l : Layout) (first segment : ℕ) (xs : List ℕ) : Type 0 where
  pub order : first ≤ segment
  pub rises : IsStrictlyIncreasing xs
  pub bounds : All (λ a. (segment_start l first ≤ a) × (a < segment_start l segment)) xs
  pub few : length xs ≤ 512 * (segment - first)

pub grown_none : (l : Layout) (first : ℕ) → HasGrown l first first []
grown_none l first = record { order = omega arith; rises = λ k low. absurd (omega (arith, low)); bounds = All-nil (λ a. (segment_start l first ≤ a) × (a < segment_start l first)); few = omega arith }

pub grown_more : (l : Layout) (first segment start end : ℕ) (t : ℕ → Bool) (xs ys : List ℕ) → HasGrown l first segment xs → ys ≡ xs ++ filter t (part_in l start end segment) → HasGrown l first (segment + 1) ys
grown_more l first segment start end t xs ys g is = subst (HasGrown l first (segment + 1)) (sym is) all
  where
    in_range : ℕ → Bool
    in_range a = nat_le start a && nat_lt a end

    more : List ℕ
    more = filter t (part_in l start end segment)

    numbers : List ℕ
    numbers = range_with_len (segment_start l segment) 512

    bound : All (λ a. (segment_start l segment ≤ a) × (a < segment_start l segment + 512)) (filter t (part_in l start end segment))
    bound =
        All-filter t (λ a. (segment_start l segment ≤ a) × (a < segment_start l segment + 512)) (part_in l start end segment)
        (All-filter (λ a. nat_le start a && nat_lt a end) (λ a. (segment_start l segment ≤ a) × (a < segment_start l segment + 512)) (range_with_len (segment_start l segment) 512) (range_bounds (segment_start l segment) 512))

    all : HasGrown l first (segment + 1) (xs ++ filter t (part_in l start end segment))
    all = record {
      order = let o = g.order in omega (arith, o);
      rises =
          rising_append xs (filter t (part_in l start end segment)) (segment_start l segment) g.rises
          (IsStrictlyIncreasing-filter t (part_in l start end segment) (IsStrictlyIncreasing-filter (λ a. nat_le start a && nat_lt a end) (range_with_len (segment_start l segment) 512) (range_rises (segment_start l segment) 512)))
          (All-weaker (λ a. (segment_start l first ≤ a) × (a < segment_start l segment)) (λ a. a < segment_start l segment) (λ a b. b.1) xs g.bounds)
          (All-weaker (λ a. (segment_start l segment ≤ a) × (a < segment_start l segment + 512)) (λ a. segment_start l segment ≤ a) (λ a b. b.0) (filter t (part_in l start end segment)) bound);
      bounds =
          All-append (λ a. (segment_start l first ≤ a) × (a < segment_start l (segment + 1))) xs (filter t (part_in l start end segment))
          (All-weaker (λ a. (segment_start l first ≤ a) × (a < segment_start l segment)) (λ a. (segment_start l first ≤ a) × (a < segment_start l (segment + 1))) (λ a b. let under = b.1 in (b.0, omega (arith, under))) xs g.bounds)
          (All-weaker (λ a. (segment_start l segment ≤ a) × (a < segment_start l segment + 512)) (λ a. (segment_start l first ≤ a) × (a < segment_start l (segment + 1)))
          (λ a b. let over = b.0 in let under = b.1 in let o = g.order in (omega (arith, over, o), omega (arith, under))) (filter t (part_in l start end segment)) bound);
      few =
          let one = kept_length t (part_in l start end segment) in
          let two = kept_length (λ a. nat_le start a && nat_lt a end) (range_with_len (segment_start l segment) 512) in
          let long = length-range_with_len (segment_start l segment) 512 in
          let both = length-append xs (filter t (part_in l start end segment)) in
          let before = g.few in
          let o = g.order in
          omega (arith, one, two, long, both, before, o);
    }

pub grown_main : (l : Layout) (first segment : ℕ) (xs : List ℕ) → HasGrown l first segment xs → segment ≤ l.segments → All (λ a. is_main l a ≡ true) xs
grown_main l first segment xs g low =
    All-weaker (λ a. (segment_start l first ≤ a) × (a < segment_start l segment)) (λ a. is_main l a ≡ true)
    (λ a b. let over = b.0 in let under = b.1 in and_from _ _ (le-leb l.main a (omega (arith, over))) (lt-ltb a (l.main + 512 * l.segments) (omega (arith, under, low)))) xs g.bounds

-- ---- segment by segment

flat_more : {X : Type 0} (f : X → List ℕ) (xs : List X) (x : X) → flat_map f (xs ++ x ∷ []) ≡ flat_map f xs ++ f x
flat_more f [] x = append-nil (f x)
flat_more f (y ∷ ys) x = ap (λ r. f y ++ r) (flat_more f ys x) ∙ sym (append_assoc (f y) (flat_map f ys) (f x))

pub parts_none : (l : Layout) (range : Range) (first : ℕ) → parts_between l range first first ≡ []
unfolding parts_between
parts_none l range first =
    let none : first - first ≡ 0 = omega arith in
    ap (λ n. flat_map (part_in l range.start (end_of range)) (range_with_len first n)) none

pub parts_more : (l : Layout) (range : Range) (first segment : ℕ) → first ≤ segment → parts_between l range first (segment + 1) ≡ parts_between l range first segment ++ part_in l range.start (end_of range) segment
unfolding parts_between
parts_more l range first segment order =
    let long : segment + 1 - first ≡ suc (segment - first) = omega (arith, order) in
    let last : first + (segment - first) ≡ segment = omega (arith, order) in
    let f = part_in l range.start (end_of range) in
    ap (λ n. flat_map f (range_with_len first n)) long
    ∙ ap (flat_map f) (range-more first (segment - first))
    ∙ flat_more f (range_with_len first (segment - first)) (first + (segment - first))
    ∙ ap (λ s. flat_map f (range_with_len first (segment - first)) ++ f s) last

-- the valid blocks of a segment's part, by its map
pub valid_part : (image : Image) (start end segment : ℕ) (bits : List ℕ) → (sit image segment).map ≡ bits
    → filter (λ a. bit_msb bits (place_of (layout image) a)) (part_in (layout image) start end segment) ≡ valid_among image (part_in (layout image) start end segment)
valid_part image start end segment bits is =
    filter_same (λ a. bit_msb bits (place_of (layout image) a)) (is_marked image) (part_in (layout image) start end segment)
    (All-weaker (λ a. (segment_start (layout image) segment ≤ a) × (a < segment_start (layout image) segment + 512)) (λ a. bit_msb bits (place_of (layout image) a) ≡ is_marked image a)
    (λ a b.
    let over = b.0 in
    let under = b.1 in
    let own : segment_of (layout image) a ≡ segment = omega (arith, over, under) in
    ap (λ m. bit_msb m (place_of (layout image) a)) (sym is) ∙ ap (λ s. bit_msb (sit image s).map (place_of (layout image) a)) (sym own))
    (part_in (layout image) start end segment)
    (All-filter (λ a. nat_le start a && nat_lt a end) (λ a. (segment_start (layout image) segment ≤ a) × (a < segment_start (layout image) segment + 512)) (range_with_len (segment_start (layout image) segment) 512) (range_bounds (segment_start (layout image) segment) 512)))

-- so they grow
pub valid_more : (image : Image) (l : Layout) → l ≡ layout image → (range : Range) (first segment : ℕ) → first ≤ segment → (bits xs ys : List ℕ) → (sit image segment).map ≡ bits → xs ≡ valid_among image (parts_between l range first segment)
    → ys ≡ xs ++ filter (λ a. bit_msb bits (place_of l a)) (part_in l range.start (end_of range) segment) → ys ≡ valid_among image (parts_between l range first (segment + 1))
valid_more image l same range first segment order bits xs ys is before more =
    more
    ∙ (λ i. before i ++ filter (λ a. bit_msb bits (place_of (same i) a)) (part_in (same i) range.start (end_of range) segment))
    ∙ ap (λ r. valid_among image (parts_between l range first segment) ++ r) (valid_part image range.start (end_of range) segment bits is)
    ∙ (λ i. valid_among image (parts_between l range first segment) ++ valid_among image (part_in (sym same i) range.start (end_of range) segment))
    ∙ sym (filter-append (is_marked image) (parts_between l range first segment) (part_in l range.start (end_of range) segment))
    ∙ ap (valid_among image) (sym (parts_more l range first segment order))

-- ---- block by block

-- one number more, which passes both tests or does not
pub kept_more : (t r : ℕ → Bool) (from k : ℕ) → filter t (filter r (range_with_len from (k + 1))) ≡ filter t (filter r (range_with_len from k)) ++ cond (r (from + k) && t (from + k)) ((from + k) ∷ []) []
kept_more t r from k =
    let next : k + 1 ≡ suc k = omega arith in
    ap (λ n. filter t (filter r (range_with_len from n))) next
    ∙ ap (λ xs. filter t (filter r xs)) (range-more from k)
    ∙ ap (filter t) (filter-append r (range_with_len from k) ((from + k) ∷ []))
    ∙ filter-append t (filter r (range_with_len from k)) (filter r ((from + k) ∷ []))
    ∙ ap (λ xs. filter t (filter r (range_with_len from k)) ++ xs) (last (r (from + k)) refl (t (from + k)))
  where
    last : (b : Bool) → r (from + k) ≡ b → (c : Bool) → filter t (cond b ((from + k) ∷ []) []) ≡ cond (b && t (from + k)) ((from + k) ∷ []) []
    last true e c = refl
    last false e c = refl
