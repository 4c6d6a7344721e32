-- The scan of a block gives the names that stand in it, by rising slot.
use Rattle.std.proofs.Common.{◌≡◌, inl, inr, ℕ, zero, suc, ◌+◌, ◌-◌, ◌≤◌, ◌<◌, Bool, true, false, cond, List, [], ◌∷◌, ◌++◌, length, refl, sym, ap, ◌∙◌, arith, eq-eqb}
use Rattle.std.specs.Prelude.{All, not, ◌&&◌, ◌||◌, ◌==◌, nat_lt, map, filter, flat_map}
use Rattle.std.specs.List.{list_any, range_with_len}
use Rattle.std.proofs.lemmas.Bool.{and_parts, and_from, or_from, eqb-true, ltb-true, lt-ltb, le-ltb, ne_eqb, cases_lt, cases_Bool, cond-true, cond-false, both_ways}
use Rattle.std.proofs.lemmas.List.Concat.{flat_map-append}
use Rattle.f2_bytes.specs.Bits.{bit_lsb}
use Rattle.f2_bytes.specs.Buckets.{Placed}
use Rattle.f2_bytes.specs.Bytes.{Block}
use Rattle.f2_bytes.specs.Directory.{Item, items_from, item_in, name_length, next_slot, is_cut}
use Rattle.f2_bytes.specs.Names.{slots_for}
use Rattle.f2_bytes.proofs.SetBits.{range-append}
use Rattle.f2_dent.specs.Built.{placed_item}
use Rattle.f2_dent.proofs.Anys.{any_of, not_more, filter_none, Apart, IsOnly, only_one, not_both}
use Rattle.f2_dent.proofs.Standing.{Named, IsGood, overlap, overlap_is, covers, cover, cover_is, meets}

-- ---- where the scan goes on
pub next_free : (b : Block) (n slot : ℕ) → bit_lsb b slot ≡ false → next_slot b n slot ≡ slot + 1
next_free b n slot free = ap (λ bit. cond (not bit || (name_length b n slot == 0)) (slot + 1) (cond (is_cut b n slot) n (slot + slots_for (name_length b n slot)))) free

pub next_taken : (b : Block) (n slot len : ℕ) → bit_lsb b slot ≡ true → name_length b n slot ≡ len → 1 ≤ len → len ≤ 255 → slot + slots_for len ≤ n → next_slot b n slot ≡ slot + slots_for len
next_taken b n slot len taken is some few within =
    let whole : (nat_lt 255 len || nat_lt n (slot + slots_for len)) ≡ false = or_from _ _ (le-ltb 255 len few) (le-ltb n (slot + slots_for len) within) in
    (λ i. cond (not (taken i) || (is i == 0)) (slot + 1) (cond (nat_lt 255 (is i) || nat_lt n (slot + slots_for (is i))) n (slot + slots_for (is i))))
    ∙ (λ i. cond (ne_eqb len 0 (λ same. absurd (omega (arith, same, some))) i) (slot + 1) (cond (whole i) n (slot + slots_for len)))

past_end : (b : Block) (n m slot : ℕ) → n ≤ slot → items_from b n m slot ≡ []
unfolding items_from
past_end b n zero slot past = refl
past_end b n (suc m) slot past = cond-false (nat_lt slot n) _ [] (le-ltb slot n past)

free_step : (b : Block) (n m slot : ℕ) → slot < n → bit_lsb b slot ≡ false → items_from b n (suc m) slot ≡ items_from b n m (slot + 1)
unfolding items_from
free_step b n m slot below free =
    cond-true (nat_lt slot n) _ [] (lt-ltb slot n below) ∙ cond-false (bit_lsb b slot) _ _ free ∙ ap (items_from b n m) (next_free b n slot free)

taken_step : (b : Block) (n m slot next : ℕ) → slot < n → bit_lsb b slot ≡ true → next_slot b n slot ≡ next → items_from b n (suc m) slot ≡ item_in b n slot ∷ items_from b n m next
unfolding items_from
taken_step b n m slot next below taken goes =
    cond-true (nat_lt slot n) _ [] (lt-ltb slot n below) ∙ cond-true (bit_lsb b slot) _ _ taken ∙ ap (λ s. item_in b n slot ∷ items_from b n m s) goes

-- ---- lists one after the other
flat_split : {X : Type 0} (f : ℕ → List X) (a m l : ℕ) → m ≤ l → flat_map f (range_with_len a l) ≡ flat_map f (range_with_len a m) ++ flat_map f (range_with_len (a + m) (l - m))
flat_split f a m l low =
    ap (λ k. flat_map f (range_with_len a k)) (omega (arith, low)) ∙ ap (flat_map f) (range-append a m (l - m)) ∙ flat_map-append f (range_with_len a m) (range_with_len (a + m) (l - m))

flat_empty : {X : Type 0} (f : ℕ → List X) (a m : ℕ) → ((t : ℕ) → a ≤ t → t < a + m → f t ≡ []) → flat_map f (range_with_len a m) ≡ []
flat_empty f a zero empty = refl
flat_empty f a (suc m) empty =
    (λ i. empty a (omega arith) (omega arith) i ++ flat_map f (range_with_len (a + 1) m)) ∙ flat_empty f (a + 1) m (λ t low high. empty t (omega (arith, low)) (omega (arith, high)))

flat_first : {X : Type 0} (f : ℕ → List X) (a l : ℕ) → 1 ≤ l → flat_map f (range_with_len a l) ≡ f a ++ flat_map f (range_with_len (a + 1) (l - 1))
flat_first f a l some = let next : l ≡ suc (l - 1) = omega (arith, some) in ap (λ k. flat_map f (range_with_len a k)) next

-- ---- the names of block k
unfoldable pub begins : ℕ → ℕ → Named → Bool
begins k slot at = (at.1.block == k) && (at.1.slot == slot)

-- slot t is one of the name's, and not its first
unfoldable pub inner : ℕ → ℕ → Named → Bool
inner k t at = (at.1.block == k) && (nat_lt at.1.slot t && nat_lt t (at.1.slot + at.1.slots))

record Begins (k slot : ℕ) (p : Placed) : Type 0 where
  block : p.block ≡ k
  first : p.slot ≡ slot

begin_is : (k slot : ℕ) (at : Named) → begins k slot at ≡ true → Begins k slot at.1
unfolding begins
begin_is k slot at is = let both = and_parts _ _ is in record { block = eqb-true at.1.block k both.0; first = eqb-true at.1.slot slot both.1 }

begin : (k slot : ℕ) (at : Named) → Begins k slot at.1 → begins k slot at ≡ true
unfolding begins
begin k slot at is = and_from _ _ (eq-eqb at.1.block k is.block) (eq-eqb at.1.slot slot is.first)

record Inner (k t : ℕ) (p : Placed) : Type 0 where
  block : p.block ≡ k
  from : p.slot < t
  to : t < p.slot + p.slots

inner_is : (k t : ℕ) (at : Named) → inner k t at ≡ true → Inner k t at.1
unfolding inner
inner_is k t at is =
    let both = and_parts _ _ is in
    let range = and_parts _ _ both.1 in
    record { block = eqb-true at.1.block k both.0; from = ltb-true at.1.slot t range.0; to = ltb-true t (at.1.slot + at.1.slots) range.1 }

inner_of : (k t : ℕ) (at : Named) → Inner k t at.1 → inner k t at ≡ true
unfolding inner
inner_of k t at is = and_from _ _ (eq-eqb at.1.block k is.block) (and_from _ _ (lt-ltb at.1.slot t is.from) (lt-ltb t (at.1.slot + at.1.slots) is.to))

flips : (x y : Named) → meets x y ≡ true → meets y x ≡ true
flips x y met = let o = overlap_is x.1 y.1 met in overlap y.1 x.1 (record { block = sym o.block; before = o.behind; behind = o.before })

unfoldable pub items_at : ℕ → List Named → ℕ → List Item
items_at k names slot = map placed_item (filter (begins k slot) names)

-- a name of block k has its item there
abbrev pub Stands : ℕ → ℕ → Block → ℕ → Named → Type 0
Stands levels n b k at = IsGood levels at × (at.1.block ≡ k → item_in b n at.1.slot ≡ placed_item at)

module _ (levels n : ℕ) (size : n ≡ 214) (names : List Named) (k : ℕ) (b : Block) (bits : (t : ℕ) → t < n → bit_lsb b t ≡ list_any (covers k t) names) (all : All (Stands levels n b k) names) (apart : Apart meets names) where
  abbrev Good : Named → Type 0
  Good = Stands levels n b k

  empty_at : (slot : ℕ) → list_any (begins k slot) names ≡ false → items_at k names slot ≡ []
  unfolding items_at
  empty_at slot none = ap (map placed_item) (filter_none (begins k slot) names none)

  -- no name covers the slot
  not_begun : (slot : ℕ) → list_any (covers k slot) names ≡ false → list_any (begins k slot) names ≡ false
  not_begun slot none = not_more Good (begins k slot) (covers k slot) names (λ at is yes.
      let here = begin_is k slot at yes in
      cover k slot at (record { block = here.block; from = omega (arith, here.first); to = omega (arith, here.first, is.0.some) })) all none

  not_inner : (slot : ℕ) → list_any (covers k slot) names ≡ false → list_any (inner k (slot + 1)) names ≡ false
  not_inner slot none = not_more Good (inner k (slot + 1)) (covers k slot) names (λ at is yes.
      let here = inner_is k (slot + 1) at yes in
      cover k slot at (record { block = here.block; from = omega (arith, here.from); to = omega (arith, here.to) })) all none

  -- a name covers it, and begins there
  begun : (slot : ℕ) → list_any (covers k slot) names ≡ true → list_any (inner k slot) names ≡ false → list_any (begins k slot) names ≡ true
  begun slot any none = any_of (list_any (begins k slot) names ≡ true) Good (covers k slot) names all any (λ at is yes among.
      let here = cover_is k slot at yes in
      elim (cases_lt at.1.slot slot) [
        | inl before ↦ absurd (both_ways (list_any (inner k slot) names) none (among (inner k slot) (inner_of k slot at (record { block = here.block; from = before; to = here.to }))))
        | inr not_before ↦ among (begins k slot) (begin k slot at (record { block = here.block; first = omega (arith, here.from, not_before) }))
      ])

  only_begun : (slot : ℕ) → list_any (begins k slot) names ≡ true → IsOnly Good (begins k slot) names
  only_begun slot any = only_one meets Good (begins k slot) (λ x y good_x good_y begins_x begins_y.
      let bx = begin_is k slot x begins_x in
      let by = begin_is k slot y begins_y in
      overlap x.1 y.1 (record { block = bx.block ∙ sym by.block; before = omega (arith, bx.first, by.first, good_y.0.some); behind = omega (arith, bx.first, by.first, good_x.0.some) })) names all apart any

  -- behind a name's first slot, no other begins before its end
  module _ (slot : ℕ) (only : IsOnly Good (begins k slot) names) where
    abbrev last : ℕ
    last = slot + only.one.1.slots

    ends : Named → Bool
    ends at = begins k slot at && (at.1.slot + at.1.slots == last)

    one_ends : list_any ends names ≡ true
    unfolding ends
    one_ends =
        let here = begin_is k slot only.one only.passes in
        only.among ends (and_from _ _ only.passes (eq-eqb (only.one.1.slot + only.one.1.slots) last (omega (arith, here.first))))

    not_within : (t : ℕ) → slot < t → t < last → list_any (begins k t) names ≡ false
    unfolding ends
    not_within t low high = not_both meets Good ends (begins k t)
        (λ x y good_x good_y ends_x begins_y.
        let both = and_parts _ _ ends_x in
        let bx = begin_is k slot x both.0 in
        let ex : x.1.slot + x.1.slots ≡ last = eqb-true _ _ both.1 in
        let by = begin_is k t y begins_y in
        overlap x.1 y.1 (record { block = bx.block ∙ sym by.block; before = omega (arith, bx.first, by.first, low); behind = omega (arith, ex, by.first, high) }))
        flips
        (λ x good ends_x begins_x.
        let bx = begin_is k slot x (and_parts _ _ ends_x).0 in
        let tx = begin_is k t x begins_x in
        omega (arith, bx.first, tx.first, low)) names all apart one_ends

    not_across : list_any (inner k last) names ≡ false
    unfolding ends
    not_across = not_both meets Good ends (inner k last)
        (λ x y good_x good_y ends_x inner_y.
        let both = and_parts _ _ ends_x in
        let bx = begin_is k slot x both.0 in
        let ex : x.1.slot + x.1.slots ≡ last = eqb-true _ _ both.1 in
        let iy = inner_is k last y inner_y in
        overlap x.1 y.1 (record { block = bx.block ∙ sym iy.block; before = omega (arith, ex, iy.to, good_x.0.some); behind = omega (arith, ex, iy.from) }))
        flips
        (λ x good ends_x inner_x.
        let ex : x.1.slot + x.1.slots ≡ last = eqb-true _ _ (and_parts _ _ ends_x).1 in
        let ix = inner_is k last x inner_x in
        omega (arith, ex, ix.to)) names all apart one_ends

    stands_here : item_in b n slot ≡ placed_item only.one
    stands_here =
        let here = begin_is k slot only.one only.passes in
        ap (item_in b n) (sym here.first) ∙ only.holds.1 here.block

    last_low : last ≤ n
    last_low = let here = begin_is k slot only.one only.passes in let good = only.holds.0 in omega (arith, good.within, here.first, size)

    last_high : (m : ℕ) → n ≤ slot + suc m → n ≤ last + m
    last_high m past = let good = only.holds.0 in omega (arith, good.some, past)

    goes_on : bit_lsb b slot ≡ true → next_slot b n slot ≡ last
    goes_on taken =
        let here = begin_is k slot only.one only.passes in
        let good = only.holds.0 in
        let len : name_length b n slot ≡ length only.one.0.name = ap (λ (i : Item). i.len) stands_here in
        next_taken b n slot (length only.one.0.name) taken len (omega (arith, good.slots, good.some)) good.few (omega (arith, good.slots, good.within, here.first, size))
        ∙ omega (arith, good.slots)

    list_here : last ≤ n → flat_map (items_at k names) (range_with_len slot (n - slot)) ≡ placed_item only.one ∷ flat_map (items_at k names) (range_with_len last (n - last))
    unfolding items_at
    list_here low =
        let here = begin_is k slot only.one only.passes in
        let s : ℕ = only.one.1.slots in
        let some : 1 ≤ s = only.holds.0.some in
        flat_split (items_at k names) slot s (n - slot) (omega (arith, low))
        ∙ ap (λ l. l ++ flat_map (items_at k names) (range_with_len (slot + s) (n - slot - s)))
        (flat_first (items_at k names) slot s some
        ∙ (λ i. map placed_item (only.is i) ++ flat_empty (items_at k names) (slot + 1) (s - 1) (λ t from to. empty_at t (not_within t (omega (arith, from)) (omega (arith, to, some)))) i))
        ∙ ap (λ m. placed_item only.one ∷ flat_map (items_at k names) (range_with_len (slot + s) m)) (omega arith)

  -- from a slot on that lies within no name
  pub scan_from : (m slot : ℕ) → n ≤ slot + m → list_any (inner k slot) names ≡ false → items_from b n m slot ≡ flat_map (items_at k names) (range_with_len slot (n - slot))
  scan_from zero slot past none =
      let none_left : 0 ≡ n - slot = omega (arith, past) in
      past_end b n zero slot (omega (arith, past)) ∙ ap (λ l. flat_map (items_at k names) (range_with_len slot l)) none_left
  scan_from (suc m) slot past none = elim (cases_lt slot n) [
    | inr end ↦
        let none_left : 0 ≡ n - slot = omega (arith, end) in
        past_end b n (suc m) slot end ∙ ap (λ l. flat_map (items_at k names) (range_with_len slot l)) none_left
    | inl below ↦ elim (cases_Bool (bit_lsb b slot)) [
      | inr free ↦
          let uncovered : list_any (covers k slot) names ≡ false = sym (bits slot below) ∙ free in
          let one_less : n - (slot + 1) ≡ n - slot - 1 = omega arith in
          free_step b n m slot below free
          ∙ scan_from m (slot + 1) (omega (arith, past)) (not_inner slot uncovered)
          ∙ ap (λ l. flat_map (items_at k names) (range_with_len (slot + 1) l)) one_less
          ∙ sym (flat_first (items_at k names) slot (n - slot) (omega (arith, below)) ∙ ap (λ l. l ++ flat_map (items_at k names) (range_with_len (slot + 1) (n - slot - 1))) (empty_at slot (not_begun slot uncovered)))
      | inl taken ↦
          let covered : list_any (covers k slot) names ≡ true = sym (bits slot below) ∙ taken in
          let only = only_begun slot (begun slot covered none) in
          let low : last slot only ≤ n = last_low slot only in
          taken_step b n m slot (last slot only) below taken (goes_on slot only taken)
          ∙ (λ i. stands_here slot only i ∷ scan_from m (last slot only) (last_high slot only m past) (not_across slot only) i)
          ∙ sym (list_here slot only low)
    ]
  ]
