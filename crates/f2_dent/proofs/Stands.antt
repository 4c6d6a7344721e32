-- One name more that stands in the blocks.
use Rattle.std.proofs.Common.{◌≡◌, ◌≢◌, ◌⊎◌, inl, inr, ℕ, ◌+◌, ◌≤◌, Bool, true, false, List, [], ◌∷◌, ◌++◌, length, get_or, refl, sym, ap, ◌∙◌, subst, arith, eq-eqb}
use Rattle.std.specs.Prelude.{◌&&◌, ◌||◌, ◌==◌, Option, None, unwrap_or, is_some}
use Rattle.std.specs.List.{list_any}
use Rattle.std.proofs.lemmas.Bool.{and_parts, and_left, not-true, cases_lt, cases_eq, ne_eqb, or_from, or_right, false_from_ne_true, both_ways}
use Rattle.std.proofs.lemmas.List.Elements.{All-nil, All-push}
use Rattle.std.proofs.lemmas.List.Folds.{list_any-append}
use Rattle.f2_bytes.specs.Bits.{bit_lsb}
use Rattle.f2_bytes.specs.Buckets.{Placed, is_overlapping}
use Rattle.f2_bytes.specs.Bytes.{Block}
use Rattle.f2_bytes.specs.Directory.{Item, item_in, name_length}
use Rattle.f2_bytes.specs.Names.{name_hash, slots_for}
use Rattle.f2_dent.specs.Built.{placed_item}
use Rattle.f2_dent.specs.Pages.{is_among, HasPut, new_item}
use Rattle.f2_dent.specs.Places.{Blocks, empty_block, has_place}
use Rattle.f2_dent.specs.Entries.{PlacesIn}
use Rattle.f2_dent.specs.declared.building.Entry.{Entry}
use Rattle.f2_dent.proofs.Anys.{apart_push, any-map, each_not}
use Rattle.f2_dent.proofs.Places.{find_passes, place_within}
use Rattle.f2_dent.proofs.Standing.{Named, IsGood, IsPage, IsStanding, overlap, overlap_is, covers, is_of, meets, place_is, empty_bits}

pub stands_none : (levels : ℕ) (blocks : Blocks) → ((k : ℕ) → blocks k ≡ None) → IsStanding levels [] blocks
stands_none levels blocks none = record {
  good = All-nil (IsGood levels);
  apart = tt;
  page = λ k. record {
    bits = λ t below. ap (λ (o : Option Block). bit_lsb (unwrap_or o empty_block) t) (none k) ∙ empty_bits t below;
    items = All-nil (λ at. at.1.block ≡ k → item_in (unwrap_or (blocks k) empty_block) 214 at.1.slot ≡ placed_item at);
  };
  has = λ k. ap is_some (none k);
}

flips : (x y : Named) → meets y x ≡ false → meets x y ≡ false
flips x y none = false_from_ne_true (meets x y) (λ yes. both_ways (meets y x) none (let o = overlap_is x.1 y.1 yes in overlap y.1 x.1 (record { block = sym o.block; before = o.behind; behind = o.before })))

or_none : (a b : Bool) → b ≡ false → a ≡ (a || (b || false))
or_none true b none = refl
or_none false b none = sym (or_from b false none refl)

or_one : (a b c : Bool) → b ≡ c → (a || b) ≡ (a || (c || false))
or_one a true true same = refl
or_one a false false same = refl
or_one a true false same = cc
or_one a false true same = cc

pushed : (p : Named → Bool) (names : List Named) (at : Named) → list_any p (names ++ at ∷ []) ≡ (list_any p names || (p at || false))
pushed p names at = list_any-append p names (at ∷ [])

-- the entry, in the place that is the first
module _ (levels : ℕ) (names : List Named) (old new : Blocks) (entry : Entry) (block : ℕ) (standing : IsStanding levels names old) (placed : PlacesIn levels old new entry block) where
  abbrev pub place_of : Placed
  place_of = record { block = block; slot = placed.slot; slots = slots_for (length entry.name) }

  abbrev pub named : Named
  named = (entry, place_of)

  some_slot : 1 ≤ slots_for (length entry.name)
  some_slot = omega (arith, placed.name.some)

  passes : has_place old place_of ≡ true
  passes = find_passes (has_place old) _ place_of placed.first

  unmet : list_any (meets named) names ≡ false
  unmet =
      let both = and_parts _ _ (sym (place_is levels names old place_of standing some_slot) ∙ passes) in
      sym (any-map (is_overlapping place_of) (λ (at : Named). at.1) names) ∙ not-true _ both.1

  good_now : IsGood levels named
  good_now = record { slots = refl; some = some_slot; few = placed.name.few; within = place_within (old block) (slots_for (length entry.name)) placed.slot passes; low = placed.within }

  abbrev pub item : Item
  item = new_item placed.slot (name_hash entry.name) entry.ino entry.kind entry.name

  -- an older name in the block keeps its item
  module _ (at : Named) (is : IsGood levels at) (alone : meets named at ≡ false) (b : Block) (here : at.1.block ≡ block) where
    side : (at.1.slot + at.1.slots ≤ placed.slot) ⊎ (placed.slot + slots_for (length entry.name) ≤ at.1.slot)
    side = elim (cases_lt placed.slot (at.1.slot + at.1.slots)) [
      | inr before ↦ inl before
      | inl within ↦ elim (cases_lt at.1.slot (placed.slot + slots_for (length entry.name))) [
        | inr behind ↦ inr behind
        | inl met ↦ absurd (both_ways (meets named at) alone (overlap place_of at.1 (record { block = sym here; before = within; behind = met })))
      ]
    ]

    kept_item : (o : Block) → HasPut o b item → item_in o 214 at.1.slot ≡ placed_item at → item_in b 214 at.1.slot ≡ placed_item at
    kept_item o put was =
        let len : name_length o 214 at.1.slot ≡ length at.0.name = ap (λ (i : Item). i.len) was in
        put.others at.1.slot at.1.slots is.some is.within (let short : slots_for (name_length o 214 at.1.slot) ≡ slots_for (length at.0.name) = ap slots_for len in omega (arith, short, is.slots)) side ∙ was

  page_here : (b : Block) → HasPut (unwrap_or (old block) empty_block) b item → IsPage (names ++ named ∷ []) block b
  page_here b put =
      let was = standing.page block in
      record {
        bits = λ t below. put.bits t below ∙ ap (λ x. x || is_among placed.slot (slots_for (length entry.name)) t) (was.bits t below)
            ∙ or_one (list_any (covers block t) names) (is_among placed.slot (slots_for (length entry.name)) t) (covers block t named) (sym (ap (λ x. x && is_among placed.slot (slots_for (length entry.name)) t) (eq-eqb block block refl)))
            ∙ sym (pushed (covers block t) names named);
        items = All-push (λ at. at.1.block ≡ block → item_in b 214 at.1.slot ≡ placed_item at) names named
            (λ i d low here. kept_item (get_or names i d) (standing.good i d low) (each_not (meets named) names unmet i d low) b here (unwrap_or (old block) empty_block) put
            (subst (λ (k : ℕ). item_in (unwrap_or (old k) empty_block) 214 (get_or names i d).1.slot ≡ placed_item (get_or names i d)) refl (was.items i d low here)))
            (λ _. put.stands);
      }

  page_there : (k : ℕ) (b : Block) → k ≢ block → IsPage names k b → IsPage (names ++ named ∷ []) k b
  page_there k b other was = record {
    bits = λ t below. was.bits t below ∙ or_none (list_any (covers k t) names) (covers k t named) (and_left _ _ (ne_eqb block k (λ same. other (sym same)))) ∙ sym (pushed (covers k t) names named);
    items = All-push (λ at. at.1.block ≡ k → item_in b 214 at.1.slot ≡ placed_item at) names named was.items (λ same. absurd (other (sym same)));
  }

  pub stands_more : IsStanding levels (names ++ named ∷ []) new
  stands_more = record {
    good = All-push (IsGood levels) names named standing.good good_now;
    apart = apart_push meets flips names named standing.apart unmet;
    page = λ k. elim (cases_eq k block) [
      | inl same ↦ subst (λ (j : ℕ). IsPage (names ++ named ∷ []) j (unwrap_or (new j) empty_block)) (sym same)
          (subst (λ (o : Option Block). IsPage (names ++ named ∷ []) block (unwrap_or o empty_block)) (sym placed.puts.here) (page_here placed.puts.block placed.puts.put))
      | inr other ↦ subst (λ (o : Option Block). IsPage (names ++ named ∷ []) k (unwrap_or o empty_block)) (sym (placed.puts.others k other)) (page_there k (unwrap_or (old k) empty_block) other (standing.page k))
    ];
    has = λ k. elim (cases_eq k block) [
      | inl same ↦ subst (λ (j : ℕ). is_some (new j) ≡ list_any (is_of j) (names ++ named ∷ [])) (sym same)
          (ap is_some placed.puts.here ∙ sym (pushed (is_of block) names named ∙ or_right _ _ (or_left_true (eq-eqb block block refl))))
      | inr other ↦ ap is_some (placed.puts.others k other) ∙ standing.has k ∙ or_none (list_any (is_of k) names) (block == k) (ne_eqb block k (λ same. other (sym same))) ∙ sym (pushed (is_of k) names named)
    ];
  }
    where
      or_left_true : {a : Bool} → a ≡ true → (a || false) ≡ true
      or_left_true is = ap (λ x. x || false) is
