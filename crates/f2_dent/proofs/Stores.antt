-- What a map of blocks has after a name was put in.
use Rattle.std.proofs.Common.{◌≡◌, ◌≢◌, inl, inr, ℕ, Bool, true, false, cond, refl, sym, ap, ◌∙◌, subst, arith, eq-eqb}
use Rattle.std.specs.Prelude.{replicate, Option, Some, None, unwrap_or, ◌==◌}
use Rattle.std.specs.Option.{option_map}
use Rattle.std.specs.Ordering.{nat_cmp, is_eq}
use Rattle.std.specs.declared.cmp.Ordering.{Ordering}
use Rattle.std.specs.declared.cmp.Ordering.TheVariants.{Less, Equal, Greater}
use Rattle.std.specs.BTreeMap.{BTreeMap, get, get_by, is_at}
use Rattle.std.proofs.lemmas.Bool.{cases_order, lt-ltb, le-ltb, ne_eqb}
use Rattle.f2_bytes.specs.Bytes.{Block}
use Rattle.f2_bytes.specs.Directory.{Item}
use Rattle.f2_dent.specs.Pages.{HasPut}
use Rattle.f2_dent.specs.Places.{block_in, empty_block, PutsIn}
use Rattle.f2_dent.specs.declared.page.Page.{Page}

cmp_of : Bool → Bool → Ordering
cmp_of less same = cond less Less (cond same Equal Greater)

pub is_at-other : (k q : ℕ) → q ≢ k → is_at (nat_cmp k) q ≡ false
unfolding cmp_of
is_at-other k q other = elim (cases_order k q) [
  | inl same ↦ absurd (other (sym same))
  | inr (inl less) ↦ ap (λ b. is_eq (cmp_of b (k == q))) (lt-ltb k q less)
  | inr (inr more) ↦ λ i. is_eq (cmp_of (le-ltb k q (omega (arith, more)) i) (ne_eqb k q (λ same. other (sym same)) i))
]

pub is_at-same : (k q : ℕ) → q ≡ k → is_at (nat_cmp k) q ≡ true
unfolding cmp_of
is_at-same k q same = λ i. is_eq (cmp_of (le-ltb k q (omega (arith, same)) i) (eq-eqb k q (sym same) i))

empty_is : empty_block ≡ replicate 4096 0
unfolding empty_block
empty_is = refl

pub puts_new : (old held new : BTreeMap ℕ Page) (k : ℕ) (page : Page) (first : Block) (item : Item) → held ≡ old → None ≡ get_by (nat_cmp k) old → first ≡ replicate 4096 0 → HasPut first page.block item
    → get_by (nat_cmp k) new ≡ Some page → ((q : ℕ) → is_at (nat_cmp k) q ≡ false → get nat_cmp new q ≡ get nat_cmp held q) → PutsIn (block_in old) (block_in new) k item
puts_new old held new k page first item same none is put here others = record {
  block = page.block;
  here = ap (option_map (λ (p : Page). p.block)) here;
  put =
      let empty : first ≡ unwrap_or (block_in old k) empty_block = is ∙ sym empty_is ∙ ap (λ (o : Option Page). unwrap_or (option_map (λ (p : Page). p.block) o) empty_block) none in
      subst (λ (b : Block). HasPut b page.block item) empty put;
  others = λ q other. ap (option_map (λ (p : Page). p.block)) (others q (is_at-other k q other) ∙ ap (λ (m : BTreeMap ℕ Page). get nat_cmp m q) same);
}
