-- Entries that are pushed part by part.
use Rattle.std.proofs.Common.{◌≡◌, ℕ, zero, suc, ◌+◌, ◌-◌, ◌*◌, ◌^◌, ◌<◌, ◌≤◌, List, [], ◌++◌, map, Option, Some, None, refl, sym, ap, ◌∙◌, arith, append_assoc}
use Rattle.std.specs.Prelude.{flat_map, ◌||◌}
use Rattle.std.proofs.lemmas.Bool.{cond_both}
use Rattle.std.proofs.lemmas.List.{append-nil}
use Rattle.std.proofs.lemmas.List.Elements.{filter-append}
use Rattle.std.proofs.lemmas.Nat.{row_fits}
use Rattle.std.proofs.Math.Nat.{pow-succ'}
use Rattle.f2_bytes.specs.Bytes.{Block, Image, word, numbers_below}
use Rattle.f2_bytes.specs.Directory.{Item, optional_block_items}
use Rattle.f2_bytes.specs.Node.{has_inline_xattr, has_inline_dentry, address_count, inline_length}
use Rattle.f2_bytes.specs.Tree.{main_block, read_node}
use Rattle.f2_view.specs.Directories.{legal, each_number, items_under}
use Rattle.f2_view.proofs.Rows.{flat_map-more}

pub adds_nothing : {E : Type 0} (f : E → Item) (old : List E) (items : List Item) → items ≡ [] → map f old ≡ map f old ++ legal items
adds_nothing f old items none = sym (ap (λ l. map f old ++ legal l) none ∙ append-nil (map f old))

pub adds_then : {E : Type 0} (f : E → Item) (a b c : List E) (xs ys : List Item) → map f b ≡ map f a ++ legal xs → map f c ≡ map f b ++ legal ys → map f c ≡ map f a ++ legal (xs ++ ys)
adds_then f a b c xs ys first second =
    second
    ∙ ap (λ l. l ++ legal ys) first
    ∙ append_assoc (map f a) (legal xs) (legal ys)
    ∙ ap (λ l. map f a ++ l) (sym (filter-append (λ (item : Item). item.is_legal) xs ys))

-- the items of one number more
pub adds_one : {E : Type 0} (f : E → Item) (a b c : List E) (items : ℕ → List Item) (n : ℕ)
    → map f b ≡ map f a ++ legal (flat_map items (numbers_below n)) → map f c ≡ map f b ++ legal (items n) → map f c ≡ map f a ++ legal (flat_map items (numbers_below (n + 1)))
adds_one f a b c items n first second =
    adds_then f a b c (flat_map items (numbers_below n)) (items n) first second
    ∙ ap (λ l. map f a ++ legal l) (sym (flat_map-more items n))

pub of_no_numbers : (items : ℕ → List Item) → flat_map items (numbers_below 0) ≡ []
unfolding numbers_below
of_no_numbers items = refl

-- ---- one node

module _ (image : Image) (h height first number : ℕ) (above : height ≡ suc h) where
  pub missing_node : read_node image number ≡ None → items_under image height first number ≡ []
  unfolding items_under
  missing_node none =
      ap (λ n. items_under image n first number) above
      ∙ ap (each_number (λ j n. items_under image h (first + j * 1018 ^ h) n)) none

  pub found_node : (b : Block) → read_node image number ≡ Some b → items_under image height first number ≡ flat_map (λ j. items_under image h (first + j * 1018 ^ h) (word b j)) (numbers_below 1018)
  unfolding items_under
  found_node b is =
      ap (λ n. items_under image n first number) above
      ∙ ap (each_number (λ j n. items_under image h (first + j * 1018 ^ h) n)) is

pub at_address : (image : Image) (first address : ℕ) (o : Option Block) → main_block image address ≡ o → items_under image 0 first address ≡ optional_block_items first o
unfolding items_under
at_address image first address o is = ap (optional_block_items first) is

-- what a node leads to has its numbers among those under the node above
pub narrow : (h : ℕ) → h ≤ 2 → 1018 ^ h ≤ 1036324
narrow zero low = omega arith
narrow (suc zero) low = omega arith
narrow (suc (suc zero)) low = omega arith
narrow (suc (suc (suc h))) low = absurd (omega (arith, low))

pub fits_under : (height first j below span : ℕ) → (height ≡ 0 → ⊥) → below ≡ height - 1 → span ≡ 1018 ^ below → j < 1018 → first + 1018 ^ height ≤ 2 ^ 32 → first + j * span + span ≤ 2 ^ 32
fits_under height first j below span some under spans low fits =
    let above : height ≡ suc below = omega (arith, some, under) in
    let whole : 1018 ^ height ≡ 1018 * span = ap (λ n. 1018 ^ n) above ∙ pow-succ' 1018 below ∙ ap (λ n. 1018 * n) (sym spans) in
    let row = row_fits j span 1018 span low (omega arith) in
    omega (arith, whole, row, fits)

-- ---- an inode with its names inside

pub inline_most : (b : Block) → inline_length b ≤ 3688
unfolding address_count
inline_most b =
    cond_both (has_inline_xattr b || has_inline_dentry b) 873 923 (λ n. 4 * (n - 1) ≤ 3688) (λ _. omega arith) (λ _. omega arith)
