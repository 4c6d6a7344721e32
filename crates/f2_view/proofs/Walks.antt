-- What the nodes of a directory lead to, step by step, are the items of its blocks in ascending order.
use Rattle.std.proofs.Common.{◌≡◌, ℕ, zero, suc, ◌+◌, ◌*◌, ◌/◌, ◌%◌, ◌^◌, ◌<◌, List, [], Option, Some, None, refl, ap, ◌∙◌, arith}
use Rattle.std.specs.Prelude.{flat_map}
use Rattle.std.specs.Option.{option_map_or}
use Rattle.std.proofs.Math.Nat.{pow-succ'}
use Rattle.std.proofs.lemmas.Nat.{div-mul-add, mod-mul-add}
use Rattle.f2_bytes.specs.Bytes.{Block, Image, word, numbers_below}
use Rattle.f2_bytes.specs.Directory.{Item, optional_block_items}
use Rattle.f2_bytes.specs.Tree.{main_block, read_node}
use Rattle.f2_view.specs.Directories.{each_number, items_under}
use Rattle.f2_view.proofs.Rows.{flat_map-one, flat_map-rows, flat_map-same, flat_map-nothing}

-- the address that a node of this height leads to for block i of those under it, 0 where a node is missing
unfoldable pub number_under : Image → ℕ → ℕ → ℕ → ℕ
number_under image zero number i = number
number_under image (suc h) number i = option_map_or (λ b. number_under image h (word b (i / 1018 ^ h)) (i % 1018 ^ h)) (read_node image number) 0

module _ (image : Image) (hole : main_block image 0 ≡ None) where
  pub no_items : (k : ℕ) → optional_block_items k (main_block image 0) ≡ []
  no_items k = ap (optional_block_items k) hole

  pub under_walk : (h first number : ℕ)
      → flat_map (λ i. optional_block_items (first + i) (main_block image (number_under image h number i))) (numbers_below (1018 ^ h)) ≡ items_under image h first number
  unfolding items_under number_under
  under_walk zero first number =
      flat_map-one (λ i. optional_block_items (first + i) (main_block image number))
      ∙ ap (λ k. optional_block_items k (main_block image number)) (omega arith)
  under_walk (suc h) first number =
      ap (λ n. flat_map at (numbers_below n)) (pow-succ' 1018 h)
      ∙ flat_map-rows at 1018 (1018 ^ h)
      ∙ go (read_node image number) refl (λ f n. under_walk h f n)
    where
      at : ℕ → List Item
      at i = optional_block_items (first + i) (main_block image (number_under image (suc h) number i))

      down : ℕ → Block → ℕ
      down i b = number_under image h (word b (i / 1018 ^ h)) (i % 1018 ^ h)

      go : (o : Option Block) → read_node image number ≡ o
          → ((f n : ℕ) → flat_map (λ i. optional_block_items (f + i) (main_block image (number_under image h n i))) (numbers_below (1018 ^ h)) ≡ items_under image h f n)
          → flat_map (λ j. flat_map (λ i. at (j * 1018 ^ h + i)) (numbers_below (1018 ^ h))) (numbers_below 1018)
          ≡ each_number (λ j n. items_under image h (first + j * 1018 ^ h) n) o
      go None is more =
          flat_map-nothing (λ j. flat_map (λ i. at (j * 1018 ^ h + i)) (numbers_below (1018 ^ h))) (numbers_below 1018)
          (λ j. flat_map-nothing (λ i. at (j * 1018 ^ h + i)) (numbers_below (1018 ^ h)) (λ i. none (j * 1018 ^ h + i)))
        where
          none : (k : ℕ) → at k ≡ []
          none k = ap (λ o. optional_block_items (first + k) (main_block image (option_map_or (down k) o 0))) is ∙ no_items (first + k)
      go (Some b) is more = λ t. flat_map (λ j. each j t) (numbers_below 1018)
        where
          step : (j i : ℕ) → i < 1018 ^ h → at (j * 1018 ^ h + i) ≡ optional_block_items (first + j * 1018 ^ h + i) (main_block image (number_under image h (word b j) i))
          step j i low =
              let place : first + (j * 1018 ^ h + i) ≡ first + j * 1018 ^ h + i = omega arith in
              ap (λ o. optional_block_items (first + (j * 1018 ^ h + i)) (main_block image (option_map_or (down (j * 1018 ^ h + i)) o 0))) is
              ∙ λ t. optional_block_items (place t) (main_block image (number_under image h (word b (div-mul-add j (1018 ^ h) i low t)) (mod-mul-add j (1018 ^ h) i low t)))

          each : (j : ℕ) → flat_map (λ i. at (j * 1018 ^ h + i)) (numbers_below (1018 ^ h)) ≡ items_under image h (first + j * 1018 ^ h) (word b j)
          each j =
              flat_map-same (λ i. at (j * 1018 ^ h + i)) (λ i. optional_block_items (first + j * 1018 ^ h + i) (main_block image (number_under image h (word b j) i))) (1018 ^ h) (step j)
              ∙ more (first + j * 1018 ^ h) (word b j)
