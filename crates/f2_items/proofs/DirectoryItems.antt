-- The items in the blocks that are read of a directory are the items of the directory.
use Rattle.std.proofs.Common.{◌≡◌, ℕ, zero, suc, ◌+◌, ◌-◌, ◌≤◌, List, [], ◌∷◌, ◌++◌, Bool, true, false, not, ◌||◌, ◌&&◌, cond, Option, Some, None, refl, sym, ap, ◌∙◌, arith}
use Rattle.std.specs.Prelude.{flat_map, filter_map, option_map}
use Rattle.std.specs.List.{cons_option, range_with_len}
use Rattle.std.specs.Option.{option_map_or}
use Rattle.std.proofs.lemmas.List.{append-nil}
use Rattle.std.proofs.lemmas.List.Concat.{flat_map-append}
use Rattle.f2_bytes.specs.Bytes.{Block, Image, numbers_below}
use Rattle.f2_bytes.specs.Check.{inode_of}
use Rattle.f2_bytes.specs.Directory.{Item, block_items, optional_block_items, directory_items, scan, inline_slots}
use Rattle.f2_bytes.specs.Node.{address_count, block_limit, has_slots, inline_area, inline_length, is_directory, is_inline, is_regular, is_symlink, most_blocks}
use Rattle.f2_bytes.specs.Tree.{main_block, tree_items, tree_slot}
use Rattle.f2_items.specs.Directories.{items_in}
use Rattle.f2_items.specs.DirectoryBlocks.{blocks_in, directory_blocks}
use Rattle.f2_items.proofs.FileSlots.{inode-read}
use Rattle.f2_items.proofs.ItemPlaces.{few_blocks}
use Rattle.f2_defects.proofs.Runs.{range-append}
use Rattle.f2_survey.proofs.Spots.{locate-past}
use Rattle.f2_view.proofs.TreeReads.{slot_at}

-- the items of the blocks that there are
of_blocks : (f : ℕ → Option Block) (ks : List ℕ) → flat_map (λ (b : ℕ × Block). block_items b.0 b.1) (filter_map (λ k. option_map (λ (b : Block). (k, b)) (f k)) ks) ≡ flat_map (λ k. optional_block_items k (f k)) ks
of_blocks f [] = refl
of_blocks f (k ∷ ks) =
    go (filter_map (λ j. option_map (λ (b : Block). (j, b)) (f j)) ks) (flat_map (λ j. optional_block_items j (f j)) ks) (f k) (of_blocks f ks)
  where
    go : (rest : List (ℕ × Block)) (items : List Item) (o : Option Block) → flat_map (λ (b : ℕ × Block). block_items b.0 b.1) rest ≡ items
        → flat_map (λ (b : ℕ × Block). block_items b.0 b.1) (cons_option (option_map (λ (b : Block). (k, b)) o) rest) ≡ optional_block_items k o ++ items
    go rest items None e = e
    go rest items (Some b) e = ap (λ l. block_items k b ++ l) e

nothing_in : (f : ℕ → List Item) (a n : ℕ) → ((k : ℕ) → a ≤ k → f k ≡ []) → flat_map f (range_with_len a n) ≡ []
nothing_in f a zero none = refl
nothing_in f a (suc n) none = λ t. none a (omega arith) t ++ nothing_in f (a + 1) n (λ k low. none k (omega (arith, low))) t

-- numbers from one on give nothing
shorter : (f : ℕ → List Item) (n d : ℕ) → ((k : ℕ) → n ≤ k → f k ≡ []) → flat_map f (numbers_below (n + d)) ≡ flat_map f (numbers_below n)
unfolding numbers_below
shorter f n d none =
    ap (flat_map f) (range-append 0 n d)
    ∙ flat_map-append f (range_with_len 0 n) (range_with_len (0 + n) d)
    ∙ ap (λ l. flat_map f (range_with_len 0 n) ++ l) (nothing_in f (0 + n) d (λ k low. none k (omega (arith, low))))
    ∙ append-nil (flat_map f (range_with_len 0 n))

in_slots : (regular link directory inline : Bool) → directory ≡ true → inline ≡ false → ((regular || link || directory) && not inline) ≡ true
in_slots true link directory inline there absent = ap not absent
in_slots false true directory inline there absent = ap not absent
in_slots false false directory inline there absent = λ t. there t && not (absent t)

module _ (image : Image) (ino : ℕ) (inode : Block) (is : inode_of image ino ≡ Some inode) (holes : main_block image 0 ≡ None) (directory : is_directory inode ≡ true) where
  at : ℕ → List Item
  at k = optional_block_items k (main_block image (tree_slot image ino k))

  past : has_slots inode ≡ true → (k : ℕ) → block_limit (address_count inode) ≤ k → at k ≡ []
  unfolding at
  past has k far =
      let none : tree_slot image ino k ≡ 0 = slot_at image ino k inode None (inode-read image ino inode is) has (sym (locate-past k (address_count inode) (omega (arith, far)))) in
      ap (λ a. optional_block_items k (main_block image a)) none ∙ ap (optional_block_items k) holes

  all_blocks : has_slots inode ≡ true → flat_map at (numbers_below most_blocks) ≡ flat_map at (numbers_below (block_limit (address_count inode)))
  all_blocks has =
      let limit = block_limit (address_count inode) in
      let few = few_blocks inode in
      let whole : most_blocks ≡ limit + (most_blocks - limit) = omega (arith, few) in
      ap (λ n. flat_map at (numbers_below n)) whole ∙ shorter at limit (most_blocks - limit) (past has)

  pub items_of_blocks : items_in inode (directory_blocks image ino) ≡ tree_items image ino
  unfolding items_in directory_blocks tree_items directory_items at
  items_of_blocks =
      ap (λ o. items_in inode (blocks_in image ino o)) is
      ∙ go (is_inline inode) refl
      ∙ sym (ap (λ o. option_map_or (λ (b : Block). directory_items b (λ k. main_block image (tree_slot image ino k))) o []) (inode-read image ino inode is))
    where
      go : (inline : Bool) → is_inline inode ≡ inline
          → cond inline (scan (inline_area inode) (inline_slots (inline_length inode))) (flat_map (λ (b : ℕ × Block). block_items b.0 b.1) (blocks_in image ino (Some inode)))
          ≡ cond inline (scan (inline_area inode) (inline_slots (inline_length inode))) (flat_map at (numbers_below (block_limit (address_count inode))))
      go true e = refl
      go false e =
          let has : has_slots inode ≡ true = in_slots (is_regular inode) (is_symlink inode) (is_directory inode) (is_inline inode) directory e in
          let both : (is_directory inode && has_slots inode) ≡ true = λ t. directory t && has t in
          ap (λ b. flat_map (λ (b : ℕ × Block). block_items b.0 b.1) (cond b (filter_map (λ k. option_map (λ (b : Block). (k, b)) (main_block image (tree_slot image ino k))) (numbers_below most_blocks)) [])) both
          ∙ of_blocks (λ k. main_block image (tree_slot image ino k)) (numbers_below most_blocks)
          ∙ all_blocks has
