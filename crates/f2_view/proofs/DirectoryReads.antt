-- The items of a directory, as they are read from its inode.
use Rattle.std.proofs.Common.{◌≡◌, ℕ, Bool, true, false, cond, List, [], ◌++◌, Some, None, refl, sym, ap, ◌∙◌}
use Rattle.std.specs.Prelude.{flat_map}
use Rattle.std.specs.Option.{option_map_or}
use Rattle.f2_bytes.specs.Bytes.{Block, Image, numbers_below}
use Rattle.f2_bytes.specs.Directory.{Item, optional_block_items, directory_items, scan, inline_slots}
use Rattle.f2_bytes.specs.Node.{is_inline, has_slots, address_count, block_limit, inline_area, inline_length}
use Rattle.f2_bytes.specs.Tree.{main_block, read_node, tree_slot, tree_items}
use Rattle.f2_view.specs.Directories.{word_items, nid_items, inode_items}
use Rattle.f2_view.proofs.Bands.{blocks_walk}
use Rattle.f2_view.proofs.Rows.{flat_map-nothing}
use Rattle.f2_view.proofs.TreeReads.{no_slots}
use Rattle.f2_view.proofs.Walks.{no_items}

module _ (image : Image) (ino : ℕ) where
  pub of_no_inode : read_node image ino ≡ None → tree_items image ino ≡ []
  unfolding tree_items
  of_no_inode none = ap (λ o. option_map_or (λ inode. directory_items inode (λ k. main_block image (tree_slot image ino k))) o []) none

  pub of_inode : main_block image 0 ≡ None → (b : Block) → read_node image ino ≡ Some b → tree_items image ino ≡ inode_items image b
  unfolding tree_items directory_items
  of_inode hole b is =
      ap (λ o. option_map_or (λ inode. directory_items inode (λ k. main_block image (tree_slot image ino k))) o []) is
      ∙ ap (cond (is_inline b) (scan (inline_area b) (inline_slots (inline_length b)))) (go (has_slots b) refl)
    where
      at : ℕ → List Item
      at k = optional_block_items k (main_block image (tree_slot image ino k))

      go : (slots : Bool) → has_slots b ≡ slots → flat_map at (numbers_below (block_limit (address_count b))) ≡ cond slots (word_items image b ++ nid_items image b) []
      go true has = blocks_walk image ino b is has hole
      go false has =
          flat_map-nothing at (numbers_below (block_limit (address_count b)))
          (λ k. ap (λ a. optional_block_items k (main_block image a)) (sym (no_slots image ino k b is has)) ∙ no_items image hole k)
