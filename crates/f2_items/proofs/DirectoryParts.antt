-- The parts 1 to 7 and 9 of rule 10 at one file: a directory, or another one.
use Rattle.std.proofs.Common.{◌≡◌, ℕ, ◌*◌, ◌/◌, List, [], ◌∷◌, Bool, true, false, not, ◌==◌, cond, Option, Some, None, refl, sym, ap, ◌∙◌}
use Rattle.std.specs.Prelude.{filter_map, find, is_some, option_map, option_and_then}
use Rattle.std.specs.Option.{option_map_or}
use Rattle.f2_bytes.specs.Buckets.{bucket_of, bucket_of_block, level_of_block}
use Rattle.f2_bytes.specs.Bytes.{Block, Image, numbers_below}
use Rattle.f2_bytes.specs.Check.{Comparison, Defect, nids, inode_of, directory_of, kind_of_inode, same, at_least, fails_where, of_value, defect_of, defects_at, item_parts, item_at, first_named, tree_reading}
use Rattle.f2_bytes.specs.Directory.{Item, block_slots}
use Rattle.f2_bytes.specs.Names.{dot, name_hash}
use Rattle.f2_bytes.specs.Node.{current_depth, dir_level, has_inline_dots, is_inline, most_blocks, size}
use Rattle.f2_bytes.specs.Tree.{tree_items}
use Rattle.f2_defects.specs.Collected.{defects_of}
use Rattle.f2_items.specs.Directories.{kind_in, block_directory, depth_comparison, dot_comparison, size_comparison}
use Rattle.f2_items.specs.FirstPlaces.{has_name}
use Rattle.f2_items.specs.ItemComparisons.{item_defects, of_legal, illegal_comparison, twin_comparison, hash_comparison, bucket_comparison, kind_comparison}
use Rattle.f2_items.specs.OpenDirectories.{one_past, depth_of}
use Rattle.f2_survey.specs.Parts.{part_in}
use Rattle.f2_items.proofs.FilteredRanges.{filter_map-nothing}
use Rattle.f2_items.proofs.FileSlots.{defects-one}
use Rattle.f2_items.proofs.ItemPlaces.{Ascends, ascends-tree}
use Rattle.f2_items.proofs.PlacedItems.{by_places}
use Rattle.f2_view.specs.Directories.{legal}

-- ---- comparisons of the items of a list, by their places

module _ (part ino : ℕ) (items : List Item) (ascends : Ascends 0 (block_slots * most_blocks) items) (c : ℕ → Item → Option Comparison) (d : Item → Option Comparison) (agree : (item : Item) → c item.place item ≡ d item) where
  by_item : (b : ℕ) (o : Option Item) → defect_of part ino b (of_value o (c b)) ≡ option_and_then (λ (item : Item). defect_of part ino b (c b item)) o
  by_item b None = refl
  by_item b (Some item) = refl

  listed : filter_map (λ b. defect_of part ino b (of_value (find (λ (item : Item). item.place == b) items) (c b))) (numbers_below (block_slots * most_blocks)) ≡ item_defects part ino d items
  unfolding item_defects
  listed =
      by_places (λ b item. defect_of part ino b (c b item)) (λ b. defect_of part ino b (of_value (find (λ (item : Item). item.place == b) items) (c b))) items (block_slots * most_blocks) ascends
      (λ b. by_item b (find (λ (item : Item). item.place == b) items))
      ∙ ap (λ (f : Item → Option Defect). filter_map f items) (λ t item. defect_of part ino item.place (agree item t))

-- no comparison is made of them
none_listed : (part ino : ℕ) (items : List Item) → item_defects part ino (λ _. None) items ≡ []
unfolding item_defects
none_listed part ino [] = refl
none_listed part ino (x ∷ xs) = none_listed part ino xs

-- the same for the legal items
abbrev only_legal : Option Item → Option Item
only_legal o = option_and_then (λ (item : Item). cond item.is_legal (Some item) None) o

legal_value : (c : Item → Option Comparison) (o : Option Item) → of_value (only_legal o) c ≡ of_value o (λ item. of_legal item (c item))
legal_value c None = refl
legal_value c (Some item) = go item.is_legal
  where
    go : (b : Bool) → of_value (cond b (Some item) None) c ≡ cond b (c item) None
    go true = refl
    go false = refl

module _ (part ino : ℕ) (items : List Item) (ascends : Ascends 0 (block_slots * most_blocks) items) (c : ℕ → Item → Option Comparison) (d : Item → Option Comparison) (agree : (item : Item) → of_legal item (c item.place item) ≡ d item) where
  listed_legal : filter_map (λ b. defect_of part ino b (of_value (option_and_then (λ (item : Item). cond item.is_legal (Some item) None) (find (λ (item : Item). item.place == b) items)) (c b))) (numbers_below (block_slots * most_blocks)) ≡ item_defects part ino d items
  listed_legal =
      ap (λ (f : ℕ → Option Defect). filter_map f (numbers_below (block_slots * most_blocks))) (λ t b. defect_of part ino b (legal_value (c b) (find (λ (item : Item). item.place == b) items) t))
      ∙ listed part ino items ascends (λ b item. of_legal item (c b item)) d agree

-- ---- a directory

module _ (image : Image) (ino : ℕ) (inode : Block) (is : directory_of image ino ≡ Some inode) where
  item_there : (b : ℕ) → item_at (nids image) (tree_reading image) ino b ≡ find (λ (item : Item). item.place == b) (tree_items image ino)
  unfolding item_at tree_reading
  item_there b = ap (λ (o : Option Block). find (λ (item : Item). item.place == b) (cond (is_some o) (tree_items image ino) [])) is

  first_there : (name : List ℕ) → first_named (nids image) (tree_reading image) ino name ≡ find (has_name name) (legal (tree_items image ino))
  unfolding first_named tree_reading
  first_there name = refl

  pub illegal_part : defects_at (part_in image 10 1) ino ≡ item_defects 1 ino illegal_comparison (tree_items image ino)
  unfolding defects_at item_parts
  illegal_part =
      ap (λ (f : ℕ → Option Item). filter_map (λ b. defect_of 1 ino b (of_value (f b) illegal_comparison)) (numbers_below (block_slots * most_blocks))) (λ t b. item_there b t)
      ∙ listed 1 ino (tree_items image ino) (ascends-tree image ino) (λ b item. illegal_comparison item) illegal_comparison (λ item. refl)

  -- a part that compares legal items
  legal_part : (part : ℕ) (c : ℕ → Item → Option Comparison) (d : Item → Option Comparison) → ((item : Item) → of_legal item (c item.place item) ≡ d item)
      → filter_map (λ b. defect_of part ino b (of_value (option_and_then (λ (item : Item). cond item.is_legal (Some item) None) (item_at (nids image) (tree_reading image) ino b)) (c b))) (numbers_below (block_slots * most_blocks))
      ≡ item_defects part ino d (tree_items image ino)
  legal_part part c d agree =
      ap (λ (f : ℕ → Option Item). filter_map (λ b. defect_of part ino b (of_value (option_and_then (λ (item : Item). cond item.is_legal (Some item) None) (f b)) (c b))) (numbers_below (block_slots * most_blocks))) (λ t b. item_there b t)
      ∙ listed_legal part ino (tree_items image ino) (ascends-tree image ino) c d agree

  pub twin_part : defects_at (part_in image 10 2) ino ≡ item_defects 2 ino (twin_comparison (legal (tree_items image ino))) (tree_items image ino)
  unfolding defects_at item_parts
  twin_part =
      legal_part 2 (λ b item. same (option_map_or (λ (first : Item). first.place) (first_named (nids image) (tree_reading image) ino item.name) 0) b) (twin_comparison (legal (tree_items image ino)))
      (λ item. ap (λ (o : Option Item). of_legal item (same (option_map_or (λ (first : Item). first.place) o 0) item.place)) (first_there item.name))

  pub hash_part : defects_at (part_in image 10 3) ino ≡ item_defects 3 ino hash_comparison (tree_items image ino)
  unfolding defects_at item_parts
  hash_part = legal_part 3 (λ b item. same item.hash (name_hash item.name)) hash_comparison (λ item. refl)

  pub kind_part : defects_at (part_in image 10 5) ino ≡ item_defects 5 ino (kind_comparison (kind_in image)) (tree_items image ino)
  unfolding defects_at item_parts tree_reading
  kind_part = legal_part 5 (λ b item. same item.kind (kind_of_inode (inode_of image item.ino))) (kind_comparison (kind_in image)) (λ item. refl)

  -- a directory in blocks
  in_blocks : option_and_then (λ (b : Block). cond (is_inline b) None (Some b)) (directory_of image ino) ≡ block_directory inode
  in_blocks = ap (option_and_then (λ (b : Block). cond (is_inline b) None (Some b))) is

  bucket_at : Block → ℕ → Item → Option Comparison
  bucket_at x b item = same (bucket_of_block (dir_level x) (b / block_slots)) (bucket_of (level_of_block (dir_level x) (b / block_slots)) (dir_level x) (name_hash item.name))

  pub bucket_part : defects_at (part_in image 10 4) ino ≡ item_defects 4 ino (bucket_comparison (depth_of inode)) (tree_items image ino)
  unfolding defects_at item_parts bucket_at numbers_below tree_reading
  bucket_part =
      ap (λ (o : Option Block). filter_map (λ b. defect_of 4 ino b (of_value o (λ x. of_value (option_and_then (λ (item : Item). cond item.is_legal (Some item) None) (item_at (nids image) (tree_reading image) ino b)) (bucket_at x b)))) (numbers_below (block_slots * most_blocks))) in_blocks
      ∙ go (is_inline inode)
    where
      go : (inline : Bool) → filter_map (λ b. defect_of 4 ino b (of_value (cond {A = Option Block} inline None (Some inode)) (λ x. of_value (option_and_then (λ (item : Item). cond item.is_legal (Some item) None) (item_at (nids image) (tree_reading image) ino b)) (bucket_at x b)))) (numbers_below (block_slots * most_blocks))
          ≡ item_defects 4 ino (bucket_comparison (cond inline None (Some (dir_level inode)))) (tree_items image ino)
      go true = filter_map-nothing (λ b. None) 0 (block_slots * most_blocks) (λ k low high. refl) ∙ sym (none_listed 4 ino (tree_items image ino))
      go false = legal_part 4 (bucket_at inode) (bucket_comparison (Some (dir_level inode))) (λ item. refl)

  pub depth_part : defects_at (part_in image 10 6) ino ≡ defects_of 6 ino 0 (depth_comparison inode (tree_items image ino))
  unfolding item_parts tree_reading
  depth_part =
      defects-one 6 (nids image) (λ i. of_value (option_and_then (λ (b : Block). cond (is_inline b) None (Some b)) (directory_of image i))
      (λ b. at_least (current_depth b) (one_past (λ item. level_of_block (dir_level b) (item.place / block_slots)) (legal (tree_items image i))))) ino
      ∙ ap (λ (o : Option Block). defects_of 6 ino 0 (of_value o (λ b. at_least (current_depth b) (one_past (λ item. level_of_block (dir_level b) (item.place / block_slots)) (legal (tree_items image ino)))))) in_blocks

  pub size_part : defects_at (part_in image 10 9) ino ≡ defects_of 9 ino 0 (size_comparison inode (tree_items image ino))
  unfolding item_parts tree_reading
  size_part =
      defects-one 9 (nids image) (λ i. of_value (option_and_then (λ (b : Block). cond (is_inline b) None (Some b)) (directory_of image i))
      (λ b. at_least (size b) (4096 * one_past (λ item. item.place / block_slots) (legal (tree_items image i))))) ino
      ∙ ap (λ (o : Option Block). defects_of 9 ino 0 (of_value o (λ b. at_least (size b) (4096 * one_past (λ item. item.place / block_slots) (legal (tree_items image ino)))))) in_blocks

  pub dot_part : defects_at (part_in image 10 7) ino ≡ defects_of 7 ino 0 (dot_comparison ino inode (tree_items image ino))
  unfolding item_parts tree_reading first_named
  dot_part =
      defects-one 7 (nids image) (λ i. of_value (directory_of image i) (λ b. option_map_or (λ (item : Item). same item.ino i) (find (has_name dot) (legal (tree_items image i))) (fails_where (not (has_inline_dots b)) 0 i))) ino
      ∙ ap (λ (o : Option Block). defects_of 7 ino 0 (of_value o (λ b. option_map_or (λ (item : Item). same item.ino ino) (find (has_name dot) (legal (tree_items image ino))) (fails_where (not (has_inline_dots b)) 0 ino)))) is
      ∙ ap (λ (k : Option Comparison). defects_of 7 ino 0 k) (named (find (has_name dot) (legal (tree_items image ino))))
    where
      named : (o : Option Item) → option_map_or (λ (item : Item). same item.ino ino) o (fails_where (not (has_inline_dots inode)) 0 ino)
          ≡ option_map_or (λ target. same target ino) (option_map (λ (item : Item). item.ino) o) (fails_where (not (has_inline_dots inode)) 0 ino)
      named None = refl
      named (Some item) = refl

-- ---- another file

module _ (image : Image) (ino : ℕ) (none : directory_of image ino ≡ None) where
  no_item : (b : ℕ) → item_at (nids image) (tree_reading image) ino b ≡ None
  unfolding item_at tree_reading
  no_item b = ap (λ (o : Option Block). find (λ (item : Item). item.place == b) (cond (is_some o) (tree_items image ino) [])) none

  nothing_at : (part : ℕ) (f : ℕ → Option Item → Option Comparison) → ((b : ℕ) → f b None ≡ None)
      → filter_map (λ b. defect_of part ino b (f b (item_at (nids image) (tree_reading image) ino b))) (numbers_below (block_slots * most_blocks)) ≡ []
  unfolding numbers_below
  nothing_at part f empty =
      filter_map-nothing (λ b. defect_of part ino b (f b (item_at (nids image) (tree_reading image) ino b))) 0 (block_slots * most_blocks)
      (λ b low high. ap (λ o. defect_of part ino b (f b o)) (no_item b) ∙ ap (defect_of part ino b) (empty b))

  no_blocks : option_and_then (λ (b : Block). cond (is_inline b) None (Some b)) (directory_of image ino) ≡ None
  no_blocks = ap (option_and_then (λ (b : Block). cond (is_inline b) None (Some b))) none

  pub no_illegal : defects_at (part_in image 10 1) ino ≡ []
  unfolding defects_at item_parts
  no_illegal = nothing_at 1 (λ b o. of_value o illegal_comparison) (λ b. refl)

  pub no_twins : defects_at (part_in image 10 2) ino ≡ []
  unfolding defects_at item_parts
  no_twins = nothing_at 2 (λ b o. of_value (only_legal o) (λ item. same (option_map_or (λ (first : Item). first.place) (first_named (nids image) (tree_reading image) ino item.name) 0) b)) (λ b. refl)

  pub no_hashes : defects_at (part_in image 10 3) ino ≡ []
  unfolding defects_at item_parts
  no_hashes = nothing_at 3 (λ b o. of_value (only_legal o) (λ item. same item.hash (name_hash item.name))) (λ b. refl)

  pub no_buckets : defects_at (part_in image 10 4) ino ≡ []
  unfolding defects_at item_parts tree_reading
  no_buckets =
      nothing_at 4 (λ b o. of_value (option_and_then (λ (x : Block). cond (is_inline x) None (Some x)) (directory_of image ino)) (λ x. of_value (only_legal o) (λ item.
      same (bucket_of_block (dir_level x) (b / block_slots)) (bucket_of (level_of_block (dir_level x) (b / block_slots)) (dir_level x) (name_hash item.name)))))
      (λ b. ap (λ (o : Option Block). of_value o (λ x. None)) no_blocks)

  pub no_kinds : defects_at (part_in image 10 5) ino ≡ []
  unfolding defects_at item_parts tree_reading
  no_kinds = nothing_at 5 (λ b o. of_value (only_legal o) (λ item. same item.kind (kind_of_inode (inode_of image item.ino)))) (λ b. refl)

  pub no_depths : defects_at (part_in image 10 6) ino ≡ []
  unfolding item_parts tree_reading
  no_depths =
      defects-one 6 (nids image) (λ i. of_value (option_and_then (λ (b : Block). cond (is_inline b) None (Some b)) (directory_of image i))
      (λ b. at_least (current_depth b) (one_past (λ item. level_of_block (dir_level b) (item.place / block_slots)) (legal (tree_items image i))))) ino
      ∙ ap (λ (o : Option Block). defects_of 6 ino 0 (of_value o (λ b. at_least (current_depth b) (one_past (λ item. level_of_block (dir_level b) (item.place / block_slots)) (legal (tree_items image ino)))))) no_blocks

  pub no_dots : defects_at (part_in image 10 7) ino ≡ []
  unfolding item_parts tree_reading first_named
  no_dots =
      defects-one 7 (nids image) (λ i. of_value (directory_of image i) (λ b. option_map_or (λ (item : Item). same item.ino i) (find (has_name dot) (legal (tree_items image i))) (fails_where (not (has_inline_dots b)) 0 i))) ino
      ∙ ap (λ (o : Option Block). defects_of 7 ino 0 (of_value o (λ b. option_map_or (λ (item : Item). same item.ino ino) (find (has_name dot) (legal (tree_items image ino))) (fails_where (not (has_inline_dots b)) 0 ino)))) none

  pub no_sizes : defects_at (part_in image 10 9) ino ≡ []
  unfolding item_parts tree_reading
  no_sizes =
      defects-one 9 (nids image) (λ i. of_value (option_and_then (λ (b : Block). cond (is_inline b) None (Some b)) (directory_of image i))
      (λ b. at_least (size b) (4096 * one_past (λ item. item.place / block_slots) (legal (tree_items image i))))) ino
      ∙ ap (λ (o : Option Block). defects_of 9 ino 0 (of_value o (λ b. at_least (size b) (4096 * one_past (λ item. item.place / block_slots) (legal (tree_items image ino)))))) no_blocks
