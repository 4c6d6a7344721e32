-- The directories that are written anew so that an image reads as its salvage, and the blocks that they take.
use Rattle.std.specs.Prelude.{ℕ, zero, suc, ◌+◌, ◌*◌, max, Bool, not, ◌||◌, ◌&&◌, ◌==◌, if◌then◌else◌, List, [], ◌∷◌, length, map, filter, filter_map, find, fold, Option, Some, None, option_and_then, option_map, is_some}
use Rattle.std.specs.Ordering.{is_lt, nat_cmp}
use Rattle.std.specs.Cmp.Lexicographic.{slice_cmp}
use Rattle.std.specs.List.{list_any, list_all}
use Rattle.f2_bytes.specs.Bytes.{Block, Image, numbers_below}
use Rattle.f2_bytes.specs.Names.{dot, dot_dot}
use Rattle.f2_bytes.specs.Buckets.{Placed, level_of_block, level_start, places_of, first_without_place}
use Rattle.f2_bytes.specs.RollForward.{node_block}
use Rattle.f2_bytes.specs.Object.{is_name, gives_name}
use Rattle.f2_bytes.specs.Check.{Reading, kind_of_inode, item_parts, defects_at, nids}
use Rattle.f2_bytes.specs.SalvagedFiles.{is_file, is_directory_file, file_items}
use Rattle.f2_bytes.specs.Claims.{Claim, is_on}
use Rattle.f2_bytes.specs.LostFiles.{is_made}
use Rattle.f2_bytes.specs.Salvage.{names_in_directory, file_names}

-- claims in the byte order of their names
abbrev pub put_in_order : Claim → List Claim → List Claim
put_in_order c [] = c ∷ []
put_in_order c (d ∷ ds) = if is_lt (slice_cmp nat_cmp c.name d.name) then c ∷ d ∷ ds else d ∷ put_in_order c ds

abbrev pub in_order : List Claim → List Claim
in_order cs = fold (λ sorted c. put_in_order c sorted) [] cs

-- the levels of buckets that a directory may use
abbrev pub levels : ℕ
levels = 25

module _ (image : Image) where
  -- ---- the names of directories

  -- the names that a directory has in the end, in byte order
  unfoldable pub names_of : ℕ → List Claim
  names_of ino = in_order (names_in_directory image ino)

  -- the least directory that names a file in the end
  unfoldable pub salvaged_parent : ℕ → Option ℕ
  salvaged_parent ino = find (λ d. list_any (is_on ino) (names_in_directory image d)) (numbers_below (nids image + 1))

  -- the n-th step up, each to the least directory that names a file in the end
  unfoldable pub salvaged_ancestor : ℕ → ℕ → Option ℕ
  salvaged_ancestor zero ino = Some ino
  salvaged_ancestor (suc n) ino = option_and_then salvaged_parent (salvaged_ancestor n ino)

  -- ---- which directories are rebuilt

  -- the inode of a file
  abbrev pub file_inode : ℕ → Option Block
  file_inode ino = if is_file image ino then node_block image ino else None

  -- directories as the salvage reads them
  unfoldable pub salvage_reading : Reading
  salvage_reading = record {
    inode = file_inode;
    kind = λ ino. if is_made image ino then 2 else kind_of_inode (file_inode ino);
    items = file_items image;
    parent = salvaged_parent;
  }

  -- the names that stand in a directory are those that it has in the end
  abbrev pub has_its_names : ℕ → Bool
  has_its_names ino =
      list_all (λ item. file_names image ino item.name item.ino) (filter is_name (file_items image ino))
      && list_all (λ c. gives_name (file_items image ino) c.name c.target) (names_of ino)

  -- an item of the directory would fail a cross-check
  abbrev pub has_wrong_items : ℕ → Bool
  has_wrong_items ino = list_any (λ p. not (length (defects_at p ino) == 0)) (item_parts (nids image) salvage_reading)

  -- a directory that is written anew
  unfoldable pub is_rebuilt : ℕ → Bool
  is_rebuilt ino =
      is_made image ino || (is_directory_file image ino && (has_wrong_items ino || not (has_its_names ino)))

  -- a file of the salvage: one that stands, or the directory for lost files that is made
  abbrev pub is_salvaged_file : ℕ → Bool
  is_salvaged_file ino = is_file image ino || is_made image ino

  -- all of them in order, and those that are rebuilt directories
  abbrev pub salvaged_files : List ℕ
  salvaged_files = filter is_salvaged_file (numbers_below (nids image + 1))

  unfoldable pub rebuilt_directories : List ℕ
  rebuilt_directories = filter is_rebuilt (numbers_below (nids image + 1))

  -- ---- what they are built of

  -- the names of a rebuilt directory, and where each of them stands
  abbrev pub built_names : ℕ → List (List ℕ)
  built_names ino = dot ∷ dot_dot ∷ map (λ c. c.name) (names_of ino)

  unfoldable pub built_places : ℕ → List Placed
  built_places ino = filter_map (λ p. p) (places_of levels (built_names ino))

  -- the numbers of its blocks: those with a name
  unfoldable pub built_blocks : ℕ → List ℕ
  built_blocks ino =
      filter (λ k. list_any (λ p. p.block == k) (built_places ino)) (numbers_below (level_start levels 0))

  -- its depth and its size
  abbrev pub built_depth : ℕ → ℕ
  built_depth ino = fold max 0 (map (λ p. level_of_block 0 p.block + 1) (built_places ino))

  abbrev pub built_size : ℕ → ℕ
  built_size ino = 4096 * fold max 0 (map (λ p. p.block + 1) (built_places ino))

  -- the number of its first name that finds no place
  abbrev pub name_without_place : ℕ → Option ℕ
  name_without_place ino = first_without_place levels (built_names ino)

  -- the first rebuilt directory with such a name, and the number of that name
  unfoldable pub full_directory : Option (ℕ × ℕ)
  full_directory =
      option_and_then (λ ino. option_map (λ name. (ino, name)) (name_without_place ino))
      (find (λ ino. is_some (name_without_place ino)) rebuilt_directories)
