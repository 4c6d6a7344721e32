-- What is kept of the directories of an image while its files are visited one after the other.
use Rattle.std.specs.Prelude.{◌≡◌, ℕ, ◌+◌, ◌*◌, ◌/◌, max, Bool, true, false, not, if◌then◌else◌, List, [], ◌∷◌, ◌++◌, map, filter, filter_map, flat_map, count_by, Option, Some, None, option_map, is_some}
use Rattle.std.specs.Option.{option_map_or}
use Rattle.f2_bytes.specs.Buckets.{level_of_block}
use Rattle.f2_bytes.specs.Bytes.{Block, Image, numbers_below}
use Rattle.f2_bytes.specs.Directory.{Item, block_items, block_slots, scan, inline_slots}
use Rattle.f2_bytes.specs.Names.{dot, dot_dot}
use Rattle.f2_bytes.specs.Node.{is_directory, is_inline, inline_area, inline_length, links, size}
use Rattle.f2_bytes.specs.Object.{is_name}
use Rattle.f2_bytes.specs.Tree.{main_block, tree_items}
use Rattle.f2_bytes.specs.Check.{Comparison, Defect, defects_at, same, at_least, fails_where, of_value, nids, inode_of, directory_of, kind_of_inode}
use Rattle.f2_defects.specs.Collected.{Collection, Compares, defects_of}
use Rattle.f2_items.specs.ItemComparisons.{Finds, ItemsCompared}
use Rattle.f2_items.specs.Namings.{Naming, IsTally}
use Rattle.f2_items.specs.OpenDirectories.{first_target, one_past, depth_of, IsOpen}
use Rattle.f2_survey.specs.Parts.{part_in}
use Rattle.f2_bytes.specs.Node.{current_depth, dir_level, has_inline_dots}
use Rattle.f2_items.specs.declared.directories.Directories.{Directories}
use Rattle.f2_items.specs.declared.rule_10_items.ItemRules.{ItemRules}
use Rattle.f2_items.specs.declared.names_of_directories.Names.{Names}
use Rattle.f2_items.specs.declared.open_directory.OpenDirectory.{OpenDirectory}
use Rattle.f2_items.specs.declared.visited_files.Closed.{Closed}
use Rattle.f2_items.specs.declared.visited_files.FileKind.{FileKind}
use Rattle.f2_items.specs.declared.visited_files.FileKind.TheVariants.{Plain, Directory}
use Rattle.f2_items.specs.declared.visited_files.Visited.{Visited}
use Rattle.f2_items.specs.declared.rule_10_directories.WholeRules.{WholeRules}
use Rattle.f2_view.specs.Directories.{legal}

-- ---- names

-- the names among the items of a directory
abbrev pub namings_in : ℕ → List Item → List Naming
namings_in ino items = map (λ item. (ino, item.ino)) (filter is_name items)

-- the type of each file, and which are directories
abbrev pub kind_in : Image → ℕ → ℕ
kind_in image ino = kind_of_inode (inode_of image ino)

abbrev pub is_directory_in : Image → ℕ → Bool
is_directory_in image ino = is_some (directory_of image ino)

-- names are counted for each number that files can have, and for the root in any case
unfoldable pub name_limit : Image → ℕ
name_limit image = max (nids image) 4

-- What is kept of the items of all directories: the names before a directory and those among its items so far, and the defects
-- of both.
pub record NamesKept (image : Image) (limit : ℕ) (before : ℕ → List Defect) (namings : List Naming) (ino : ℕ) (inode : Block) (items : List Item) (n : Names) : Type 0 where
  pub tally : IsTally limit (namings ++ namings_in ino items) n.tallies
  pub rules : ItemsCompared before (kind_in image) ino (depth_of inode) items n.rules

-- the same, with what is kept of the directory itself
pub record HasRead (image : Image) (limit : ℕ) (before : ℕ → List Defect) (namings : List Naming) (ino : ℕ) (inode : Block) (items : List Item) (n : Names) (o : OpenDirectory) : Type 0 where
  pub names : NamesKept image limit before namings ino inode items n
  pub directory : IsOpen (is_directory_in image) ino inode items o

-- ---- whole directories

-- a directory that stands in blocks
abbrev pub block_directory : Block → Option Block
block_directory inode = if is_inline inode then None else Some inode

-- how many levels it has, what `.` names, and how long it is
abbrev pub depth_comparison : Block → List Item → Option Comparison
depth_comparison inode items = of_value (block_directory inode) (λ b.
    at_least (current_depth b) (one_past (λ item. level_of_block (dir_level b) (item.place / block_slots)) (legal items)))

abbrev pub dot_comparison : ℕ → Block → List Item → Option Comparison
dot_comparison ino inode items = option_map_or (λ target. same target ino) (first_target dot (legal items)) (fails_where (not (has_inline_dots inode)) 0 ino)

abbrev pub size_comparison : Block → List Item → Option Comparison
size_comparison inode items = of_value (block_directory inode) (λ b. at_least (size b) (4096 * one_past (λ item. item.place / block_slots) (legal items)))

-- what is collected of the parts 6, 7 and 9 of rule 10
pub record WholesFind (defects : ℕ → List Defect) (w : WholeRules) : Type 0 where
  pub depths : Finds 6 (defects 6) w.depths
  pub dots : Finds 7 (defects 7) w.dots
  pub sizes : Finds 9 (defects 9) w.sizes

-- the same, with the defects of a directory more
pub record WholesCompared (before : ℕ → List Defect) (ino : ℕ) (inode : Block) (items : List Item) (w : WholeRules) : Type 0 where
  pub depths : Finds 6 (before 6 ++ defects_of 6 ino 0 (depth_comparison inode items)) w.depths
  pub dots : Finds 7 (before 7 ++ defects_of 7 ino 0 (dot_comparison ino inode items)) w.dots
  pub sizes : Finds 9 (before 9 ++ defects_of 9 ino 0 (size_comparison inode items)) w.sizes

-- after such comparisons of a directory that was read
abbrev pub DepthCompared : Collection → Collection → OpenDirectory → Type 0
DepthCompared old new o = Compares old new o.ino 0 (if o.inode.is_inline then None else at_least o.inode.current_depth o.reach.levels)

abbrev pub DotCompared : Collection → Collection → OpenDirectory → Type 0
DotCompared old new o = Compares old new o.ino 0 (option_map_or (λ target. same target o.ino) o.dots.dot (fails_where (not o.inode.may_lack_dots) 0 o.ino))

abbrev pub SizeCompared : Collection → Collection → OpenDirectory → Type 0
SizeCompared old new o = Compares old new o.ino 0 (if o.inode.is_inline then None else at_least o.inode.size (4096 * o.reach.blocks))

-- ---- files

-- what is kept of a directory with these items after it was read
abbrev pub closed_of : Image → Block → List Item → Closed
closed_of image inode items = record {
  links_wanted = 2 + count_by (λ item. is_directory_in image item.ino) (filter is_name items);
  up = first_target dot_dot (legal items);
  may_lack_dots = has_inline_dots inode;
}

abbrev pub kind_kept : Image → ℕ → Block → FileKind
kind_kept image ino inode = if is_directory inode then Directory (closed_of image inode (tree_items image ino)) else Plain

-- what is kept of the file with this inode
abbrev pub visited_of : Image → ℕ → Block → Visited
visited_of image ino inode = record { ino = ino; links = links inode; kind = kind_kept image ino inode }

abbrev pub visited_at : Image → ℕ → Option Visited
visited_at image ino = option_map (visited_of image ino) (inode_of image ino)

-- what is kept of a file that is no directory, and of a directory that was read
abbrev pub plain : ℕ → Block → Visited
plain ino inode = record { ino = ino; links = links inode; kind = Plain }

abbrev pub closed_from : OpenDirectory → Visited
closed_from o = record {
  ino = o.ino;
  links = o.inode.links;
  kind = Directory (record { links_wanted = 2 + o.directories; up = o.dots.dot_dot; may_lack_dots = o.inode.may_lack_dots });
}

-- ---- files with a number below n

-- the names that a directory has, and those of all directories with a number below n
abbrev pub namings_at : Image → ℕ → List Naming
namings_at image ino = namings_in ino (if is_directory_in image ino then tree_items image ino else [])

unfoldable pub namings_below : Image → ℕ → List Naming
namings_below image n = flat_map (namings_at image) (numbers_below n)

-- the defects by a part of rule 10 at these numbers
unfoldable pub defects_before : Image → ℕ → ℕ → List Defect
defects_before image n part = flat_map (defects_at (part_in image 10 part)) (numbers_below n)

unfoldable pub visited_below : Image → ℕ → List Visited
visited_below image n = filter_map (visited_at image) (numbers_below n)

-- what is collected of the parts 1 to 5 of rule 10
pub record RulesFind (defects : ℕ → List Defect) (r : ItemRules) : Type 0 where
  pub illegal : Finds 1 (defects 1) r.illegal
  pub twins : Finds 2 (defects 2) r.twins
  pub hashes : Finds 3 (defects 3) r.hashes
  pub buckets : Finds 4 (defects 4) r.buckets
  pub kinds : Finds 5 (defects 5) r.kinds

-- ---- the relations

-- every file with a number below n was visited
pub record IsGathered (image : Image) (n : ℕ) (d : Directories) : Type 0 where
  pub tally : IsTally (name_limit image) (namings_below image n) d.names.tallies
  pub rules : RulesFind (defects_before image n) d.names.rules
  pub wholes : WholesFind (defects_before image n) d.wholes
  pub files : d.files.items ≡ visited_below image n

-- and so was a part of the next one: a directory with these items so far
pub record IsReading (image : Image) (ino : ℕ) (inode : Block) (items : List Item) (d : Directories) : Type 0 where
  pub directory : OpenDirectory
  pub reading : d.reading ≡ Some directory
  pub read : HasRead image (name_limit image) (defects_before image ino) (namings_below image ino) ino inode items d.names directory
  pub wholes : WholesFind (defects_before image ino) d.wholes
  pub files : d.files.items ≡ visited_below image ino

-- or another file
pub record IsPassing (image : Image) (ino : ℕ) (inode : Block) (d : Directories) : Type 0 where
  pub reading : d.reading ≡ None
  pub tally : IsTally (name_limit image) (namings_below image ino) d.names.tallies
  pub rules : RulesFind (defects_before image ino) d.names.rules
  pub wholes : WholesFind (defects_before image ino) d.wholes
  pub files : d.files.items ≡ visited_below image ino ++ visited_of image ino inode ∷ []

-- the items of a directory with this inode and these blocks, each with its number
unfoldable pub items_in : Block → List (ℕ × Block) → List Item
items_in inode blocks =
    if is_inline inode then scan (inline_area inode) (inline_slots (inline_length inode))
    else flat_map (λ b. block_items b.0 b.1) blocks

-- the items with those of one block more
abbrev pub items_with : Block → List Item → ℕ → Block → List Item
items_with inode items k block = if is_inline inode then items else items ++ block_items k block

abbrev pub IsVisiting : Bool → Image → ℕ → Block → List (ℕ × Block) → Directories → Type 0
IsVisiting true image ino inode blocks d = IsReading image ino inode (items_in inode blocks) d
IsVisiting false image ino inode blocks d = IsPassing image ino inode d

-- An image whose main area begins past block 0: there a hole is no block. Nothing is said of others.
abbrev pub HasHoles : Image → Type 0
HasHoles image = main_block image 0 ≡ None

-- what is kept after every file with a number below n
unfoldable pub DirectoriesAfter : Image → ℕ → Directories → Type 0
DirectoriesAfter image n d = HasHoles image → IsGathered image n d

-- what is kept after these blocks of the next file too, if it has an inode
abbrev pub VisitsFile : Option Block → Image → ℕ → List (ℕ × Block) → Directories → Type 0
VisitsFile None image ino blocks d = Unit {0}
VisitsFile (Some inode) image ino blocks d = IsVisiting (is_directory inode) image ino inode blocks d

unfoldable pub DirectoriesInside : Image → ℕ → List (ℕ × Block) → Directories → Type 0
DirectoriesInside image ino blocks d = HasHoles image → VisitsFile (inode_of image ino) image ino blocks d
