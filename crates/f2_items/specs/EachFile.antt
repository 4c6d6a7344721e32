-- What is compared of each file that was visited, one after the other.
use Rattle.std.specs.Prelude.{◌≡◌, ℕ, ◌<◌, Bool, false, ◌==◌, if◌then◌else◌, List, [], ◌∷◌, ◌++◌, get_or, flat_map, unwrap_or, Option, Some, None}
use Rattle.std.specs.Option.{option_map_or}
use Rattle.f2_bytes.specs.Bytes.{Block, Image}
use Rattle.f2_bytes.specs.Check.{Comparison, Part, Defect, defects_at, same, fails_where, none_value, nids, inode_of, least_parent, is_least_ancestor}
use Rattle.f2_defects.specs.Collected.{Collection, Collects}
use Rattle.f2_items.specs.Directories.{name_limit, namings_below, visited_of}
use Rattle.f2_items.specs.Namings.{IsTally}
use Rattle.f2_items.specs.declared.name_counts.Tallies.{Tallies}
use Rattle.f2_items.specs.declared.visited_files.Visited.{Visited}

-- the names of all files were counted
abbrev pub HasNames : Image → Tallies → Type 0
HasNames image t = IsTally (name_limit image) (namings_below image (nids image)) t

-- which numbers are their own ancestors is known
abbrev pub TellsOwn : Image → List Bool → Type 0
TellsOwn image own = (k : ℕ) → k < nids image → get_or own k false ≡ is_least_ancestor image k

-- the number of a directory, where 0 is none
abbrev pub above : ℕ → Option ℕ
above up = if up == 0 then None else Some up

-- what `..` of a directory has to name
abbrev pub up_wanted : Image → ℕ → ℕ
up_wanted image ino = if ino == 3 then 3 else unwrap_or (least_parent image ino) none_value

-- what `..` names against what it has to; where it is absent, the test says whether that fails
abbrev pub up_comparison : Option ℕ → Bool → ℕ → Option Comparison
up_comparison up absent_fails wanted = option_map_or (λ target. same target wanted) up (fails_where absent_fails 0 wanted)

-- this is kept of a file of the image
pub record IsVisited (image : Image) (v : Visited) : Type 0 where
  pub inode : Block
  pub there : inode_of image v.ino ≡ Some inode
  pub says : v ≡ visited_of image v.ino inode

-- a part of this number with one comparison for each file, and none for a number that is none
pub record IsOfFiles (image : Image) (n : ℕ) (p : Part) : Type 0 where
  pub number_is : p.number ≡ n
  pub all : p.first_limit ≡ nids image
  pub one : (ino : ℕ) → p.second_limit ino ≡ 1
  pub none : (ino : ℕ) → inode_of image ino ≡ None → p.comparison ino 0 ≡ None

-- the defects of a part at these files
unfoldable pub file_defects : Part → List Visited → List Defect
file_defects p files = flat_map (λ v. defects_at p v.ino) files

-- these are collected
pub record HasTaken (c : Collection) (p : Part) (files : List Visited) : Type 0 where
  pub part : c.part ≡ p.number
  pub collects : Collects c (file_defects p files)

-- one file more
abbrev pub Takes : Collection → Collection → Part → Visited → Type 0
Takes old new p v = (files : List Visited) → HasTaken old p files → HasTaken new p (files ++ v ∷ [])
