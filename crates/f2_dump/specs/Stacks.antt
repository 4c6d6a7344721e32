-- The names whose lines are still to be put, the next one last.
use Rattle.std.specs.Prelude.{◌≡◌, ℕ, zero, suc, ◌+◌, ◌*◌, ◌^◌, true, false, List, [], ◌∷◌, ◌++◌, map, Option, Some, None}
use Rattle.f2_bytes.specs.Bytes.{Image}
use Rattle.f2_bytes.specs.Directory.{Item}
use Rattle.f2_view.specs.Directories.{item_of}
use Rattle.f2_view.specs.declared.directories.Named.{Named}
use Rattle.f2_dump.specs.Trees.{tree_line, is_directory_of, names_of, lines_within}

-- a name, its level, and how many levels may follow below it
pub record Pending : Type 0 where
  pub level : ℕ
  pub left : ℕ
  pub ino : ℕ
  pub name : List ℕ

-- the names of a directory at a level, of which this many may be put
abbrev pub pending_at : ℕ → ℕ → Item → Pending
pending_at level left item = record { level = level; left = left; ino = item.ino; name = item.name }

abbrev pub pending : ℕ → ℕ → List Item → List Pending
pending level zero items = []
pending level (suc left) items = map (pending_at level left) items

-- the lines of a name and those below it, and those of all
abbrev pub pending_lines : Image → Pending → List ℕ
pending_lines image p = tree_line p.level (is_directory_of image p.ino) p.name ++ lines_within p.left image (suc p.level) p.ino

unfoldable pub stack_lines : Image → List Pending → List ℕ
stack_lines image [] = []
stack_lines image (p ∷ ps) = stack_lines image ps ++ pending_lines image p

-- A number that falls with each name that is taken and replaced by those in its directory: no list is as long as 2^64.
unfoldable pub weight : ℕ → ℕ
weight zero = 2 ^ 64
weight (suc left) = 2 ^ 64 * weight left

unfoldable pub stack_weight : List Pending → ℕ
stack_weight [] = 0
stack_weight (p ∷ ps) = weight p.left + stack_weight ps

-- what is read of the directory with this number: its names in order, or that there is none
abbrev pub Lists : Image → ℕ → Option (List Named) → Type 0
Lists image ino None = is_directory_of image ino ≡ false
Lists image ino (Some names) = (is_directory_of image ino ≡ true) × (map item_of names ≡ names_of image ino)
