-- The law of mending, and what of the names of a salvage it rests on, as statements.
use Rattle.std.specs.Prelude.{◌≡◌, ◌≢◌, ℕ, ◌+◌, ◌≤◌, count_by, Some, is_some, All, IsTrue}
use Rattle.f2_bytes.specs.Bytes.{Image}
use Rattle.f2_bytes.specs.Journal.{is_mountable}
use Rattle.f2_bytes.specs.Tree.{tree}
use Rattle.f2_bytes.specs.Check.{is_checked_body}
use Rattle.f2_bytes.specs.SalvagedFiles.{root, is_file}
use Rattle.f2_bytes.specs.Claims.{is_on}
use Rattle.f2_bytes.specs.Salvage.{names, salvage}
use Rattle.f2_bytes.specs.RebuiltDirectories.{salvaged_ancestor}
use Rattle.f2_bytes.specs.Mending.{is_salvaged_directory}
use Rattle.f2_bytes.specs.Mended.{IsMended}

-- The names of a salvage form a tree: each stands in a directory, the root has none, each other directory just one and
-- no loop, each other file at least one.
pub record NamesFormTree (image : Image) : Type 0 where
  pub directories : All (λ c. IsTrue (is_salvaged_directory image c.directory)) (names image)
  pub root_unnamed : count_by (is_on root) (names image) ≡ 0
  pub directories_named : (ino : ℕ) → IsTrue (is_salvaged_directory image ino) → ino ≢ root
      → count_by (is_on ino) (names image) ≡ 1
  pub files_named : (ino : ℕ) → IsTrue (is_file image ino) → ino ≢ root → 1 ≤ count_by (is_on ino) (names image)
  pub no_loops : (n ino : ℕ) → IsTrue (is_salvaged_directory image ino)
      → salvaged_ancestor image (n + 1) ino ≢ Some ino

-- where an image can be mounted and its root is left, an image that was mended of it meets all rules but the one on the
-- superblock copies, and its tree is the salvage
abbrev pub MendedIsSalvage : Type 0
MendedIsSalvage = (image other : Image) → IsTrue (is_mountable image) → IsTrue (is_some (salvage image))
    → IsMended image other → IsTrue (is_checked_body other) × (salvage image ≡ Some (tree other))
