-- What the names of a salvage are like: they make a tree of its files.
use Rattle.std.specs.Prelude.{◌≡◌, ◌≢◌, ℕ, ◌^◌, ◌<◌, ◌≤◌, not, List, [], ◌∷◌, find, count_by, is_some, All, Some, IsTrue, IsFalse}
use Rattle.std.specs.List.{list_any, Contains}
use Rattle.std.specs.Ordering.{nat_cmp}
use Rattle.std.specs.declared.cmp.Ordering.TheVariants.{Less}
use Rattle.std.specs.Cmp.Lexicographic.{slice_cmp}
use Rattle.f2_bytes.specs.Bytes.{Image}
use Rattle.f2_bytes.specs.Superblock.{super_copy}
use Rattle.f2_bytes.specs.Names.{is_legal_name, is_dots}
use Rattle.f2_bytes.specs.SalvagedFiles.{root, is_file, is_directory_file}
use Rattle.f2_bytes.specs.Claims.{Claim, claims, same_name, is_on, kept_claims}
use Rattle.f2_bytes.specs.LostFiles.{is_lost}
use Rattle.f2_bytes.specs.Salvage.{names}
use Rattle.f2_bytes.specs.RebuiltDirectories.{is_salvaged_file, salvaged_ancestor, names_of}
use Rattle.f2_bytes.specs.Mending.{is_salvaged_directory}

-- the first claim of its directory to its name: a legal name, in a directory, of another file than that and the root
pub record IsFirstClaim (image : Image) (c : Claim) : Type 0 where
  pub first : find (same_name c) (claims image) ≡ Some c
  pub legal : IsTrue (is_legal_name c.name)
  pub plain : IsFalse (is_dots c.name)
  pub directory : IsTrue (is_directory_file image c.directory)
  pub target : IsTrue (is_file image c.target)
  pub apart : c.target ≢ c.directory
  pub below : c.target ≢ root

abbrev pub KeptAreFirst : Type 0
KeptAreFirst = (image : Image) → All (IsFirstClaim image) (kept_claims image)

-- a file other than the root is lost just where no kept name is its own
abbrev pub KeptOrLost : Type 0
KeptOrLost = (image : Image) (ino : ℕ) → IsTrue (is_file image ino) → ino ≢ root
    → is_lost image ino ≡ not (list_any (is_on ino) (kept_claims image))

-- a name of the salvage: legal, in a directory, of another file than that and the root, and the only such name there
pub record IsSalvagedName (image : Image) (c : Claim) : Type 0 where
  pub legal : IsTrue (is_legal_name c.name)
  pub plain : IsFalse (is_dots c.name)
  pub directory : IsTrue (is_salvaged_directory image c.directory)
  pub target : IsTrue (is_salvaged_file image c.target)
  pub apart : c.target ≢ c.directory
  pub below : c.target ≢ root
  pub once : count_by (same_name c) (names image) ≡ 1

-- where a superblock copy passes and the root directory is left, all names of the salvage are such
abbrev pub NamesStandOnce : Type 0
NamesStandOnce = (image : Image) → IsTrue (is_some (super_copy image)) → IsTrue (is_directory_file image root)
    → All (IsSalvagedName image) (names image)

-- a file of the salvage has names, as many as its links can count, and a directory one
pub record HasNames (image : Image) (ino : ℕ) : Type 0 where
  pub some : 1 ≤ count_by (is_on ino) (names image)
  pub few : count_by (is_on ino) (names image) < 2 ^ 32
  pub one : IsTrue (is_salvaged_directory image ino) → count_by (is_on ino) (names image) ≡ 1

abbrev pub FilesHaveNames : Type 0
FilesHaveNames = (image : Image) (ino : ℕ) → IsTrue (is_some (super_copy image)) → IsTrue (is_salvaged_file image ino)
    → ino ≢ root → HasNames image ino

-- from each file of the salvage, steps up to the least directory that names it lead to the root
abbrev pub StepsReachRoot : Type 0
StepsReachRoot = (image : Image) (ino : ℕ) → IsTrue (is_some (super_copy image))
    → IsTrue (is_directory_file image root) → IsTrue (is_salvaged_file image ino)
    → (n : ℕ) × (salvaged_ancestor image n ino ≡ Some root)

-- claims whose names ascend in byte order
abbrev pub IsAscending : List Claim → Type 0
IsAscending [] = Unit {0}
IsAscending (c ∷ cs) = All (λ d. slice_cmp nat_cmp c.name d.name ≡ Less) cs × IsAscending cs

-- a list of just the names of a directory, which ascends
pub record IsOrdered (image : Image) (ino : ℕ) (cs : List Claim) : Type 0 where
  pub ascends : IsAscending cs
  pub inside : All (λ c. Contains (names image) c × (c.directory ≡ ino)) cs
  pub whole : All (λ c. c.directory ≡ ino → Contains cs c) (names image)

-- the names of a directory in order are such a list, and no other list is
abbrev pub NamesAreOrdered : Type 0
NamesAreOrdered = (image : Image) (ino : ℕ) → IsTrue (is_some (super_copy image))
    → IsOrdered image ino (names_of image ino)
    × ((cs : List Claim) → IsOrdered image ino cs → cs ≡ names_of image ino)
