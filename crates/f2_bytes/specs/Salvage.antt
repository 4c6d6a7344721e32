-- The salvage: the tree that can be kept of any image, whatever is broken in it.
use Rattle.std.specs.Prelude.{ℕ, Bool, ◌&&◌, ◌==◌, if◌then◌else◌, List, [], ◌∷◌, ◌++◌, map, filter, Option, Some, None, option_map}
use Rattle.std.specs.List.{list_any}
use Rattle.std.specs.Str.{bytes_eq}
use Rattle.f2_bytes.specs.Bytes.{Block, Image}
use Rattle.f2_bytes.specs.Node.{attribute_offset}
use Rattle.f2_bytes.specs.RollForward.{node_block}
use Rattle.f2_bytes.specs.Object.{Object, FileTree, object_of}
use Rattle.f2_bytes.specs.Format.{new_directory}
use Rattle.f2_bytes.specs.SalvagedFiles.{root, is_file, is_directory_file, file_node, file_piece}
use Rattle.f2_bytes.specs.Claims.{Claim, kept_claims}
use Rattle.f2_bytes.specs.LostFiles.{lost_files, lost_claim, made_claim, makes_lost_directory, is_made}

-- all names in the end: the kept ones, those of lost files, and that of a directory that is made
unfoldable pub names : Image → List Claim
names image =
    kept_claims image
    ++ map (lost_claim image) (lost_files image)
    ++ (if makes_lost_directory image then made_claim image ∷ [] else [])

-- those in one directory
abbrev pub names_in_directory : Image → ℕ → List Claim
names_in_directory image ino = filter (λ c. c.directory == ino) (names image)

-- whether a directory has this name for that file
abbrev pub file_names : Image → ℕ → List ℕ → ℕ → Bool
file_names image ino name target =
    list_any (λ c. (c.directory == ino) && bytes_eq c.name name && (c.target == target)) (names image)

-- the object of a file
abbrev pub file_object : Image → ℕ → Block → Object
file_object image ino inode =
    object_of inode (file_piece image ino) (file_node image ino attribute_offset) (file_names image ino)

-- the files with what they keep, and the directory for lost files where one is made: only its owner may read it
abbrev pub salvaged_tree : Image → FileTree
salvaged_tree image ino =
    if is_file image ino then option_map (file_object image ino) (node_block image ino)
    else (if is_made image ino then Some (new_directory 0x41C0 0 (file_names image ino)) else None)

-- the tree that is kept of an image, if its root directory is left
unfoldable pub salvage : Image → Option FileTree
salvage image = if is_directory_file image root then Some (salvaged_tree image) else None
