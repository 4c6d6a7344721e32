-- The names that the nid slots of a file give to nodes, in the order of their offsets.
use Rattle.std.specs.Prelude.{ℕ, zero, suc, ◌+◌, ◌*◌, ◌==◌, if◌then◌else◌, List, [], ◌∷◌, ◌++◌, flat_map, filter_map, Option, Some, None, option_map}
use Rattle.f2_bytes.specs.Bytes.{Block, Image, word, numbers_below}
use Rattle.f2_bytes.specs.Node.{inode_nid, has_slots, offset_limit}
use Rattle.f2_bytes.specs.Tree.{read_node}
use Rattle.f2_bytes.specs.Check.{Defect, same, offset_of_node}
use Rattle.f2_defects.specs.Collected.{defects_of}
use Rattle.f2_survey.specs.Slots.{Row, inode_row_of, node_row_of}
use Rattle.f2_bytes.specs.Node.{is_direct}
use Rattle.f2_bytes.specs.Tree.{nid_slot}
use Rattle.f2_survey.specs.declared.nid_slot_names.Name.{Name}

-- the name in a nid slot, if it has one
abbrev pub name_in : ℕ → ℕ → List Name
name_in offset nid = if nid == 0 then [] else (record { offset = offset; nid = nid } ∷ [])

-- the names in all nid slots of a file
unfoldable pub file_names : Image → ℕ → List Name
file_names image ino = flat_map (λ offset. name_in offset (nid_slot image ino offset)) (numbers_below offset_limit)

-- how many offsets a node has from which h steps lead to the direct nodes: its own, and those of the nodes under it
abbrev pub span : ℕ → ℕ
span zero = 1
span (suc h) = 1 + 1018 * span h

-- what a function gives for the 1018 numbers of a node, and nothing where it is missing
abbrev pub each_number : (ℕ → ℕ → List Name) → Option Block → List Name
each_number f None = []
each_number f (Some b) = flat_map (λ j. f j (word b j)) (numbers_below 1018)

-- the name of a node, and those of the nodes under it: h steps lead from it to the direct nodes
unfoldable pub names_under : Image → ℕ → ℕ → ℕ → List Name
names_under image zero offset nid = name_in offset nid
names_under image (suc h) offset nid =
    name_in offset nid ++ each_number (λ j number. names_under image h (offset + 1 + j * span h) number) (read_node image nid)

-- the names that the five nids of an inode lead to
abbrev pub inode_names : Image → Block → List Name
inode_names image inode =
    names_under image 0 1 (inode_nid inode 0)
    ++ names_under image 0 2 (inode_nid inode 1)
    ++ names_under image 1 3 (inode_nid inode 2)
    ++ names_under image 1 1022 (inode_nid inode 3)
    ++ names_under image 2 2041 (inode_nid inode 4)

-- the defects that a name of a file shows: its node is of another file, or says another offset
abbrev pub name_defects : Image → ℕ → Name → List Defect
name_defects image ino name = defects_of 6 ino name.offset (same (offset_of_node image name.nid ino) name.offset)

-- the row in the node that a name of a file leads to, where that is a direct node
abbrev pub name_row : Image → ℕ → Block → Name → Option Row
name_row image ino inode name =
    if is_direct name.offset then option_map (node_row_of ino inode name.nid name.offset) (read_node image name.nid) else None

-- the rows of a file with this inode and these names
abbrev pub named_rows : Image → ℕ → Block → List Name → List Row
named_rows image ino inode names = if has_slots inode then inode_row_of ino inode ∷ filter_map (name_row image ino inode) names else []
