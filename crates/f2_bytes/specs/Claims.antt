-- The names that directories and nodes claim for files, which of them are good, and which are kept.
use Rattle.std.specs.Prelude.{ℕ, zero, suc, ◌+◌, ◌-◌, ◌^◌, Bool, not, ◌&&◌, ◌==◌, nat_lt, if◌then◌else◌, List, [], ◌∷◌, ◌++◌, find, flat_map, filter_map, count_by, Option, Some, None, option_and_then, option_map}
use Rattle.std.specs.List.{list_any}
use Rattle.std.specs.Str.{bytes_eq}
use Rattle.f2_bytes.specs.Bytes.{Block, Image, bytes_at, numbers_below}
use Rattle.f2_bytes.specs.Node.{inode_row, footer_nid, footer_ino, node_offset, has_dentry_mark}
use Rattle.f2_bytes.specs.Directory.{Item}
use Rattle.f2_bytes.specs.Names.{is_legal_name, is_dots}
use Rattle.f2_bytes.specs.RollForward.{chain_length, chain_node, is_counting}
use Rattle.f2_bytes.specs.Check.{nids}
use Rattle.f2_bytes.specs.SalvagedFiles.{root, passes_test, is_file, is_directory_file, directories, file_items}

-- a claim: that a directory names a file so
pub record Claim : Type 0 where
  pub directory : ℕ
  pub name : List ℕ
  pub target : ℕ

-- ---- all claims

-- the directory and the name that an inode says that its file has
abbrev pub pino : Block → ℕ
pino b = inode_row b 18

abbrev pub namelen : Block → ℕ
namelen b = inode_row b 19

abbrev pub inode_name : Block → List ℕ
inode_name b = bytes_at b 92 (namelen b)

-- the claim of place n of the chain: a counting inode with the dentry mark and a legal name
abbrev pub chain_claim : Image → ℕ → Option Claim
chain_claim image n =
    let b = chain_node image n in
    if is_counting image n
    && (footer_nid b == footer_ino b)
    && (node_offset b == 0)
    && has_dentry_mark b
    && is_legal_name (inode_name b)
    then Some (record { directory = pino b; name = inode_name b; target = footer_ino b })
    else None

-- the claim of an item with a legal name
abbrev pub item_claim : ℕ → Item → Option Claim
item_claim ino item =
    if item.is_legal then Some (record { directory = ino; name = item.name; target = item.ino }) else None

-- those of the chain in its order, then those of the directories in order
unfoldable pub claims : Image → List Claim
claims image =
    filter_map (chain_claim image) (numbers_below (chain_length image))
    ++ flat_map (λ ino. filter_map (item_claim ino) (file_items image ino)) (directories image)

-- ---- good claims

abbrev pub same_name : Claim → Claim → Bool
same_name c d = (c.directory == d.directory) && bytes_eq c.name d.name

abbrev pub is_on : ℕ → Claim → Bool
is_on target c = c.target == target

-- a good claim: the first in its directory with its name, of one file on another
abbrev pub is_good : Image → List Claim → Claim → Bool
is_good image before c =
    not (is_dots c.name)
    && not (list_any (same_name c) before)
    && is_directory_file image c.directory
    && is_file image c.target
    && not (c.target == c.directory)
    && not (c.target == root)

-- the elements that pass a test of those before and of themselves
unfoldable pub filter_after : {A : Type 0} → (List A → A → Bool) → List A → List A → List A
filter_after test before [] = []
filter_after test before (x ∷ xs) =
    let rest = filter_after test (before ++ x ∷ []) xs in
    if test before x then x ∷ rest else rest

unfoldable pub good_claims : Image → List Claim
good_claims image = filter_after (is_good image) [] (claims image)

-- ---- kept claims

-- the directory of the first good claim on a file, and the n-th such step up
abbrev pub parent : Image → ℕ → Option ℕ
parent image ino = option_map (λ c. c.directory) (find (is_on ino) (good_claims image))

unfoldable pub ancestor : Image → ℕ → ℕ → Option ℕ
ancestor image zero ino = Some ino
ancestor image (suc n) ino = option_and_then (parent image) (ancestor image n ino)

-- such steps lead from a directory back to it
unfoldable pub is_own_ancestor : Image → ℕ → Bool
is_own_ancestor image ino =
    list_any (λ n. passes_test (λ up. up == ino) (ancestor image (n + 1) ino)) (numbers_below (nids image))

-- a good claim is kept: a directory has one name and no loop, another file as many as its links can count
abbrev pub is_kept : Image → List Claim → Claim → Bool
is_kept image before c =
    if is_directory_file image c.target
    then not (list_any (is_on c.target) before) && not (is_own_ancestor image c.target)
    else nat_lt (count_by (is_on c.target) before) (2 ^ 32 - 1)

unfoldable pub kept_claims : Image → List Claim
kept_claims image = filter_after (is_kept image) [] (good_claims image)

-- the file that a directory keeps under a name
abbrev pub kept_target : Image → ℕ → List ℕ → Option ℕ
kept_target image ino name =
    option_map (λ c. c.target) (find (λ c. (c.directory == ino) && bytes_eq c.name name) (kept_claims image))
