-- The names that are counted, and the least directory with one, are those of the names of all directories in a row.
use Rattle.std.proofs.Common.{◌≡◌, ℕ, ◌+◌, ◌<◌, ◌≤◌, List, [], ◌∷◌, Bool, true, false, cond, map, filter, sum_by, Option, Some, None, refl, sym, ap, ◌∙◌, arith}
use Rattle.std.specs.Prelude.{◌==◌, count_by, find, flat_map, nat_lt, option_map, is_some}
use Rattle.std.specs.Option.{option_or, option_map_or}
use Rattle.std.proofs.lemmas.Bool.{false≢true}
use Rattle.std.proofs.lemmas.List.Folds.{find-append}
use Rattle.std.proofs.lemmas.List.Sums.{sum_by-cons, sum_by-append}
use Rattle.f2_bytes.specs.Bytes.{Block, Image, numbers_below}
use Rattle.f2_bytes.specs.Check.{nids, inode_of, only_directory, directory_of, names_for, name_count, least_parent}
use Rattle.f2_bytes.specs.Directory.{Item}
use Rattle.f2_bytes.specs.Journal.{NatEntry}
use Rattle.f2_bytes.specs.NodeAddressTable.{nat}
use Rattle.f2_bytes.specs.Object.{is_name}
use Rattle.f2_bytes.specs.Tree.{is_inode, tree_items}
use Rattle.f2_items.specs.Directories.{name_limit, namings_at, namings_below}
use Rattle.f2_items.specs.Namings.{Naming, is_for, names_of, first_parent}
use Rattle.f2_items.proofs.FileSlots.{inode-is, inode-below}
use Rattle.f2_items.proofs.FoundItems.{is_some-find}
use Rattle.f2_items.proofs.Tours.{node_some}
use Rattle.f2_dent.proofs.Places.{find_passes}

-- the items of a directory with each its number
abbrev paired : ℕ → List Item → List Naming
paired ino items = map (λ item. (ino, item.ino)) items

counted_pairs : (target ino : ℕ) (items : List Item) → names_of target (paired ino items) ≡ count_by (λ item. item.ino == target) items
counted_pairs target ino [] = refl
counted_pairs target ino (x ∷ xs) =
    sum_by-cons (λ (n : Naming). cond {A = ℕ} (is_for target n) 1 0) (ino, x.ino) (map (λ item. (ino, item.ino)) xs)
    ∙ ap (λ n. cond (x.ino == target) 1 0 + n) (counted_pairs target ino xs)
    ∙ sym (sum_by-cons (λ (item : Item). cond {A = ℕ} (item.ino == target) 1 0) x xs)

-- each name has the number of the directory
parent_in_pairs : (target ino : ℕ) (items : List Item) (n : Naming) → find (is_for target) (paired ino items) ≡ Some n → n.0 ≡ ino
parent_in_pairs target ino [] n e = absurd (cc e)
parent_in_pairs target ino (x ∷ xs) n e = go (x.ino == target) refl (parent_in_pairs target ino xs n) e
  where
    go : (b : Bool) → (x.ino == target) ≡ b → (find (is_for target) (paired ino xs) ≡ Some n → n.0 ≡ ino)
        → cond b (Some (ino, x.ino)) (find (is_for target) (paired ino xs)) ≡ Some n → n.0 ≡ ino
    go true is ih first = let same : n ≡ (ino, x.ino) = cc first in ap (λ (n : Naming). n.0) same
    go false is ih later = ih later

module _ (image : Image) (target : ℕ) where
  -- the names that a directory has for the file
  counted_at : (ino : ℕ) → names_of target (namings_at image ino) ≡ names_for image target ino
  counted_at ino = go (is_some (directory_of image ino))
    where
      go : (b : Bool) → names_of target (map (λ item. (ino, item.ino)) (filter is_name (cond b (tree_items image ino) [])))
          ≡ count_by (λ item. item.ino == target) (cond b (filter is_name (tree_items image ino)) [])
      go true = counted_pairs target ino (filter is_name (tree_items image ino))
      go false = refl

  counted_in : (xs : List ℕ) → names_of target (flat_map (namings_at image) xs) ≡ sum_by (names_for image target) xs
  counted_in [] = refl
  counted_in (x ∷ xs) =
      sum_by-append (λ (n : Naming). cond {A = ℕ} (is_for target n) 1 0) (namings_at image x) (flat_map (namings_at image) xs)
      ∙ (λ i. counted_at x i + counted_in xs i)
      ∙ sym (sum_by-cons (names_for image target) x xs)

  pub name_count-is : name_count image target ≡ names_of target (namings_below image (nids image))
  unfolding name_count namings_below
  name_count-is = sym (counted_in (numbers_below (nids image)))

  found_at : (ino : ℕ) → is_some (find (is_for target) (namings_at image ino)) ≡ nat_lt 0 (names_for image target ino)
  found_at ino = is_some-find (is_for target) (namings_at image ino) ∙ ap (nat_lt 0) (counted_at ino)

  first_at : (ino : ℕ) (n : Naming) → find (is_for target) (namings_at image ino) ≡ Some n → n.0 ≡ ino
  first_at ino n e = parent_in_pairs target ino (filter is_name (cond (is_some (directory_of image ino)) (tree_items image ino) [])) n e

  first_in : (xs : List ℕ) → first_parent target (flat_map (namings_at image) xs) ≡ find (λ ino. nat_lt 0 (names_for image target ino)) xs
  first_in [] = refl
  first_in (x ∷ xs) =
      ap (option_map (λ (n : Naming). n.0)) (find-append (is_for target) (namings_at image x) (flat_map (namings_at image) xs))
      ∙ go (find (is_for target) (namings_at image x)) refl (first_in xs)
    where
      rest : Option Naming
      rest = find (is_for target) (flat_map (namings_at image) xs)

      later : Option ℕ
      later = find (λ ino. nat_lt 0 (names_for image target ino)) xs

      go : (o : Option Naming) → find (is_for target) (namings_at image x) ≡ o → option_map (λ (n : Naming). n.0) rest ≡ later
          → option_map (λ (n : Naming). n.0) (option_or (find (is_for target) (namings_at image x)) rest) ≡ cond (nat_lt 0 (names_for image target x)) (Some x) later
      go None e ih =
          ap (λ o. option_map (λ (n : Naming). n.0) (option_or o rest)) e
          ∙ ih
          ∙ ap (λ b. cond b (Some x) later) (sym (sym (found_at x) ∙ ap is_some e))
      go (Some n) e ih =
          ap (λ o. option_map (λ (n : Naming). n.0) (option_or o rest)) e
          ∙ ap Some (first_at x n e)
          ∙ ap (λ b. cond b (Some x) later) (sym (sym (found_at x) ∙ ap is_some e))

  pub least_parent-is : least_parent image target ≡ first_parent target (namings_below image (nids image))
  unfolding least_parent namings_below
  least_parent-is = sym (first_in (numbers_below (nids image)))

-- names are counted for each number of a file, and for the root
module _ (image : Image) where
  pub within_limit : (k : ℕ) → k < nids image → k < name_limit image
  unfolding name_limit
  within_limit k low = omega (arith, low)

  pub root_within : 3 < name_limit image
  unfolding name_limit
  root_within = omega arith

-- ---- the numbers of directories

-- a directory that names a file has a number that files can have
module _ (image : Image) where
  entry_there : (nid : ℕ) (o : Option NatEntry) → option_map_or (λ (e : NatEntry). e.ino == nid) o false ≡ true → is_some o ≡ true
  entry_there nid None is = absurd (false≢true is)
  entry_there nid (Some e) is = refl

  pub inode-some : (ino : ℕ) → is_inode image ino ≡ true → 1 ≤ ino
  unfolding is_inode
  inode-some ino is = node_some image ino (entry_there ino (nat image ino) is)

  directory-inode : (ino : ℕ) → is_some (directory_of image ino) ≡ true → is_inode image ino ≡ true
  directory-inode ino is = go (inode_of image ino) refl (is)
    where
      go : (o : Option Block) → inode_of image ino ≡ o → is_some (only_directory o) ≡ true → is_inode image ino ≡ true
      go None e some = absurd (false≢true some)
      go (Some b) e some = inode-is image ino b e

  naming-directory : (target ino : ℕ) → nat_lt 0 (names_for image target ino) ≡ true → is_some (directory_of image ino) ≡ true
  naming-directory target ino is = go (is_some (directory_of image ino)) is
    where
      go : (b : Bool) → nat_lt 0 (count_by (λ (item : Item). item.ino == target) (cond b (filter is_name (tree_items image ino)) [])) ≡ true → b ≡ true
      go true some = refl
      go false some = absurd (false≢true some)

  pub parent_inside : (target up : ℕ) → least_parent image target ≡ Some up → (1 ≤ up) × (up < nids image)
  unfolding least_parent
  parent_inside target up is =
      let names = find_passes (λ ino. nat_lt 0 (names_for image target ino)) (numbers_below (nids image)) up is in
      let inode = directory-inode up (naming-directory target up names) in
      (inode-some up inode, inode-below image up inode)
