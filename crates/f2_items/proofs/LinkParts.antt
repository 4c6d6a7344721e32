-- The comparisons of links and names, by what is kept of a file: part 2 of rule 9, part 8 of rule 10, and rule 11.
use Rattle.std.proofs.Common.{◌≡◌, ℕ, ◌+◌, [], Bool, true, false, cond, not, filter, Option, Some, None, refl, sym, ap, ◌∙◌, append-nil}
use Rattle.std.specs.Prelude.{◌==◌, count_by, find, nat_lt, if◌then◌else◌, option_map, is_some}
use Rattle.std.specs.Option.{option_map_or}
use Rattle.f2_bytes.specs.Bytes.{Block, Image, numbers_below}
use Rattle.f2_bytes.specs.Check.{Comparison, part_defects, defects_at, inode_of, only_directory, directory_of, same, fails_where, digit, where_true, of_value, first_named, links_wanted, names_in, name_count, is_least_ancestor, inode_parts, item_parts, link_parts, tree_reading}
use Rattle.f2_bytes.specs.Directory.{Item}
use Rattle.f2_bytes.specs.Names.{dot_dot}
use Rattle.f2_bytes.specs.Node.{is_directory, has_inline_dots, links}
use Rattle.f2_bytes.specs.Object.{is_name}
use Rattle.f2_bytes.specs.Tree.{tree_items}
use Rattle.f2_defects.specs.Collected.{defects_of}
use Rattle.f2_items.specs.Directories.{closed_of, kind_kept, visited_of}
use Rattle.f2_items.specs.EachFile.{IsVisited, IsOfFiles, up_wanted, up_comparison}
use Rattle.f2_items.specs.FirstPlaces.{has_name}
use Rattle.f2_items.specs.OpenDirectories.{first_target}
use Rattle.f2_survey.specs.Parts.{part_in}
use Rattle.f2_items.specs.declared.visited_files.Closed.{Closed}
use Rattle.f2_items.specs.declared.visited_files.FileKind.TheVariants.{Plain, Directory}
use Rattle.f2_items.specs.declared.visited_files.Visited.{Visited}
use Rattle.f2_view.specs.Directories.{legal}

-- ---- what the parts compare

module _ (image : Image) where
  pub links_part : (ino : ℕ) → (part_in image 9 2).comparison ino 0 ≡ of_value (inode_of image ino) (λ b. same (links b) (links_wanted image ino b))
  unfolding inode_parts
  links_part ino = refl

  -- `..` of a directory, as the tree reads it
  abbrev up_at : ℕ → Block → Option Comparison
  up_at ino b = up_comparison (first_target dot_dot (legal (tree_items image ino))) (not (has_inline_dots b)) (up_wanted image ino)

  of_target : (wanted : ℕ) (absent : Option Comparison) (o : Option Item) → option_map_or (λ (item : Item). same item.ino wanted) o absent
      ≡ option_map_or (λ target. same target wanted) (option_map (λ (item : Item). item.ino) o) absent
  of_target wanted absent None = refl
  of_target wanted absent (Some item) = refl

  up_part : (ino : ℕ) → (part_in image 10 8).comparison ino 0 ≡ of_value (directory_of image ino) (up_at ino)
  unfolding item_parts tree_reading first_named
  up_part ino = go (directory_of image ino)
    where
      found : Option Item
      found = find (has_name dot_dot) (legal (tree_items image ino))

      go : (o : Option Block) → of_value o (λ b. option_map_or (λ (item : Item). same item.ino (up_wanted image ino)) found (fails_where (not (has_inline_dots b)) 0 (up_wanted image ino)))
          ≡ of_value o (up_at ino)
      go None = refl
      go (Some b) = of_target (up_wanted image ino) (fails_where (not (has_inline_dots b)) 0 (up_wanted image ino)) found

  pub names_part : (ino : ℕ) → (part_in image 11 1).comparison ino 0
      ≡ of_value (inode_of image ino) (λ b. where_true (not (ino == 3)) (same (if is_directory b then name_count image ino else digit (nat_lt 0 (name_count image ino))) 1))
  unfolding link_parts
  names_part ino = refl

  own_part : (ino : ℕ) → (part_in image 11 2).comparison ino 0 ≡ of_value (directory_of image ino) (λ b. same (digit (is_least_ancestor image ino)) 0)
  unfolding link_parts
  own_part ino = refl

  pub root_part : defects_of 3 3 0 (same (name_count image 3) 0) ≡ part_defects (part_in image 11 3)
  unfolding link_parts part_defects defects_at numbers_below
  root_part = sym (append-nil (defects_of 3 3 0 (same (name_count image 3) 0)))

  -- ---- each speaks of files

  pub links_of_files : IsOfFiles image 2 (part_in image 9 2)
  unfolding inode_parts
  links_of_files = record { number_is = refl; all = refl; one = λ ino. refl; none = λ ino none. ap (λ o. of_value o (λ b. same (links b) (links_wanted image ino b))) none }

  pub up_of_files : IsOfFiles image 8 (part_in image 10 8)
  unfolding item_parts
  up_of_files = record { number_is = refl; all = refl; one = λ ino. refl; none = λ ino none. up_part ino ∙ ap (λ o. of_value (only_directory o) (up_at ino)) none }

  pub names_of_files : IsOfFiles image 1 (part_in image 11 1)
  unfolding link_parts
  names_of_files = record {
    number_is = refl;
    all = refl;
    one = λ ino. refl;
    none = λ ino none. ap (λ o. of_value o (λ b. where_true (not (ino == 3)) (same (if is_directory b then name_count image ino else digit (nat_lt 0 (name_count image ino))) 1))) none;
  }

  pub own_of_files : IsOfFiles image 2 (part_in image 11 2)
  unfolding link_parts
  own_of_files = record { number_is = refl; all = refl; one = λ ino. refl; none = λ ino none. ap (λ o. of_value (only_directory o) (λ b. same (digit (is_least_ancestor image ino)) 0)) none }

-- ---- a file that is kept

module _ (image : Image) (ino : ℕ) (b : Block) where
  kept_plain : kind_kept image ino b ≡ Plain → is_directory b ≡ false
  kept_plain is = go (is_directory b) is
    where
      go : (t : Bool) → cond t (Directory (closed_of image b (tree_items image ino))) Plain ≡ Plain → t ≡ false
      go true e = absurd (cc e)
      go false e = refl

  kept_directory : (c : Closed) → kind_kept image ino b ≡ Directory c → (is_directory b ≡ true) × (closed_of image b (tree_items image ino) ≡ c)
  kept_directory c is = go (is_directory b) is
    where
      go : (t : Bool) → cond t (Directory (closed_of image b (tree_items image ino))) Plain ≡ Directory c → (t ≡ true) × (closed_of image b (tree_items image ino) ≡ c)
      go true e = (refl, cc e)
      go false e = absurd (cc e)

module _ (image : Image) (v : Visited) (b : Block) (says : v ≡ visited_of image v.ino b) where
  pub is_plain : v.kind ≡ Plain → is_directory b ≡ false
  is_plain is = kept_plain image v.ino b (sym (ap (λ (w : Visited). w.kind) says) ∙ is)

  pub is_closed : (c : Closed) → v.kind ≡ Directory c → (is_directory b ≡ true) × (closed_of image b (tree_items image v.ino) ≡ c)
  is_closed c is = kept_directory image v.ino b c (sym (ap (λ (w : Visited). w.kind) says) ∙ is)

  -- the links that are wanted
  pub links_wanted-plain : v.kind ≡ Plain → name_count image v.ino ≡ links_wanted image v.ino b
  links_wanted-plain is = sym (ap (λ t. cond t (2 + count_by (λ (item : Item). is_some (directory_of image item.ino)) (names_in image v.ino)) (name_count image v.ino)) (is_plain is))

  pub links_wanted-directory : (c : Closed) → inode_of image v.ino ≡ Some b → v.kind ≡ Directory c → c.links_wanted ≡ links_wanted image v.ino b
  links_wanted-directory c there is =
      let closed = is_closed c is in
      let here : is_some (directory_of image v.ino) ≡ true = ap (λ o. is_some (only_directory o)) there ∙ ap (λ t. is_some (cond t (Some b) None)) closed.0 in
      sym (ap (λ (c : Closed). c.links_wanted) closed.1)
      ∙ ap (λ t. 2 + count_by (λ (item : Item). is_some (directory_of image item.ino)) (cond t (filter is_name (tree_items image v.ino)) [])) (sym here)
      ∙ sym (ap (λ t. cond t (2 + count_by (λ (item : Item). is_some (directory_of image item.ino)) (names_in image v.ino)) (name_count image v.ino)) closed.0)

module _ (image : Image) (v : Visited) (is : IsVisited image v) where
  abbrev b : Block
  b = is.inode

  no_directory : v.kind ≡ Plain → directory_of image v.ino ≡ None
  no_directory plain = ap only_directory is.there ∙ ap (λ t. cond t (Some b) None) (is_plain image v b is.says plain)

  a_directory : (c : Closed) → v.kind ≡ Directory c → directory_of image v.ino ≡ Some b
  a_directory c closed = ap only_directory is.there ∙ ap (λ t. cond t (Some b) None) (is_closed image v b is.says c closed).0

  pub up-plain : v.kind ≡ Plain → (part_in image 10 8).comparison v.ino 0 ≡ None
  up-plain plain = up_part image v.ino ∙ ap (λ o. of_value o (up_at image v.ino)) (no_directory plain)

  pub up-directory : (c : Closed) → v.kind ≡ Directory c → up_comparison c.up (not c.may_lack_dots) (up_wanted image v.ino) ≡ (part_in image 10 8).comparison v.ino 0
  up-directory c closed =
      ap (λ (c : Closed). up_comparison c.up (not c.may_lack_dots) (up_wanted image v.ino)) (sym (is_closed image v b is.says c closed).1)
      ∙ sym (up_part image v.ino ∙ ap (λ o. of_value o (up_at image v.ino)) (a_directory c closed))

  pub links-at : (wanted : ℕ) → wanted ≡ links_wanted image v.ino b → same v.links wanted ≡ (part_in image 9 2).comparison v.ino 0
  links-at wanted e =
      (λ i. same ((ap (λ (w : Visited). w.links) is.says) i) (e i))
      ∙ sym (links_part image v.ino ∙ ap (λ o. of_value o (λ b. same (links b) (links_wanted image v.ino b))) is.there)

  -- names
  abbrev compared : ℕ → Block → Option Comparison
  compared ino b = where_true (not (ino == 3)) (same (cond (is_directory b) (name_count image ino) (digit (nat_lt 0 (name_count image ino)))) 1)

  names-at : (part_in image 11 1).comparison v.ino 0 ≡ compared v.ino b
  names-at = names_part image v.ino ∙ ap (λ o. of_value o (compared v.ino)) is.there

  pub names-root : (v.ino == 3) ≡ true → (part_in image 11 1).comparison v.ino 0 ≡ None
  names-root root = names-at ∙ ap (λ t. where_true (not t) (same (cond (is_directory b) (name_count image v.ino) (digit (nat_lt 0 (name_count image v.ino)))) 1)) root

  pub names-other : (found : ℕ) → (v.ino == 3) ≡ false → found ≡ cond (is_directory is.inode) (name_count image v.ino) (digit (nat_lt 0 (name_count image v.ino)))
      → same found 1 ≡ (part_in image 11 1).comparison v.ino 0
  names-other found other e =
      ap (λ n. same n 1) e
      ∙ sym (names-at ∙ ap (λ t. where_true (not t) (same (cond (is_directory b) (name_count image v.ino) (digit (nat_lt 0 (name_count image v.ino)))) 1)) other)

  pub own-plain : v.kind ≡ Plain → (part_in image 11 2).comparison v.ino 0 ≡ None
  own-plain plain = own_part image v.ino ∙ ap (λ o. of_value o (λ b. same (digit (is_least_ancestor image v.ino)) 0)) (no_directory plain)

  pub own-directory : (c : Closed) → v.kind ≡ Directory c → same (digit (is_least_ancestor image v.ino)) 0 ≡ (part_in image 11 2).comparison v.ino 0
  own-directory c closed = sym (own_part image v.ino ∙ ap (λ o. of_value o (λ b. same (digit (is_least_ancestor image v.ino)) 0)) (a_directory c closed))
