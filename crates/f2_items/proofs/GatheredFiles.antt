-- What is kept of directories after one file more: a directory that was read, or another one, or none at all.
use Rattle.std.proofs.Common.{◌≡◌, ℕ, suc, ◌+◌, List, [], ◌∷◌, ◌++◌, true, false, cond, Option, Some, None, sym, ap, subst, ◌∙◌}
use Rattle.std.specs.Prelude.{filter_map, flat_map, is_some, option_map}
use Rattle.std.proofs.lemmas.List.{append-nil}
use Rattle.f2_bytes.specs.Bytes.{Block, Image, numbers_below}
use Rattle.f2_bytes.specs.Check.{Defect, inode_of, directory_of, only_directory, defects_at}
use Rattle.f2_bytes.specs.Node.{is_directory, links}
use Rattle.f2_bytes.specs.Tree.{is_inode, tree_items}
use Rattle.f2_defects.specs.Collected.{Collection}
use Rattle.f2_items.specs.Directories.{namings_in, kind_in, is_directory_in, name_limit, WholesFind, WholesCompared, closed_of, visited_of, visited_at, plain, closed_from, namings_at, namings_below, defects_before, visited_below, RulesFind, DirectoriesAfter}
use Rattle.f2_items.specs.ItemComparisons.{Finds, item_defects, ItemsCompared}
use Rattle.f2_items.specs.Namings.{Naming, IsTally}
use Rattle.f2_items.specs.OpenDirectories.{depth_of, IsOpen}
use Rattle.f2_survey.specs.Parts.{part_in}
use Rattle.f2_items.specs.declared.directories.Directories.{Directories}
use Rattle.f2_items.specs.declared.rule_10_items.ItemRules.{ItemRules}
use Rattle.f2_items.specs.declared.open_directory.OpenDirectory.{OpenDirectory}
use Rattle.f2_items.specs.declared.name_counts.Tallies.{Tallies}
use Rattle.f2_items.specs.declared.visited_files.FileKind.TheVariants.{Plain, Directory}
use Rattle.f2_items.specs.declared.visited_files.Visited.{Visited}
use Rattle.f2_items.specs.declared.rule_10_directories.WholeRules.{WholeRules}
use Rattle.f2_items.proofs.DirectoryParts.{illegal_part, twin_part, hash_part, bucket_part, kind_part, depth_part, dot_part, size_part, no_illegal, no_twins, no_hashes, no_buckets, no_kinds, no_depths, no_dots, no_sizes}
use Rattle.f2_items.proofs.FileSlots.{below-suc, inode-none}
use Rattle.f2_items.proofs.GrownLists.{optional, filter_map_push, flat_map_push}
use Rattle.f2_survey.proofs.NumberLists.{numbers-suc}

-- ---- before the first file

pub gathered-none : (image : Image) (d : Directories) → IsTally (name_limit image) [] d.names.tallies → ItemsCompared (λ _. []) (kind_in image) 0 None [] d.names.rules
    → WholesFind (λ _. []) d.wholes → d.files.items ≡ [] → DirectoriesAfter image 0 d
unfolding DirectoriesAfter namings_below defects_before visited_below item_defects numbers_below
gathered-none image d tally rules wholes files = λ holes. record {
  tally = tally;
  rules = record { illegal = rules.illegal; twins = rules.twins; hashes = rules.hashes; buckets = rules.buckets; kinds = rules.kinds };
  wholes = wholes;
  files = files;
}

module _ (image : Image) (ino : ℕ) where
  -- ---- one number more

  namings-more : namings_below image (suc ino) ≡ namings_below image ino ++ namings_at image ino
  unfolding namings_below
  namings-more = ap (flat_map (namings_at image)) (numbers-suc ino) ∙ flat_map_push (namings_at image) (numbers_below ino) ino

  visited-more : visited_below image (suc ino) ≡ visited_below image ino ++ optional (visited_at image ino)
  unfolding visited_below
  visited-more = ap (filter_map (visited_at image)) (numbers-suc ino) ∙ filter_map_push (visited_at image) (numbers_below ino) ino

  defects-more : (part : ℕ) (more : List Defect) → defects_at (part_in image 10 part) ino ≡ more → defects_before image ino part ++ more ≡ defects_before image (suc ino) part
  unfolding defects_before
  defects-more part more is = ap (λ l. flat_map (defects_at (part_in image 10 part)) (numbers_below ino) ++ l) (sym is) ∙ sym (below-suc (part_in image 10 part) ino)

  finds-more : (part : ℕ) (more : List Defect) (c : Collection) → defects_at (part_in image 10 part) ino ≡ more → Finds part (defects_before image ino part ++ more) c → Finds part (defects_before image (suc ino) part) c
  finds-more part more c is finds = subst (λ (l : List Defect). Finds part l c) (defects-more part more is) finds

  finds-still : (part : ℕ) (c : Collection) → defects_at (part_in image 10 part) ino ≡ [] → Finds part (defects_before image ino part) c → Finds part (defects_before image (suc ino) part) c
  finds-still part c none finds = subst (λ (l : List Defect). Finds part l c) (sym (append-nil (defects_before image ino part)) ∙ defects-more part [] none) finds

  -- the file of this number, if there is one
  pub visited-one : (inode : Block) (files : List Visited) → inode_of image ino ≡ Some inode → files ≡ visited_below image ino ++ visited_of image ino inode ∷ [] → files ≡ visited_below image (suc ino)
  visited-one inode files is e = e ∙ ap (λ o. visited_below image ino ++ optional (option_map (visited_of image ino) o)) (sym is) ∙ sym visited-more

  visited-still : inode_of image ino ≡ None → visited_below image ino ≡ visited_below image (suc ino)
  visited-still none = sym (append-nil (visited_below image ino)) ∙ ap (λ o. visited_below image ino ++ optional (option_map (visited_of image ino) o)) (sym none) ∙ sym visited-more

  -- ---- no directory

  module _ (none : directory_of image ino ≡ None) where
    pub tally-other : (t : Tallies) → IsTally (name_limit image) (namings_below image ino) t → IsTally (name_limit image) (namings_below image (suc ino)) t
    tally-other t is =
        subst (λ (l : List Naming). IsTally (name_limit image) l t)
        (sym (append-nil (namings_below image ino)) ∙ ap (λ (o : Option Block). namings_below image ino ++ namings_in ino (cond (is_some o) (tree_items image ino) [])) (sym none) ∙ sym namings-more) is

    pub rules-other : (r : ItemRules) → RulesFind (defects_before image ino) r → RulesFind (defects_before image (suc ino)) r
    rules-other r finds = record {
      illegal = finds-still 1 r.illegal (no_illegal image ino none) finds.illegal;
      twins = finds-still 2 r.twins (no_twins image ino none) finds.twins;
      hashes = finds-still 3 r.hashes (no_hashes image ino none) finds.hashes;
      buckets = finds-still 4 r.buckets (no_buckets image ino none) finds.buckets;
      kinds = finds-still 5 r.kinds (no_kinds image ino none) finds.kinds;
    }

    pub wholes-other : (w : WholeRules) → WholesFind (defects_before image ino) w → WholesFind (defects_before image (suc ino)) w
    wholes-other w finds = record {
      depths = finds-still 6 w.depths (no_depths image ino none) finds.depths;
      dots = finds-still 7 w.dots (no_dots image ino none) finds.dots;
      sizes = finds-still 9 w.sizes (no_sizes image ino none) finds.sizes;
    }

  -- an inode of another type is no directory
  pub no_directory : (inode : Block) → inode_of image ino ≡ Some inode → is_directory inode ≡ false → directory_of image ino ≡ None
  no_directory inode is other = ap only_directory is ∙ ap (λ b. cond b (Some inode) None) other

  -- ---- a directory

  pub a_directory : (inode : Block) → inode_of image ino ≡ Some inode → is_directory inode ≡ true → directory_of image ino ≡ Some inode
  a_directory inode is it = ap only_directory is ∙ ap (λ b. cond b (Some inode) None) it

  module _ (inode : Block) (is : directory_of image ino ≡ Some inode) where
    pub tally-directory : (t : Tallies) → IsTally (name_limit image) (namings_below image ino ++ namings_in ino (tree_items image ino)) t → IsTally (name_limit image) (namings_below image (suc ino)) t
    tally-directory t tally =
        subst (λ (l : List Naming). IsTally (name_limit image) l t)
        (ap (λ (o : Option Block). namings_below image ino ++ namings_in ino (cond (is_some o) (tree_items image ino) [])) (sym is) ∙ sym namings-more) tally

    pub rules-directory : (r : ItemRules) → ItemsCompared (defects_before image ino) (kind_in image) ino (depth_of inode) (tree_items image ino) r → RulesFind (defects_before image (suc ino)) r
    rules-directory r compared = record {
      illegal = finds-more 1 _ r.illegal (illegal_part image ino inode is) compared.illegal;
      twins = finds-more 2 _ r.twins (twin_part image ino inode is) compared.twins;
      hashes = finds-more 3 _ r.hashes (hash_part image ino inode is) compared.hashes;
      buckets = finds-more 4 _ r.buckets (bucket_part image ino inode is) compared.buckets;
      kinds = finds-more 5 _ r.kinds (kind_part image ino inode is) compared.kinds;
    }

    pub wholes-directory : (w : WholeRules) → WholesCompared (defects_before image ino) ino inode (tree_items image ino) w → WholesFind (defects_before image (suc ino)) w
    wholes-directory w compared = record {
      depths = finds-more 6 _ w.depths (depth_part image ino inode is) compared.depths;
      dots = finds-more 7 _ w.dots (dot_part image ino inode is) compared.dots;
      sizes = finds-more 9 _ w.sizes (size_part image ino inode is) compared.sizes;
    }

  -- what is kept of it
  pub closed-is : (inode : Block) (o : OpenDirectory) → is_directory inode ≡ true → IsOpen (is_directory_in image) ino inode (tree_items image ino) o → closed_from o ≡ visited_of image ino inode
  closed-is inode o it of = λ t. record { ino = of.number t; links = of.says.links_is t; kind = kinds t }
    where
      kinds : (closed_from o).kind ≡ (visited_of image ino inode).kind
      kinds =
          (λ t. Directory (record { links_wanted = 2 + of.directories t; up = of.dots.dot_dot_is t; may_lack_dots = of.says.dots t }))
          ∙ ap (λ b. cond b (Directory (closed_of image inode (tree_items image ino))) Plain) (sym it)

  pub plain-is : (inode : Block) → is_directory inode ≡ false → plain ino inode ≡ visited_of image ino inode
  plain-is inode other = λ t. record { ino = ino; links = links inode; kind = cond (sym other t) (Directory (closed_of image inode (tree_items image ino))) Plain }

-- a number that is no inode
pub directories_pass : (image : Image) (n : ℕ) (d : Directories) → DirectoriesAfter image n d → is_inode image n ≡ false → DirectoriesAfter image (suc n) d
unfolding DirectoriesAfter
directories_pass image n d after is = λ holes.
    let missing : inode_of image n ≡ None = inode-none image n is in
    let none : directory_of image n ≡ None = ap only_directory missing in
    let gathered = after holes in
    record {
      tally = tally-other image n none d.names.tallies gathered.tally;
      rules = rules-other image n none d.names.rules gathered.rules;
      wholes = wholes-other image n none d.wholes gathered.wholes;
      files = gathered.files ∙ visited-still image n missing;
    }
