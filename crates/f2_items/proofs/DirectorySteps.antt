-- What is kept of directories at the begin, at a block and at the end of a file.
use Rattle.std.proofs.Common.{◌≡◌, ℕ, suc, List, [], ◌∷◌, ◌++◌, Bool, true, false, cond, Option, Some, None, refl, sym, ap, subst, ◌∙◌}
use Rattle.std.specs.Prelude.{flat_map}
use Rattle.std.proofs.lemmas.List.{append-nil}
use Rattle.f2_bytes.specs.Bytes.{Block, Image}
use Rattle.f2_bytes.specs.Check.{Defect, inode_of}
use Rattle.f2_bytes.specs.Directory.{Item, block_items, scan, inline_slots}
use Rattle.f2_bytes.specs.Node.{inline_area, inline_length, is_directory, is_inline}
use Rattle.f2_bytes.specs.Tree.{tree_items}
use Rattle.f2_items.specs.Directories.{is_directory_in, name_limit, HasRead, WholesFind, WholesCompared, plain, closed_from, namings_below, defects_before, RulesFind, IsGathered, IsPassing, items_in, items_with, IsVisiting, HasHoles, DirectoriesAfter, VisitsFile, DirectoriesInside}
use Rattle.f2_items.specs.DirectoryBlocks.{directory_blocks}
use Rattle.f2_items.specs.ItemComparisons.{Finds, item_defects}
use Rattle.f2_items.specs.Namings.{Naming, IsTally}
use Rattle.f2_items.specs.OpenDirectories.{IsOpen}
use Rattle.f2_items.specs.declared.names_of_directories.Names.{Names}
use Rattle.f2_items.specs.declared.directories.Directories.{Directories}
use Rattle.f2_items.specs.declared.open_directory.OpenDirectory.{OpenDirectory}
use Rattle.f2_items.proofs.DirectoryItems.{items_of_blocks}
use Rattle.f2_items.proofs.GatheredFiles.{tally-other, rules-other, wholes-other, no_directory, a_directory, tally-directory, rules-directory, wholes-directory, visited-one, closed-is, plain-is}
use Rattle.f2_items.proofs.GrownLists.{flat_map_push}

-- ---- items

pub items_in-inline : (inode : Block) → is_inline inode ≡ true → scan (inline_area inode) (inline_slots (inline_length inode)) ≡ items_in inode []
unfolding items_in
items_in-inline inode inline = ap (λ b. cond b (scan (inline_area inode) (inline_slots (inline_length inode))) []) (sym inline)

pub items_in-none : (inode : Block) → is_inline inode ≡ false → [] ≡ items_in inode []
unfolding items_in
items_in-none inode blocks = ap (λ b. cond b (scan (inline_area inode) (inline_slots (inline_length inode))) []) (sym blocks)

items_in-more : (inode : Block) (blocks : List (ℕ × Block)) (k : ℕ) (b : Block) → items_with inode (items_in inode blocks) k b ≡ items_in inode (blocks ++ (k, b) ∷ [])
unfolding items_in
items_in-more inode blocks k b = go (is_inline inode)
  where
    area : List Item
    area = scan (inline_area inode) (inline_slots (inline_length inode))

    go : (inline : Bool) → cond inline (cond inline area (flat_map (λ (b : ℕ × Block). block_items b.0 b.1) blocks)) (cond inline area (flat_map (λ (b : ℕ × Block). block_items b.0 b.1) blocks) ++ block_items k b)
        ≡ cond inline area (flat_map (λ (b : ℕ × Block). block_items b.0 b.1) (blocks ++ (k, b) ∷ []))
    go true = refl
    go false = sym (flat_map_push (λ (b : ℕ × Block). block_items b.0 b.1) blocks (k, b))

-- ---- begin

module _ (image : Image) (ino : ℕ) (inode : Block) (is : inode_of image ino ≡ Some inode) where
  visits : (blocks : List (ℕ × Block)) (d : Directories) (b : Bool) → is_directory inode ≡ b → IsVisiting b image ino inode blocks d → VisitsFile (inode_of image ino) image ino blocks d
  visits blocks d b it visiting = subst (λ o. VisitsFile o image ino blocks d) (sym is) (subst (λ t. IsVisiting t image ino inode blocks d) (sym it) visiting)

  pub begin-other : (old new : Directories) → is_directory inode ≡ false → new.reading ≡ None → new.names ≡ old.names → new.wholes ≡ old.wholes → new.files.items ≡ old.files.items ++ plain ino inode ∷ []
      → DirectoriesAfter image ino old → DirectoriesInside image ino [] new
  unfolding DirectoriesAfter DirectoriesInside
  begin-other old new other reading names wholes files after = λ holes.
      let gathered = after holes in
      visits [] new false other (record {
        reading = reading;
        tally = subst (λ (n : Names). IsTally (name_limit image) (namings_below image ino) n.tallies) (sym names) gathered.tally;
        rules = subst (λ (n : Names). RulesFind (defects_before image ino) n.rules) (sym names) gathered.rules;
        wholes = subst (WholesFind (defects_before image ino)) (sym wholes) gathered.wholes;
        files = files ∙ λ t. gathered.files t ++ plain-is image ino inode other t ∷ [];
      })

  -- of a directory nothing was read so far
  pub read-none : (old : Directories) (o : OpenDirectory) → IsOpen (is_directory_in image) ino inode [] o → IsGathered image ino old
      → HasRead image (name_limit image) (defects_before image ino) (namings_below image ino) ino inode [] old.names o
  unfolding item_defects
  read-none old o fresh gathered = record {
    names = record {
      tally = subst (λ (l : List Naming). IsTally (name_limit image) l old.names.tallies) (sym (append-nil (namings_below image ino))) gathered.tally;
      rules = record {
        illegal = subst (λ (l : List Defect). Finds 1 l old.names.rules.illegal) (sym (append-nil (defects_before image ino 1))) gathered.rules.illegal;
        twins = subst (λ (l : List Defect). Finds 2 l old.names.rules.twins) (sym (append-nil (defects_before image ino 2))) gathered.rules.twins;
        hashes = subst (λ (l : List Defect). Finds 3 l old.names.rules.hashes) (sym (append-nil (defects_before image ino 3))) gathered.rules.hashes;
        buckets = subst (λ (l : List Defect). Finds 4 l old.names.rules.buckets) (sym (append-nil (defects_before image ino 4))) gathered.rules.buckets;
        kinds = subst (λ (l : List Defect). Finds 5 l old.names.rules.kinds) (sym (append-nil (defects_before image ino 5))) gathered.rules.kinds;
      };
    };
    directory = fresh;
  }

  pub begin-directory : (old new : Directories) (o : OpenDirectory) → is_directory inode ≡ true → new.reading ≡ Some o → new.wholes ≡ old.wholes → new.files ≡ old.files
      → (IsGathered image ino old → HasRead image (name_limit image) (defects_before image ino) (namings_below image ino) ino inode (items_in inode []) new.names o)
      → DirectoriesAfter image ino old → DirectoriesInside image ino [] new
  unfolding DirectoriesAfter DirectoriesInside
  begin-directory old new o it reading wholes files read after = λ holes.
      let gathered = after holes in
      visits [] new true it (record {
        directory = o;
        reading = reading;
        read = read gathered;
        wholes = subst (WholesFind (defects_before image ino)) (sym wholes) gathered.wholes;
        files = ap (λ f. f.items) files ∙ gathered.files;
      })

-- ---- a block

module _ (image : Image) (ino : ℕ) (blocks : List (ℕ × Block)) (k : ℕ) (b : Block) (old new : Directories) where
  each_file : ((inode : Block) (t : Bool) → IsVisiting t image ino inode blocks old → IsVisiting t image ino inode (blocks ++ (k, b) ∷ []) new)
      → DirectoriesInside image ino blocks old → DirectoriesInside image ino (blocks ++ (k, b) ∷ []) new
  unfolding DirectoriesInside
  each_file step inside = λ holes. go (inode_of image ino) (inside holes)
    where
      go : (o : Option Block) → VisitsFile o image ino blocks old → VisitsFile o image ino (blocks ++ (k, b) ∷ []) new
      go None visits = tt
      go (Some inode) visits = step inode (is_directory inode) visits

  -- nothing is read
  pub block-other : new ≡ old → old.reading ≡ None → DirectoriesInside image ino blocks old → DirectoriesInside image ino (blocks ++ (k, b) ∷ []) new
  block-other same none = each_file step
    where
      step : (inode : Block) (t : Bool) → IsVisiting t image ino inode blocks old → IsVisiting t image ino inode (blocks ++ (k, b) ∷ []) new
      step inode true visiting = absurd (let reading = visiting.reading in cc (none, reading))
      step inode false visiting = subst (λ (d : Directories). IsPassing image ino inode d) (sym same) visiting

  pub block-directory : (before after : OpenDirectory) → old.reading ≡ Some before → new.reading ≡ Some after → new.wholes ≡ old.wholes → new.files ≡ old.files
      → ((limit : ℕ) (defects : ℕ → List Defect) (namings : List Naming) (inode : Block) (items : List Item)
      → HasRead image limit defects namings ino inode items old.names before → HasRead image limit defects namings ino inode (items_with inode items k b) new.names after)
      → DirectoriesInside image ino blocks old → DirectoriesInside image ino (blocks ++ (k, b) ∷ []) new
  block-directory before after was reading wholes files read = each_file step
    where
      own : (o : OpenDirectory) → old.reading ≡ Some o → o ≡ before
      own o e = cc (e, was)

      step : (inode : Block) (t : Bool) → IsVisiting t image ino inode blocks old → IsVisiting t image ino inode (blocks ++ (k, b) ∷ []) new
      step inode false visiting = absurd (let none = visiting.reading in cc (none, was))
      step inode true visiting = record {
        directory = after;
        reading = reading;
        read = subst (λ (l : List Item). HasRead image (name_limit image) (defects_before image ino) (namings_below image ino) ino inode l new.names after) (items_in-more inode blocks k b)
            (read (name_limit image) (defects_before image ino) (namings_below image ino) inode (items_in inode blocks)
            (subst (λ (o : OpenDirectory). HasRead image (name_limit image) (defects_before image ino) (namings_below image ino) ino inode (items_in inode blocks) old.names o) (own visiting.directory visiting.reading) visiting.read));
        wholes = subst (WholesFind (defects_before image ino)) (sym wholes) visiting.wholes;
        files = ap (λ f. f.items) files ∙ visiting.files;
      }

-- ---- end

module _ (image : Image) (ino : ℕ) (inode : Block) (is : inode_of image ino ≡ Some inode) (old new : Directories) where
  each_end : ((holes : HasHoles image) (t : Bool) → is_directory inode ≡ t → IsVisiting t image ino inode (directory_blocks image ino) old → IsGathered image (suc ino) new)
      → DirectoriesInside image ino (directory_blocks image ino) old → DirectoriesAfter image (suc ino) new
  unfolding DirectoriesAfter DirectoriesInside
  each_end step inside = λ holes. step holes (is_directory inode) refl (subst (λ o. VisitsFile o image ino (directory_blocks image ino) old) is (inside holes))

  pub end-other : old.reading ≡ None → new.names ≡ old.names → new.wholes ≡ old.wholes → new.files ≡ old.files
      → DirectoriesInside image ino (directory_blocks image ino) old → DirectoriesAfter image (suc ino) new
  end-other none names wholes files = each_end step
    where
      step : (holes : HasHoles image) (t : Bool) → is_directory inode ≡ t → IsVisiting t image ino inode (directory_blocks image ino) old → IsGathered image (suc ino) new
      step holes true it visiting = absurd (let reading = visiting.reading in cc (none, reading))
      step holes false it visiting =
          let not_one = no_directory image ino inode is it in
          record {
            tally = tally-other image ino not_one new.names.tallies (subst (λ (n : Names). IsTally (name_limit image) (namings_below image ino) n.tallies) (sym names) visiting.tally);
            rules = rules-other image ino not_one new.names.rules (subst (λ (n : Names). RulesFind (defects_before image ino) n.rules) (sym names) visiting.rules);
            wholes = wholes-other image ino not_one new.wholes (subst (WholesFind (defects_before image ino)) (sym wholes) visiting.wholes);
            files = visited-one image ino inode new.files.items is (ap (λ f. f.items) files ∙ visiting.files);
          }

  pub end-directory : (o : OpenDirectory) → old.reading ≡ Some o → new.names ≡ old.names → new.files.items ≡ old.files.items ++ closed_from o ∷ []
      → ((before : ℕ → List Defect) (items : List Item) → IsOpen (is_directory_in image) ino inode items o → WholesFind before old.wholes → WholesCompared before ino inode items new.wholes)
      → DirectoriesInside image ino (directory_blocks image ino) old → DirectoriesAfter image (suc ino) new
  end-directory o was names files compares = each_end step
    where
      own : (p : OpenDirectory) → old.reading ≡ Some p → p ≡ o
      own p e = cc (e, was)

      step : (holes : HasHoles image) (t : Bool) → is_directory inode ≡ t → IsVisiting t image ino inode (directory_blocks image ino) old → IsGathered image (suc ino) new
      step holes false it visiting = absurd (let none = visiting.reading in cc (none, was))
      step holes true it visiting =
          let one = a_directory image ino inode is it in
          let items : items_in inode (directory_blocks image ino) ≡ tree_items image ino = items_of_blocks image ino inode is holes it in
          let read : HasRead image (name_limit image) (defects_before image ino) (namings_below image ino) ino inode (tree_items image ino) new.names o
          = subst (λ (n : Names). HasRead image (name_limit image) (defects_before image ino) (namings_below image ino) ino inode (tree_items image ino) n o) (sym names)
          (subst (λ (l : List Item). HasRead image (name_limit image) (defects_before image ino) (namings_below image ino) ino inode l old.names o) items
          (subst (λ (p : OpenDirectory). HasRead image (name_limit image) (defects_before image ino) (namings_below image ino) ino inode (items_in inode (directory_blocks image ino)) old.names p) (own visiting.directory visiting.reading) visiting.read)) in
          record {
            tally = tally-directory image ino inode one new.names.tallies read.names.tally;
            rules = rules-directory image ino inode one new.names.rules read.names.rules;
            wholes = wholes-directory image ino inode one new.wholes (compares (defects_before image ino) (tree_items image ino) read.directory visiting.wholes);
            files = visited-one image ino inode new.files.items is (files ∙ λ t. visiting.files t ++ closed-is image ino inode o it read.directory t ∷ []);
          }
