-- Parts with one comparison for each file, as it is taken file by file.
use Rattle.std.proofs.Common.{◌≡◌, ℕ, ◌+◌, ◌<◌, ◌≤◌, List, [], ◌∷◌, ◌++◌, All, length, take, get_or, Option, Some, None, refl, sym, ap, subst, ◌∙◌, append-nil}
use Rattle.std.specs.Prelude.{flat_map, filter_map, option_map}
use Rattle.std.specs.List.{cons_option}
use Rattle.std.proofs.lemmas.List.{take_more, take_all}
use Rattle.std.proofs.lemmas.List.Elements.{All-nil, All-cons, All-same, All-get_or}
use Rattle.f2_bytes.specs.Bytes.{Block, Image, numbers_below}
use Rattle.f2_bytes.specs.Check.{Part, Comparison, Defect, defects_at, part_defects, nids, inode_of}
use Rattle.f2_defects.specs.Collected.{Collection, Collects, Compares, defects_of}
use Rattle.f2_items.specs.Directories.{visited_of, visited_at, visited_below}
use Rattle.f2_items.specs.EachFile.{IsVisited, IsOfFiles, HasTaken, Takes, file_defects}
use Rattle.f2_items.specs.declared.visited_files.Visited.{Visited}
use Rattle.f2_items.proofs.FileSlots.{inode-is, inode-below}
use Rattle.f2_items.proofs.GrownLists.{flat_map_push}
use Rattle.f2_survey.proofs.PartDefects.{defects_at-one}

module _ (image : Image) (number : ℕ) (p : Part) (files_only : IsOfFiles image number p) where
  -- nothing so far
  pub taken_none : (c : Collection) → c.part ≡ number → Collects c [] → HasTaken c p []
  unfolding file_defects
  taken_none c part none = record { part = part ∙ sym files_only.number_is; collects = none }

  one_more : (files : List Visited) (v : Visited) → file_defects p (files ++ v ∷ []) ≡ file_defects p files ++ defects_of p.number v.ino 0 (p.comparison v.ino 0)
  unfolding file_defects
  one_more files v =
      flat_map_push (λ (v : Visited). defects_at p v.ino) files v
      ∙ ap (λ l. flat_map (λ (v : Visited). defects_at p v.ino) files ++ l) (defects_at-one p v.ino (files_only.one v.ino))

  -- a file that is compared, and one that is not
  pub take_one : (old new : Collection) (v : Visited) (a : ℕ) (o : Option Comparison) → new.part ≡ old.part → Compares old new a 0 o → a ≡ v.ino → o ≡ p.comparison v.ino 0 → Takes old new p v
  take_one old new v a o part compares at is files so_far = record {
    part = part ∙ so_far.part;
    collects = subst (Collects new) (same ∙ sym (one_more files v)) (compares (file_defects p files) so_far.collects);
  }
    where
      same : file_defects p files ++ defects_of old.part a 0 o ≡ file_defects p files ++ defects_of p.number v.ino 0 (p.comparison v.ino 0)
      same = λ i. file_defects p files ++ defects_of (so_far.part i) (at i) 0 (is i)

  pub take_none : (c : Collection) (v : Visited) → p.comparison v.ino 0 ≡ None → Takes c c p v
  take_none c v none files so_far = record {
    part = so_far.part;
    collects = subst (Collects c) (sym (one_more files v ∙ ap (λ o. file_defects p files ++ defects_of p.number v.ino 0 o) none ∙ append-nil (file_defects p files))) so_far.collects;
  }

  -- all files
  all_in : (xs : List ℕ) → flat_map (λ v. defects_at p v.ino) (filter_map (visited_at image) xs) ≡ flat_map (defects_at p) xs
  all_in [] = refl
  all_in (x ∷ xs) = go (inode_of image x) refl (all_in xs)
    where
      f : List Visited → List Defect
      f = flat_map (λ (v : Visited). defects_at p v.ino)

      go : (o : Option Block) → inode_of image x ≡ o → f (filter_map (visited_at image) xs) ≡ flat_map (defects_at p) xs
          → f (cons_option (option_map (visited_of image x) (inode_of image x)) (filter_map (visited_at image) xs)) ≡ defects_at p x ++ flat_map (defects_at p) xs
      go None e ih =
          let nothing : defects_at p x ≡ [] = defects_at-one p x (files_only.one x) ∙ ap (defects_of p.number x 0) (files_only.none x e) in
          ap (λ o. f (cons_option (option_map (visited_of image x) o) (filter_map (visited_at image) xs))) e
          ∙ ih
          ∙ ap (λ l. l ++ flat_map (defects_at p) xs) (sym nothing)
      go (Some b) e ih =
          ap (λ o. f (cons_option (option_map (visited_of image x) o) (filter_map (visited_at image) xs))) e
          ∙ ap (λ l. defects_at p x ++ l) ih

  pub taken_all : (c : Collection) (files : List Visited) → files ≡ visited_below image (nids image) → HasTaken c p files → Collects c (part_defects p)
  unfolding file_defects visited_below part_defects
  taken_all c files are taken =
      subst (Collects c)
      (ap (flat_map (λ v. defects_at p v.ino)) are ∙ all_in (numbers_below (nids image)) ∙ ap (λ n. flat_map (defects_at p) (numbers_below n)) (sym files_only.all))
      taken.collects

-- ---- each file that is kept is one of the image

module _ (image : Image) where
  visited_in : (xs : List ℕ) → All (IsVisited image) (filter_map (visited_at image) xs)
  visited_in [] = All-nil (IsVisited image)
  visited_in (x ∷ xs) = go (inode_of image x) refl (visited_in xs)
    where
      go : (o : Option Block) → inode_of image x ≡ o → All (IsVisited image) (filter_map (visited_at image) xs)
          → All (IsVisited image) (cons_option (option_map (visited_of image x) (inode_of image x)) (filter_map (visited_at image) xs))
      go None e ih =
          All-same (IsVisited image) _ (filter_map (visited_at image) xs) (ap (λ o. cons_option (option_map (visited_of image x) o) (filter_map (visited_at image) xs)) e) ih
      go (Some b) e ih =
          All-same (IsVisited image) _ (visited_of image x b ∷ filter_map (visited_at image) xs)
          (ap (λ o. cons_option (option_map (visited_of image x) o) (filter_map (visited_at image) xs)) e)
          (All-cons (IsVisited image) (visited_of image x b) (filter_map (visited_at image) xs) (record { inode = b; there = e; says = refl }) ih)

  pub visited-is : (files : List Visited) (i : ℕ) (d : Visited) → files ≡ visited_below image (nids image) → i < length files → IsVisited image (get_or files i d)
  unfolding visited_below
  visited-is files i d are low = All-get_or (IsVisited image) files i d low (All-same (IsVisited image) files _ are (visited_in (numbers_below (nids image))))

  pub visited-below : (v : Visited) → IsVisited image v → v.ino < nids image
  visited-below v is = inode-below image v.ino (inode-is image v.ino is.inode is.there)

  -- one file more of those that are kept
  module _ (p : Part) (files : List Visited) (are : files ≡ visited_below image (nids image)) (i : ℕ) (d : Visited) (low : i < length files) where
    pub taken_more : (seen : List Visited) → seen ≡ files → (old new : Collection) → (IsVisited image (get_or seen i d) → Takes old new p (get_or seen i d))
        → HasTaken old p (take i files) → HasTaken new p (take (i + 1) files)
    taken_more seen same old new takes so_far =
        let takes_it = subst (λ (l : List Visited). IsVisited image (get_or l i d) → Takes old new p (get_or l i d)) same takes in
        subst (HasTaken new p) (sym (take_more files i d low)) (takes_it (visited-is files i d are low) (take i files) so_far)

  -- and all of them
  pub taken_up_to : (p : Part) (c : Collection) (files : List Visited) (i : ℕ) → length files ≤ i → HasTaken c p (take i files) → HasTaken c p files
  taken_up_to p c files i all so_far = subst (HasTaken c p) (take_all i files all) so_far
