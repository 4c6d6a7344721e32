-- A mended image: it can be read, with the layout of the old one, and its inodes are those of the files in the end.
use Rattle.std.proofs.Common.{◌≡◌, ℕ, ◌+◌, ◌^◌, ◌≤◌, Bool, true, false, ◌==◌, ◌&&◌, nat_le, cond, Option, Some, None, refl, sym, ap, ◌∙◌, arith}
use Rattle.std.specs.Prelude.{find, is_none, is_some, unwrap_or}
use Rattle.std.proofs.lemmas.Bool.{and_parts, and_from, or_left, or_right, eqb-true, le-ltb, false≢true}
use Rattle.f2_bytes.specs.Bytes.{Block, Image, block_at, numbers_below}
use Rattle.f2_bytes.specs.Superblock.{passes, super_copy, super_bytes, copy_of, layout, layout_of, unsupported_features, block_count, is_loadable}
use Rattle.f2_bytes.specs.Checkpoint.{has_checkpoint, pack}
use Rattle.f2_bytes.specs.Journal.{are_journals_bounded, is_mountable}
use Rattle.f2_bytes.specs.NodeAddressTable.{nid_limit}
use Rattle.f2_bytes.specs.Node.{footer_ino, node_offset, has_type, is_directory}
use Rattle.f2_bytes.specs.RollForward.{NodePlace, found_place, node_of, node_block}
use Rattle.f2_bytes.specs.Tree.{is_inode}
use Rattle.f2_bytes.specs.Check.{nids, is_readable}
use Rattle.f2_bytes.proofs.Finds.{found_first, none_passes}
use Rattle.f2_bytes.specs.SalvagedFiles.{root, passes_test, is_file, is_directory_file}
use Rattle.f2_bytes.specs.Claims.{kept_target}
use Rattle.f2_bytes.specs.LostFiles.{least_free_nid, lost_directory, lost_directory_name, makes_lost_directory, is_made}
use Rattle.f2_bytes.specs.RebuiltDirectories.{is_salvaged_file, is_rebuilt}
use Rattle.f2_bytes.specs.Mended.{IsMended}
use Rattle.f2_mend.proofs.PlacedReads.{same_inode}

-- ---- files of an image

-- a file has a node
pub file_block : (image : Image) (ino : ℕ) → is_file image ino ≡ true → (b : Block) × (node_block image ino ≡ Some b)
unfolding is_file
file_block image ino file = go (node_block image ino) refl (and_parts _ _ file).0
  where
    go : (o : Option Block) → node_block image ino ≡ o → passes_test (λ b. (footer_ino b == ino) && (node_offset b == 0) && has_type b) (node_block image ino) ≡ true → (b : Block) × (node_block image ino ≡ Some b)
    go None is some =
        let no : false ≡ true = rw is at some in
        absurd (false≢true no)
    go (Some b) is some = (b, is)

-- a number past the limit is that of no node
past_limit : (image : Image) (nid : ℕ) → nid_limit (layout image) ≤ nid → found_place image nid ≡ None
unfolding found_place
past_limit image nid past = drop (nat_le 3 nid) _ (le-ltb nid (nid_limit (layout image)) past)
  where
    drop : (b : Bool) {c : Bool} (o : Option NodePlace) → c ≡ false → cond (b && c) o None ≡ None
    drop true o none = rw none refl
    drop false o none = refl

none_is : {A : Type 0} (o : Option A) → is_none o ≡ true → o ≡ None
none_is None h = refl
none_is (Some x) h = absurd (false≢true h)

-- the least free number is that of no node
pub free_has_none : (image : Image) → found_place image (least_free_nid image) ≡ None
unfolding least_free_nid numbers_below
free_has_none image = go (find test (numbers_below (limit + 1))) refl
  where
    limit : ℕ
    limit = nid_limit (layout image)

    test : ℕ → Bool
    test n = is_none (found_place image (4 + n))

    go : (o : Option ℕ) → find test (numbers_below (limit + 1)) ≡ o → found_place image (4 + unwrap_or (find test (numbers_below (limit + 1))) 0) ≡ None
    go (Some n) e = ap (λ o. found_place image (4 + unwrap_or o 0)) e ∙ none_is (found_place image (4 + n)) (found_first test 0 (limit + 1) n e).passes
    go None e =
        let none : test limit ≡ false = none_passes test 0 (limit + 1) e limit (omega arith) (omega arith) in
        let past : test limit ≡ true = ap is_none (past_limit image (4 + limit) (omega arith)) in
        absurd (false≢true (sym none ∙ past))

-- a directory that is made has a number that no file has
pub made_free : (image : Image) (ino : ℕ) → is_made image ino ≡ true → ino ≡ least_free_nid image
made_free image ino made =
    let parts = and_parts (makes_lost_directory image) (ino == lost_directory image) made in
    let none = none_is (kept_target image root (lost_directory_name image)) (and_parts _ _ parts.0).1 in
    eqb-true ino (lost_directory image) parts.1 ∙ ap (λ o. unwrap_or o (least_free_nid image)) none

pub made_no_block : (image : Image) (ino : ℕ) → is_made image ino ≡ true → node_block image ino ≡ None
unfolding node_block
made_no_block image ino made = ap (node_of image ino) (ap (found_place image) (made_free image ino made) ∙ free_has_none image)

pub made_no_file : (image : Image) (ino : ℕ) → is_made image ino ≡ true → is_file image ino ≡ false
unfolding is_file
made_no_file image ino made = rw (made_no_block image ino made) refl

pub file_not_made : (image : Image) (ino : ℕ) → is_file image ino ≡ true → is_made image ino ≡ false
file_not_made image ino file = go (is_made image ino) refl
  where
    go : (b : Bool) → is_made image ino ≡ b → is_made image ino ≡ false
    go false e = e
    go true e = absurd (false≢true (sym (made_no_file image ino e) ∙ file))

-- a directory has no other inode than its own
pub directory_says : (image : Image) (ino : ℕ) (b : Block) → is_file image ino ≡ true → node_block image ino ≡ Some b → is_directory_file image ino ≡ is_directory b
directory_says image ino b file is = rw (file, is) refl

-- a file that is no directory is not rebuilt
pub plain_not_rebuilt : (image : Image) (ino : ℕ) → is_file image ino ≡ true → is_directory_file image ino ≡ false → is_rebuilt image ino ≡ false
unfolding is_rebuilt
plain_not_rebuilt image ino file plain = rw (file_not_made image ino file, plain) refl

-- ---- the mended image

module _ (image other : Image) (h : is_mountable image ≡ true) (m : IsMended image other) where
  loads-old : is_loadable image ≡ true
  loads-old = (and_parts _ _ (and_parts _ _ (and_parts _ _ h).0).0).0

  pub copied : is_some (super_copy image) ≡ true
  copied = (and_parts _ _ (and_parts _ _ (and_parts _ _ loads-old).0).0).0

  same_super_copy : super_copy other ≡ super_copy image
  same_super_copy = rw (m.copies 0 (omega arith), m.copies 1 (omega arith)) refl

  same_super_bytes : super_bytes other ≡ super_bytes image
  same_super_bytes = ap (λ o. copy_of (block_at other (unwrap_or o 0))) same_super_copy ∙ ap copy_of (go (passes (block_at image 0)) refl (passes (block_at image 1)) refl)
    where
      go : (a : Bool) → passes (block_at image 0) ≡ a → (b : Bool) → passes (block_at image 1) ≡ b → block_at other (unwrap_or (super_copy image) 0) ≡ block_at image (unwrap_or (super_copy image) 0)
      go true a b c = rw a (m.copies 0 (omega arith))
      go false a true b = rw (a, b) (m.copies 1 (omega arith))
      go false a false b =
          let no : false ≡ true = rw (a, b) at copied in
          absurd (false≢true no)

  pub same_layout : layout other ≡ layout image
  unfolding layout
  same_layout = ap layout_of same_super_bytes

  pub same_limit : nids other ≡ nids image
  same_limit = ap nid_limit same_layout

  pub loads : is_loadable other ≡ true
  loads =
      let same : is_loadable other ≡ is_loadable image
      = λ i. is_some (same_super_copy i)
      && (unsupported_features (same_super_bytes i) == 0)
      && nat_le (block_count (same_super_bytes i)) (2 ^ 28)
      && nat_le (block_count (same_super_bytes i)) (m.same_length i) in
      same ∙ loads-old

  pub readable : is_readable other ≡ true
  readable =
      and_from (is_loadable other && has_checkpoint other) (are_journals_bounded (pack other))
      (and_from (is_loadable other) (has_checkpoint other) loads m.checkpoint) m.journals

  -- ---- its inodes

  pub same_files : (ino : ℕ) → is_inode other ino ≡ is_salvaged_file image ino
  same_files ino = same_inode m.places other m.placed ino ∙ m.files ino

  pub has_kept : (ino : ℕ) → is_salvaged_file image ino ≡ true → m.places.has_file ino ≡ true
  has_kept ino kept = m.files ino ∙ kept

  pub has_old : (ino : ℕ) → is_file image ino ≡ true → m.places.has_file ino ≡ true
  has_old ino file = has_kept ino (or_left (is_file image ino) (is_made image ino) file)

  pub has_made : (ino : ℕ) → is_made image ino ≡ true → m.places.has_file ino ≡ true
  has_made ino made = has_kept ino (or_right (is_file image ino) (is_made image ino) made)
