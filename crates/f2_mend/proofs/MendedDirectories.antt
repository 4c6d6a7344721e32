-- A mended image: its directories are those of the salvage in the end, and each file has its type there.
use Rattle.std.proofs.Common.{◌≡◌, ℕ, ◌/◌, Bool, true, false, ◌==◌, ◌||◌, cond, Some, None, refl, sym, ap, ◌∙◌}
use Rattle.std.specs.Prelude.{unwrap_or, is_some}
use Rattle.std.proofs.lemmas.Bool.{or_right}
use Rattle.f2_bytes.specs.Bytes.{Block, Image}
use Rattle.f2_bytes.specs.Journal.{is_mountable}
use Rattle.f2_bytes.specs.Node.{mode, type_of_mode, is_directory}
use Rattle.f2_bytes.specs.RollForward.{node_block}
use Rattle.f2_bytes.specs.Check.{kind_of_inode, only_directory, inode_of, directory_of, none_value}
use Rattle.f2_bytes.specs.SalvagedFiles.{is_file, is_directory_file}
use Rattle.f2_bytes.specs.LostFiles.{is_made}
use Rattle.f2_bytes.specs.RebuiltDirectories.{is_rebuilt, file_inode, salvage_reading}
use Rattle.f2_bytes.specs.Mending.{is_salvaged_directory}
use Rattle.f2_bytes.specs.FilePlaces.{inode_at}
use Rattle.f2_bytes.specs.Mended.{IsMended}
use Rattle.f2_mend.proofs.MendedReads.{file_block, file_not_made, directory_says, has_old, has_made}
use Rattle.f2_mend.proofs.PlacedReads.{inode_of_file, inode_of_none}

module _ (image other : Image) (h : is_mountable image ≡ true) (m : IsMended image other) where
  abbrev inode : ℕ → Block
  inode ino = inode_at m.places other ino

  -- the mode of an old file stays
  pub same_mode : (ino : ℕ) (b : Block) → is_file image ino ≡ true → node_block image ino ≡ Some b → mode (inode ino) ≡ mode b
  same_mode ino b file is = go (is_rebuilt image ino) refl
    where
      go : (r : Bool) → is_rebuilt image ino ≡ r → mode (inode ino) ≡ mode b
      go true r = (m.rebuilt_inodes ino b file r is).mode
      go false r = (m.kept_inodes ino b file r is).mode

  -- the inode that is read of each number
  pub inode_old : (ino : ℕ) → is_file image ino ≡ true → inode_of other ino ≡ Some (inode ino)
  inode_old ino file = inode_of_file m.places other m.placed ino (has_old image other h m ino file)

  pub inode_made : (ino : ℕ) → is_made image ino ≡ true → inode_of other ino ≡ Some (inode ino)
  inode_made ino made = inode_of_file m.places other m.placed ino (has_made image other h m ino made)

  pub inode_none : (ino : ℕ) → is_file image ino ≡ false → is_made image ino ≡ false → inode_of other ino ≡ None
  inode_none ino file made = inode_of_none m.places other m.placed ino (m.files ino ∙ rw (file, made) refl)

  pub made_directory : (ino : ℕ) → is_made image ino ≡ true → is_directory (inode ino) ≡ true
  made_directory ino made = ap (λ x. x / 4096 == 4) (m.made_inodes ino made).mode

  pub old_directory : (ino : ℕ) → is_file image ino ≡ true → is_directory (inode ino) ≡ is_directory_file image ino
  old_directory ino file =
      let t = file_block image ino file in
      ap (λ x. x / 4096 == 4) (same_mode ino t.0 file t.1) ∙ sym (directory_says image ino t.0 file t.1)

  -- a directory is read where there is one in the end
  by_kind : (b : Block) (d : Bool) → is_directory b ≡ d → is_some (only_directory (Some b)) ≡ d
  by_kind b true d = rw d refl
  by_kind b false d = rw d refl

  pub same_directories : (ino : ℕ) → is_some (directory_of other ino) ≡ is_salvaged_directory image ino
  same_directories ino = go (is_file image ino) refl (is_made image ino) refl
    where
      go : (f : Bool) → is_file image ino ≡ f → (d : Bool) → is_made image ino ≡ d → is_some (directory_of other ino) ≡ is_salvaged_directory image ino
      go true f d e =
          let none = file_not_made image ino f in
          let right : is_salvaged_directory image ino ≡ is_directory_file image ino = ap (λ x. is_directory_file image ino || x) none ∙ or_false (is_directory_file image ino) in
          ap (λ o. is_some (only_directory o)) (inode_old ino f) ∙ by_kind (inode ino) (is_directory_file image ino) (old_directory ino f) ∙ sym right
        where
          or_false : (b : Bool) → (b || false) ≡ b
          or_false true = refl
          or_false false = refl
      go false f true e =
          let right : is_salvaged_directory image ino ≡ true = or_right (is_directory_file image ino) (is_made image ino) e in
          ap (λ o. is_some (only_directory o)) (inode_made ino e) ∙ by_kind (inode ino) true (made_directory ino e) ∙ sym right
      go false f false e =
          let right : is_salvaged_directory image ino ≡ false = rw (f, e) refl in
          ap (λ o. is_some (only_directory o)) (inode_none ino f e) ∙ sym right

  -- what is known of a directory that is read
  pub directory_from : (ino : ℕ) (b : Block) → directory_of other ino ≡ Some b → (is_salvaged_directory image ino ≡ true) × (b ≡ inode ino)
  directory_from ino b is = (sym (same_directories ino) ∙ ap is_some is, go (is_file image ino) refl (is_made image ino) refl)
    where
      from : (c : Block) → inode_of other ino ≡ Some c → b ≡ c
      from c read = by_bool (is_directory c) refl
        where
          by_bool : (d : Bool) → is_directory c ≡ d → b ≡ c
          by_bool true d =
              let here : directory_of other ino ≡ Some c = rw (read, d) refl in
              ap (λ o. elim o [ Some z ↦ z | None ↦ b ]) (sym is ∙ here)
          by_bool false d =
              let here : directory_of other ino ≡ None = rw (read, d) refl in
              absurd (cc (sym here ∙ is))

      go : (f : Bool) → is_file image ino ≡ f → (d : Bool) → is_made image ino ≡ d → b ≡ inode ino
      go true f d e = from (inode ino) (inode_old ino f)
      go false f true e = from (inode ino) (inode_made ino e)
      go false f false e =
          let none : directory_of other ino ≡ None = ap only_directory (inode_none ino f e) in
          absurd (cc (sym none ∙ is))

  -- the type of a file
  pub same_kind : (ino : ℕ) → kind_of_inode (inode_of other ino) ≡ (salvage_reading image).kind ino
  unfolding salvage_reading
  same_kind ino = go (is_file image ino) refl (is_made image ino) refl
    where
      go : (f : Bool) → is_file image ino ≡ f → (d : Bool) → is_made image ino ≡ d → kind_of_inode (inode_of other ino) ≡ cond (is_made image ino) 2 (kind_of_inode (file_inode image ino))
      go true f d e =
          let none = file_not_made image ino f in
          let t = file_block image ino f in
          let right : cond (is_made image ino) 2 (kind_of_inode (file_inode image ino)) ≡ kind_of_inode (Some t.0) = rw (none, f, t.1) refl in
          ap kind_of_inode (inode_old ino f) ∙ ap (λ x. unwrap_or (type_of_mode x) 0) (same_mode ino t.0 f t.1) ∙ sym right
      go false f true e =
          let right : cond (is_made image ino) 2 (kind_of_inode (file_inode image ino)) ≡ 2 = rw e refl in
          ap kind_of_inode (inode_made ino e) ∙ ap (λ x. unwrap_or (type_of_mode x) 0) (m.made_inodes ino e).mode ∙ sym right
      go false f false e =
          let right : cond (is_made image ino) 2 (kind_of_inode (file_inode image ino)) ≡ none_value = rw (e, f) refl in
          ap kind_of_inode (inode_none ino f e) ∙ sym right
