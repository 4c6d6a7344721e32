use Rattle.std.proofs.Common.{◌≡◌, List, [], ◌∷◌, ◌++◌, true, false, refl, sym, ap, subst, ◌∙◌}
use Rattle.f2_bytes.specs.Directory.{Item}
use Rattle.f2_bytes.specs.Node.{is_directory as is_directory_of, is_inline}
use Rattle.f2_items.specs.Directories.{is_directory_in, name_limit, HasRead, namings_below, defects_before, items_in}
use Rattle.f2_items.specs.declared.names_of_directories.Names.{Names}
use Rattle.f2_items.specs.declared.directories.Directories.{Directories}
use Rattle.f2_items.specs.declared.open_directory.OpenDirectory.{OpenDirectory}
use Rattle.f2_items.proofs.DirectorySteps.{begin-other, begin-directory, read-none, items_in-inline, items_in-none}
use Rattle.f2_items.proofs.directories.Directories.begin.Goals as goal
use Rattle.f2_items.proofs.directories.Directories.begin.Goals.{then-directory+in_ok-scan_inline, else-directory}

pub returns-then-not-is_directory : goal.returns-then-not-is_directory
returns-then-not-is_directory c = record {
  begins = λ image known is.
      begin-other image c.args.ino c.args.inode.now is c.args.self.now _ (sym c.is_directory.ensures ∙ c.if-not-is_directory.true) refl refl refl
      (c.in_ok-push.ensures.items ∙ λ t. c.args.self.now.files.items ++ c.plain_file.ensures t ∷ []);
}

pub returns : goal.returns
returns c = record {
  begins = λ image known is.
      let old = c.args.self.now in
      let ino = c.args.ino in
      let inode = c.args.inode.now in
      let it : is_directory_of inode ≡ true = sym c.is_directory.ensures ∙ c.if-not-is_directory.false in
      let fresh = c.new-directory.ensures (is_directory_in image) in
      elim c.if-directory.branch [
        | then-directory+in_ok-scan_inline w ↦
            let inline : is_inline inode ≡ true = sym fresh.says.inline ∙ w.if-directory.true in
            begin-directory image ino inode is old _ c.if-directory.directory it refl (ap (λ (d : Directories). d.wholes) w.self-is) (ap (λ (d : Directories). d.files) w.self-is)
            (λ gathered. subst (λ (n : Names). HasRead image (name_limit image) (defects_before image ino) (namings_below image ino) ino inode (items_in inode []) n c.if-directory.directory) (sym (ap (λ (d : Directories). d.names) w.self-is))
            (subst (λ (o : OpenDirectory). HasRead image (name_limit image) (defects_before image ino) (namings_below image ino) ino inode (items_in inode []) w.scan_inline.new.self o) (sym w.directory-is)
            (subst (λ (l : List Item). HasRead image (name_limit image) (defects_before image ino) (namings_below image ino) ino inode l w.scan_inline.new.self w.scan_inline.new.directory) (items_in-inline inode inline)
            (w.in_ok-scan_inline.ensures image (name_limit image) (defects_before image ino) (namings_below image ino) ino known inline (read-none image ino inode is old c.new-directory.result fresh gathered)))))
        | else-directory w ↦
            let blocks : is_inline inode ≡ false = sym fresh.says.inline ∙ w.if-directory.false in
            begin-directory image ino inode is old _ c.if-directory.directory it refl (ap (λ (d : Directories). d.wholes) w.self-is) (ap (λ (d : Directories). d.files) w.self-is)
            (λ gathered. subst (λ (n : Names). HasRead image (name_limit image) (defects_before image ino) (namings_below image ino) ino inode (items_in inode []) n c.if-directory.directory) (sym (ap (λ (d : Directories). d.names) w.self-is))
            (subst (λ (o : OpenDirectory). HasRead image (name_limit image) (defects_before image ino) (namings_below image ino) ino inode (items_in inode []) old.names o) (sym w.directory-is)
            (subst (λ (l : List Item). HasRead image (name_limit image) (defects_before image ino) (namings_below image ino) ino inode l old.names c.new-directory.result) (items_in-none inode blocks)
            (read-none image ino inode is old c.new-directory.result fresh gathered))))
      ];
}
