use Rattle.std.proofs.Common.{◌≡◌, ◌+◌, refl, sym, ◌∙◌}
use Rattle.std.specs.Prelude.{not, ◌&&◌, is_some}
use Rattle.f2_bytes.specs.Names.{is_dots}
use Rattle.f2_bytes.specs.Object.{is_name}
use Rattle.f2_bytes.specs.Check.{directory_of, digit}
use Rattle.f2_items.specs.OpenDirectories.{depth_of}
use Rattle.f2_items.proofs.OpenSteps.{open_more}
use Rattle.f2_items.proofs.open_directory.OpenDirectory.legal.Goals as goal
use Rattle.f2_view.specs.Directories.{legal as legal_of}

pub returns-clause-directory : goal.returns-clause-directory
returns-clause-directory c = λ image ino inode items x known legal stands is.
    let named : not c.take-is_name.result ≡ is_name x = (λ t. not (c.take-is_name.ensures.is t)) ∙ (λ t. sym legal.is t && not (is_dots (sym legal.name t))) in
    open_more (λ n. is_some (directory_of image n)) ino inode items x c.args.self.now _ is legal.is refl refl
    (c.in_ok-first.ensures.holds (legal_of items) x legal.name legal.place is.places)
    (c.take-is_name.ensures.holds (legal_of items) x legal.name legal.ino is.dots)
    (c.take.ensures (depth_of inode) (legal_of items) x stands is.reach)
    (c.in_ok-self.ensures image known ∙ λ t. c.args.self.now.directories + digit (named t && is_some (directory_of image (sym legal.ino t))))
