use Rattle.std.proofs.Common.{◌≡◌, ◌++◌, ℕ, sym, subst, ◌∙◌}
use Rattle.f2_items.specs.Directories.{namings_in, kind_in, is_directory_in}
use Rattle.f2_items.specs.ItemComparisons.{ItemsCompared}
use Rattle.f2_items.specs.OpenDirectories.{depth_of}
use Rattle.f2_items.proofs.AllNameSteps.{names_more}
use Rattle.f2_items.proofs.names_of_directories.Names.legal.Goals as goal

pub returns : goal.returns
returns c = λ image limit before namings ino inode items x known legal stands read.
    let standing = c.in_ok-standing.ensures in
    let own : c.legal.new.self.ino ≡ ino = standing.number ∙ read.directory.number in
    let kinds : c.kind-kind.result ≡ kind_in image x.ino = c.kind-kind.ensures image known ∙ λ t. kind_in image (sym legal.ino t) in
    let rules : ItemsCompared before (kind_in image) c.legal.new.self.ino (depth_of inode) items c.args.self.now.rules
    = subst (λ (n : ℕ). ItemsCompared before (kind_in image) n (depth_of inode) items c.args.self.now.rules) (sym own) read.names.rules in
    record {
      names = names_more image limit before namings ino inode items x _ c.legal.new.self.ino c.args.item.now.ino c.in_ok-standing.standing.is_name own legal.ino (standing.name x legal)
          (c.in_ok-count_name.ensures limit (namings ++ namings_in ino items) read.names.tally)
          (c.in_ok-legal.ensures before (kind_in image) (depth_of inode) items x legal (standing.first (is_directory_in image) ino inode items x legal read.directory) kinds stands rules);
      directory = standing.directory image ino inode items x known legal stands read.directory;
    }
