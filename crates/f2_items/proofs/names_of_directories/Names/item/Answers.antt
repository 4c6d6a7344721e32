use Rattle.std.proofs.Common.{◌≡◌, ◌+◌, ◌-◌, take, drop, ℕ, true, false, refl, sym, subst}
use Rattle.std.proofs.lemmas.Bool.{not-true, not-false}
use Rattle.f2_items.specs.Directories.{kind_in, is_directory_in}
use Rattle.f2_items.specs.ItemComparisons.{ItemsCompared}
use Rattle.f2_items.specs.OpenDirectories.{depth_of}
use Rattle.f2_items.proofs.AllNameSteps.{names_skip}
use Rattle.f2_items.proofs.OpenSteps.{open_skip}
use Rattle.f2_items.proofs.names_of_directories.Names.item.Goals as goal
use Rattle.f2_view.specs.Directories.{kept}

pub returns-then-not-item : goal.returns-then-not-item
returns-then-not-item c = λ image limit before namings ino inode items known stands read.
    let x = kept c.args.area.now c.args.first c.args.item in
    let bad : x.is_legal ≡ false = not-true c.args.item.legal c.if-not-item.true in
    let own : c.args.directory.now.ino ≡ ino = read.directory.number in
    let rules : ItemsCompared before (kind_in image) c.args.directory.now.ino (depth_of inode) items c.args.self.now.rules
    = subst (λ (n : ℕ). ItemsCompared before (kind_in image) n (depth_of inode) items c.args.self.now.rules) (sym own) read.names.rules in
    record {
      names = names_skip image limit before namings ino inode items x _ c.args.directory.now.ino own bad read.names.tally (c.in_ok-illegal.ensures before (kind_in image) (depth_of inode) items x bad refl refl rules);
      directory = open_skip (is_directory_in image) ino inode items x c.args.directory.now read.directory bad;
    }

pub returns : goal.returns
returns c = λ image limit before namings ino inode items known stands read.
    let x = kept c.args.area.now c.args.first c.args.item in
    let good : x.is_legal ≡ true = not-false c.args.item.legal c.if-not-item.false in
    c.in_ok-legal.ensures image limit before namings ino inode items x known (record { is = good; place = refl; hash = refl; ino = refl; kind = refl; name = λ t. take (c.args.item.at + sym c.from.ensures t - c.args.item.at) (drop c.args.item.at c.args.area.now) }) stands read
