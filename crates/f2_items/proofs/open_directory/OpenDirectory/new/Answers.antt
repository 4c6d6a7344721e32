use Rattle.std.proofs.Common.{refl}
use Rattle.f2_items.specs.OpenDirectories.{depth_of}
use Rattle.f2_items.proofs.open_directory.OpenDirectory.new.Goals as goal

pub returns : goal.returns
returns c = λ is_directory. record {
  number = refl;
  says = c.of.ensures;
  places = c.new.ensures;
  dots = c.new-2.ensures;
  reach = c.new-3.ensures (depth_of c.args.inode.now);
  directories = refl;
}
