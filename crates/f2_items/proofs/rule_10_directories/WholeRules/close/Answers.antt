use Rattle.f2_items.proofs.WholeSteps.{depth_compared, dot_compared, size_compared}
use Rattle.f2_items.proofs.rule_10_directories.WholeRules.close.Goals as goal

pub returns : goal.returns
returns c = λ before is_directory ino inode items is finds. record {
  depths = depth_compared is_directory ino inode items c.args.directory.now is c.args.self.now.depths c.compare_depth.new.into (before 6) c.in_ok-compare_depth.ensures.part finds.depths c.in_ok-compare_depth.ensures.compares;
  dots = dot_compared is_directory ino inode items c.args.directory.now is c.args.self.now.dots c.compare_dot.new.into (before 7) c.in_ok-compare_dot.ensures.part finds.dots c.in_ok-compare_dot.ensures.compares;
  sizes = size_compared is_directory ino inode items c.args.directory.now is c.args.self.now.sizes c.compare_size.new.into (before 9) c.in_ok-compare_size.ensures.part finds.sizes c.in_ok-compare_size.ensures.compares;
}
