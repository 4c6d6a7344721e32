use Rattle.std.proofs.Common.{min, ap, ◌∙◌}
use Rattle.std.proofs.lemmas.Result.{on_ok_weaker}
use Rattle.f2_files.proofs.ExtentDefects.{extents-end}
use Rattle.f2_files.proofs.rule_9_extents.Extents.end.Goals as goal

pub returns : goal.returns
returns c = on_ok_weaker c.run_to-2.result (λ second image inode is inside.
    extents-end image c.args.ino inode c.args.self.now c.run_to.new.self c.run_to-2.new.self c.min-holes.result is inside
    (c.min-holes.ensures ∙ ap (λ n. min n c.args.self.now.extent.end) c.max.ensures)
    c.in_ok-run_to.ensures.part c.in_ok-run_to.ensures.extent c.in_ok-run_to.ensures.next c.run_to-2.ensures.part c.in_ok-run_to.ensures.defects second) c.run_to-2.ensures.defects
