use Rattle.std.proofs.Common.{◌≡◌, map, take}
use Rattle.std.specs.Prelude.{flat_map}
use Rattle.f2_defects.specs.Collected.{defect_in}
use Rattle.f2_top.specs.Text.{defect_line}
use Rattle.f2_top.proofs.checks.defect_text.Given as goal

-- the lines so far
abbrev pub invariant-loop-d : goal.invariant-loop-d
invariant-loop-d l = l.text.items ≡ flat_map (defect_line l.fn.rule) (map defect_in (take l.d-index l.list))
