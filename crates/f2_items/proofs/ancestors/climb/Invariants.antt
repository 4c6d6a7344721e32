use Rattle.std.proofs.Common.{◌≡◌, ◌-◌, ◌<◌, length}
use Rattle.std.specs.List.{count_by}
use Rattle.f2_items.specs.Ancestors.{parent_in, Climbing}
use Rattle.f2_items.proofs.ancestors.climb.Given as goal

abbrev pub invariant-loop-marks : goal.invariant-loop-marks
invariant-loop-marks l = (l.at < length l.parents) × (length l.marks ≡ length l.parents) × Climbing (parent_in l.parents) l.fn.marks l.marks l.fn.start l.at

abbrev pub decreases-loop-marks : goal.decreases-loop-marks
decreases-loop-marks l = length l.initial.marks - count_by (λ b. b) l.marks
