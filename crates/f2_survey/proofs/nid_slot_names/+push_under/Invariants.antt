use Rattle.std.proofs.Common.{◌≡◌, ◌-◌, ◌+◌, ◌*◌, ◌++◌, ◌∷◌, Some}
use Rattle.std.specs.Prelude.{flat_map}
use Rattle.f2_bytes.specs.Bytes.{Image, word, numbers_below}
use Rattle.f2_survey.specs.Known.{IsKnown}
use Rattle.f2_survey.specs.Named.{span, names_under}
use Rattle.f2_disk.specs.Disk.{Reads, Goes}
use Rattle.f2_view.specs.Mounted.{IsMountOf}
use Rattle.f2_survey.proofs.nid_slot_names.+push_under.Given as goal

abbrev pub decreases-push_under : goal.decreases-push_under
decreases-push_under g l = l.height

-- the names under the first numbers of the node, and what the disk did
abbrev pub invariant-loop-j : goal.invariant-loop-j
invariant-loop-j g l = record {
  reads : Reads (g.D.Disk.state l.initial.d) (g.D.Disk.state l.d);
  goes : Goes (g.D.Disk.state l.initial.d) (g.D.Disk.state l.d);
  names : (image : Image) → (g.D.Disk.state l.initial.d).told ≡ Some image → IsMountOf image l.m → IsKnown image l.nodes
      → l.into.items ≡ l.fn.into.items ++ (l.name ∷ flat_map (λ i. names_under image (l.height - 1) (l.name.offset + 1 + i * span (l.height - 1)) (word l.node i)) (numbers_below l.j));
}
