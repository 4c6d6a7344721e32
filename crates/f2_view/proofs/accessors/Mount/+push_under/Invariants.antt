use Rattle.std.proofs.Common.{◌≡◌, ◌-◌, ◌+◌, ◌*◌, ◌^◌, flat_map}
use Rattle.f2_bytes.specs.Bytes.{word, numbers_below}
use Rattle.f2_disk.specs.Disk.{Reads, Goes}
use Rattle.f2_view.specs.Directories.{items_under, Adds}
use Rattle.f2_view.proofs.accessors.Mount.+push_under.Given as goal

abbrev pub decreases-push_under : goal.decreases-push_under
decreases-push_under g l = l.height

-- the entries under the first numbers of the node, and what the disk did
abbrev pub invariant-loop-j : goal.invariant-loop-j
invariant-loop-j g l = record {
  mount : l.self ≡ l.initial.self;
  reads : Reads (g.D.Disk.state l.initial.d) (g.D.Disk.state l.d);
  goes : Goes (g.D.Disk.state l.initial.d) (g.D.Disk.state l.d);
  entries : Adds (g.D.Disk.state l.initial.d).told l.initial.self l.initial.into.items l.into.items
      (λ image. flat_map (λ i. items_under image (l.height - 1) (l.first + i * 1018 ^ (l.height - 1)) (word l.node i)) (numbers_below l.j));
}
