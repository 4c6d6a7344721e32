use Rattle.std.proofs.Common.{◌≡◌, flat_map}
use Rattle.f2_bytes.specs.Bytes.{numbers_below}
use Rattle.f2_bytes.specs.Node.{address_word}
use Rattle.f2_disk.specs.Disk.{Reads, Goes}
use Rattle.f2_view.specs.Directories.{items_under, Adds}
use Rattle.f2_view.proofs.accessors.Mount.push_words.Given as goal

-- the entries of the first blocks, and what the disk did
abbrev pub invariant-loop-j : goal.invariant-loop-j
invariant-loop-j g l = record {
  mount : l.self ≡ l.initial.self;
  reads : Reads (g.D.Disk.state l.initial.d) (g.D.Disk.state l.d);
  goes : Goes (g.D.Disk.state l.initial.d) (g.D.Disk.state l.d);
  entries : Adds (g.D.Disk.state l.initial.d).told l.initial.self l.initial.into.items l.into.items
      (λ image. flat_map (λ i. items_under image 0 i (address_word l.inode i)) (numbers_below l.j));
}
