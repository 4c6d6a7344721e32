use Rattle.std.proofs.Common.{◌≡◌, ℕ, [], Some, true}
use Rattle.std.specs.Prelude.{flat_map}
use Rattle.f2_bytes.specs.Bytes.{Image, numbers_below}
use Rattle.f2_bytes.specs.Check.{defects_at}
use Rattle.f2_defects.specs.Collected.{Collects}
use Rattle.f2_items.specs.Counted.{IsCounted, times_below}
use Rattle.f2_files.specs.Files.{IsAfter}
use Rattle.f2_survey.specs.Known.{IsKnown}
use Rattle.f2_survey.specs.Parts.{part_in, HasPlaces}
use Rattle.f2_disk.specs.Disk.{Reads, Goes}
use Rattle.f2_view.specs.Mounted.{IsMountOf}
use Rattle.f2_tour.proofs.tour_of_files.Tour.run.Given as goal

-- what the numbers below this one show, and what the disk did
abbrev pub invariant-loop-ino : goal.invariant-loop-ino
invariant-loop-ino g l = record {
  gives : l.self.gives ≡ l.initial.self.gives;
  offsets : (image : Image) → (g.D.Disk.state l.initial.d).told ≡ Some image → IsMountOf image l.m → IsKnown image l.nodes
      → Collects l.initial.self.offsets [] → Collects l.self.offsets (flat_map (defects_at (part_in image 3 6)) (numbers_below l.ino));
  times : (image : Image) (limit : ℕ) → (g.D.Disk.state l.initial.d).told ≡ Some image → IsMountOf image l.m → IsKnown image l.nodes
      → IsCounted limit l.initial.self.times (λ _. 0) → IsCounted limit l.self.times (times_below image l.ino);
  files : (image : Image) → (g.D.Disk.state l.initial.d).told ≡ Some image → IsMountOf image l.m → IsKnown image l.nodes
      → l.initial.self.gives ≡ true → HasPlaces image → Collects l.initial.self.offsets []
      → IsAfter image 0 l.initial.files → IsAfter image l.ino l.files;
  reads : Reads (g.D.Disk.state l.initial.d) (g.D.Disk.state l.d);
  goes : Goes (g.D.Disk.state l.initial.d) (g.D.Disk.state l.d);
}
