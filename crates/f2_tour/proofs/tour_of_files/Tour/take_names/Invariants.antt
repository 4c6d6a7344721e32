use Rattle.std.proofs.Common.{◌≡◌, ℕ, ◌+◌, ◌++◌, List, take}
use Rattle.std.specs.Prelude.{flat_map}
use Rattle.f2_bytes.specs.Bytes.{Image}
use Rattle.f2_bytes.specs.Check.{Defect}
use Rattle.f2_defects.specs.Collected.{Collects}
use Rattle.f2_items.specs.Counted.{IsCounted, times_in}
use Rattle.f2_survey.specs.Known.{IsKnown}
use Rattle.f2_survey.specs.Named.{name_defects}
use Rattle.f2_tour.proofs.tour_of_files.Tour.take_names.Given as goal

-- what the first names show
abbrev pub invariant-loop-name : goal.invariant-loop-name
invariant-loop-name l = record {
  gives : l.self.gives ≡ l.initial.self.gives;
  offsets : (image : Image) (defects : List Defect) → IsKnown image l.nodes
      → Collects l.initial.self.offsets defects → Collects l.self.offsets (defects ++ flat_map (name_defects image l.ino) (take l.name-index l.names));
  times : (limit : ℕ) (times : ℕ → ℕ) → IsCounted limit l.initial.self.times times
      → IsCounted limit l.self.times (λ n. times n + times_in (take l.name-index l.names) n);
}
