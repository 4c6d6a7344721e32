use Rattle.std.proofs.Common.{◌≡◌, ◌<◌, ◌+◌, ℕ, [], suc, rules, subst, sym, ap, ◌∙◌, arith}
use Rattle.std.specs.Prelude.{flat_map}
use Rattle.f2_bytes.specs.Bytes.{numbers_below}
use Rattle.f2_bytes.specs.Check.{nids, defects_at, part_defects}
use Rattle.f2_items.specs.Counted.{IsCounted, times_below}
use Rattle.f2_files.specs.Files.{IsAfter}
use Rattle.f2_survey.specs.Parts.{part_in}
use Rattle.f2_disk.proofs.Runs.{reads_then, goes_then}
use Rattle.f2_view.proofs.Rows.{flat_map-more}
use Rattle.f2_items.proofs.NameSteps.{collects_same}
use Rattle.f2_items.proofs.Tours.{none_so_far, names_part, names_clean_below, counts_none, counts_all}
use Rattle.f2_tour.proofs.tour_of_files.Tour.run.Goals as goal

pub loop-ino-init : goal.loop-ino-init
loop-ino-init g c = record {
  gives = search rules;
  offsets = λ image told of known. collects_same c.args.self.now.offsets [] (flat_map (defects_at (part_in image 3 6)) (numbers_below 0)) (sym (none_so_far (part_in image 3 6)));
  times = λ image limit told of known. counts_none image limit c.args.self.now.times;
  files = λ image told of known gives places none after. after;
  reads = search rules;
  goes = search rules;
}

pub loop-ino-preserved : goal.loop-ino-preserved
loop-ino-preserved g c =
    let so_far = c.loop-ino.invariant in
    let done = c.in_ok-pass.ensures in
    let ino = c.loop-ino.ino in
    record {
      gives = done.gives ∙ so_far.gives;
      offsets = λ image told of known none.
          let before = flat_map (defects_at (part_in image 3 6)) (numbers_below ino) in
          collects_same c.pass.new.self.offsets _ (flat_map (defects_at (part_in image 3 6)) (numbers_below (ino + 1))) (sym (flat_map-more (defects_at (part_in image 3 6)) ino))
          (done.offsets image before (so_far.reads.told ∙ told) of known (so_far.offsets image told of known none));
      times = λ image limit told of known none. done.times image limit (so_far.reads.told ∙ told) of known (so_far.times image limit told of known none);
      files = λ image told of known gives places none after.
          let below : c.loop-ino.ino < nids image = subst (λ (n : ℕ). c.loop-ino.ino < n) (c.limit-limit.ensures image known) c.loop-ino-test.true in
          let clean = collects_same c.loop-ino.self.offsets _ [] (names_clean_below image places ino (omega (arith, below))) (so_far.offsets image told of known none) in
          let next : suc c.loop-ino.ino ≡ c.loop-ino.ino + 1 = omega arith in
          subst (λ (n : ℕ). IsAfter image n c.pass.new.files) next
          (done.file image (so_far.reads.told ∙ told) of known (so_far.gives ∙ gives) places below clean (so_far.files image told of known gives places none after));
      reads = reads_then so_far.goes.later so_far.reads done.reads;
      goes = goes_then so_far.goes done.goes;
    }

pub returns-clause-offsets : goal.returns-clause-offsets
returns-clause-offsets g c = λ image told of known none.
    let all : c.loop-ino.ino ≡ nids image = omega (arith, c.limit-limit.ensures image known) in
    collects_same c.loop-ino.self.offsets _ (part_defects (part_in image 3 6))
    (ap (λ n. flat_map (defects_at (part_in image 3 6)) (numbers_below n)) all ∙ sym (names_part image))
    (c.loop-ino.invariant.offsets image told of known none)

pub returns-clause-times : goal.returns-clause-times
returns-clause-times g c = λ image told of known none.
    let all : c.loop-ino.ino ≡ nids image = omega (arith, c.limit-limit.ensures image known) in
    counts_all image (nids image) c.loop-ino.self.times
    (subst (λ (n : ℕ). IsCounted (nids image) c.loop-ino.self.times (times_below image n)) all (c.loop-ino.invariant.times image (nids image) told of known none))

pub returns-clause-files : goal.returns-clause-files
returns-clause-files g c = λ image told of known gives places none after.
    let all : c.loop-ino.ino ≡ nids image = omega (arith, c.limit-limit.ensures image known) in
    subst (λ (n : ℕ). IsAfter image n c.loop-ino.files) all (c.loop-ino.invariant.files image told of known gives places none after)
