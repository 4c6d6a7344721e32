use Rattle.std.proofs.Common.{◌≡◌, ◌+◌, ◌++◌, ◌∙◌, take}
use Rattle.std.specs.Prelude.{flat_map}
use Rattle.std.proofs.lemmas.List.{take_all}
use Rattle.f2_items.specs.Counted.{times_in}
use Rattle.f2_survey.specs.Named.{name_defects}
use Rattle.f2_items.proofs.NameSteps.{collects_step, counted_step, counted_same}
use Rattle.f2_tour.proofs.tour_of_files.Tour.take_names.Goals as goal

pub loop-name-preserved : goal.loop-name-preserved
loop-name-preserved c = record {
  gives = c.in_ok-take_name.ensures.gives ∙ c.loop-name.invariant.gives;
  offsets = λ image defects known collects.
      collects_step c.take_name.new.self.offsets defects (name_defects image c.args.ino) c.args.names.now c.loop-name.name-index _ c.loop-name-test.true
      (c.in_ok-take_name.ensures.offsets image (defects ++ flat_map (name_defects image c.args.ino) (take c.loop-name.name-index c.args.names.now)) known
      (c.loop-name.invariant.offsets image defects known collects));
  times = λ limit times counted.
      counted_step limit c.take_name.new.self.times times c.args.names.now c.loop-name.name-index _ c.loop-name-test.true
      (c.in_ok-take_name.ensures.times limit (λ n. times n + times_in (take c.loop-name.name-index c.args.names.now) n)
      (c.loop-name.invariant.times limit times counted));
}

pub returns-clause-times : goal.returns-clause-times
returns-clause-times c = λ limit times counted.
    let all : take c.loop-name.name-index c.args.names.now ≡ c.args.names.now = take_all c.loop-name.name-index c.args.names.now c.loop-name-test.false in
    counted_same limit c.loop-name.self.times (λ n. times n + times_in (take c.loop-name.name-index c.args.names.now) n) (λ n. times n + times_in c.args.names.now n)
    (λ n i. times n + times_in (all i) n)
    (c.loop-name.invariant.times limit times counted)
