use Rattle.std.proofs.Common.{◌++◌}
use Rattle.std.proofs.lemmas.Result.{on_ok_weaker}
use Rattle.f2_files.specs.Addresses.{slot_of}
use Rattle.f2_survey.specs.Slots.{slots_below}
use Rattle.f2_files.proofs.VisitedFiles.{take-kept, take-claims, take-repeats}
use Rattle.f2_files.proofs.files.Files.take.Goals as goal

pub returns-in-Kept-clause-takes : goal.returns-in-Kept-clause-takes
returns-in-Kept-clause-takes g c = on_ok_weaker c.take.result (λ taken image slots told of known.
    take-kept image c.args.slot.now.ino slots (slot_of c.args.slot.now) c.args.self.now c.in-Kept.kept c.take.new.self c.in-Kept.is (taken image slots told of known)) c.take.ensures.takes

pub returns-in_ok-take-in-Claims-clause-takes : goal.returns-in_ok-take-in-Claims-clause-takes
returns-in_ok-take-in-Claims-clause-takes g c = λ image slots told of known.
    take-claims image c.args.slot.now.ino slots (slot_of c.args.slot.now) c.args.self.now c.in-Claims.claims c.take-in-Claims.new.self c.in-Claims.is
    (c.in_ok-take-in-Claims.ensures image (slots_below image c.args.slot.now.ino ++ slots))

pub returns-in_ok-take-in-Repeats-clause-takes : goal.returns-in_ok-take-in-Repeats-clause-takes
returns-in_ok-take-in-Repeats-clause-takes g c = λ image slots told of known.
    take-repeats image c.args.slot.now.ino slots (slot_of c.args.slot.now) c.args.self.now c.in-Repeats.repeats c.take-in-Repeats.new.self c.in-Repeats.is
    (c.in_ok-take-in-Repeats.ensures image (slots_below image c.args.slot.now.ino ++ slots))
