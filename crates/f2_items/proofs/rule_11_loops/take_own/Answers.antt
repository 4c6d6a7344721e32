use Rattle.std.proofs.Common.{ap, ◌∙◌}
use Rattle.std.proofs.lemmas.Result.{on_ok_weaker}
use Rattle.f2_bytes.specs.Check.{same, digit}
use Rattle.f2_survey.specs.Parts.{part_in}
use Rattle.f2_survey.proofs.CountedTests.{counted-is}
use Rattle.f2_items.proofs.FileParts.{take_one, take_none, visited-below}
use Rattle.f2_items.proofs.LinkParts.{own_of_files, own-plain, own-directory}
use Rattle.f2_items.proofs.rule_11_loops.take_own.Goals as goal

pub returns-in-Plain : goal.returns-in-Plain
returns-in-Plain c = λ image tells is.
    take_none image 2 (part_in image 11 2) (own_of_files image) c.args.into.now c.args.file.now (own-plain image c.args.file.now is c.in-Plain.is)

pub returns-in-Directory : goal.returns-in-Directory
returns-in-Directory c = on_ok_weaker c.same.result (λ compares image tells is.
    let file = c.args.file.now in
    let found = counted-is c.from-in-Directory.result c.is_own-found.result c.from-in-Directory.ensures
    ∙ ap digit (c.is_own-found.ensures ∙ tells file.ino (visited-below image file is)) in
    take_one image 2 (part_in image 11 2) (own_of_files image) c.args.into.now c.same.new.self file c.from.result
    (same c.from-in-Directory.result 0) c.same.ensures.part compares c.from.ensures
    (ap (λ n. same n 0) found ∙ own-directory image file is c.in-Directory.field-0 c.in-Directory.is)) c.same.ensures.compares
