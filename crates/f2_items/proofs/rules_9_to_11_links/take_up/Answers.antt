use Rattle.std.proofs.Common.{not, refl, ap, ◌∙◌}
use Rattle.std.proofs.lemmas.Result.{on_ok_weaker}
use Rattle.f2_items.specs.EachFile.{up_comparison}
use Rattle.f2_survey.specs.Parts.{part_in}
use Rattle.f2_items.proofs.FileParts.{take_one, take_none, visited-below}
use Rattle.f2_items.proofs.LinkParts.{up_of_files, up-plain, up-directory}
use Rattle.f2_items.proofs.rules_9_to_11_links.take_up.Goals as goal

pub returns-in-Plain : goal.returns-in-Plain
returns-in-Plain c = λ image names is.
    take_none image 8 (part_in image 10 8) (up_of_files image) c.args.into.now c.args.file.now (up-plain image c.args.file.now is c.in-Plain.is)

pub returns-in-Directory : goal.returns-in-Directory
returns-in-Directory c = on_ok_weaker c.compare_up.result (λ compares image names is.
    let file = c.args.file.now in
    let closed = c.in-Directory.closed in
    take_one image 8 (part_in image 10 8) (up_of_files image) c.args.into.now c.compare_up.new.into file file.ino
    (up_comparison closed.up (not closed.may_lack_dots) c.up_wanted.result) c.compare_up.ensures.part compares refl
    (ap (up_comparison closed.up (not closed.may_lack_dots)) (c.up_wanted.ensures image names (visited-below image file is)) ∙ up-directory image file is closed c.in-Directory.is)) c.compare_up.ensures.compares
