use Rattle.std.proofs.Common.{ap, ◌∙◌}
use Rattle.std.proofs.lemmas.Result.{on_ok_weaker}
use Rattle.f2_bytes.specs.Check.{same}
use Rattle.f2_survey.specs.Parts.{part_in}
use Rattle.f2_items.proofs.FileParts.{take_one, visited-below}
use Rattle.f2_items.proofs.LinkParts.{links_of_files, links-at}
use Rattle.f2_items.proofs.rules_9_to_11_links.take_links.Goals as goal

pub returns : goal.returns
returns c = on_ok_weaker c.same.result (λ compares image names is.
    let file = c.args.file.now in
    let wanted = c.links_wanted.ensures image is.inode names (visited-below image file is) is.there is.says in
    take_one image 2 (part_in image 9 2) (links_of_files image) c.args.into.now c.same.new.self file c.from.result
    (same c.from-2.result c.links_wanted.result) c.same.ensures.part compares c.from.ensures
    (ap (λ n. same n c.links_wanted.result) c.from-2.ensures ∙ links-at image file is c.links_wanted.result wanted)) c.same.ensures.compares
