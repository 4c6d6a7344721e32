use Rattle.std.proofs.lemmas.Bool.{eq-eqb, ne_eqb}
use Rattle.std.proofs.lemmas.Result.{on_ok_weaker}
use Rattle.f2_bytes.specs.Check.{same}
use Rattle.f2_survey.specs.Parts.{part_in}
use Rattle.f2_items.proofs.FileParts.{take_one, take_none, visited-below}
use Rattle.f2_items.proofs.LinkParts.{names_of_files, names-root, names-other}
use Rattle.f2_items.proofs.rules_9_to_11_links.take_names.Goals as goal

pub returns-then-file-eq-ROOT : goal.returns-then-file-eq-ROOT
returns-then-file-eq-ROOT c = λ image names is.
    take_none image 1 (part_in image 11 1) (names_of_files image) c.args.into.now c.args.file.now (names-root image c.args.file.now is (eq-eqb c.args.file.now.ino 3 c.if-file-eq-ROOT.true))

pub returns : goal.returns
returns c = on_ok_weaker c.same.result (λ compares image names is.
    let file = c.args.file.now in
    let found = c.names_found.ensures image is.inode names (visited-below image file is) is.says in
    take_one image 1 (part_in image 11 1) (names_of_files image) c.args.into.now c.same.new.self file c.from.result
    (same c.names_found.result 1) c.same.ensures.part compares c.from.ensures
    (names-other image file is c.names_found.result (ne_eqb file.ino 3 c.if-file-eq-ROOT.false) found)) c.same.ensures.compares
