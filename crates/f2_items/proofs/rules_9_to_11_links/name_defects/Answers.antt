use Rattle.std.proofs.Common.{arith}
use Rattle.f2_survey.specs.Parts.{part_in}
use Rattle.f2_items.proofs.FileParts.{taken_none, taken_more, taken_up_to, taken_all}
use Rattle.f2_items.proofs.LinkParts.{names_of_files}
use Rattle.f2_items.proofs.rules_9_to_11_links.name_defects.Goals as goal

pub loop-file-init : goal.loop-file-init
loop-file-init c = λ image gathered. taken_none image 1 (part_in image 11 1) (names_of_files image) c.new-found.result c.new-found.ensures.part c.new-found.ensures.none

pub loop-file-preserved : goal.loop-file-preserved
loop-file-preserved c = λ image gathered.
    let files = c.args.d.now.files.items in
    taken_more image (part_in image 11 1) files gathered.files c.loop-file.file-index _ (omega arith)
    c.deref-file-items.result.now c.deref-file-items.ensures.value c.loop-file.found c.take_names.new.into
    (c.in_ok-take_names.ensures image gathered.tally) (c.loop-file.invariant image gathered)

pub returns : goal.returns
returns c = λ image gathered.
    let files = c.args.d.now.files.items in
    taken_all image 1 (part_in image 11 1) (names_of_files image) c.loop-file.found files gathered.files
    (taken_up_to image (part_in image 11 1) c.loop-file.found files c.loop-file.file-index (omega arith) (c.loop-file.invariant image gathered))
