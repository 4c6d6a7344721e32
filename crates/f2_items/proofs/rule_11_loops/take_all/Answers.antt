use Rattle.std.proofs.Common.{refl, arith}
use Rattle.f2_survey.specs.Parts.{part_in}
use Rattle.f2_items.proofs.FileParts.{taken_none, taken_more, taken_up_to, taken_all}
use Rattle.f2_items.proofs.LinkParts.{own_of_files}
use Rattle.f2_items.proofs.rule_11_loops.take_all.Goals as goal

pub loop-file-init : goal.loop-file-init
loop-file-init c = λ image tells are. taken_none image 2 (part_in image 11 2) (own_of_files image) c.new-found.result c.new-found.ensures.part c.new-found.ensures.none

pub loop-file-preserved : goal.loop-file-preserved
loop-file-preserved c = λ image tells are.
    let files = c.args.files.now in
    taken_more image (part_in image 11 2) files are c.loop-file.file-index _ (omega arith) files refl c.loop-file.found c.take_own.new.into
    (c.in_ok-take_own.ensures image tells) (c.loop-file.invariant image tells are)

pub returns : goal.returns
returns c = λ image tells are.
    let files = c.args.files.now in
    taken_all image 2 (part_in image 11 2) (own_of_files image) c.loop-file.found files are
    (taken_up_to image (part_in image 11 2) c.loop-file.found files c.loop-file.file-index (omega arith) (c.loop-file.invariant image tells are))
