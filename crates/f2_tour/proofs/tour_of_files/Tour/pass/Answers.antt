use Rattle.std.proofs.Common.{◌++◌, sym, ap, ◌∙◌, append-nil}
use Rattle.std.proofs.lemmas.Result.{on_ok_weaker}
use Rattle.f2_bytes.specs.Check.{defects_at}
use Rattle.f2_items.specs.Counted.{times_below}
use Rattle.f2_survey.specs.Parts.{part_in}
use Rattle.f2_tour.proofs.FilesLaws.{passed}
use Rattle.f2_tour.proofs.NameLists.{no_defects}
use Rattle.f2_items.proofs.NameSteps.{collects_same}
use Rattle.f2_items.proofs.Tours.{counts_file, counts_other, inode_there, names_clean_at}
use Rattle.f2_tour.proofs.tour_of_files.Tour.pass.Goals as goal

pub returns-then-not-is_inode-clause-offsets : goal.returns-then-not-is_inode-clause-offsets
returns-then-not-is_inode-clause-offsets g c = λ image defects told of known.
    let ino = c.args.ino in
    let other = sym (c.is_inode.ensures image known) ∙ c.if-not-is_inode.true in
    collects_same c.args.self.now.offsets defects (defects ++ defects_at (part_in image 3 6) ino)
    (sym (ap (λ l. defects ++ l) (no_defects image ino other) ∙ append-nil defects))

pub returns-then-not-is_inode-clause-times : goal.returns-then-not-is_inode-clause-times
returns-then-not-is_inode-clause-times g c = λ image limit told of known.
    counts_other image c.args.ino limit c.args.self.now.times (sym (c.is_inode.ensures image known) ∙ c.if-not-is_inode.true)

pub returns-then-not-is_inode-clause-file : goal.returns-then-not-is_inode-clause-file
returns-then-not-is_inode-clause-file g c = λ image told of known gives places below none.
    passed image c.args.ino c.args.files.now (sym (c.is_inode.ensures image known) ∙ c.if-not-is_inode.true)

pub returns-clause-times : goal.returns-clause-times
returns-clause-times g c = on_ok_weaker c.visit.result (λ visited image limit told of known counted.
    counts_file image c.args.ino limit c.visit.new.self.times (sym (c.is_inode.ensures image known) ∙ c.if-not-is_inode.false)
    (visited image limit (times_below image c.args.ino) told of known counted)) c.visit.ensures.times

pub returns-clause-file : goal.returns-clause-file
returns-clause-file g c = on_ok_weaker c.visit.result (λ visited image told of known gives places below none.
    let ino = c.args.ino in
    let file = sym (c.is_inode.ensures image known) ∙ c.if-not-is_inode.false in
    visited image told of known gives file (inode_there image places ino below file) none (names_clean_at image places ino below)) c.visit.ensures.file
