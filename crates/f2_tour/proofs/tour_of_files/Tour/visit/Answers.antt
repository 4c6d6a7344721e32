use Rattle.std.proofs.Common.{◌≡◌, [], ◌++◌, List, Some, None, sym, ap, ◌∙◌}
use Rattle.std.proofs.lemmas.Bool.{cond-true, cond-false, false≢true}
use Rattle.std.proofs.lemmas.Result.{on_ok_weaker}
use Rattle.f2_disk.proofs.Runs.{on_ok}
use Rattle.f2_survey.specs.Named.{file_names, named_rows}
use Rattle.f2_survey.specs.declared.nid_slot_names.Name.{Name}
use Rattle.f2_tour.proofs.NameLists.{rows-named}
use Rattle.f2_tour.proofs.Visits.{collects_missing, counts_missing, collects_named, counts_named, clean_still}
use Rattle.f2_tour.proofs.tour_of_files.Tour.visit.Goals as goal

pub returns-then-not-branch-clause-offsets : goal.returns-then-not-branch-clause-offsets
returns-then-not-branch-clause-offsets g c = λ image defects told of known inode.
    collects_missing image c.args.ino (c.in_ok-known_node.ensures.node image told of known ∙ cond-false c.in_ok-known_node.field-0 (Some c.known_node.new.into) None c.if-not-branch.true)
    inode c.args.self.now.offsets defects

pub returns-then-not-branch-clause-times : goal.returns-then-not-branch-clause-times
returns-then-not-branch-clause-times g c = λ image limit times told of known.
    counts_missing image c.args.ino (c.in_ok-known_node.ensures.node image told of known ∙ cond-false c.in_ok-known_node.field-0 (Some c.known_node.new.into) None c.if-not-branch.true)
    limit c.args.self.now.times times

pub returns-then-not-is_clean-clause-offsets : goal.returns-then-not-is_clean-clause-offsets
returns-then-not-is_clean-clause-offsets g c = λ image defects told of known file collects.
    let ino = c.args.ino in
    let is = c.in_ok-known_node.ensures.node image told of known ∙ cond-true c.in_ok-known_node.field-0 (Some c.known_node.new.into) None c.if-not-branch.false in
    let all : c.deref.result.now ≡ file_names image c.args.ino
    = c.deref.ensures.value ∙ c.in_ok-push_names.ensures.names image ino (c.in_ok-known_node.ensures.reads.told ∙ told) of known is ∙ ap (λ (l : List Name). l ++ file_names image ino) c.new-names.ensures.items in
    collects_named image ino c.deref.result.now all file c.take_file.new.self.offsets defects (c.in_ok-take_file.ensures.offsets image defects known collects)

pub returns-then-not-is_clean-clause-times : goal.returns-then-not-is_clean-clause-times
returns-then-not-is_clean-clause-times g c = λ image limit times told of known counted.
    let ino = c.args.ino in
    let is = c.in_ok-known_node.ensures.node image told of known ∙ cond-true c.in_ok-known_node.field-0 (Some c.known_node.new.into) None c.if-not-branch.false in
    let all : c.deref.result.now ≡ file_names image c.args.ino
    = c.deref.ensures.value ∙ c.in_ok-push_names.ensures.names image ino (c.in_ok-known_node.ensures.reads.told ∙ told) of known is ∙ ap (λ (l : List Name). l ++ file_names image ino) c.new-names.ensures.items in
    counts_named image ino c.deref.result.now all c.known_node.new.into is limit c.take_file.new.self.times times (c.in_ok-take_file.ensures.times limit times counted)

pub returns-then-not-is_clean-clause-file : goal.returns-then-not-is_clean-clause-file
returns-then-not-is_clean-clause-file g c = λ image told of known gives file there none clean after.
    let ino = c.args.ino in
    let is = c.in_ok-known_node.ensures.node image told of known ∙ cond-true c.in_ok-known_node.field-0 (Some c.known_node.new.into) None c.if-not-branch.false in
    let all : c.deref.result.now ≡ file_names image c.args.ino
    = c.deref.ensures.value ∙ c.in_ok-push_names.ensures.names image ino (c.in_ok-known_node.ensures.reads.told ∙ told) of known is ∙ ap (λ (l : List Name). l ++ file_names image ino) c.new-names.ensures.items in
    let still = clean_still image ino c.deref.result.now all file c.take_file.new.self.offsets clean (c.in_ok-take_file.ensures.offsets image [] known none) in
    absurd (false≢true (sym c.if-not-is_clean.true ∙ c.is_clean.ensures (c.in_ok-take_file.ensures.gives ∙ gives) still))

pub returns-clause-offsets : goal.returns-clause-offsets
returns-clause-offsets g c = on_ok c.give_file.result (λ image defects told of known file collects.
    let ino = c.args.ino in
    let is = c.in_ok-known_node.ensures.node image told of known ∙ cond-true c.in_ok-known_node.field-0 (Some c.known_node.new.into) None c.if-not-branch.false in
    let all : c.deref.result.now ≡ file_names image c.args.ino
    = c.deref.ensures.value ∙ c.in_ok-push_names.ensures.names image ino (c.in_ok-known_node.ensures.reads.told ∙ told) of known is ∙ ap (λ (l : List Name). l ++ file_names image ino) c.new-names.ensures.items in
    collects_named image ino c.deref.result.now all file c.take_file.new.self.offsets defects (c.in_ok-take_file.ensures.offsets image defects known collects))

pub returns-clause-times : goal.returns-clause-times
returns-clause-times g c = on_ok c.give_file.result (λ image limit times told of known counted.
    let ino = c.args.ino in
    let is = c.in_ok-known_node.ensures.node image told of known ∙ cond-true c.in_ok-known_node.field-0 (Some c.known_node.new.into) None c.if-not-branch.false in
    let all : c.deref.result.now ≡ file_names image c.args.ino
    = c.deref.ensures.value ∙ c.in_ok-push_names.ensures.names image ino (c.in_ok-known_node.ensures.reads.told ∙ told) of known is ∙ ap (λ (l : List Name). l ++ file_names image ino) c.new-names.ensures.items in
    counts_named image ino c.deref.result.now all c.known_node.new.into is limit c.take_file.new.self.times times (c.in_ok-take_file.ensures.times limit times counted))

pub returns-clause-file : goal.returns-clause-file
returns-clause-file g c = on_ok_weaker c.give_file.result (λ given image told of known gives file there none clean after.
    let ino = c.args.ino in
    let inode = c.known_node.new.into in
    let later = c.in_ok-push_names.ensures.reads.told ∙ c.in_ok-known_node.ensures.reads.told ∙ told in
    let is = c.in_ok-known_node.ensures.node image told of known ∙ cond-true c.in_ok-known_node.field-0 (Some c.known_node.new.into) None c.if-not-branch.false in
    let all : c.deref-2.result.now ≡ file_names image c.args.ino
    = c.deref-2.ensures.value ∙ c.in_ok-push_names.ensures.names image ino (c.in_ok-known_node.ensures.reads.told ∙ told) of known is ∙ ap (λ (l : List Name). l ++ file_names image ino) c.new-names.ensures.items in
    given image later of known file is (ap (named_rows image ino inode) all ∙ rows-named image ino inode is) after) c.give_file.ensures.file
