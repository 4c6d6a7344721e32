use Rattle.std.proofs.Common.{◌≡◌, ◌∷◌, [], List, true, ap, sym, subst, ◌∙◌}
use Rattle.std.specs.Prelude.{filter_map}
use Rattle.std.proofs.lemmas.Bool.{cond-true}
use Rattle.std.proofs.lemmas.Result.{on_ok_weaker}
use Rattle.f2_bytes.specs.Node.{has_slots}
use Rattle.f2_files.specs.Files.{IsInside}
use Rattle.f2_survey.specs.Named.{name_row}
use Rattle.f2_survey.specs.Slots.{Row, inode_row_of}
use Rattle.f2_tour.proofs.file_rows.give_rows.Goals as goal

pub returns-clause-rows : goal.returns-clause-rows
returns-clause-rows g c = on_ok_weaker c.give_nodes.result (λ given image told of known inside.
    let ino = c.args.ino in
    let inode = c.args.inode.now in
    let row = c.of_inode.result in
    let rest = filter_map (name_row image ino inode) c.args.names.now in
    let has : has_slots inode ≡ true = sym c.has_slots.ensures ∙ c.if-not-has_slots.false in
    let first = c.in_ok-row.ensures.takes image ino [] told of known (ap (λ (r : Row). r.ino) c.of_inode.ensures) inside in
    subst (λ (l : List Row). IsInside image ino l c.give_nodes.new.files)
    ((λ i. c.of_inode.ensures i ∷ rest) ∙ sym (cond-true (has_slots inode) (inode_row_of ino inode ∷ rest) [] has))
    (given image (row ∷ []) (c.in_ok-row.ensures.reads.told ∙ told) of known first)) c.give_nodes.ensures.rows
