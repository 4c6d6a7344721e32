use Rattle.std.proofs.Common.{◌++◌, List, take, subst, sym, ap, ◌∙◌, append_assoc}
use Rattle.std.specs.Prelude.{filter_map}
use Rattle.f2_files.specs.Files.{IsInside}
use Rattle.f2_survey.specs.Named.{name_row}
use Rattle.f2_survey.specs.Slots.{Row}
use Rattle.f2_disk.proofs.Runs.{reads_then, goes_then}
use Rattle.f2_items.proofs.NameSteps.{filter_map_step}
use Rattle.f2_tour.proofs.file_rows.give_nodes.Goals as goal

pub loop-name-preserved : goal.loop-name-preserved
loop-name-preserved g c =
    let so_far = c.loop-name.invariant in
    let done = c.in_ok-give_node.ensures in
    record {
      reads = reads_then so_far.goes.later so_far.reads done.reads;
      goes = goes_then so_far.goes done.goes;
      rows = λ image rows told of known inside.
          let ino = c.args.ino in
          let names = c.args.names.now in
          let at = c.loop-name.name-index in
          let f = name_row image ino c.args.inode.now in
          subst (λ (l : List Row). IsInside image ino l c.give_node.new.files)
          (append_assoc rows (filter_map f (take at names)) _ ∙ ap (λ l. rows ++ l) (sym (filter_map_step f names at _ c.loop-name-test.true)))
          (done.row image (rows ++ filter_map f (take at names)) (so_far.reads.told ∙ told) of known (so_far.rows image rows told of known inside));
    }
