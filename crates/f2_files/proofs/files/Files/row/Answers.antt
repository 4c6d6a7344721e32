use Rattle.std.proofs.Common.{◌≡◌, ◌++◌, rules, sym, ap, subst, ◌∙◌, arith}
use Rattle.std.specs.Prelude.{filter_map, flat_map}
use Rattle.f2_bytes.specs.Bytes.{numbers_below}
use Rattle.f2_disk.proofs.Runs.{reads_then, goes_then}
use Rattle.f2_files.specs.Files.{HasSlots}
use Rattle.f2_survey.specs.Slots.{slot_in_row, row_slots}
use Rattle.f2_files.proofs.VisitedFiles.{row-none, row-used}
use Rattle.f2_files.proofs.files.Files.row.Goals as goal

pub loop-j-init : goal.loop-j-init
loop-j-init g c = record {
  reads = search rules;
  goes = search rules;
  takes = λ image slots told of known inside. subst (λ l. HasSlots image c.args.row.now.ino l c.args.self.now) (row-none c.args.row.now slots) inside;
}

pub take_word-requires-clause-lies : goal.take_word-requires-clause-lies
take_word-requires-clause-lies g c = omega (arith, c.requires.lies, c.loop-j.invariant.goes.size)

pub loop-j-preserved : goal.loop-j-preserved
loop-j-preserved g c =
    let so_far = c.loop-j.invariant in
    let done = c.in_ok-take_word.ensures in
    record {
      reads = reads_then so_far.goes.later so_far.reads done.reads;
      goes = goes_then so_far.goes done.goes;
      takes = λ image slots told of known inside. done.takes image slots (so_far.reads.told ∙ told) of known (so_far.takes image slots told of known inside);
    }

pub returns-clause-takes : goal.returns-clause-takes
returns-clause-takes g c = λ image ino rows told of known is inside.
    let row = c.args.row.now in
    let used = c.used-j-end.ensures in
    let all : c.loop-j.j ≡ c.used-j-end.result = omega arith in
    subst (λ l. HasSlots image ino l c.loop-j.self)
    (ap (λ n. flat_map row_slots rows ++ filter_map (slot_in_row row) (numbers_below n)) all ∙ row-used row c.used-j-end.result used.inside used.zeros rows)
    (subst (λ n. HasSlots image n (flat_map row_slots rows ++ filter_map (slot_in_row row) (numbers_below c.loop-j.j)) c.loop-j.self) is
    (c.loop-j.invariant.takes image (flat_map row_slots rows) told of known (subst (λ n. HasSlots image n (flat_map row_slots rows) c.args.self.now) (sym is) inside)))
