use Rattle.std.proofs.Common.{◌++◌, ap, ◌∙◌}
use Rattle.std.specs.Prelude.{flat_map}
use Rattle.f2_bytes.specs.Defragment.{is_among}
use Rattle.f2_gather.specs.Gathering.{file_at, holders_of}
use Rattle.f2_gather.proofs.Ascending.{among-flat_map}
use Rattle.f2_gather.proofs.coverings.files_of.Goals as goal

pub returns-clause-files : goal.returns-clause-files
returns-clause-files g c = λ image told of n.
    c.put_in_order.ensures.same n
    ∙ ap (λ l. is_among l n) (c.in_ok-push_files.ensures.files image told of ∙ ap (λ l. l ++ flat_map (file_at image) c.deref.result.now) c.new-files.ensures.items)
    ∙ among-flat_map (file_at image) c.deref.result.now (holders_of c.args.blocks.now) (λ x. ap (λ l. is_among l x) c.deref.ensures.value ∙ c.in_ok-nids.ensures.same x) n
