use Rattle.std.proofs.Common.{◌||◌, ◌==◌, sym, ap, subst, ◌∙◌}
use Rattle.std.specs.Prelude.{flat_map}
use Rattle.std.proofs.lemmas.List.Folds.{list_any-append}
use Rattle.std.proofs.lemmas.Result.{on_ok_weaker}
use Rattle.f2_bytes.specs.Defragment.{is_among}
use Rattle.f2_view.specs.Mounted.{IsMountOf}
use Rattle.f2_gather.specs.Gathering.{file_at, covering_at, addresses_of, holders_of}
use Rattle.f2_gather.proofs.Ascending.{among-flat_map}
use Rattle.f2_gather.proofs.coverings.push_coverings.Goals as goal

pub returns-clause-files : goal.returns-clause-files
returns-clause-files g c = on_ok_weaker c.push_all_covering.result (λ pushed image told of rises n.
    let files = c.in_ok-files.ensures in
    let at = covering_at image (addresses_of c.args.blocks.now) in
    ap (λ l. is_among l n) (pushed image (files.reads.told ∙ told) (subst (IsMountOf image) (sym files.mount) of) rises)
    ∙ list_any-append (λ y. y == n) c.args.into.now.items (flat_map at c.deref.result.now)
    ∙ ap (λ b. is_among c.args.into.now.items n || b)
    (among-flat_map at c.deref.result.now (flat_map (file_at image) (holders_of c.args.blocks.now)) (λ x. ap (λ l. is_among l x) c.deref.ensures.value ∙ files.files image told of x) n))
    c.push_all_covering.ensures.files
