use Rattle.std.proofs.Common.{Some, None, sym, ap, ◌∙◌}
use Rattle.std.proofs.lemmas.Bool.{cond-true, cond-false}
use Rattle.f2_bytes.specs.declared.layout.Layout.{Layout}
use Rattle.f2_bytes.specs.Bytes.{block_at}
use Rattle.f2_bytes.specs.Superblock.{is_main}
use Rattle.f2_view.proofs.TableReadings.{own_layout}
use Rattle.f2_view.proofs.accessors.Mount.main_block.Goals as goal

pub returns-then-not-is_in_main-clause-block : goal.returns-then-not-is_in_main-clause-block
returns-then-not-is_in_main-clause-block g c = λ image told of.
    let l = c.layout-l.ensures.value ∙ own_layout image c.args.self.now of in
    cond-false _ (Some (block_at image c.args.address)) None
    (ap (λ (k : Layout). is_main k c.args.address) (sym l) ∙ sym c.is_in_main.ensures ∙ c.if-not-is_in_main.true)

pub returns-clause-block : goal.returns-clause-block
returns-clause-block g c = λ image told of.
    let l = c.layout-l.ensures.value ∙ own_layout image c.args.self.now of in
    cond-true _ (Some (block_at image c.args.address)) None
    (ap (λ (k : Layout). is_main k c.args.address) (sym l) ∙ sym c.is_in_main.ensures ∙ c.if-not-is_in_main.false)
    ∙ ap (λ b. Some b) (sym (c.in_ok-read.ensures.block image told ∙ ap (block_at image) c.from.ensures))
