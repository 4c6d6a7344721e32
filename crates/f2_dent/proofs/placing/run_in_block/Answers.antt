use Rattle.std.proofs.Common.{ap}
use Rattle.std.specs.Option.{option_map}
use Rattle.f2_dent.specs.declared.page.Page.{Page}
use Rattle.f2_dent.specs.Places.{block_in}
use Rattle.f2_dent.proofs.Places.{none_free}
use Rattle.f2_dent.proofs.placing.run_in_block.Goals as goal

pub returns-in-None-clause-first : goal.returns-in-None-clause-first
returns-in-None-clause-first c =
    none_free (block_in c.args.pages.now c.args.block) c.args.slots (ap (option_map (λ (p : Page). p.block)) c.in-None.ensures.value) c.requires.few
