use Rattle.std.proofs.Common.{◌∙◌, refl}
use Rattle.f2_top.specs.Tools.{defrag_by, defrag_grammar}
use Rattle.f2_top.proofs.words.defrag_options.Goals as goal

pub returns : goal.returns
returns c = λ uses holds. c.range_asked.ensures
    ∙ (λ i. defrag_by (c.value-start.ensures defrag_grammar uses holds refl i) (c.value-blocks.ensures defrag_grammar uses holds refl i) (c.value-target.ensures defrag_grammar uses holds refl i)
    (c.flag.ensures defrag_grammar uses holds refl i))
