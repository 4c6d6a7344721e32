use Rattle.std.proofs.Common.{◌∙◌, refl}
use Rattle.f2_top.specs.Tools.{mkfs_by, mkfs_grammar}
use Rattle.f2_top.proofs.words.mkfs_options.Goals as goal

pub returns : goal.returns
returns c = λ uses holds. c.image.ensures
    ∙ (λ i. mkfs_by (c.value-sectors.ensures mkfs_grammar uses holds refl i) (c.value-label.ensures mkfs_grammar uses holds refl i) (c.value-uuid.ensures mkfs_grammar uses holds refl i)
    (c.value-second.ensures mkfs_grammar uses holds refl i) (c.value-list.ensures mkfs_grammar uses holds refl i) (c.flag.ensures mkfs_grammar uses holds refl i))
