use Rattle.std.proofs.Common.{◌∙◌, ap, take}
use Rattle.f2_node.specs.Records.{footer_of}
use Rattle.f2_node.proofs.FooterParts.{footer_of-put, take-put}
use Rattle.f2_node.proofs.footers.set_footer.Goals as goal

pub returns-clause-read : goal.returns-clause-read
returns-clause-read c =
    ap footer_of c.put.ensures.bytes
    ∙ footer_of-put c.args.b.now c.footer_bytes.result c.put.ensures.block.length c.args.f.now c.footer_bytes.ensures.bytes c.footer_bytes.ensures.fits

pub returns-clause-others : goal.returns-clause-others
returns-clause-others c = ap (take 4072) c.put.ensures.bytes ∙ take-put c.args.b.now c.footer_bytes.result c.put.ensures.block.length
