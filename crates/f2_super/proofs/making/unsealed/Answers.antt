use Rattle.std.proofs.Common.{refl}
use Rattle.f2_super.proofs.NewCopies.{is_unsealed, no_checksum}
use Rattle.f2_super.proofs.making.unsealed.Goals as goal

pub returns-clause-parts : goal.returns-clause-parts
returns-clause-parts c =
    is_unsealed c.args.g.now c.args.features c.row_values.result c.args.uuid.now c.args.label.now _ c.fill.new.c c.put_id.new.c c.put_label.new.c c.put_text.new.c c.put_text-2.new.c
    refl c.row_values.ensures.values c.told-uuid c.requires.few c.fill.ensures c.put_id.ensures.id c.put_id.ensures.others c.put_label.ensures.units c.put_label.ensures.others c.put_text.ensures c.put_text-2.ensures

pub returns-clause-no_checksum : goal.returns-clause-no_checksum
returns-clause-no_checksum c =
    no_checksum c.args.g.now c.args.features c.row_values.result c.args.uuid.now c.args.label.now _ c.fill.new.c c.put_id.new.c c.put_label.new.c c.put_text.new.c c.put_text-2.new.c
    c.row_values.ensures.values c.told-uuid c.requires.few c.fill.ensures c.put_id.ensures.others c.put_label.ensures.others c.put_text.ensures c.put_text-2.ensures
