use Rattle.std.proofs.Common.{◌∙◌, ap, sym, arith}
use Rattle.byteorder.specs.Endian.{little_from}
use Rattle.f2_bytes.specs.Bytes.{number_at}
use Rattle.f2_bytes.proofs.Numbers.{number_at-read, number_at-lt}
use Rattle.f2_bytes.proofs.fields.number.Goals as goal

pub returns-then-width-eq0-clause-value : goal.returns-then-width-eq0-clause-value
unfolding number_at
returns-then-width-eq0-clause-value c = ap (λ n. little_from c.args.offset n c.args.b.now) (sym c.if-width-eq0.true)

pub returns-clause-value : goal.returns-clause-value
returns-clause-value c = c.read_uint.ensures ∙ number_at-read c.args.b.now c.args.offset c.args.width

pub returns-clause-fits : goal.returns-clause-fits
returns-clause-fits c =
    rw (c.read_uint.ensures ∙ number_at-read c.args.b.now c.args.offset c.args.width) (number_at-lt c.args.b.now c.args.offset c.args.width (λ k. let byte = c.type_inv.b k in omega arith))
