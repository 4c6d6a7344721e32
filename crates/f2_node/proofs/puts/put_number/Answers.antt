use Rattle.std.proofs.Common.{◌∙◌, ap, arith}
use Rattle.f2_bytes.specs.Bytes.{number_at}
use Rattle.f2_node.proofs.PutNumbers.{with_front}
use Rattle.f2_bytes.proofs.Numbers.{number_at-with_number}
use Rattle.f2_node.proofs.puts.put_number.Goals as goal

pub returns-clause-bytes : goal.returns-clause-bytes
returns-clause-bytes c = c.put.ensures.bytes ∙ with_front c.args.b.now c.write_uint.new.buf _ c.args.at c.args.width c.args.v c.write_uint.ensures

pub returns-clause-read : goal.returns-clause-read
returns-clause-read c =
    ap (λ l. number_at l c.args.at c.args.width) (returns-clause-bytes c)
    ∙ number_at-with_number c.args.b.now c.args.at c.args.width c.args.v (omega (arith, c.requires.inside, c.put.ensures.block.length)) c.requires.fits
