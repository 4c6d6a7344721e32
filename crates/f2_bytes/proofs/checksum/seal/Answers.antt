use Rattle.std.proofs.Common.{◌∙◌, arith}
use Rattle.f2_bytes.proofs.Seals.{seal-bytes, seal-sealed}
use Rattle.f2_bytes.proofs.checksum.seal.Goals as goal

pub returns-clause-bytes : goal.returns-clause-bytes
returns-clause-bytes c =
    seal-bytes c.args.b.now c.put_number.new.b c.put_number-2.new.b c.from.result c.requires c.put_number.ensures.bytes (c.from.ensures ∙ c.crc_of_front-checksum.ensures) c.put_number-2.ensures.bytes

pub returns-clause-sealed : goal.returns-clause-sealed
returns-clause-sealed c =
    seal-sealed c.args.b.now c.put_number.new.b c.put_number-2.new.b c.from.result c.requires c.put_number.ensures.bytes (c.from.ensures ∙ c.crc_of_front-checksum.ensures) c.put_number-2.ensures.bytes (omega (arith, c.from.ensures, c.crc_of_front-checksum.type_inv))
