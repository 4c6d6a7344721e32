use Rattle.std.proofs.Common.{◌≡◌, drop}
use Rattle.f2_bytes.specs.Checksum.{crc as crc_of}
use Rattle.f2_bytes.proofs.checksum.crc.Given as goal

-- the checksum of the rest, begun with c, is that of all
abbrev pub invariant-loop-byte : goal.invariant-loop-byte
invariant-loop-byte l = crc_of l.c (drop l.byte-index l.bytes) ≡ crc_of l.fn.start l.fn.bytes
