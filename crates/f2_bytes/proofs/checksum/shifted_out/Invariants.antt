use Rattle.std.proofs.Common.{◌≡◌, ◌-◌}
use Rattle.f2_bytes.specs.Checksum.{crc_after}
use Rattle.f2_bytes.proofs.checksum.shifted_out.Given as goal

-- what is left to halve gives the same
abbrev pub invariant-loop : goal.invariant-loop
invariant-loop l = crc_after (8 - l.counter) l.c ≡ crc_after 8 l.fn.c
