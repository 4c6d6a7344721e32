use Rattle.std.proofs.Common.{◌≡◌, ◌+◌, ◌/◌, length}
use Rattle.f2_bytes.specs.Names.{hash_from}
use Rattle.f2_dent.proofs.hash.name_hash.Given as goal

-- the rest goes on to the hash of the name
abbrev pub invariant-loop-rest : goal.invariant-loop-rest
invariant-loop-rest l =
    hash_from ((length l.rest + 15) / 16) l.p l.q l.rest ≡ hash_from ((length l.fn.name + 15) / 16) 0x67452301 0xEFCDAB89 l.fn.name

abbrev pub decreases-loop-rest : goal.decreases-loop-rest
decreases-loop-rest l = length l.rest
