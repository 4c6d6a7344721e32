use Rattle.f2_tables.specs.Tables.{nat_in}
use Rattle.f2_commit.proofs.LeastNids.{nids-some, nids-none}
use Rattle.f2_commit.proofs.free_nids.free_in_block.Goals as goal

pub returns-in-Some-clause-free : goal.returns-in-Some-clause-free
returns-in-Some-clause-free g c = λ image told.
    nids-some (nat_in c.args.nat.now image) c.in_ok-block.block c.args.k c.first_place.result (c.in_ok-block.ensures.entries image told) c.first_place.ensures c.in-Some.j c.in-Some.ensures

pub returns-in-None-clause-free : goal.returns-in-None-clause-free
returns-in-None-clause-free g c = λ image told.
    nids-none (nat_in c.args.nat.now image) c.in_ok-block.block c.args.k c.first_place.result (c.in_ok-block.ensures.entries image told) c.first_place.ensures c.in-None.ensures
