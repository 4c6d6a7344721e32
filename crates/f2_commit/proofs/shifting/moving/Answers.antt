use Rattle.std.proofs.Common.{ap, map, subst, sym, ◌∙◌}
use Rattle.f2_bytes.specs.NodeAddressTable.{image_nat_entry}
use Rattle.f2_sum.specs.Records.{nat_entry}
use Rattle.f2_view.specs.Mounted.{IsMountOf}
use Rattle.f2_commit.proofs.ShiftWhole.{nodes_stand, some_has}
use Rattle.f2_commit.proofs.shifting.moving.Goals as goal

pub returns-in_ok-change_of-in-Some-clause-parts : goal.returns-in_ok-change_of-in-Some-clause-parts
returns-in_ok-change_of-in-Some-clause-parts g c = λ image told of h addresses of_data blocks nids.
    let found = c.in_ok-nodes.ensures in
    let list = c.deref.ensures.value in (
      c.deref.result.now,
      record {
        data_addresses = of_data;
        data_blocks = blocks;
        nids = ap (map (λ w. w.0)) list ∙ some_has _ _ _ c.in-Some.is found.nids ∙ nids;
        entries = ap (map (λ w. nat_entry w.1)) list ∙ some_has _ _ _ c.in-Some.is found.entries image told of ∙ ap (map (image_nat_entry image)) nids;
      },
      c.in_ok-change_of-in-Some.ensures.parts image (found.reads.told ∙ told) (subst (IsMountOf image) (sym found.mount) of) h,
    )

pub returns-in-None-clause-some : goal.returns-in-None-clause-some
returns-in-None-clause-some g c = λ image told of h addresses mains nids.
    absurd (c.in_ok-nodes.ensures.all image told of (nodes_stand image c.args.m.now of h addresses c.args.nids.now mains nids) c.in-None.is)
