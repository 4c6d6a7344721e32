use Rattle.std.proofs.Common.{◌≡◌, length, map, sym, ap, subst, ◌∙◌, arith}
use Rattle.std.proofs.lemmas.List.{length-map}
use Rattle.f2_bytes.specs.Bytes.{numbers_below}
use Rattle.f2_bytes.specs.NodeAddressTable.{nid_limit, image_nat_entry}
use Rattle.f2_bytes.specs.Check.{nids}
use Rattle.f2_survey.specs.Known.{Known, IsKnown}
use Rattle.f2_survey.proofs.SeenNodes.{known_of, compared_all}
use Rattle.f2_survey.proofs.node_reading.survey.Goals as goal
use Rattle.f2_sum.specs.Records.{nat_entry}
use Rattle.f2_view.specs.Mounted.{Mounted, IsMountOf}
use Rattle.f2_view.proofs.TableReadings.{own_layout}

pub of-nodes-requires : goal.of-nodes-requires
of-nodes-requires g c =
    let reaches = c.in_ok-offsets.ensures.reaches in
    let many = length-map c.in_ok-entries.entries.items nat_entry in
    let same = ap length c.deref.ensures.value in
    record {
      offsets = omega (arith, reaches.offsets, many, same);
      kinds = omega (arith, reaches.kinds, many, same);
      few = omega (arith, c.in_ok-offsets.ensures.few, many, same);
    }

pub returns-clause-survey : goal.returns-clause-survey
returns-clause-survey g c = λ image told of.
    let read = c.in_ok-entries.ensures in
    let seen = c.in_ok-offsets.field-0 in
    let entries : map nat_entry c.in_ok-entries.entries.items ≡ map (image_nat_entry image) (numbers_below (nids image)) =
    read.entries image told of ∙ ap (λ l. map (image_nat_entry image) (numbers_below (nid_limit l))) (own_layout image c.args.m.now of) in
    let all = c.in_ok-offsets.ensures.seen image (read.reads.told ∙ told) (subst (λ (m : Mounted). IsMountOf image m) (sym read.mount) of) (ap (map nat_entry) c.deref.ensures.value ∙ entries) in
    let known = subst (λ (k : Known). IsKnown image k) (sym c.of-nodes.ensures)
    (known_of (g.D.Disk.state c.args.d.now).size image (g.met.D.Disk.whole c.args.d.now image told) (map nat_entry c.in_ok-entries.entries.items) seen entries all) in
    record {
      nodes = known;
      defects = compared_all image seen.defects all.defects;
      tally = c.in_ok-tally.ensures image known;
    }
