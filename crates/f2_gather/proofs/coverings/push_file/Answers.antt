use Rattle.std.proofs.Common.{◌≡◌, ◌++◌, ◌<◌, ◌≤◌, sym, ap, ◌∙◌, arith}
use Rattle.f2_bytes.specs.declared.layout.Layout.{Layout}
use Rattle.f2_bytes.specs.Journal.{NatEntry}
use Rattle.f2_bytes.specs.NodeAddressTable.{nid_limit}
use Rattle.f2_bytes.specs.Superblock.{layout}
use Rattle.f2_gather.specs.Gathering.{file_at}
use Rattle.f2_gather.proofs.GatheredSteps.{layout_is, adds_none, file_past, file_found}
use Rattle.f2_gather.proofs.coverings.push_file.Goals as goal

pub returns-then-nid-limit-clause-file : goal.returns-then-nid-limit-clause-file
returns-then-nid-limit-clause-file g c = λ image told of.
    let same : c.nid_limit-limit.result ≡ nid_limit (layout image) = c.nid_limit-limit.ensures ∙ ap (λ (l : Layout). nid_limit l) (layout_is image c.args.m.now of) in
    let over = c.if-nid-limit.true in
    let past : nid_limit (layout image) ≤ c.args.nid = omega (arith, same, over) in
    adds_none c.args.into.now.items (file_at image c.args.nid) (sym (file_past image c.args.nid past))

pub returns-clause-file : goal.returns-clause-file
returns-clause-file g c = λ image told of.
    let same : c.nid_limit-limit.result ≡ nid_limit (layout image) = c.nid_limit-limit.ensures ∙ ap (λ (l : Layout). nid_limit l) (layout_is image c.args.m.now of) in
    let under = c.if-nid-limit.false in
    let low : c.args.nid < nid_limit (layout image) = omega (arith, same, under) in
    c.in_ok-push_within.ensures.items
    ∙ ap (λ l. c.args.into.now.items ++ l)
    (file_found image c.args.nid c.in_ok-ino.field-0.ino c.nid_limit-limit.result same low (ap (λ (e : NatEntry). e.ino) (c.in_ok-ino.ensures.entry image told of)))
