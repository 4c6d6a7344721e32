use Rattle.std.proofs.Common.{◌++◌, sym, ap, ◌∙◌, append-nil}
use Rattle.std.specs.Prelude.{not}
use Rattle.std.proofs.lemmas.Result.{on_ok_weaker}
use Rattle.f2_bytes.specs.NodeAddressTable.{nat}
use Rattle.f2_sum.specs.Records.{nat_entry}
use Rattle.f2_bytes.specs.Check.{defects_at, nids, same, times_named}
use Rattle.f2_defects.specs.Collected.{defects_of}
use Rattle.f2_survey.specs.Parts.{part_in}
use Rattle.f2_items.proofs.NameSteps.{collects_same}
use Rattle.f2_items.proofs.Tours.{named_fit, none_for_no_node, none_for_inode, one_for_node, node_some, mapped_some}
use Rattle.f2_tour.proofs.tour_of_files.take_times.Goals as goal

pub returns-then-is_none-clause-times : goal.returns-then-is_none-clause-times
returns-then-is_none-clause-times c = λ image defects known low few counted part.
    let nid = c.args.nid in
    let none = mapped_some nat_entry c.entry.result (nat image nid) (c.entry.ensures image known) ∙ c.if-is_none.ensures in
    collects_same c.args.into.now defects (defects ++ defects_at (part_in image 3 7) nid)
    (sym (ap (λ l. defects ++ l) (none_for_no_node image nid none) ∙ append-nil defects))

pub returns-then-is_inode-clause-times : goal.returns-then-is_inode-clause-times
returns-then-is_inode-clause-times c = λ image defects known low few counted part.
    let nid = c.args.nid in
    collects_same c.args.into.now defects (defects ++ defects_at (part_in image 3 7) nid)
    (sym (ap (λ l. defects ++ l) (none_for_inode image nid (sym (c.is_inode.ensures image known) ∙ c.if-is_inode.true)) ∙ append-nil defects))

pub returns-clause-times : goal.returns-clause-times
returns-clause-times c = on_ok_weaker c.same.result (λ compares image defects known low few counted part collects.
    let nid = c.args.nid in
    let some = mapped_some nat_entry c.entry.result (nat image nid) (c.entry.ensures image known) ∙ c.is_none.ensures ∙ ap not c.if-is_none.false in
    let other = sym (c.is_inode.ensures image known) ∙ c.if-is_inode.false in
    let times = c.of.ensures (nids image) (times_named image) counted (node_some image nid some) low ∙ named_fit image nid few in
    collects_same c.same.new.self (defects ++ defects_of c.args.into.now.part c.from.result 0 (same c.of.result 1)) (defects ++ defects_at (part_in image 3 7) nid)
    ((λ i. defects ++ defects_of (part i) (c.from.ensures i) 0 (same (times i) 1)) ∙ ap (λ l. defects ++ l) (one_for_node image nid some other))
    (compares defects collects)) c.same.ensures.compares
