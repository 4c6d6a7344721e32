use Rattle.std.proofs.Common.{◌<◌, ◌≤◌, ℕ, ap, sym, subst, ◌∙◌}
use Rattle.std.proofs.lemmas.Result.{IfOk-weaker}
use Rattle.f2_bytes.specs.NodeAddressTable.{nid_limit}
use Rattle.f2_sum.specs.Records.{nat_entry}
use Rattle.f2_view.specs.Mounted.{Mounted, IsMountOf, IsKept, layout_in}
use Rattle.f2_view.proofs.NodeReads.{low_nid, high_nid, read_entry}
use Rattle.f2_view.proofs.accessors.Mount.node.Goals as goal

pub returns-then-nid-lt-FIRST_NID-clause-node : goal.returns-then-nid-lt-FIRST_NID-clause-node
returns-then-nid-lt-FIRST_NID-clause-node g c = λ image told of. low_nid image c.args.nid c.if-nid-lt-FIRST_NID.true

pub returns-then-nid-limit-clause-node : goal.returns-then-nid-limit-clause-node
returns-then-nid-limit-clause-node g c = λ image told of.
    let limit = c.limit.ensures.limit ∙ ap nid_limit c.self.invariant.nat_opened.layout ∙ ap (λ (m : Mounted). nid_limit (layout_in m)) c.self.view_is in
    high_nid image c.args.self.now of c.args.nid (subst (λ (n : ℕ). n ≤ c.args.nid) limit c.if-nid-limit.true)

pub returns-clause-node : goal.returns-clause-node
returns-clause-node g c = IfOk-weaker c.main_block.result _ _ (λ found read image told of.
    let limit = c.limit.ensures.limit ∙ ap nid_limit c.self.invariant.nat_opened.layout ∙ ap (λ (m : Mounted). nid_limit (layout_in m)) c.self.view_is in
    let kept = subst IsKept c.self.view_is c.self.invariant.kept in
    read_entry image c.args.self.now of c.args.nid (nat_entry c.in_ok-address.field-0) (c.in_ok-address.ensures.entry image told of) kept.in_order c.if-nid-lt-FIRST_NID.false (subst (λ (n : ℕ). c.args.nid < n) limit c.if-nid-limit.false)
    ∙ read image (c.in_ok-address.ensures.reads.told ∙ told) (subst (λ (m : Mounted). IsMountOf image m) (sym c.in_ok-address.ensures.mount) of)) c.main_block.ensures.block
