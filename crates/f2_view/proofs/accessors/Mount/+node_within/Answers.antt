use Rattle.std.proofs.Common.{◌≡◌, ◌-◌, suc, Some, None, sym, ap, subst, ◌∙◌, arith}
use Rattle.std.proofs.lemmas.Bool.{cond-true, cond-false}
use Rattle.std.proofs.lemmas.Result.{IfOk-weaker}
use Rattle.f2_bytes.specs.Tree.{read_node}
use Rattle.f2_node.specs.Records.{spot_of}
use Rattle.f2_view.specs.Mounted.{Mounted, IsMountOf}
use Rattle.f2_view.proofs.TreeReads.{HasPlace, parent_place, at_inode, no_steps, no_parent, below_none, below_some}
use Rattle.f2_view.proofs.accessors.Mount.+node_within.Goals as goal

pub returns-then-offset-eq0-clause-node : goal.returns-then-offset-eq0-clause-node
returns-then-offset-eq0-clause-node g t c =
    IfOk-weaker c.node.result _ _ (λ found read image told of. at_inode image c.args.ino c.args.steps c.args.offset c.if-offset-eq0.true ∙ read image told of) c.node.ensures.node

pub returns-then-steps-eq0-clause-node : goal.returns-then-steps-eq0-clause-node
returns-then-steps-eq0-clause-node g t c = λ image told of. no_steps image c.args.ino c.args.steps c.args.offset c.if-steps-eq0.true c.if-offset-eq0.false

pub returns-in-None-clause-node : goal.returns-in-None-clause-node
returns-in-None-clause-node g t c = λ image told of. no_parent image c.args.ino c.args.steps c.args.offset c.if-offset-eq0.false c.in-None.ensures

pub returns-then-not-branch-clause-node : goal.returns-then-not-branch-clause-node
returns-then-not-branch-clause-node g t c = λ image told of.
    let one : c.args.steps ≡ suc (c.args.steps - 1) = omega (arith, c.if-steps-eq0.false) in
    below_none image c.args.ino c.args.steps (c.args.steps - 1) c.args.offset (spot_of c.in-Some.spot) one c.if-offset-eq0.false c.in-Some.ensures
    (c.in_ok-node_within.ensures.node image told of ∙ cond-false c.in_ok-node_within.field-0 (Some c.node_within.new.into) None c.if-not-branch.true)

pub nid_at-nid-requires-clause-node : goal.nid_at-nid-requires-clause-node
nid_at-nid-requires-clause-node g t c = (subst (HasPlace 5) (sym c.in-Some.ensures) (parent_place c.args.offset)).0

pub nid_at-nid-requires-clause-inode : goal.nid_at-nid-requires-clause-inode
nid_at-nid-requires-clause-inode g t c = (subst (HasPlace 5) (sym c.in-Some.ensures) (parent_place c.args.offset)).1

pub returns-clause-node : goal.returns-clause-node
returns-clause-node g t c = IfOk-weaker c.node-2.result _ _ (λ found read image told of.
    let one : c.args.steps ≡ suc (c.args.steps - 1) = omega (arith, c.if-steps-eq0.false) in
    below_some image c.args.ino c.args.steps (c.args.steps - 1) c.args.offset (spot_of c.in-Some.spot) one c.if-offset-eq0.false c.in-Some.ensures c.node_within.new.into
    (c.in_ok-node_within.ensures.node image told of ∙ cond-true c.in_ok-node_within.field-0 (Some c.node_within.new.into) None c.if-not-branch.false)
    ∙ ap (read_node image) (sym c.nid_at-nid.ensures)
    ∙ read image (c.in_ok-node_within.ensures.reads.told ∙ told) (subst (λ (m : Mounted). IsMountOf image m) (sym c.in_ok-node_within.ensures.mount) of)) c.node-2.ensures.node
