use Rattle.std.proofs.Common.{◌++◌, ap, ◌∙◌}
use Rattle.f2_bytes.specs.Tree.{read_node}
use Rattle.f2_gather.specs.Gathering.{covering_at, addresses_of}
use Rattle.f2_gather.proofs.GatheredSteps.{adds_none, covering_none, covering_found, read_as, read_none}
use Rattle.f2_gather.proofs.coverings.push_covering.Goals as goal

pub returns-then-not-branch-clause-file : goal.returns-then-not-branch-clause-file
returns-then-not-branch-clause-file g c = λ image told of rises.
    adds_none c.args.into.now.items (covering_at image (addresses_of c.args.blocks.now) c.args.file)
    (covering_none image (addresses_of c.args.blocks.now) c.args.file
    (read_none c.in_ok-node.field-0 c.node.new.into (read_node image c.args.file) (c.in_ok-node.ensures.node image told of) c.if-not-branch.true))

pub returns-clause-file : goal.returns-clause-file
returns-clause-file g c = λ image told of rises.
    c.in_ok-push_where.ensures.items
    ∙ ap (λ l. c.args.into.now.items ++ l) (covering_found image (addresses_of c.args.blocks.now) c.args.file c.node.new.into c.covers.result
    (read_as c.in_ok-node.field-0 c.node.new.into (read_node image c.args.file) (c.in_ok-node.ensures.node image told of) c.if-not-branch.false)
    (c.covers.ensures rises))
