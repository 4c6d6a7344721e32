use Rattle.std.proofs.Common.{◌≡◌, ◌∙◌, ap, sym, subst, arith}
use Rattle.f2_bytes.specs.Journal.{NatEntry}
use Rattle.f2_bytes.specs.NodeAddressTable.{nid_limit, image_nat_entry}
use Rattle.f2_view.specs.Mounted.{IsMountOf}
use Rattle.f2_dump.proofs.Nodes.{layout_same}
use Rattle.f2_dump.proofs.NodesRead.{no_inode_past, no_inode, inode_as_node}
use Rattle.f2_dump.proofs.inodes.read_inode.Goals as goal

pub returns-then-ino-nid_limit-clause-inode : goal.returns-then-ino-nid_limit-clause-inode
returns-then-ino-nid_limit-clause-inode g c = λ image told of.
    let limit = ap nid_limit (layout_same image c.args.m.now of) in
    no_inode_past image c.args.ino (omega (arith, limit, c.nid_limit.ensures, c.if-ino-nid_limit.true))

pub returns-then-entry-ino-clause-inode : goal.returns-then-entry-ino-clause-inode
returns-then-entry-ino-clause-inode g c = λ image told of.
    let entry = ap (λ (e : NatEntry). e.ino) (c.in_ok-entry.ensures.entry image told of) in
    no_inode image c.args.ino (λ own. c.if-entry-ino.true (entry ∙ own))

pub returns-clause-inode : goal.returns-clause-inode
returns-clause-inode g c = λ image told of.
    let entry = ap (λ (e : NatEntry). e.ino) (c.in_ok-entry.ensures.entry image told of) in
    let own : (image_nat_entry image c.args.ino).ino ≡ c.args.ino = sym entry ∙ c.if-entry-ino.false in
    let read = c.in_ok-node.ensures.node image (c.nat_entry.ensures.reads.told ∙ told) (subst (IsMountOf image) (sym c.nat_entry.ensures.mount) of) in
    inode_as_node image c.args.ino own ∙ read
