use Rattle.std.proofs.Common.{◌/◌, refl, sym, ap, ◌∙◌}
use Rattle.f2_bytes.specs.Node.{is_direct}
use Rattle.f2_node.specs.declared.records.Footer.{Footer}
use Rattle.f2_gather.specs.Gathering.{addresses_of}
use Rattle.f2_commit.proofs.MovedWords.{shifted_other}
use Rattle.f2_commit.proofs.moved_nodes.moved_node.Goals as goal

pub moved_inode-requires : goal.moved_inode-requires
moved_inode-requires c = record {
  inode = let at = ap (λ (f : Footer). f.flag / 8) c.footer-offset.ensures in sym at ∙ c.if-offset-eq0.true;
  order = c.requires.order;
  targets = c.requires.targets;
  room = c.requires.room;
  ascending = c.requires.ascending;
}

pub moved_direct-requires : goal.moved_direct-requires
moved_direct-requires c =
    let at = ap (λ (f : Footer). f.flag / 8) c.footer-offset.ensures in record {
      node = λ zero. c.if-offset-eq0.false (at ∙ zero);
      direct = sym (c.if-is_direct.ensures ∙ ap is_direct at);
      order = c.requires.order;
      targets = c.requires.targets;
      room = c.requires.room;
      ascending = c.requires.ascending;
    }

pub returns-else-is_direct : goal.returns-else-is_direct
returns-else-is_direct c =
    let at = ap (λ (f : Footer). f.flag / 8) c.footer-offset.ensures in
    shifted_other c.args.l.now c.args.targets.now (addresses_of c.args.moved.now) c.args.b.now c.args.b.now c.bytes.ensures.block (λ zero. c.if-offset-eq0.false (at ∙ zero)) (c.if-is_direct.ensures ∙ ap is_direct at) refl
