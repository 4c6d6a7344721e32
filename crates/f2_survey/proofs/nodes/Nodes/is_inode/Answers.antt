use Rattle.std.proofs.Common.{◌∙◌}
use Rattle.f2_survey.proofs.KnownNodes.{inode_is}
use Rattle.f2_survey.proofs.nodes.Nodes.is_inode.Goals as goal

pub returns : goal.returns
returns c = λ image known. c.belongs.ensures image known ∙ inode_is image c.args.nid
