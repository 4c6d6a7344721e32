use Rattle.std.proofs.Common.{ap, ◌∙◌}
use Rattle.std.specs.Prelude.{◌==◌}
use Rattle.f2_bytes.specs.Check.{inode_of}
use Rattle.f2_survey.proofs.FileTypes.{directory_said}
use Rattle.f2_survey.proofs.nodes.Nodes.is_directory.Goals as goal

pub returns : goal.returns
returns c = λ image known. ap (λ k. k == 2) (c.kind.ensures image known) ∙ directory_said (inode_of image c.args.nid)
