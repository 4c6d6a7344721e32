use Rattle.std.proofs.Common.{ap, ◌∙◌}
use Rattle.f2_bytes.specs.Bytes.{word}
use Rattle.f2_commit.proofs.MovedWords.{word_apart}
use Rattle.f2_commit.proofs.moved_nodes.put_word.Goals as goal

pub returns-clause-others : goal.returns-clause-others
returns-clause-others c = λ i other.
    ap (λ b. word b i) c.set_word.ensures.bytes ∙ word_apart c.args.b.now c.args.j c.args.v i c.bytes.ensures.block.length c.requires.word other
