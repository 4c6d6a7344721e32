use Rattle.f2_commit.proofs.MovedWords.{words_zeroed}
use Rattle.f2_commit.proofs.moved_nodes.clear_extent.Goals as goal

pub returns : goal.returns
returns c = λ j low.
    words_zeroed c.args.b.now c.put_word.new.b c.put_word-2.new.b c.put_word-3.new.b c.put_word.ensures.read c.put_word.ensures.others c.put_word-2.ensures.read c.put_word-2.ensures.others
    c.put_word-3.ensures.read c.put_word-3.ensures.others j
