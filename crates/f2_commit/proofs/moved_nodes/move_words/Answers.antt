use Rattle.std.proofs.Common.{ap, ◌∙◌}
use Rattle.f2_gather.specs.Gathering.{addresses_of}
use Rattle.f2_commit.specs.Shifting.{placed_data}
use Rattle.f2_commit.proofs.MovedWords.{words-none, words-more}
use Rattle.f2_commit.proofs.moved_nodes.move_words.Goals as goal

pub loop-j-init : goal.loop-j-init
loop-j-init c = words-none (placed_data c.args.l.now c.args.targets.now (addresses_of c.args.moved.now)) c.args.b.now c.args.from

pub loop-j-preserved : goal.loop-j-preserved
loop-j-preserved c =
    let to = placed_data c.args.l.now c.args.targets.now (addresses_of c.args.moved.now) in
    words-more to c.args.b.now c.args.from c.loop-j.j c.new_address-address.result c.loop-j.b c.put_word.new.b c.loop-j.invariant
    (c.new_address-address.ensures ∙ ap to c.word.ensures) c.put_word.ensures.read c.put_word.ensures.others
