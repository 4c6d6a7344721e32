use Rattle.std.proofs.Common.{◌+◌, ◌==◌, ap, arith}
use Rattle.std.specs.List.{list_any}
use Rattle.f2_bytes.specs.Bytes.{word, numbers_below}
use Rattle.f2_free.proofs.MarkSteps.{marks-same, marks-below_none, marks-below_more}
use Rattle.f2_free.proofs.UsedWords.{words_marked}
use Rattle.f2_free.proofs.slots.mark_words.Goals as goal

pub loop-j-init : goal.loop-j-init
loop-j-init c = marks-below_none c.args.marks.now (λ j a. word c.args.b.now (c.args.from + j) == a)

pub loop-j-preserved : goal.loop-j-preserved
loop-j-preserved c =
    marks-below_more (λ j a. word c.args.b.now (c.args.from + j) == a) c.loop-j.j c.loop-j.invariant
    (marks-same (λ a. c.word.result == a) (λ a. word c.args.b.now (c.args.from + c.loop-j.j) == a) (λ a. ap (λ w. w == a) c.word.ensures) c.mark.ensures)

pub returns : goal.returns
returns c =
    marks-same (λ a. list_any (λ j. word c.args.b.now (c.args.from + j) == a) (numbers_below c.loop-j.j)) _
    (words_marked c.args.b.now c.args.from c.args.count c.words_used-used.result c.loop-j.j c.words_used-used.ensures.zeros (let bound = c.min-j-end.ensures in omega (arith, bound)))
    c.loop-j.invariant
