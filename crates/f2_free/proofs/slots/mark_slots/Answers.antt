use Rattle.std.proofs.Common.{◌+◌, ◌==◌, ◌/◌, sym, ap, ◌∙◌}
use Rattle.std.specs.List.{list_any}
use Rattle.f2_bytes.specs.Bytes.{word, numbers_below}
use Rattle.f2_bytes.specs.Node.{is_direct}
use Rattle.f2_node.specs.declared.records.Footer.{Footer}
use Rattle.f2_free.proofs.MarkSteps.{marks-same}
use Rattle.f2_free.proofs.SlotWords.{slots-inode, slots-direct, slots-none_inode, slots-none}
use Rattle.f2_free.proofs.slots.mark_slots.Goals as goal

pub returns-then-has_slots : goal.returns-then-has_slots
returns-then-has_slots c =
    let b = c.args.b.now in
    let at = ap (λ (f : Footer). f.flag / 8) c.footer-offset.ensures in
    slots-inode b (sym at ∙ c.if-offset-eq0.true) c.if-has_slots.ensures
    (marks-same (λ a. list_any (λ j. word b (90 + j) == a) (numbers_below c.addresses.result)) _ (λ a. ap (λ n. list_any (λ j. word b (90 + j) == a) (numbers_below n)) c.addresses.ensures.count) c.mark_words.ensures)

pub returns-else-has_slots : goal.returns-else-has_slots
returns-else-has_slots c =
    let at = ap (λ (f : Footer). f.flag / 8) c.footer-offset.ensures in
    slots-none_inode c.args.marks.now c.args.b.now (sym at ∙ c.if-offset-eq0.true) c.if-has_slots.ensures

pub returns-then-is_direct : goal.returns-then-is_direct
returns-then-is_direct c =
    let at = ap (λ (f : Footer). f.flag / 8) c.footer-offset.ensures in
    slots-direct c.args.b.now (λ zero. c.if-offset-eq0.false (at ∙ zero)) (c.if-is_direct.ensures ∙ ap is_direct at) c.mark_words-then-is_direct.ensures

pub returns-else-is_direct : goal.returns-else-is_direct
returns-else-is_direct c =
    let at = ap (λ (f : Footer). f.flag / 8) c.footer-offset.ensures in
    slots-none c.args.marks.now c.args.b.now (λ zero. c.if-offset-eq0.false (at ∙ zero)) (c.if-is_direct.ensures ∙ ap is_direct at)
