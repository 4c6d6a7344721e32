use Rattle.std.proofs.Common.{◌≡◌, ◌+◌, ◌-◌, ◌*◌, ◌/◌, ◌==◌, ◌≤◌, ◌<◌, false, sym, ap, ◌∙◌, arith}
use Rattle.f2_free.specs.SegmentMarks.{MarkTable, has_block_with}
use Rattle.f2_free.proofs.MarkSteps.{more-same, more-none, block-there, block-before}
use Rattle.f2_free.proofs.marks.Marks.mark.Goals as goal

pub returns-then-address-self : goal.returns-then-address-self
returns-then-address-self c =
    let seen : c.self.inside.main ≡ c.args.self.now.main = ap (λ (m : MarkTable). m.main) c.self.view_is in
    let main : c.mark_segment.inside.main ≡ c.args.self.now.main = ap (λ (m : MarkTable). m.main) c.mark_segment.view_is in
    let low : c.args.self.now.main ≤ c.args.address = omega (arith, seen, c.if-address-self.true) in
    more-same (λ segment. (c.args.address - c.mark_segment.inside.main) / 512 == segment) (λ segment. has_block_with (c.args.self.now.main + 512 * segment) (λ a. c.args.address == a))
    (λ segment. ap (λ n. (c.args.address - n) / 512 == segment) main ∙ block-there c.args.self.now.main c.args.address segment low)
    c.mark_segment-then-address-self.ensures

pub returns-else-address-self : goal.returns-else-address-self
returns-else-address-self c =
    let main : c.self.inside.main ≡ c.args.self.now.main = ap (λ (m : MarkTable). m.main) c.self.view_is in
    let low : c.args.address < c.args.self.now.main = omega (arith, main, c.if-address-self.false) in
    more-same (λ segment. false) (λ segment. has_block_with (c.args.self.now.main + 512 * segment) (λ a. c.args.address == a))
    (λ segment. sym (block-before c.args.self.now.main c.args.address segment low))
    (more-none c.args.self.now)
