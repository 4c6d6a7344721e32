use Rattle.std.proofs.Common.{◌≡◌, ℕ, ◌+◌, ◌∙◌, sym, subst, arith}
use Rattle.f2_dent.proofs.Runs.{IsScanned, scanned_start, scanned_next, scanned_found, scanned_all}
use Rattle.f2_dent.proofs.page.first_run.Goals as goal

pub loop-at-init : goal.loop-at-init
loop-at-init c = scanned_start 214 c.args.map.now c.args.slots c.requires.some

pub loop-at-preserved : goal.loop-at-preserved
loop-at-preserved c =
    subst (IsScanned 214 c.args.map.now c.args.slots (c.loop-at.at + 1)) (sym c.in_a_row-free.ensures)
    (scanned_next 214 c.args.map.now c.args.slots c.loop-at.at c.loop-at.free c.bit_lsb.result c.loop-at.invariant (sym c.bit_lsb.ensures) (λ same. c.if-free-slots.false (c.in_a_row-free.ensures ∙ same)))

pub returns-then-free-slots : goal.returns-then-free-slots
returns-then-free-slots c =
    sym (scanned_found 214 c.args.map.now c.args.slots c.loop-at.at c.loop-at.free c.bit_lsb.result c.loop-at.invariant (sym c.bit_lsb.ensures) (sym c.in_a_row-free.ensures ∙ c.if-free-slots.true) c.loop-at-test.true)

pub returns : goal.returns
returns c =
    let last : c.loop-at.at ≡ 214 = omega (arith, c.loop-at.auto.at-end) in
    sym (scanned_all 214 c.args.map.now c.args.slots c.loop-at.free (subst (λ (at : ℕ). IsScanned 214 c.args.map.now c.args.slots at c.loop-at.free) last c.loop-at.invariant))
