use Rattle.std.proofs.Common.{rules, ◌∙◌, sym, ap, arith, refl, ◌-◌}
use Rattle.f2_top.specs.Numbers.{pair_of}
use Rattle.f2_top.proofs.UuidDigits.{one_byte, all_bytes}
use Rattle.f2_top.proofs.numbers.uuid_pairs.Goals as goal

pub loop-i-preserved : goal.loop-i-preserved
loop-i-preserved c =
    let inv = c.loop-i.invariant in (
      search rules,
      inv.1 ∙ one_byte c.args.text.now c.loop-i.id c.loop-i.i (16 - c.loop-i.i) _ (omega (arith, c.loop-i-test.true, inv.0)) refl c.loop-i-test.true
          (ap (λ p. pair_of c.args.text.now p) (sym c.uuid_digits.ensures.same) ∙ sym c.pair.ensures ∙ c.in_ok-id.was),
    )

pub returns : goal.returns
returns c = sym (c.loop-i.invariant.1 ∙ all_bytes c.args.text.now c.loop-i.id c.loop-i.i c.loop-i.invariant.0 c.loop-i-test.false)
